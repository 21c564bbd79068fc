-- The record of facts of an accepted table. Assumes nothing.
use mathlib.Core.Path.{◌≡◌}
use mathlib.Core.Bool.{Bool, true, ◌&&◌, not, and-false}
use mathlib.Core.List.{List}
use Prim.Native.Nat.{ℕ, ◌+◌, ◌*◌, ◌<◌}
use native.Mathlib.Omega.{arith}
use lib.ListN.{length}
use lib.Dec.{leb, ltb}
use borrow.Author.Tests.{ltb-true, leb-true, eqb-true, not-true}
use Rattle.rulebook.specs.Words.{between}
use Rattle.rulebook.specs.Table.{ports, networks, sources, expressions, rules, lists, items, table_length, ports_from, networks_from, sources_from}
use Rattle.rulebook.specs.Table.{expressions_from, rules_from, lists_from, items_from}
use Rattle.rulebook.specs.Table.{Part, at_port, at_network, at_waits, at_source, at_expression, at_rule, at_list, at_item}
use Rattle.rulebook.specs.Table.{network_owner, network_port, source_owner, source_port}
use Rattle.rulebook.specs.Table.{rule_expression, true_list, list_owner, first_item, item_count}
use Rattle.rulebook.specs.Reasons.{counts_inside, exact_length, own_fields, held, may_show, names, list_or_none, nesting, owners, item_owned, affordable, accepted}
use Rattle.laws.specs.Acceptance.{Everywhere, Rules}
use Rattle.laws.specs.Facts.{Counts, Waits, Shows, RuleFacts, ListFacts, Facts}
use Rattle.laws.proofs.Tests.{part_of, and_left, and_right}
use Rattle.laws.proofs.Walks.{all-at}
use Rattle.laws.proofs.Parts.{part-port, part-network, part-waits, part-source, part-expression, part-rule, part-list, part-item}
use Rattle.laws.proofs.Acceptance.{accepted-exactly}

-- a rule that every word keeps, at a named word
module _ (t : List ℕ) (exact : length t ≡ table_length t) (rule : List ℕ → Part → Bool) (kept : Everywhere rule t) where
  pub at-port : (p : ℕ) → p < ports t → rule t (at_port p) ≡ true
  at-port p h = rw (part-port t p h) at (kept (ports_from + p) (omega arith))

  pub at-network : (n : ℕ) → n < networks t → rule t (at_network n) ≡ true
  at-network n h = rw (part-network t n h) at (kept (networks_from t + 2 * n) (omega arith))

  pub at-waits : (n : ℕ) → n < networks t → rule t (at_waits n) ≡ true
  at-waits n h = rw (part-waits t n h) at (kept (networks_from t + 2 * n + 1) (omega arith))

  pub at_source_lem : (k : ℕ) → k < sources t → rule t (at_source k) ≡ true
  at_source_lem k h = rw (part-source t k h) at (kept (sources_from t + k) (omega arith))

  pub at-expression : (e : ℕ) → e < expressions t → rule t (at_expression e) ≡ true
  at-expression e h = rw (part-expression t e h) at (kept (expressions_from t + e) (omega arith))

  pub at-rule : (r : ℕ) → r < rules t → rule t (at_rule r) ≡ true
  at-rule r h = rw (part-rule t r h) at (kept (rules_from t + r) (omega arith))

  pub at-list : (l : ℕ) → l < lists t → rule t (at_list l) ≡ true
  at-list l h = rw (part-list t l h) at (kept (lists_from t + l) (omega arith))

  pub at_item_lem : (i : ℕ) → i < items t → rule t (at_item i) ≡ true
  at_item_lem i h = rw (part-item t i h) at (kept (items_from t + i) (omega arith))

pub counts_of : (t : List ℕ) → counts_inside t ≡ true → Counts t
unfolding counts_inside
counts_of t h =
    let b₁ : between 1 64 (ports t) ≡ true = part_of _ (λ e. rw (counts_inside, e) at h) in
    record {
      someports = leb-true 1 (ports t) (and_left _ _ b₁);
      ports = leb-true _ _ (and_right (leb 1 (ports t)) _ b₁);
      networks = leb-true _ _ (part_of _ (λ e. rw (counts_inside, e, and-false, and-false) at h));
      sources = leb-true _ _ (part_of _ (λ e. rw (counts_inside, e, and-false, and-false) at h));
      expressions = leb-true _ _ (part_of _ (λ e. rw (counts_inside, e, and-false, and-false) at h));
      rules = leb-true _ _ (part_of _ (λ e. rw (counts_inside, e, and-false, and-false) at h));
      lists = leb-true _ _ (part_of _ (λ e. rw (counts_inside, e, and-false, and-false) at h));
      items = leb-true _ _ (part_of _ (λ e. rw (counts_inside, e, and-false, and-false) at h));
    }

shows-network : (t : List ℕ) (n : ℕ) → names t (at_network n) ≡ true → owners t (at_network n) ≡ true → Shows t (network_port t n) (network_owner t n) n 0
unfolding names owners
shows-network t n h o =
    record {
      may = and_left _ (not (held t (network_port t n) n 0)) h;
      alone = not-true _ (and_right (may_show t (network_port t n)) _ h);
      owned = eqb-true _ _ o;
    }

shows-source : (t : List ℕ) (k : ℕ) → names t (at_source k) ≡ true → owners t (at_source k) ≡ true → Shows t (source_port t k) (source_owner t k) (networks t) k
unfolding names owners
shows-source t k h o =
    record {
      may = and_left _ (not (held t (source_port t k) (networks t) k)) h;
      alone = not-true _ (and_right (may_show t (source_port t k)) _ h);
      owned = eqb-true _ _ o;
    }

waits-of : (t : List ℕ) (n : ℕ) → own_fields t (at_waits n) ≡ true → Waits t n
unfolding own_fields
waits-of t n h =
    record {
      l1 = leb-true _ _ (part_of _ (λ e. rw e at h));
      l2 = leb-true _ _ (part_of _ (λ e. rw (e, and-false) at h));
      eticks = leb-true _ _ (part_of _ (λ e. rw (e, and-false) at h));
    }

rule-of : (t : List ℕ) (r : ℕ) → own_fields t (at_rule r) ≡ true → names t (at_rule r) ≡ true → owners t (at_rule r) ≡ true → RuleFacts t r
unfolding own_fields names owners
rule-of t r f n o =
    record {
      result = leb-true _ _ f;
      expression = ltb-true _ _ (part_of _ (λ e. rw e at n));
      when_true = part_of _ (λ e. rw (e, and-false) at n);
      when_false = and_right (ltb (rule_expression t r) (expressions t) && list_or_none t (true_list t r)) _ n;
      owned = o;
    }

list_of : (t : List ℕ) (l : ℕ) → own_fields t (at_list l) ≡ true → names t (at_list l) ≡ true → nesting t (at_list l) ≡ true → owners t (at_list l) ≡ true
    → ListFacts t l
unfolding own_fields names nesting owners
list_of t l f n d o =
    record {
      some = leb-true _ _ f;
      range = leb-true _ _ n;
      nested = d;
      owned = λ i a b. all-at (item_owned t (list_owner t l)) (first_item t l) (item_count t l) i o a b;
    }

pub exact-of : (t : List ℕ) → exact_length t ≡ true → length t ≡ table_length t
unfolding exact_length
exact-of t h = eqb-true _ _ h

pub facts-of : (t : List ℕ) → Rules t → Facts t
unfolding affordable own_fields names nesting
facts-of t r =
    let exact : length t ≡ table_length t = exact-of t r.exact in
    record {
      counts = counts_of t r.counts;
      exact = exact;
      port = at-port t exact own_fields r.fields;
      network = λ n h. shows-network t n (at-network t exact names r.named n h) (at-network t exact owners r.owned n h);
      waits = λ n h. waits-of t n (at-waits t exact own_fields r.fields n h);
      source = λ k h. shows-source t k (at_source_lem t exact names r.named k h) (at_source_lem t exact owners r.owned k h);
      expression = λ e h. (at-expression t exact names r.named e h, at-expression t exact nesting r.nested e h);
      rule = λ q h. rule-of t q (at-rule t exact own_fields r.fields q h) (at-rule t exact names r.named q h) (at-rule t exact owners r.owned q h);
      list = λ l h. list_of t l (at-list t exact own_fields r.fields l h) (at-list t exact names r.named l h) (at-list t exact nesting r.nested l h)
          (at-list t exact owners r.owned l h);
      item = λ i h. (at_item_lem t exact own_fields r.fields i h, at_item_lem t exact names r.named i h);
      cost = leb-true _ _ r.cost;
    }

pub facts : (t : List ℕ) → accepted t ≡ true → Facts t
facts t h = facts-of t ((accepted-exactly t).0 h)
