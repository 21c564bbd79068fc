-- Rule 10 holds of a list exactly if a chain of names leads to it from a rule that isn't nested-only. That takes rules 6 and 7: the
-- rulebook looks seven levels down, and no chain of a table that keeps them is longer. Assumes nothing.
use mathlib.Core.Path.{◌≡◌, refl, sym, ap, ◌∙◌}
use mathlib.Core.Bool.{Bool, true, false, ◌&&◌, ◌||◌, not, not-not}
use mathlib.Core.Logic.{⊎_elim, ◌↔◌}
use mathlib.Core.List.{List}
use Prim.Native.Nat.{ℕ, zero, suc, ◌+◌, ◌-◌, ◌≤◌, ◌<◌}
use native.Mathlib.Omega.{arith}
use native.Mathlib.Nat.{add-zero, add-suc}
use lib.ListN.{length}
use lib.Dec.{eqb}
use borrow.Author.Tests.{eqb-true, eq-eqb, not-true, not-false}
use Rattle.rulebook.specs.Table.{table_length, at_list, rules, lists, nested_only, true_list, false_list, no_list, first_item, item_count, item_kind, item_a}
use Rattle.rulebook.specs.Table.{item_list, item_rule}
use Rattle.rulebook.specs.Expressions.{deepest}
use Rattle.rulebook.specs.Reasons.{names, nesting, rule_nests, item_nests, list_within, rule_reaches, item_reaches, list_reaches, reaches_within, reached_by, reached}
use Rattle.rulebook.proofs.Reached.{any-there, reaches-itself, items-reach}
use Rattle.laws.specs.Acceptance.{Everywhere}
use Rattle.laws.specs.Sequence.{RuleNames, NamesList}
use Rattle.laws.specs.Reached.{Reached, by_rule, by_list}
use Rattle.laws.proofs.Tests.{split, clash, and_left, and_right, and_both, or_some}
use Rattle.laws.proofs.Walks.{any_some}
use Rattle.laws.proofs.Cases.{by-list, by-rule, by-other}
use Rattle.laws.proofs.Facts.{at-list}
use Rattle.laws.proofs.Nesting.{nests-list, nests-rule, nests-act, within-item}
use Rattle.laws.proofs.Chains.{NamesThere, names-there, ruled-there, named-there, rule-fails, rule-fails←, item-fails, item-fails←}

-- To reach is not to have all that is named among what does not: what is known of nesting serves.

abbrev others : (ℕ → Bool) → ℕ → Bool
others p n = not (p n)

unless : (a b c d : Bool) → (not a && b || not c && d) ≡ not ((a || not b) && (c || not d))
unless true b true d = refl
unless true b false d = sym (not-not d)
unless false true c d = refl
unless false false true d = refl
unless false false false d = sym (not-not d)

module _ (t : List ℕ) (p : ℕ → Bool) where
  rule-unless : (r : ℕ) → rule_reaches t p r ≡ not (rule_nests t (others p) r)
  unfolding rule_reaches rule_nests
  rule-unless r = unless (eqb (true_list t r) no_list) (p (true_list t r)) (eqb (false_list t r) no_list) (p (false_list t r))

  item-unless : (i : ℕ) → item_reaches t p i ≡ not (item_nests t (others p) i)
  unfolding item_reaches
  item-unless i =
      split (eqb (item_kind t i) item_list)
      (λ e. rw (by-list t i p (rule_reaches t p) false e, nests-list t (others p) i e) (sym (not-not _)))
      (λ e. split (eqb (item_kind t i) item_rule)
      (λ g. rw (by-rule t i p (rule_reaches t p) false e g, nests-rule t (others p) i e g) (rule-unless (item_a t i)))
      (λ g. rw (by-other t i p (rule_reaches t p) false e g, nests-act t (others p) i e g)))

  -- so a rule, or an item of a list, reaches exactly by a list that it names

  pub rule-reaches : (r : ℕ) → rule_reaches t p r ≡ true → (x : ℕ) × RuleNames t r x × (p x ≡ true)
  rule-reaches r h =
      let w = rule-fails t (others p) r (not-true _ (sym (rule-unless r) ∙ h)) in
      (w.0, w.1, not-false _ w.2)

  pub rule-reaches← : (r x : ℕ) → RuleNames t r x → p x ≡ true → rule_reaches t p r ≡ true
  rule-reaches← r x n h = rule-unless r ∙ ap not (rule-fails← t (others p) r x n (ap not h))

  pub item-reaches : (l i : ℕ) → first_item t l ≤ i → i < first_item t l + item_count t l → item_reaches t p i ≡ true
      → (x : ℕ) × NamesList t l x × (p x ≡ true)
  item-reaches l i a b h =
      let w = item-fails t (others p) l i a b (not-true _ (sym (item-unless i) ∙ h)) in
      (w.0, w.1, not-false _ w.2)

  pub item-reaches← : (l x : ℕ) (n : NamesList t l x) → p x ≡ true → item_reaches t p n.item ≡ true
  item-reaches← l x n h = item-unless n.item ∙ ap not (item-fails← t (others p) l x n (ap not h))

-- A chain for what the rulebook finds: no rule is needed for that.

reaches-on : (t : List ℕ) (d x l : ℕ) → Reached t l → reaches_within d t x l ≡ true → Reached t x
unfolding reaches_within list_reaches
reaches-on t zero x l r h = clash h refl
reaches-on t (suc d) x l r h =
    ⊎_elim (λ e. rw (eqb-true l x e) at r)
    (λ e. let w = any_some (item_reaches t (reaches_within d t x)) (first_item t l) (item_count t l) e in
    let n = item-reaches t (reaches_within d t x) l w.at w.from w.below w.holds in
    reaches-on t d x n.0 (by_list r n.1) n.2)
    (or_some (eqb l x) _ h)

pub chain-found : (t : List ℕ) (x : ℕ) → reached t (at_list x) ≡ true → Reached t x
unfolding reached reached_by
chain-found t x h =
    let w = any_some (reached_by t x) 0 (rules t) h in
    let starts = and_left (eqb (nested_only t w.at) 0) (rule_reaches t (reaches_within deepest t x) w.at) w.holds in
    let reaches = and_right (eqb (nested_only t w.at) 0) (rule_reaches t (reaches_within deepest t x) w.at) w.holds in
    let n = rule-reaches t (reaches_within deepest t x) w.at reaches in
    reaches-on t deepest x n.0 (by_rule w.at (omega (arith, w.below)) (eqb-true (nested_only t w.at) 0 starts) n.1) n.2

-- a list reaches what a list that it names reaches, with a level more
named-reaches : (t : List ℕ) (d x l y : ℕ) → NamesList t l y → reaches_within d t x y ≡ true → reaches_within (suc d) t x l ≡ true
named-reaches t d x l y n h = items-reach t d x l n.item n.from n.below (item-reaches← t (reaches_within d t x) l y n h)

-- A level more: where list l reaches x in two levels or more, what reaches l reaches x in one level more.

reaches-further : (t : List ℕ) (l x : ℕ) → ((d : ℕ) → reaches_within (suc (suc d)) t x l ≡ true) → (d y : ℕ) → reaches_within d t l y ≡ true
    → reaches_within (suc d) t x y ≡ true
unfolding reaches_within list_reaches
reaches-further t l x last zero y h = clash h refl
reaches-further t l x last (suc d) y h =
    ⊎_elim (λ e. rw (eqb-true y l e) (last d))
    (λ e. let w = any_some (item_reaches t (reaches_within d t l)) (first_item t y) (item_count t y) e in
    let n = item-reaches t (reaches_within d t l) y w.at w.from w.below w.holds in
    named-reaches t (suc d) x y n.0 n.1 (reaches-further t l x last d n.0 n.2))
    (or_some (eqb y l) _ h)

reaches_more : (t : List ℕ) (d k x l : ℕ) → reaches_within d t x l ≡ true → reaches_within (d + k) t x l ≡ true
reaches_more t d zero x l h = rw add-zero h
reaches_more t d (suc k) x l h = rw add-suc (reaches-further t x x (λ e. reaches-itself t (suc e) x) (d + k) l (reaches_more t d k x l h))

-- The other way, in a table that keeps rules 6 and 7: a chain to list l, the levels that it uses and those that l has below it. Both
-- count l itself, so that they are eight together.

record Chained (t : List ℕ) (l : ℕ) : Type 0 where
  rule : ℕ
  there : rule < rules t
  starts : nested_only t rule ≡ 0
  list : ℕ
  names : RuleNames t rule list
  used : ℕ
  reaches : reaches_within used t l list ≡ true
  left : ℕ
  nests : list_within left t l ≡ true
  eight : used + left ≡ 8

pub named-within : (t : List ℕ) (d l x : ℕ) → list_within (suc d) t l ≡ true → NamesList t l x → list_within d t x ≡ true
named-within t d l x h n =
    split (list_within d t x) (λ a. a) (λ a. clash (within-item t d l n.item h n.from n.below) (item-fails← t (list_within d t) l x n a))

module _ (t : List ℕ) (f : NamesThere t) (nested : (l : ℕ) → l < lists t → list_within deepest t l ≡ true) where
  pub reached-there : (l : ℕ) → Reached t l → l < lists t
  reached-there l (by_rule r b s n) = ruled-there t f r l b n
  reached-there x (by_list {l = l} q n) = named-there t f l x (reached-there l q) n

  one_more : (l x left : ℕ) (q : Chained t l) → q.left ≡ left → NamesList t l x → Chained t x
  unfolding list_within
  one_more l x zero q e n = clash (rw e at q.nests) refl
  one_more l x (suc left) q e n =
      let eight = q.eight in
      record {
        rule = q.rule;
        there = q.there;
        starts = q.starts;
        list = q.list;
        names = q.names;
        used = suc q.used;
        reaches = reaches-further t l x (λ d. named-reaches t (suc d) x l x n (reaches-itself t d x)) q.used q.list q.reaches;
        left = left;
        nests = named-within t left l x (rw e at q.nests) n;
        eight = omega arith;
      }

  chained : (l : ℕ) → Reached t l → Chained t l
  chained l (by_rule r b s n) =
      record {
        rule = r;
        there = b;
        starts = s;
        list = l;
        names = n;
        used = 1;
        reaches = reaches-itself t 0 l;
        left = 7;
        nests = nested l (ruled-there t f r l b n);
        eight = omega arith;
      }
  chained x (by_list {l = l} q n) = let p = chained l q in one_more l x p.left p refl n

  seven-of : (l left : ℕ) (q : Chained t l) → q.left ≡ left → reaches_within deepest t l q.list ≡ true
  unfolding list_within
  seven-of l zero q e = clash (rw e at q.nests) refl
  seven-of l (suc left) q e =
      let eight = q.eight in
      let is : q.used + (7 - q.used) ≡ 7 = omega arith in
      rw is at (reaches_more t q.used (7 - q.used) l q.list q.reaches)

  found-by-chain : (l : ℕ) → Reached t l → reached t (at_list l) ≡ true
  unfolding reached reached_by
  found-by-chain l c =
      let q = chained l c in
      any-there (reached_by t l) 0 (rules t) q.rule (omega arith) (omega (arith, q.there))
      (and_both _ _ (eq-eqb (nested_only t q.rule) 0 q.starts)
      (rule-reaches← t (reaches_within deepest t l) q.rule q.list q.names (seven-of l q.left q refl)))

  -- "A list is reached": the rulebook's test is the chain
  pub chain-exactly : (l : ℕ) → (reached t (at_list l) ≡ true) ↔ Reached t l
  chain-exactly l = (chain-found t l, found-by-chain l)

-- So where every word keeps rules 6 and 7; rule 4's length says which word is a list's.
module _ (t : List ℕ) (exact : length t ≡ table_length t) (named : Everywhere names t) (nested : Everywhere nesting t) where
  nested-list : (l : ℕ) → l < lists t → list_within deepest t l ≡ true
  unfolding nesting
  nested-list l b = at-list t exact nesting nested l b

  pub chain-there : (l : ℕ) → Reached t l → l < lists t
  chain-there = reached-there t (names-there t exact named) nested-list

  pub reached-exactly : (l : ℕ) → (reached t (at_list l) ≡ true) ↔ Reached t l
  reached-exactly = chain-exactly t (names-there t exact named) nested-list
