-- Where each word stands: the part of the table at a named word's place, and the thing of the state at a thing's index. Assumes
-- nothing.
use mathlib.Core.Path.{◌≡◌, ap, ◌∙◌}
use mathlib.Core.Bool.{Bool, true, false, cond}
use mathlib.Core.List.{List}
use Prim.Native.Nat.{ℕ, ◌+◌, ◌-◌, ◌*◌, ◌/◌, ◌%◌, ◌≤◌, ◌<◌}
use native.Mathlib.Omega.{arith}
use lib.Dec.{ltb, eqb}
use borrow.Author.Tests.{lt-ltb, le-ltb}
use Rattle.rulebook.specs.Table.{ports, networks, sources, expressions, rules, lists, items, ports_from, networks_from, sources_from, expressions_from, rules_from}
use Rattle.rulebook.specs.Table.{lists_from, items_from}
use Rattle.rulebook.specs.Table.{Part, in_header, at_port, at_network, at_waits, at_source, at_expression, at_rule, at_list, at_item, of_pair, part}
use Rattle.rulebook.specs.State.{rule_index, network_index, source_index, a_port, a_rule, a_network, a_source, thing}

-- a section that starts at b has been passed, or holds i
past : {A : Type 0} (i b : ℕ) (x y : A) → b ≤ i → cond (ltb i b) x y ≡ y
past i b x y h = rw (le-ltb i b h)

inside : {A : Type 0} (i b : ℕ) (x y : A) → i < b → cond (ltb i b) x y ≡ x
inside i b x y h = rw (lt-ltb i b h)

less : (a n : ℕ) → a + n - a ≡ n
less a n = omega arith

pair-first : (b n : ℕ) → of_pair (b + 2 * n - b) ≡ at_network n
pair-first b n =
    let d : b + 2 * n - b ≡ 2 * n = omega arith in
    let e : 2 * n % 2 ≡ 0 = omega arith in
    let f : 2 * n / 2 ≡ n = omega arith in
    rw (d, e, f)

pair-second : (b n : ℕ) → of_pair (b + 2 * n + 1 - b) ≡ at_waits n
pair-second b n =
    let d : b + 2 * n + 1 - b ≡ 2 * n + 1 = omega arith in
    let e : (2 * n + 1) % 2 ≡ 1 = omega arith in
    let f : (2 * n + 1) / 2 ≡ n = omega arith in
    rw (d, e, f)

pub in-header : (t : List ℕ) (i : ℕ) → i < ports_from → part t i ≡ in_header
unfolding part
in-header t i b = inside i ports_from _ _ b

-- What stands at a place, by the section that holds it. Each law stands on the one before: past a section, the others are left.

abbrev to_items : List ℕ → ℕ → Part
to_items t i = at_item (i - items_from t)

abbrev to_lists : List ℕ → ℕ → Part
to_lists t i = cond (ltb i (items_from t)) (at_list (i - lists_from t)) (to_items t i)

abbrev to_rules : List ℕ → ℕ → Part
to_rules t i = cond (ltb i (lists_from t)) (at_rule (i - rules_from t)) (to_lists t i)

abbrev to_expressions : List ℕ → ℕ → Part
to_expressions t i = cond (ltb i (rules_from t)) (at_expression (i - expressions_from t)) (to_rules t i)

abbrev to_sources : List ℕ → ℕ → Part
to_sources t i = cond (ltb i (expressions_from t)) (at_source (i - sources_from t)) (to_expressions t i)

abbrev to_networks : List ℕ → ℕ → Part
to_networks t i = cond (ltb i (sources_from t)) (of_pair (i - networks_from t)) (to_sources t i)

abbrev to_ports : List ℕ → ℕ → Part
to_ports t i = cond (ltb i (networks_from t)) (at_port (i - ports_from)) (to_networks t i)

module _ (t : List ℕ) (i : ℕ) where
  past-header : ports_from ≤ i → part t i ≡ to_ports t i
  unfolding part
  past-header b = past i ports_from _ _ b

  pub in-ports : ports_from ≤ i → i < networks_from t → part t i ≡ at_port (i - ports_from)
  in-ports a b = past-header a ∙ inside i (networks_from t) _ _ b

  past-ports : networks_from t ≤ i → part t i ≡ to_networks t i
  past-ports b = past-header (omega arith) ∙ past i (networks_from t) _ _ b

  pub in-networks : networks_from t ≤ i → i < sources_from t → part t i ≡ of_pair (i - networks_from t)
  in-networks a b = past-ports a ∙ inside i (sources_from t) _ _ b

  past-networks : sources_from t ≤ i → part t i ≡ to_sources t i
  past-networks b = past-ports (omega arith) ∙ past i (sources_from t) _ _ b

  pub in-sources : sources_from t ≤ i → i < expressions_from t → part t i ≡ at_source (i - sources_from t)
  in-sources a b = past-networks a ∙ inside i (expressions_from t) _ _ b

  past-sources : expressions_from t ≤ i → part t i ≡ to_expressions t i
  past-sources b = past-networks (omega arith) ∙ past i (expressions_from t) _ _ b

  pub in-expressions : expressions_from t ≤ i → i < rules_from t → part t i ≡ at_expression (i - expressions_from t)
  in-expressions a b = past-sources a ∙ inside i (rules_from t) _ _ b

  past-expressions : rules_from t ≤ i → part t i ≡ to_rules t i
  past-expressions b = past-sources (omega arith) ∙ past i (rules_from t) _ _ b

  pub in-rules : rules_from t ≤ i → i < lists_from t → part t i ≡ at_rule (i - rules_from t)
  in-rules a b = past-expressions a ∙ inside i (lists_from t) _ _ b

  past-rules : lists_from t ≤ i → part t i ≡ to_lists t i
  past-rules b = past-expressions (omega arith) ∙ past i (lists_from t) _ _ b

  pub in-lists : lists_from t ≤ i → i < items_from t → part t i ≡ at_list (i - lists_from t)
  in-lists a b = past-rules a ∙ inside i (items_from t) _ _ b

  past-lists : items_from t ≤ i → part t i ≡ to_items t i
  past-lists b = past-rules (omega arith) ∙ past i (items_from t) _ _ b

  pub in-items : items_from t ≤ i → part t i ≡ at_item (i - items_from t)
  in-items a = past-lists a

-- no list stands before the lists

other : (l : ℕ) (b : Bool) (x y : Part) → (x ≡ at_list l → ⊥) → (y ≡ at_list l → ⊥) → cond b x y ≡ at_list l → ⊥
other l true x y hx hy = hx
other l false x y hx hy = hy

zero-not-one : ◌≡◌ {A = ℕ} 0 1 → ⊥
zero-not-one e = omega arith

pub no-list-before : (t : List ℕ) (i l : ℕ) → i < lists_from t → part t i ≡ at_list l → ⊥
unfolding part
no-list-before t i l b =
    simp (lt-ltb i (lists_from t) b)
    (other l (ltb i ports_from) _ _ (λ e. zero-not-one (cc))
    (other l (ltb i (networks_from t)) _ _ (λ e. zero-not-one (cc))
    (other l (ltb i (sources_from t)) _ _
    (other l (eqb ((i - networks_from t) % 2) 0) _ _ (λ e. zero-not-one (cc)) (λ e. zero-not-one (cc)))
    (other l (ltb i (expressions_from t)) _ _ (λ e. zero-not-one (cc))
    (other l (ltb i (rules_from t)) _ _ (λ e. zero-not-one (cc)) (λ e. zero-not-one (cc)))))))

-- and so by a thing's number

pub part-port : (t : List ℕ) (p : ℕ) → p < ports t → part t (ports_from + p) ≡ at_port p
part-port t p h = in-ports t (ports_from + p) (omega arith) (omega arith) ∙ ap at_port (less (ports_from) p)

pub part-source : (t : List ℕ) (k : ℕ) → k < sources t → part t (sources_from t + k) ≡ at_source k
part-source t k h = in-sources t (sources_from t + k) (omega arith) (omega arith) ∙ ap at_source (less (sources_from t) k)

pub part-expression : (t : List ℕ) (e : ℕ) → e < expressions t → part t (expressions_from t + e) ≡ at_expression e
part-expression t e h = in-expressions t (expressions_from t + e) (omega arith) (omega arith) ∙ ap at_expression (less (expressions_from t) e)

pub part-rule : (t : List ℕ) (r : ℕ) → r < rules t → part t (rules_from t + r) ≡ at_rule r
part-rule t r h = in-rules t (rules_from t + r) (omega arith) (omega arith) ∙ ap at_rule (less (rules_from t) r)

pub part-list : (t : List ℕ) (l : ℕ) → l < lists t → part t (lists_from t + l) ≡ at_list l
part-list t l h = in-lists t (lists_from t + l) (omega arith) (omega arith) ∙ ap at_list (less (lists_from t) l)

pub part-item : (t : List ℕ) (i : ℕ) → i < items t → part t (items_from t + i) ≡ at_item i
part-item t i h = in-items t (items_from t + i) (omega arith) ∙ ap at_item (less (items_from t) i)

pub part-network : (t : List ℕ) (n : ℕ) → n < networks t → part t (networks_from t + 2 * n) ≡ at_network n
part-network t n h = in-networks t (networks_from t + 2 * n) (omega arith) (omega arith) ∙ pair-first (networks_from t) n

pub part-waits : (t : List ℕ) (n : ℕ) → n < networks t → part t (networks_from t + 2 * n + 1) ≡ at_waits n
part-waits t n h = in-networks t (networks_from t + 2 * n + 1) (omega arith) (omega arith) ∙ pair-second (networks_from t) n

-- The state.

pub thing-port : (t : List ℕ) (p : ℕ) → p < ports t → thing t p ≡ a_port p
unfolding thing
thing-port t p h = inside p (ports t) _ _ h

pub thing-rule : (t : List ℕ) (r : ℕ) → r < rules t → thing t (rule_index t r) ≡ a_rule r
unfolding thing
thing-rule t r h =
    past (rule_index t r) (ports t) _ _ (omega arith)
    ∙ inside (rule_index t r) (ports t + rules t) _ _ (omega arith)
    ∙ ap a_rule (less (ports t) r)

pub thing-network : (t : List ℕ) (n : ℕ) → n < networks t → thing t (network_index t n) ≡ a_network n
unfolding thing
thing-network t n h =
    past (network_index t n) (ports t) _ _ (omega arith)
    ∙ past (network_index t n) (ports t + rules t) _ _ (omega arith)
    ∙ inside (network_index t n) (ports t + rules t + networks t) _ _ (omega arith)
    ∙ ap a_network (less (ports t + rules t) n)

pub thing-source : (t : List ℕ) (k : ℕ) → thing t (source_index t k) ≡ a_source k
unfolding thing
thing-source t k =
    past (source_index t k) (ports t) _ _ (omega arith)
    ∙ past (source_index t k) (ports t + rules t) _ _ (omega arith)
    ∙ past (source_index t k) (ports t + rules t + networks t) _ _ (omega arith)
    ∙ ap a_source (less (ports t + rules t + networks t) k)
