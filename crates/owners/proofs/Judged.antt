-- What the loops of rule 8 find, said of the rulebook's definitions. Assumes nothing.
use Prim.Native.Nat.{ℕ, ◌+◌, ◌-◌, ◌<◌, ◌≤◌}
use mathlib.Core.Path.{◌≡◌, refl, sym, ap, ◌∙◌}
use mathlib.Core.Bool.{Bool, true, false, ◌&&◌, ◌||◌, not, and-true, or-true}
use mathlib.Core.List.{List}
use native.Mathlib.Omega.{arith}
use lib.Dec.{eqb, leb}
use borrow.Author.Tests.{ne_eqb}
use Rattle.rulebook.specs.Words.{field, implies, between, all, first}
use Rattle.rulebook.specs.Table.{table_length, lists, items, lists_from, items_from, part}
use Rattle.rulebook.specs.Table.{port_word, port_owner, network_owner, rule_owner, list_owner, stranger}
use Rattle.rulebook.specs.Reasons.{strangers_port, item_owned, owners, breaks}
use Rattle.laws.proofs.Parts.{part-list, in-items}
use Rattle.walks.proofs.Walks.{first-none, same_first}
use Rattle.words.specs.declared.sections.Port.{Port}
use Rattle.words.specs.declared.sections.Network.{Network}
use Rattle.words.specs.declared.sections.Rule.{Rule}
use Rattle.words.specs.declared.sections.List.{List as ListRead}
use Rattle.words.specs.declared.sections.Item.{Item}
use Rattle.words.specs.Sections.{PortAt, NetworkAt, RuleAt, ListAt, ItemAt}

-- The test of a port whose word is w and whose owner is x.
pub strange : (t : List ℕ) (o p w x : ℕ) → w ≡ port_word t p → x ≡ field 4 4 w → (not (eqb x o) && not (eqb x 0)) ≡ strangers_port t o p
unfolding strangers_port stranger
strange t o p w x hw hx = rw (hx, hw)

-- An item of kind k, where what it may name has owner o or not.

judged : Bool → Bool → Bool → Bool → Bool → ℕ → Bool
judged list rule port network free k =
    implies (eqb k 5) list && implies (eqb k 6) rule && (free || implies (between 1 3 k) port) && (free || implies (eqb k 4) network)

and-trues : (a : Bool) → (a && true && true) ≡ a
and-trues true = refl
and-trues false = refl

module _ (list rule port network free : Bool) where
  judged-call : judged list rule port network free 0 ≡ true
  unfolding judged
  judged-call = rw or-true

  judged-list : judged list rule port network free 5 ≡ list
  unfolding judged
  judged-list = rw or-true (ap (λ (x : Bool). x && true) (and-trues list) ∙ and-true list)

  judged-rule : judged list rule port network free 6 ≡ rule
  unfolding judged
  judged-rule = rw or-true (and-trues rule)

  judged-other : (k : ℕ) → eqb k 5 ≡ false → eqb k 6 ≡ false
      → judged list rule port network free k ≡ ((free || implies (between 1 3 k) port) && (free || implies (eqb k 4) network))
  unfolding judged
  judged-other k a b = rw (a, b)

module _ (t : List ℕ) (o i : ℕ) (x : Item) (read : ItemAt t i x) where
  abbrev owned : ℕ → Bool
  owned owner = eqb owner o

  is-judged : item_owned t o i
      ≡ judged (owned (list_owner t x.a)) (owned (rule_owner t x.a)) (owned (port_owner t x.a)) (owned (network_owner t x.a)) (eqb o 0) x.kind
  unfolding item_owned judged
  is-judged = rw (read.kind.value, read.a.value)

  pub call-owned : x.kind ≡ 0 → true ≡ item_owned t o i
  call-owned e = sym (rw e at is-judged ∙ judged-call _ _ _ _ _)

  pub list-owned : (l : ListRead) → ListAt t x.a l → x.kind ≡ 5 → eqb l.owner o ≡ item_owned t o i
  list-owned l named e = sym (rw e at is-judged ∙ judged-list _ _ _ _ _ ∙ rw named.owner.value)

  pub rule-owned : (r : Rule) → RuleAt t x.a r → x.kind ≡ 6 → eqb r.owner o ≡ item_owned t o i
  rule-owned r named e = sym (rw e at is-judged ∙ judged-rule _ _ _ _ _ ∙ rw named.owner.value)

  pub other-owned : (p : Port) (n : Network) → PortAt t x.a p → NetworkAt t x.a n → (x.kind ≡ 5 → ⊥) → (x.kind ≡ 6 → ⊥)
      → ((eqb o 0 || (not (leb 1 x.kind && leb x.kind 3) || eqb p.owner o)) && (eqb o 0 || (not (eqb x.kind 4) || eqb n.owner o)))
      ≡ item_owned t o i
  other-owned p n port network f g =
      sym (is-judged ∙ judged-other _ _ _ _ _ x.kind (ne_eqb x.kind 5 f) (ne_eqb x.kind 6 g) ∙ rw (port.owner.value, network.owner.value))

-- A list is judged with its items.
pub list-judged : (t : List ℕ) (l : ℕ) (x : ListRead) → ListAt t l x → l < lists t
    → all x.first_item x.item_count (item_owned t x.owner) ≡ owners t (part t (lists_from t + l))
unfolding owners
list-judged t l x read b = rw (part-list t l b, read.owner.value, read.first-item.value, read.item_count.value)

-- Past the lists nothing breaks rule 8.

items-keep : (t : List ℕ) (k : ℕ) → items_from t ≤ k → breaks owners t k ≡ false
unfolding breaks owners
items-keep t k g = rw (in-items t k (omega arith))

pub lists-end : (t : List ℕ) (l : ℕ) → l ≡ lists t → first (lists_from t + l) (table_length t - (lists_from t + l)) (breaks owners t) ≡ table_length t
lists-end t l e =
    same_first {i = lists_from t + l} {j = items_from t} {m = table_length t - (lists_from t + l)} {n = items t} (breaks owners t) (omega arith) (omega arith)
    ∙ first-none (items_from t) (items t) (breaks owners t) (items-keep t)
    ∙ omega arith
