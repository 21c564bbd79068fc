-- An item that was read goes by what it names: a list, a rule, or neither. This serves depth, cost and run. Assumes nothing.
use Prim.Native.Nat.{ℕ}
use mathlib.Core.Path.{◌≡◌, refl, sym, ap, ◌∙◌}
use mathlib.Core.List.{List}
use borrow.Author.Tests.{eq-eqb, ne_eqb}
use Rattle.rulebook.specs.Table.{item_kind, item_list, item_rule, by_item}
use Rattle.words.specs.declared.sections.Item.{Item}
use Rattle.words.specs.Sections.{ItemAt}

module _ {A : Type 0} (t : List ℕ) (i : ℕ) (x : Item) (read : ItemAt t i x) (list rule : ℕ → A) (other : A) where
  pub read-list : x.kind ≡ item_list → list x.a ≡ by_item t i list rule other
  unfolding by_item
  read-list e = sym (rw (eq-eqb (item_kind t i) item_list (sym read.kind.value ∙ e), by_item) (ap list (sym read.a.value)))

  pub read-rule : (x.kind ≡ item_list → ⊥) → x.kind ≡ item_rule → rule x.a ≡ by_item t i list rule other
  unfolding by_item
  read-rule f e =
      sym (rw (ne_eqb (item_kind t i) item_list (rw read.kind.value at f), eq-eqb (item_kind t i) item_rule (sym read.kind.value ∙ e), by_item)
      (ap rule (sym read.a.value)))

  pub read-other : (x.kind ≡ item_list → ⊥) → (x.kind ≡ item_rule → ⊥) → other ≡ by_item t i list rule other
  unfolding by_item
  read-other f g =
      sym (rw (ne_eqb (item_kind t i) item_list (rw read.kind.value at f), ne_eqb (item_kind t i) item_rule (rw read.kind.value at g), by_item) refl)
