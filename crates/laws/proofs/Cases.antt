-- The cycle of lists, case by case: one law for each way an item, a rule item, a choice and a chosen list can go. Assumes nothing.
use mathlib.Core.Path.{◌≡◌}
use mathlib.Core.Bool.{Bool, true, false}
use mathlib.Core.List.{List}
use Prim.Native.Nat.{ℕ}
use lib.Dec.{eqb}
use borrow.Author.Tests.{eqb-true, eqb-false}
use Rattle.rulebook.specs.Table.{reload, no_list, item_kind, item_a, item_b, item_clear, item_start, item_stop, item_ask, item_list, item_rule, by_item}
use Rattle.rulebook.specs.Expressions.{deepest}
use Rattle.rulebook.specs.State.{timer_stopped, timer_started, undefined_result}
use Rattle.rulebook.specs.Lists.{Run, emit, trace_word, set_port, network_in, asking, set_network, effect, act, unready, choice_in, judge, run_choice, run_rule}
use Rattle.rulebook.specs.Lists.{run_item, run_list}
use Rattle.rulebook.specs.Arbitration.{run_if}
use Rattle.laws.proofs.Tests.{split}

-- an item by what it names: this serves depth, cost and run
module _ {A : Type 0} (t : List ℕ) (i : ℕ) (list rule : ℕ → A) (other : A) where
  pub by-list : eqb (item_kind t i) item_list ≡ true → by_item t i list rule other ≡ list (item_a t i)
  unfolding by_item
  by-list h = rw (h, by_item)

  pub by-rule : eqb (item_kind t i) item_list ≡ false → eqb (item_kind t i) item_rule ≡ true → by_item t i list rule other ≡ rule (item_a t i)
  unfolding by_item
  by-rule h k = rw (h, k, by_item)

  pub by-other : eqb (item_kind t i) item_list ≡ false → eqb (item_kind t i) item_rule ≡ false → by_item t i list rule other ≡ other
  unfolding by_item
  by-other h k = rw (h, k, by_item)

module _ (below : ℕ → Run → Run) (t : List ℕ) (o : ℕ) where
  pub item-list : (i : ℕ) (x : Run) → eqb (item_kind t i) item_list ≡ true → run_item below t o i x ≡ below (item_a t i) x
  unfolding run_item
  item-list i x h = rw (by-list t i below (run_rule below t o) (act t o i) h)

  pub item-rule : (i : ℕ) (x : Run) → eqb (item_kind t i) item_list ≡ false → eqb (item_kind t i) item_rule ≡ true
      → run_item below t o i x ≡ run_rule below t o (item_a t i) x
  unfolding run_item
  item-rule i x h k = rw (by-rule t i below (run_rule below t o) (act t o i) h k)

  pub item-act : (i : ℕ) (x : Run) → eqb (item_kind t i) item_list ≡ false → eqb (item_kind t i) item_rule ≡ false → run_item below t o i x ≡ act t o i x
  unfolding run_item
  item-act i x h k = rw (by-other t i below (run_rule below t o) (act t o i) h k)

  pub rule-unready : (r : ℕ) (x : Run) → unready t x.state r ≡ true → run_rule below t o r x ≡ emit (trace_word item_rule o r undefined_result) x
  unfolding run_rule
  rule-unready r x h = rw (h, run_rule)

  pub rule-ready : (r : ℕ) (x : Run) → unready t x.state r ≡ false → run_rule below t o r x ≡ run_choice below (choice_in t x.state r) (judge t o r x)
  unfolding run_rule
  rule-ready r x h = rw (h, run_rule)

  -- every way an item can go
  pub item-cases {ℓ} : {A : Type ℓ} (i : ℕ) → (item_kind t i ≡ item_list → eqb (item_kind t i) item_list ≡ true → A)
      → (item_kind t i ≡ item_rule → eqb (item_kind t i) item_list ≡ false → eqb (item_kind t i) item_rule ≡ true → A)
      → (eqb (item_kind t i) item_list ≡ false → eqb (item_kind t i) item_rule ≡ false → A) → A
  item-cases i f g h =
      split (eqb (item_kind t i) item_list) (λ e. f (eqb-true _ _ e) e)
      (λ e. split (eqb (item_kind t i) item_rule) (λ d. g (eqb-true _ _ d) e d) (λ d. h e d))

pub choice-none : (below : ℕ → Run → Run) (l : ℕ) (x : Run) → eqb l no_list ≡ true → run_choice below l x ≡ x
unfolding run_choice
choice-none below l x h = rw (h, run_choice)

pub choice-some : (below : ℕ → Run → Run) (l : ℕ) (x : Run) → eqb l no_list ≡ false → run_choice below l x ≡ below l x
unfolding run_choice
choice-some below l x h = rw (h, run_choice)

pub if-chosen : (t : List ℕ) (c : ℕ → Bool) (l : ℕ) (x : Run) → c l ≡ true → run_if t c l x ≡ run_list deepest t l x
unfolding run_if
if-chosen t c l x h = rw (h, run_if)

pub if-not : (t : List ℕ) (c : ℕ → Bool) (l : ℕ) (x : Run) → c l ≡ false → run_if t c l x ≡ x
unfolding run_if
if-not t c l x h = rw (h, run_if)

-- what an item of kind 0 to 4 does, kind by kind
pub effect-cases : (P : List ℕ → Type 0) (t : List ℕ) (i : ℕ) (s : List ℕ)
    → (item_kind t i ≡ item_clear → P (set_port (item_a t i) 1 0 0 s))
    → (item_kind t i ≡ item_start → P (set_port (item_a t i) 1 timer_started (reload t (item_a t i)) s))
    → (item_kind t i ≡ item_stop → P (set_port (item_a t i) 1 timer_stopped 0 s))
    → (item_kind t i ≡ item_ask → P (set_network t (item_a t i) (asking (item_b t i) (network_in t (item_a t i) s)) s))
    → ((item_kind t i ≡ item_ask → ⊥) → P s)
    → P (effect t i s)
unfolding effect
effect-cases P t i s f₁ f₂ f₃ f₄ f₅ =
    split (eqb (item_kind t i) item_clear) (λ a. rw a (f₁ (eqb-true _ _ a)))
    (λ a. split (eqb (item_kind t i) item_start) (λ b. rw (a, b) (f₂ (eqb-true _ _ b)))
    (λ b. split (eqb (item_kind t i) item_stop) (λ c. rw (a, b, c) (f₃ (eqb-true _ _ c)))
    (λ c. split (eqb (item_kind t i) item_ask) (λ d. rw (a, b, c, d) (f₄ (eqb-true _ _ d)))
    (λ d. rw (a, b, c, d) (f₅ (eqb-false _ _ d))))))
