-- Q-6's one-step laws: what a rule and a list reach. Assumes nothing.
use Prim.Native.Nat.{ℕ, zero, suc, ◌+◌, ◌≤◌, ◌<◌}
use mathlib.Core.Path.{◌≡◌, refl}
use mathlib.Core.Bool.{Bool, true, false, ◌||◌, or-true}
use mathlib.Core.List.{List}
use native.Mathlib.Omega.{arith}
use lib.Dec.{eqb}
use borrow.Author.Tests.{eq-eqb, eqb-true, eqb-false}
use Rattle.rulebook.specs.Words.{any}
use Rattle.rulebook.specs.Table.{nested_only, first_item, item_count}
use Rattle.rulebook.specs.Reasons.{item_reaches, list_reaches, reaches_within, reached_by}

pub any-there : (p : ℕ → Bool) (i n j : ℕ) → i ≤ j → j < i + n → p j ≡ true → any i n p ≡ true
unfolding any
any-there p i zero j a b h = absurd (omega arith)
any-there p i (suc n) j a b h = from (eqb j i) refl (λ c d. any-there p (suc i) n j c d h) where
  from : (here : Bool) → eqb j i ≡ here → (suc i ≤ j → j < suc i + n → any (suc i) n p ≡ true) → (p i || any (suc i) n p) ≡ true
  from true e later = rw (rw (eqb-true j i e) at h)
  from false e later = let ne = eqb-false j i e in rw (later (omega arith) (omega arith), or-true)

-- "by no rule that isn't nested-only"
pub nested-reaches-none : (t : List ℕ) (x r : ℕ) → nested_only t r ≡ 1 → reached_by t x r ≡ false
unfolding reached_by
nested-reaches-none t x r h = rw h

-- a list reaches itself
pub reaches-itself : (t : List ℕ) (d x : ℕ) → reaches_within (suc d) t x x ≡ true
unfolding reaches_within list_reaches
reaches-itself t d x = rw (eq-eqb x x refl)

-- "by a named list, or by a rule item": and whatever its items reach, however many levels that takes
pub items-reach : (t : List ℕ) (d x l i : ℕ) → first_item t l ≤ i → i < first_item t l + item_count t l → item_reaches t (reaches_within d t x) i ≡ true
    → reaches_within (suc d) t x l ≡ true
unfolding reaches_within list_reaches
items-reach t d x l i a b h = rw (any-there (item_reaches t (reaches_within d t x)) (first_item t l) (item_count t l) i a b h, or-true)
