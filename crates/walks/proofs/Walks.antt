-- Laws of the rulebook's walks, in the form of a loop that counts i up to e. Assumes nothing.
use Prim.Native.Nat.{ℕ, zero, suc, ◌+◌, ◌-◌, ◌<◌, ◌≤◌}
use mathlib.Core.Path.{◌≡◌, refl, sym, ap₂, ◌∙◌}
use native.Mathlib.Nat.{zero-add, add-zero, suc-add}
use mathlib.Core.Bool.{Bool, true, false, cond, ◌&&◌, ◌||◌, not}
use native.Mathlib.Numerals.{add-one}
use native.Mathlib.Omega.{arith}
use Rattle.rulebook.specs.Words.{first, all, any, sum, each, until}
use Rattle.laws.proofs.Tests.{split}
use Rattle.laws.proofs.Walks.{first-before as none_before, until-last, until-next}

-- what is left before a turn and after it, and at the end
left-more : (i e : ℕ) → i < e → e - i ≡ suc (e - (i + 1))
left-more i e h = omega arith

left-none : (i e : ℕ) → e ≤ i → e - i ≡ 0
left-none i e h = omega arith

-- what is left at the start of a loop over the n numbers from i on
pub whole : (i n : ℕ) → i + n - i ≡ n
whole i n = omega arith

-- The lowest number at which p holds.

first_step : (i n : ℕ) (p : ℕ → Bool) (b : Bool) → p i ≡ b → first i (suc n) p ≡ elim b [ true ↦ i | false ↦ first (suc i) n p ]
unfolding first
first_step i n p b y = rw (y, first)

module _ (i e : ℕ) (p : ℕ → Bool) where
  pub first-here : i < e → p i ≡ true → first i (e - i) p ≡ i
  unfolding first
  first-here h y = rw (left-more i e h) (first_step i (e - (i + 1)) p _ y)

  pub first-turn : i < e → p i ≡ false → first i (e - i) p ≡ first (i + 1) (e - (i + 1)) p
  unfolding first
  first-turn h y = rw (left-more i e h, add-one) (first_step i (e - suc i) p _ y)

  pub first-end : e ≤ i → first i (e - i) p ≡ i
  unfolding first
  first-end h = rw (left-none i e h)

  pub all-turn : i < e → p i ≡ true → all i (e - i) p ≡ all (i + 1) (e - (i + 1)) p
  unfolding all
  all-turn h y = rw (left-more i e h, y, add-one)

  pub all-fails : i < e → p i ≡ false → all i (e - i) p ≡ false
  unfolding all
  all-fails h y = rw (left-more i e h, y)

  pub all_end : e ≤ i → all i (e - i) p ≡ true
  unfolding all
  all_end h = rw (left-none i e h)

  pub any_step : i < e → any i (e - i) p ≡ (p i || any (i + 1) (e - (i + 1)) p)
  unfolding any
  any_step h = rw (left-more i e h, add-one)

  pub any-turn : i < e → p i ≡ false → any i (e - i) p ≡ any (i + 1) (e - (i + 1)) p
  any-turn h y = any_step h ∙ rw y

  pub any_here : i < e → p i ≡ true → any i (e - i) p ≡ true
  any_here h y = any_step h ∙ rw y

  pub any-end : e ≤ i → any i (e - i) p ≡ false
  unfolding any
  any-end h = rw (left-none i e h)

module _ (i e : ℕ) (f : ℕ → ℕ) where
  pub sum-turn : i < e → sum i (e - i) f ≡ f i + sum (i + 1) (e - (i + 1)) f
  unfolding sum
  sum-turn h = rw (left-more i e h, add-one)

  pub sum-end : e ≤ i → sum i (e - i) f ≡ 0
  unfolding sum
  sum-end h = rw (left-none i e h)

module _ {A : Type 0} (i e : ℕ) (f : ℕ → A → A) (a : A) where
  pub each_turn : i < e → each i (e - i) f a ≡ each (i + 1) (e - (i + 1)) f (f i a)
  unfolding each
  each_turn h = rw (left-more i e h, add-one)

  pub each-end : e ≤ i → each i (e - i) f a ≡ a
  unfolding each
  each-end h = rw (left-none i e h)

module _ {A : Type 0} (i e : ℕ) (last : ℕ → A → Bool) (f : ℕ → A → A) (a : A) where
  pub until-here : i < e → last i a ≡ true → until i (e - i) last f a ≡ f i a
  until-here h y = rw (left-more i e h) (until-last last f i (e - (i + 1)) a y)

  pub until-turn : i < e → last i a ≡ false → until i (e - i) last f a ≡ until (i + 1) (e - (i + 1)) last f (f i a)
  until-turn h y = rw (left-more i e h, add-one) (until-next last f i (e - suc i) a y)

  pub until_end : e ≤ i → until i (e - i) last f a ≡ a
  unfolding until
  until_end h = rw (left-none i e h)

-- A range may be written in another way.
pub same_first : {i j m n : ℕ} (p : ℕ → Bool) → i ≡ j → m ≡ n → first i m p ≡ first j n p
same_first p a b = ap₂ (λ (x y : ℕ). first x y p) a b

-- Two ranges one after the other: the first number in the first range, or else in the second.

pub first-before : (i m n : ℕ) (p : ℕ → Bool) → first i m p < i + m → first i (m + n) p ≡ first i m p
unfolding first
first-before i zero n p h = absurd (omega arith)
first-before i (suc m) n p h =
    rw (suc-add m n)
    (split (p i) (λ e. first_step i (m + n) p true e ∙ sym (first_step i m p true e))
    (λ e.
    first_step i (m + n) p false e
    ∙ first-before (suc i) m n p (omega (arith, rw (first_step i m p false e) at h))
    ∙ sym (first_step i m p false e)))

-- a range in which p holds nowhere, alone and before another
pub first_past : (i m n : ℕ) (p : ℕ → Bool) → ((k : ℕ) → i ≤ k → k < i + m → p k ≡ false) → first i (m + n) p ≡ first (i + m) n p
unfolding first
first_past i zero n p h = rw (zero-add, add-zero)
first_past i (suc m) n p h =
    rw (suc-add m n)
    (first_step i (m + n) p false (h i (omega arith) (omega arith))
    ∙ first_past (suc i) m n p (λ k a b. h k (omega arith) (omega arith))
    ∙ same_first {i = suc i + m} {j = i + suc m} {m = n} {n = n} p (omega arith) refl)

pub first-after : (i m n : ℕ) (p : ℕ → Bool) → i + m ≤ first i m p → first i (m + n) p ≡ first (i + m) n p
first-after i m n p h = first_past i m n p (λ k a b. none_before p i m k a (omega arith))

pub first-none : (i n : ℕ) (p : ℕ → Bool) → ((k : ℕ) → i ≤ k → p k ≡ false) → first i n p ≡ i + n
unfolding first
first-none i n p h = rw add-zero at (first_past i n 0 p (λ k a b. h k a))

-- One of two tests by a third, as code says it that branches nowhere.
pub either : (a b c : Bool) → cond a b c ≡ (a && b || not a && c)
either true true c = refl
either true false c = refl
either false b c = refl
