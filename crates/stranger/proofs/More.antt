-- Laws of choices and walks, of any crate's use. Assumes nothing.
use mathlib.Core.Path.{◌≡◌, refl, ap₂}
use mathlib.Core.Bool.{Bool, true, false, cond, ◌||◌}
use Prim.Native.Nat.{ℕ, zero, suc, ◌+◌, ◌≤◌, ◌<◌}
use native.Mathlib.Omega.{arith}
use Rattle.rulebook.specs.Words.{any}

-- what holds of both branches holds of the choice; of one choice, and of two by one test side by side

pub pick {ℓ} : {A : Type 0} (P : A → Type ℓ) (b : Bool) {x y : A} → (b ≡ true → P x) → (b ≡ false → P y) → P (cond b x y)
pick P true f g = f refl
pick P false f g = g refl

pub pick-both {ℓ} : {A : Type 0} (R : A → A → Type ℓ) (b : Bool) {x y x' y' : A} → (b ≡ true → R x x') → (b ≡ false → R y y') → R (cond b x y) (cond b x' y')
pick-both R true f g = f refl
pick-both R false f g = g refl

pub any_same : (p q : ℕ → Bool) (i n : ℕ) → ((j : ℕ) → i ≤ j → j < i + n → p j ≡ q j) → any i n p ≡ any i n q
unfolding any
any_same p q i zero h = refl
any_same p q i (suc n) h = ap₂ ◌||◌ (h i (omega arith) (omega arith)) (any_same p q (suc i) n (λ j a b. h j (omega arith) (omega arith)))
