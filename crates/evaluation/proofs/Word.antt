-- An evaluation's word: what it holds is read off it again. Assumes nothing.
use Prim.Native.Nat.{ℕ, ◌/◌, ◌%◌}
use mathlib.Core.Path.{◌≡◌, refl}
use mathlib.Core.Bool.{Bool, true, false, cond}
use mathlib.Core.List.{List}
use native.Mathlib.Omega.{arith}
use lib.Dec.{eqb}
use Rattle.rulebook.specs.Expressions.{holds, visited}
use Rattle.evaluation.specs.Found.{in_word, Evaluates}

odd : (b : Bool) (n : ℕ) → in_word b n % 2 ≡ cond b 1 0
odd true n = omega arith
odd false n = omega arith

half : (b : Bool) (n : ℕ) → in_word b n / 2 ≡ n
half true n = omega arith
half false n = omega arith

tested : (b : Bool) → eqb (cond b 1 0) 1 ≡ b
tested true = refl
tested false = refl

module _ (t : List ℕ) (v : ℕ → ℕ) (e d r : ℕ) (is : Evaluates t v e d r) where
  pub result-told : r % 2 ≡ cond (holds d t v e) 1 0
  result-told = rw is (odd (holds d t v e) (visited d t v e))

  pub held-told : eqb (r % 2) 1 ≡ holds d t v e
  held-told = rw result-told (tested (holds d t v e))

  pub visits-told : r / 2 ≡ visited d t v e
  visits-told = rw is (half (holds d t v e) (visited d t v e))
