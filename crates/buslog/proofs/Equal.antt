-- The rulebook's test of two names, which is that of equality. Assumes nothing.
use Prim.Native.Nat.{ℕ, ◌<◌, ◌≤◌}
use mathlib.Core.Path.{◌≡◌, refl, sym}
use mathlib.Core.Bool.{true, false}
use mathlib.Core.List.{List}
use native.Mathlib.Omega.{arith}
use borrow.Author.Tests.{ltb-false, ltb-true}
use Rattle.std.proofs.lemmas.Slice.Eq.{compares_Decides}
use Rattle.std.specs.Bool.{Decides}
use Rattle.laws.proofs.Tests.{split}
use lib.Dec.{ltb}
use Rattle.rulebook.specs.BusLog.{same}

pub beneath : (i n : ℕ) → i ≤ n → (i ≡ n → ⊥) → i < n
beneath i n h other = split (ltb i n) (λ e. ltb-true i n e) (λ e. absurd (other (omega (arith, ltb-false i n e))))

same-Decides : (xs ys : List ℕ) → Decides (same xs ys) (xs ≡ ys)
unfolding same
same-Decides = compares_Decides same (record { empty = refl; shorter = λ y ys. refl; longer = λ x xs. refl; heads = λ x y xs ys. refl })

module _ (xs ys : List ℕ) where
  pub same-so : xs ≡ ys → same ys xs ≡ true
  same-so e = (same-Decides ys xs).1 (sym e)

  pub same_not : (xs ≡ ys → ⊥) → same ys xs ≡ false
  same_not other = split (same ys xs) (λ e. absurd (other (sym ((same-Decides ys xs).0 e)))) (λ e. e)
