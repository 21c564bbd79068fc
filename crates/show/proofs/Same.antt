-- Bytes that are the same: what a comparison of slices tests, and what it says. Assumes nothing.
use Rattle.std.proofs.Common.{◌≡◌, ℕ, Bool, true, ◌&&◌, eqb, List, [], ◌∷◌, refl, ap, eqb-true}
use lib.Pointwise.{pointwise}
use mathlib.Core.Bool.{false≢true}
use Rattle.rulebook.specs.Marked.{same}
use Rattle.laws.proofs.Tests.{split}

pub compared : (a b : List ℕ) → pointwise eqb a b ≡ same a b
unfolding same
compared [] [] = refl
compared [] (y ∷ b) = refl
compared (x ∷ a) [] = refl
compared (x ∷ a) (y ∷ b) = ap (λ (t : Bool). eqb x y && t) (compared a b)

pub same-is : (a b : List ℕ) → same a b ≡ true → a ≡ b
unfolding same
same-is [] [] h = refl
same-is [] (y ∷ b) h = absurd (false≢true h)
same-is (x ∷ a) [] h = absurd (false≢true h)
same-is (x ∷ a) (y ∷ b) h =
    split (eqb x y)
    (λ e. let rest : same a b ≡ true = rw e at h in rw (eqb-true x y e, same-is a b rest))
    (λ e. absurd (false≢true (rw e at h)))
