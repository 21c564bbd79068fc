-- A settled operator's right side decides nothing; that of an operator that is not settled turns its result. Assumes nothing.
use Prim.Native.Nat.{ℕ}
use mathlib.Core.Path.{◌≡◌, refl, sym}
use mathlib.Core.Bool.{Bool, true, false, ◌&&◌, ◌||◌, not, xor, false≢true}
use lib.Dec.{eqb}
use borrow.Author.Tests.{eqb-true}
use Rattle.rulebook.specs.Table.{operator_and, operator_or, operator_xor, operator_nand}
use Rattle.rulebook.specs.Expressions.{joined, settled}
use Rattle.laws.proofs.Tests.{split}

and_alike : (a b c : Bool) → not a ≡ true → (a && b) ≡ (a && c)
and_alike true b c h = absurd (false≢true h)
and_alike false b c h = refl

nand-alike : (a b c : Bool) → not a ≡ true → not (a && b) ≡ not (a && c)
nand-alike a b c h = rw (and_alike a b c h)

or-alike : (a b c : Bool) → a ≡ true → (a || b) ≡ (a || c)
or-alike true b c h = refl
or-alike false b c h = absurd (false≢true h)

-- whatever the kind is: a NOT has no right side
pub settled-alike : (k : ℕ) (a b c : Bool) → settled k a ≡ true → joined k a b ≡ joined k a c
unfolding joined settled
settled-alike k a b c h =
    split (eqb k operator_xor) (λ e. absurd (false≢true (rw (eqb-true k operator_xor e) at h)))
    (λ xor. split (eqb k operator_and) (λ e. rw (eqb-true k operator_and e) (and_alike a b c (rw (eqb-true k operator_and e) at h)))
    (λ and. split (eqb k operator_or) (λ e. rw (eqb-true k operator_or e) (or-alike a b c (rw (eqb-true k operator_or e) at h)))
    (λ or. split (eqb k operator_nand) (λ e. rw (eqb-true k operator_nand e) (nand-alike a b c (rw (eqb-true k operator_nand e) at h)))
    (λ nand. rw (and, or, xor, nand)))))

-- the four operators with two sides
pub and-open : (a : Bool) → settled operator_and a ≡ false → joined operator_and a true ≡ not (joined operator_and a false)
unfolding joined settled
and-open true h = refl
and-open false h = absurd (false≢true (sym h))

pub or-open : (a : Bool) → settled operator_or a ≡ false → joined operator_or a true ≡ not (joined operator_or a false)
unfolding joined settled
or-open true h = absurd (false≢true (sym h))
or-open false h = refl

pub xor-open : (a : Bool) → settled operator_xor a ≡ false → joined operator_xor a true ≡ not (joined operator_xor a false)
unfolding joined settled xor
xor-open true h = refl
xor-open false h = refl

pub nand-open : (a : Bool) → settled operator_nand a ≡ false → joined operator_nand a true ≡ not (joined operator_nand a false)
unfolding joined settled
nand-open true h = refl
nand-open false h = absurd (false≢true (sym h))
