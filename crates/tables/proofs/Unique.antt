-- Two answers that the check's promise allows are the same answer. Assumes nothing.
use Prim.Native.Nat.{ℕ}
use mathlib.Core.Bool.{cond}
use lib.Dec.{eqb}
use mathlib.Core.Path.{◌≡◌, refl, sym, ap, ◌∙◌}
use mathlib.Core.List.{List}
use Rattle.std.specs.Prelude.{Result, Ok, Err}
use Rattle.tables.specs.declared.Fault.{Fault}
use Rattle.tables.specs.declared.Fault.TheVariants.{TooShort, WrongEdition, WrongCounts, WrongLength}
use Rattle.tables.specs.declared.Fault.TheVariants.{Misfit, Misnamed, TooDeep, OwnersClash, Unreached, TooDear}
use Rattle.tables.specs.Finding.{Finding, finding, promised}

-- the answer that tells a reason, a place and B
abbrev answer : ℕ → ℕ → ℕ → Result ℕ Fault
answer k i b =
    cond (eqb k 0) (Ok b)
    (cond (eqb k 1) (Err TooShort)
    (cond (eqb k 2) (Err WrongEdition)
    (cond (eqb k 3) (Err WrongCounts)
    (cond (eqb k 4) (Err WrongLength)
    (cond (eqb k 5) (Err (Misfit i))
    (cond (eqb k 6) (Err (Misnamed i))
    (cond (eqb k 7) (Err (TooDeep i))
    (cond (eqb k 8) (Err (OwnersClash i))
    (cond (eqb k 10) (Err (Unreached i))
    (Err TooDear))))))))))

abbrev answering : Finding → Result ℕ Fault
answering x = answer x.reason x.place x.bound

back : (r : Result ℕ Fault) → answering (finding r) ≡ r
back (Ok b) = refl
back (Err TooShort) = refl
back (Err WrongEdition) = refl
back (Err WrongCounts) = refl
back (Err WrongLength) = refl
back (Err (Misfit i)) = refl
back (Err (Misnamed i)) = refl
back (Err (TooDeep i)) = refl
back (Err (OwnersClash i)) = refl
back (Err (Unreached i)) = refl
back (Err TooDear) = refl

pub findings-apart : (r s : Result ℕ Fault) → finding r ≡ finding s → r ≡ s
findings-apart r s h = sym (back r) ∙ ap answering h ∙ back s

pub one_answer : (t : List ℕ) (r s : Result ℕ Fault) → finding r ≡ promised t → finding s ≡ promised t → r ≡ s
one_answer t r s p q = findings-apart r s (p ∙ sym q)
