-- An answer of the check is `Ok` of an accepted table, and of no other. Assumes nothing.
use Prim.Native.Nat.{ℕ}
use mathlib.Core.Path.{◌≡◌, refl, sym, ap, ◌∙◌}
use mathlib.Core.Bool.{true, false}
use mathlib.Core.List.{List}
use borrow.Author.Tests.{eq-eqb}
use lib.Dec.{eqb}
use Rattle.std.specs.Prelude.{Result, Ok, Err}
use Rattle.rulebook.specs.Reasons.{check, accepted}
use Rattle.tables.specs.declared.Fault.{Fault}
use Rattle.tables.specs.declared.Fault.TheVariants.{TooShort, WrongEdition, WrongCounts, WrongLength, Misfit, Misnamed, TooDeep, OwnersClash, Unreached, TooDear}
use Rattle.tables.specs.Finding.{Finding, finding, promised}

pub is-accepted : (t : List ℕ) (b : ℕ) (r : Result ℕ Fault) → r ≡ Ok b → finding r ≡ promised t → accepted t ≡ true
unfolding promised
is-accepted t b r e h = eq-eqb (check t).reason 0 (ap (λ (x : Finding). x.reason) (sym h) ∙ ap (λ (x : Result ℕ Fault). (finding x).reason) e)

-- a fault has a reason
reason-of : (f : Fault) → eqb (finding (Err f)).reason 0 ≡ false
reason-of TooShort = refl
reason-of WrongEdition = refl
reason-of WrongCounts = refl
reason-of WrongLength = refl
reason-of (Misfit i) = refl
reason-of (Misnamed i) = refl
reason-of (TooDeep i) = refl
reason-of (OwnersClash i) = refl
reason-of (Unreached i) = refl
reason-of TooDear = refl

pub is-refused : (t : List ℕ) (r : Result ℕ Fault) → ((b : ℕ) → r ≡ Ok b → ⊥) → finding r ≡ promised t → accepted t ≡ false
unfolding promised
is-refused t (Ok b) other h = absurd (other b refl)
is-refused t (Err f) other h = rw (ap (λ (x : Finding). x.reason) (sym h)) (reason-of f)
