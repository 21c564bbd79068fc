-- What the check of a table and a state promises: document 01's number, and B where both stand.
use Rattle.std.specs.Prelude.{ℕ, ◌≡◌, cond, List, eqb, Result, Ok, Err}
use Rattle.rulebook.specs.Reasons.{bound}
use Rattle.rulebook.specs.Step.{refused_state}
use Rattle.states.specs.declared.NotAdmitted.{NotAdmitted}
use Rattle.states.specs.declared.NotAdmitted.TheVariants.{BadTable, UnfitState}

abbrev pub number_of : Result ℕ NotAdmitted → ℕ
number_of (Ok b) = 0
number_of (Err BadTable) = 1
number_of (Err UnfitState) = 2

-- B; 0 where one does not stand
abbrev pub bound_of : Result ℕ NotAdmitted → ℕ
bound_of (Ok b) = b
bound_of (Err e) = 0

pub record Admits (t s : List ℕ) (r : Result ℕ NotAdmitted) : Type 0 where
  pub number : number_of r ≡ refused_state t s
  pub bound : bound_of r ≡ cond (eqb (refused_state t s) 0) (bound t) 0
