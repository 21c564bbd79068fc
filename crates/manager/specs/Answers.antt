-- The answers in document 01's numbers.
use Rattle.std.specs.Prelude.{ℕ, Result, Ok, Err}
use Rattle.states.specs.declared.NotAdmitted.{NotAdmitted}
use Rattle.states.specs.declared.NotAdmitted.TheVariants.{BadTable, UnfitState}
use Rattle.manager.specs.declared.End.{End}
use Rattle.manager.specs.declared.End.TheVariants as ends

abbrev pub state_number : Result (Unit {0}) NotAdmitted → ℕ
state_number (Ok u) = 0
state_number (Err BadTable) = 1
state_number (Err UnfitState) = 2

-- Q-1: "trace full" takes "the place of answer 3"
abbrev pub end_number : Result (Unit {0}) End → ℕ
end_number (Ok u) = 0
end_number (Err ends.BadTable) = 1
end_number (Err ends.UnfitState) = 2
end_number (Err ends.TraceFull) = 3
end_number (Err ends.Malformed) = 4
end_number (Err ends.NoSuchThing) = 5
end_number (Err ends.NotItsOwner) = 6
