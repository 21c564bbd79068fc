-- Which answer an event gets.
use Rattle.std.specs.Prelude.{ℕ, cond, List, Result, Ok, Err}
use Rattle.rulebook.specs.Step.{well_formed, outcomes_known, known, sent_by_owner}
use Rattle.refusals.specs.declared.Unheeded.{Unheeded}
use Rattle.refusals.specs.declared.Unheeded.TheVariants.{Malformed, BadOutcome, NoSuchThing, NotItsOwner}

-- the documents' number for each answer
abbrev pub number_of : Unheeded → ℕ
number_of Malformed = 4
number_of BadOutcome = 8
number_of NoSuchThing = 5
number_of NotItsOwner = 6

abbrev pub answer_of : Result (Unit {0}) Unheeded → ℕ
answer_of (Ok taken) = 0
answer_of (Err why) = number_of why

-- the first of the four checks that fails
unfoldable pub event_checked : List ℕ → List ℕ → ℕ → Result (Unit {0}) Unheeded
event_checked t os e =
    cond (well_formed e)
    (cond (outcomes_known os) (cond (known t e) (cond (sent_by_owner t e) (Ok tt) (Err NotItsOwner)) (Err NoSuchThing)) (Err BadOutcome)) (Err Malformed)
