-- The answers of an event call in document 01's numbers, and what a call promises of a result of the rulebook.
use Rattle.std.specs.Prelude.{ℕ, ◌≡◌, List, ◌++◌, length, drop, Result, Ok, Err}
use Rattle.rulebook.specs.Step as rulebook
use Rattle.states.specs.declared.NotAdmitted.{NotAdmitted}
use Rattle.states.specs.declared.NotAdmitted.TheVariants as admission
use Rattle.refusals.specs.declared.Unheeded.{Unheeded}
use Rattle.refusals.specs.declared.Unheeded.TheVariants as unheeded
use Rattle.events.specs.declared.Report.{Report}
use Rattle.events.specs.declared.Refusal.{Refusal}
use Rattle.events.specs.declared.Refusal.TheVariants.{BadTable, UnfitState, ShortTrace, Malformed, NoSuchThing, NotItsOwner, BadOutcome}

-- the refusal of an event that is not taken
abbrev pub refusal_of : Unheeded → Refusal
refusal_of unheeded.Malformed = Malformed
refusal_of unheeded.BadOutcome = BadOutcome
refusal_of unheeded.NoSuchThing = NoSuchThing
refusal_of unheeded.NotItsOwner = NotItsOwner

-- the refusal where a table or a state does not stand
abbrev pub unadmitted : NotAdmitted → Refusal
unadmitted admission.BadTable = BadTable
unadmitted admission.UnfitState = UnfitState

abbrev pub refusal_number : Refusal → ℕ
refusal_number BadTable = 1
refusal_number UnfitState = 2
refusal_number ShortTrace = 3
refusal_number Malformed = 4
refusal_number NoSuchThing = 5
refusal_number NotItsOwner = 6
refusal_number BadOutcome = 8

-- what an event call answers
abbrev pub Answered : Type 0
Answered = Result Report Refusal

abbrev pub number_of : Answered → ℕ
number_of (Ok report) = 0
number_of (Err why) = refusal_number why

-- the reported count; a refusal's is 0
abbrev pub count_of : Answered → ℕ
count_of (Ok report) = report.count
count_of (Err why) = 0

-- the reported visits; a refusal's are 0
abbrev pub visits_of : Answered → ℕ
visits_of (Ok report) = report.visits
visits_of (Err why) = 0

-- The numbers k, n and v tell result x: its answer, the number of its words as the count, and its visits; the state is x's; x's words stand
-- at the front of the trace, and its other words are unchanged.
pub record Tells (x : rulebook.Result) (trace : List ℕ) (k n v : ℕ) (s' trace' : List ℕ) : Type 0 where
  pub answer : k ≡ x.answer
  pub count : n ≡ length x.words
  pub visits : v ≡ x.visits
  pub state : s' ≡ x.state
  pub words : trace' ≡ x.words ++ drop (length x.words) trace

abbrev pub Reports : rulebook.Result → List ℕ → Answered → List ℕ → List ℕ → Type 0
Reports x trace r s' trace' = Tells x trace (number_of r) (count_of r) (visits_of r) s' trace'
