-- Logs: the events that were taken, one after the other, and what each gave. "Only those answered 0 count": a refused call leaves no
-- entry, and no entry tells how much trace was lent.
use Rattle.std.specs.Prelude.{◌≡◌, Bool, true, false, List, [], ◌∷◌, ◌++◌, ℕ}
use Rattle.rulebook.specs.Table.{stranger}
use Rattle.rulebook.specs.Lists.{Run}
use Rattle.rulebook.specs.Events.{event_owner, happen}
use Rattle.rulebook.specs.Step.{refused_event, heeded}

-- an event, the outcome words that were lent with it, the state after it and the trace words that it wrote
pub record Entry : Type 0 where
  pub event : ℕ
  pub outcomes : List ℕ
  pub state : List ℕ
  pub words : List ℕ

-- what an entry's event does from state s, with the outcomes lent
abbrev pub ran : List ℕ → List ℕ → Entry → Run
ran t s x = happen t x.event (heeded t x.outcomes) s

-- entry x is what its event, which is not refused, gives from state s
pub record Follows (t s : List ℕ) (x : Entry) : Type 0 where
  pub taken : refused_event t x.outcomes x.event ≡ 0
  pub state : x.state ≡ (ran t s x).state
  pub words : x.words ≡ (ran t s x).words

-- "pass each state on": each entry follows from the state that the one before left
abbrev pub Log : List ℕ → List ℕ → List Entry → Type 0
Log t s [] = Unit {0}
Log t s (x ∷ xs) = Follows t s x × Log t x.state xs

-- the state after a log that starts in s
unfoldable pub state_after : List ℕ → List Entry → List ℕ
state_after s [] = s
state_after s (x ∷ xs) = state_after x.state xs

-- The log of events that are taken one after the other from state s, as single calls that lend no outcomes would leave it; and the words
-- of a log, joined.

unfoldable pub log_from : List ℕ → List ℕ → List ℕ → List Entry
log_from t s [] = []
log_from t s (e ∷ es) =
    record { event = e; outcomes = []; state = (happen t e [] s).state; words = (happen t e [] s).words } ∷ log_from t (happen t e [] s).state es

unfoldable pub joined : List Entry → List ℕ
joined [] = []
joined (x ∷ xs) = x.words ++ joined xs

-- an entry under the number of a stranger to o
unfoldable pub strangers_entry : ℕ → Entry → Bool
strangers_entry o x = stranger o (event_owner x.event)

-- the events of a log, the strangers' struck out
unfoldable pub struck_out : ℕ → List Entry → List ℕ
struck_out o [] = []
struck_out o (x ∷ xs) = elim (strangers_entry o x) [ true ↦ struck_out o xs | false ↦ x.event ∷ struck_out o xs ]
