-- Document 01's five idle programs, the fourth (only the first list or tick) and the fifth (an invented count) in two parts each. A
-- program is whatever gives an answer, a state and a trace for each input; each definition says of a program that it idles in one way,
-- and proofs/Idle that no program that meets the event call's promise does.
use Rattle.std.specs.Prelude.{◌≡◌, Bool, List, [], ◌∷◌, ◌++◌, ℕ, ◌<◌, ◌^◌, length, take, drop}
use Rattle.rulebook.specs.Events.{happen}
use Rattle.rulebook.specs.Step.{heeded, step}
use Rattle.laws.specs.Sequence.{Each}
use Rattle.laws.specs.Chosen.{run_all, before_lists, ListsRan}
use Rattle.events.specs.Answers.{Answered, number_of, count_of, visits_of}
use Rattle.manager.specs.Promises.{TakesEvent}

-- what a program gives
pub record Gave : Type 0 where
  pub answer : Answered
  pub state : List ℕ
  pub trace : List ℕ

-- of a table, a state, a trace, outcome words and an event word
abbrev pub Program : Type 0
Program = List ℕ → List ℕ → List ℕ → List ℕ → ℕ → Gave

-- "Table, state and trace are lent tables of 32-bit words", and so are outcomes: the inputs that the code can be given

abbrev pub Words : List ℕ → Type 0
Words ws = Each (λ w. w < 2 ^ 32) ws

pub record Input (t s lent os : List ℕ) (e : ℕ) : Type 0 where
  pub table : Words t
  pub state : Words s
  pub trace : Words lent
  pub outcomes : Words os
  pub event : e < 2 ^ 32

-- it gives what `take_event` promises
abbrev pub Meets : Program → Type 0
Meets p = (t s trace os : List ℕ) (e : ℕ) → Input t s trace os e
    → TakesEvent t s trace os e (p t s trace os e).answer (p t s trace os e).state (p t s trace os e).trace

-- it leaves words, as the code does
abbrev pub LeavesWords : Program → Type 0
LeavesWords p = (t s trace os : List ℕ) (e : ℕ) → Input t s trace os e → Words (p t s trace os e).state × Words (p t s trace os e).trace

abbrev pub RefusesAll : Program → Type 0
RefusesAll p = (t s trace os : List ℕ) (e : ℕ) → Input t s trace os e → number_of (p t s trace os e).answer ≡ 0 → ⊥

-- one answer for all
abbrev pub AnswersAlike : Program → Type 0
AnswersAlike p = (t s trace os : List ℕ) (e d : ℕ) → Input t s trace os e → Input t s trace os d
    → number_of (p t s trace os e).answer ≡ number_of (p t s trace os d).answer

abbrev pub DoesNothing : Program → Type 0
DoesNothing p = (t s trace os : List ℕ) (e : ℕ) → Input t s trace os e → (p t s trace os e).state ≡ s

-- a tick that follows a tick changes nothing
abbrev pub OnlyFirstTick : Program → Type 0
OnlyFirstTick p = (t s trace os : List ℕ) → Input t s trace os 0 → (p t (p t s trace os 0).state trace os 0).state ≡ (p t s trace os 0).state

-- a call that is done and in which two lists or more are to run, one after the other
pub record Several (t s trace os : List ℕ) (e : ℕ) : Type 0 where
  pub input : Input t s trace os e
  pub done : (step t s (length trace) os e).answer ≡ 0
  pub ports : ℕ → Bool
  pub from : List ℕ
  pub lists : ListsRan t ports (heeded t os) from (happen t e (heeded t os) s).state (happen t e (heeded t os) s).words
  pub first : ℕ
  pub second : ℕ
  pub more : List ℕ
  pub several : lists.ran ≡ first ∷ second ∷ more

-- in some such call it writes what the first of the lists writes, and no more
pub record OnlyFirstList (p : Program) : Type 0 where
  pub table : List ℕ
  pub state : List ℕ
  pub trace : List ℕ
  pub outcomes : List ℕ
  pub event : ℕ
  pub call : Several table state trace outcomes event
  pub alone : take (count_of (p table state trace outcomes event).answer) (p table state trace outcomes event).trace
      ≡ (run_all table (call.first ∷ []) (before_lists table call.ports (heeded table outcomes) call.from)).words

-- The words that a program writes of a trace of some length are those that do not hang on it: whatever is lent, they stand at its
-- front afterwards, and the rest is as it was.
abbrev pub Writes : Program → List ℕ → List ℕ → ℕ → List ℕ → ℕ → List ℕ → Type 0
Writes p t s room os e ws = (trace : List ℕ) → Words trace → length trace ≡ room → (p t s trace os e).trace ≡ ws ++ drop (length ws) trace

-- in some call that is done, the count is not the number of words that it writes
pub record InventsCount (p : Program) : Type 0 where
  pub table : List ℕ
  pub state : List ℕ
  pub trace : List ℕ
  pub outcomes : List ℕ
  pub event : ℕ
  pub input : Input table state trace outcomes event
  pub done : number_of (p table state trace outcomes event).answer ≡ 0
  pub words : List ℕ
  pub writes : Writes p table state (length trace) outcomes event words
  pub count : count_of (p table state trace outcomes event).answer ≡ length words → ⊥

-- the count is one number, whatever is written
abbrev pub CountsAlike : Program → Type 0
CountsAlike p = (t s₁ s₂ trace os : List ℕ) (e d : ℕ) → Input t s₁ trace os e → Input t s₂ trace os d
    → number_of (p t s₁ trace os e).answer ≡ 0 → number_of (p t s₂ trace os d).answer ≡ 0
    → count_of (p t s₁ trace os e).answer ≡ count_of (p t s₂ trace os d).answer

-- Q-10: and so are the visits
abbrev pub VisitsAlike : Program → Type 0
VisitsAlike p = (t s₁ s₂ trace os : List ℕ) (e d : ℕ) → Input t s₁ trace os e → Input t s₂ trace os d
    → number_of (p t s₁ trace os e).answer ≡ 0 → number_of (p t s₂ trace os d).answer ≡ 0
    → visits_of (p t s₁ trace os e).answer ≡ visits_of (p t s₂ trace os d).answer
