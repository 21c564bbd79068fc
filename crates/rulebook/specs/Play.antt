-- Q-1: "a whole shift's event words played in one call, table and state checked once, even with no events. The answer is the number of
-- events taken and the first refusal, with the state and the joined trace just as single calls would give."
use Rattle.std.specs.Prelude.{ℕ, ◌+◌, ◌-◌, cond, List, [], ◌∷◌, ◌++◌, length, eqb}
use Rattle.rulebook.specs.Step.{Result, refused_state, step}

-- the answer is 0 after the last event, or the number of what ended the play before an event
pub record Play : Type 0 where
  pub answer : ℕ
  pub taken : ℕ
  pub state : List ℕ
  pub words : List ℕ
  pub visits : ℕ

-- no event is taken: answer k
abbrev pub ending : ℕ → List ℕ → Play
ending k s = record { answer = k; taken = 0; state = s; words = []; visits = 0 }

-- n events that wrote ws and made v visits, and then play p
abbrev pub onto : ℕ → List ℕ → ℕ → Play → Play
onto n ws v p = record { answer = p.answer; taken = n + p.taken; state = p.state; words = ws ++ p.words; visits = v + p.visits }

-- "A refused event ends the play": r is what a single call gives in this room, and `later` plays on from its state in the room left
unfoldable pub goes_on : Result → ℕ → (List ℕ → ℕ → Play) → Play
goes_on r room later =
    cond (eqb r.answer 0) (onto 1 r.words r.visits (later r.state (room - length r.words))) (ending r.answer r.state)

-- The events one after the other, from state s, with so many trace words free. "It stops before an event when fewer than B trace words
-- are free, says 'trace full' exactly then .. That stop takes the place of answer 3": it is the single call's answer 3 in the room left.
-- Q-9: "In play all calls are good": no outcomes are lent.
unfoldable pub play_on : List ℕ → List ℕ → List ℕ → ℕ → Play
play_on t [] s room = ending 0 s
play_on t (e ∷ es) s room = goes_on (step t s room [] e) room (play_on t es)

-- "table and state checked once, even with no events"
unfoldable pub play : List ℕ → List ℕ → ℕ → List ℕ → Play
play t s room es = cond (eqb (refused_state t s) 0) (play_on t es s room) (ending (refused_state t s) s)
