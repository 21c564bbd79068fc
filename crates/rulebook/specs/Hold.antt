-- Q-7: "A supplier's manager writes the same trace words. We hold the table, the state before, one event, and the supplier's trace and state
-- after." Of two recordings ours is named first, the supplier's second.
use Rattle.std.specs.Prelude.{ℕ, suc, ◌&&◌, ◌||◌, cond, List, [], ◌∷◌, length, drop, eqb, ltb}
use Rattle.rulebook.specs.Step.{Result, step}

-- "the first differing word", by its number from 0; where one merely stops early "the shorter length"
unfoldable pub parting : List ℕ → List ℕ → ℕ
parting [] ys = 0
parting (x ∷ xs) [] = 0
parting (x ∷ xs) (y ∷ ys) = cond (eqb x y) (suc (parting xs ys)) 0

-- the verdict's number; the number that it gives, of an answer or of a word; and the part that is handed back
pub record Held : Type 0 where
  pub verdict : ℕ
  pub number : ℕ
  pub part : List ℕ

abbrev pub told : ℕ → ℕ → List ℕ → Held
told v k ws = record { verdict = v; number = k; part = ws }

-- The verdicts in numbers, document 02 having none: 0 yes; the others in the order in which they are tried. "If one merely stops early" has
-- two, for whoever is handed words must know whose they are.

abbrev pub as_ordered : ℕ
as_ordered = 0

abbrev pub refused : ℕ
refused = 1

abbrev pub traces_part : ℕ
traces_part = 2

abbrev pub theirs_stops : ℕ
theirs_stops = 3

abbrev pub ours_stops : ℕ
ours_stops = 4

abbrev pub states_part : ℕ
states_part = 5

-- "If only the states part, give the first differing state word (or the shorter length) and an empty part." Else yes.
unfoldable pub held_states : ℕ → List ℕ → List ℕ → Held
held_states k ours theirs = cond (ltb k (length ours) || ltb k (length theirs)) (told states_part k []) (told as_ordered 0 [])

-- "If the traces part, give the first differing word and hand back the supplier's words from there. If one merely stops early, give the
-- shorter length and hand back the rest of whichever recording is longer, the supplier's or ours."
unfoldable pub held_traces : ℕ → List ℕ → List ℕ → Held → Held
held_traces k ours theirs states =
    cond (ltb k (length ours) && ltb k (length theirs)) (told traces_part k (drop k theirs))
    (cond (ltb k (length ours)) (told theirs_stops k (drop k ours))
    (cond (ltb k (length theirs)) (told ours_stops k (drop k theirs)) states))

-- our words and our state against the supplier's
unfoldable pub beside : List ℕ → List ℕ → List ℕ → List ℕ → Held
beside ours state theirs their_state =
    held_traces (parting ours theirs) ours theirs (held_states (parting state their_state) state their_state)

-- "If our step would refuse, give its answer and an empty part."
unfoldable pub held_by : Result → List ℕ → List ℕ → Held
held_by r theirs their_state = cond (eqb r.answer 0) (beside r.words r.state theirs their_state) (told refused r.answer [])

-- of table t, state s, so many trace words lent, the outcomes os and event e. Q-9: "A supplier's log is compared with the outcomes given."
unfoldable pub held_against : List ℕ → List ℕ → ℕ → List ℕ → ℕ → List ℕ → List ℕ → Held
held_against t s room os e theirs their_state = held_by (step t s room os e) theirs their_state
