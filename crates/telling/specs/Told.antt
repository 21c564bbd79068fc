-- What `hold TABLE EVENTS LOG` says of one event: nothing where the supplier's recording is as our tables order, else "the event, the verdict, the
-- words on both sides from there". So for the marked request with a wrong second word:
--
--     event 0 11000500
--     traces part at word 1
--     ours 41000002
--     ours 01001234
--     supplier 41000001
--     supplier 01001234
use Rattle.std.specs.Prelude.{ℕ, cond, List, [], ◌∷◌, ◌++◌, length, take, drop, eqb}
use Rattle.rulebook.specs.Step.{Result}
use Rattle.rulebook.specs.Hold.{Held, told, beside, as_ordered, traces_part, theirs_stops, ours_stops, states_part}
use Rattle.text.specs.Lines.{decimal, decimal_line, hex_line}

-- A recording's words: as many as our state has are the supplier's state, the others its trace.

abbrev pub their_state : Result → List ℕ → List ℕ
their_state r ws = take (length r.state) ws

abbrev pub their_trace : Result → List ℕ → List ℕ
their_trace r ws = drop (length r.state) ws

-- A log has the supplier's answer too, and a refused event has to be refused there: first the answers, then as in the call. Where both refuse,
-- our words are none and our state is the one before.

abbrev pub answers_part : ℕ
answers_part = 6

unfoldable pub held_event : Result → ℕ → List ℕ → Held
held_event r answer ws = cond (eqb r.answer answer) (beside r.words r.state (their_trace r ws) (their_state r ws)) (told answers_part 0 [])

-- `event 0 11000500`
unfoldable pub event_line : ℕ → ℕ → List ℕ
event_line n e = (101 ∷ 118 ∷ 101 ∷ 110 ∷ 116 ∷ 32 ∷ []) ++ (decimal n ++ 32 ∷ []) ++ hex_line e

-- `traces part at word `
unfoldable pub traces_label : List ℕ
traces_label =
    116 ∷ 114 ∷ 97 ∷ 99 ∷ 101 ∷ 115 ∷ 32 ∷ 112 ∷ 97 ∷ 114 ∷ 116 ∷ 32 ∷ 97 ∷ 116 ∷ 32 ∷ 119 ∷ 111 ∷ 114 ∷ 100 ∷ 32 ∷ []

-- `the supplier's trace stops at word `
unfoldable pub stops_label : List ℕ
stops_label =
    116 ∷ 104 ∷ 101 ∷ 32 ∷ 115 ∷ 117 ∷ 112 ∷ 112 ∷ 108 ∷ 105 ∷ 101 ∷ 114 ∷ 39 ∷ 115 ∷ 32 ∷ 116 ∷ 114 ∷ 97 ∷ 99 ∷ 101
    ∷ 32 ∷ 115 ∷ 116 ∷ 111 ∷ 112 ∷ 115 ∷ 32 ∷ 97 ∷ 116 ∷ 32 ∷ 119 ∷ 111 ∷ 114 ∷ 100 ∷ 32 ∷ []

-- `the supplier's trace goes on at word `
unfoldable pub goes_label : List ℕ
goes_label =
    116 ∷ 104 ∷ 101 ∷ 32 ∷ 115 ∷ 117 ∷ 112 ∷ 112 ∷ 108 ∷ 105 ∷ 101 ∷ 114 ∷ 39 ∷ 115 ∷ 32 ∷ 116 ∷ 114 ∷ 97 ∷ 99 ∷ 101
    ∷ 32 ∷ 103 ∷ 111 ∷ 101 ∷ 115 ∷ 32 ∷ 111 ∷ 110 ∷ 32 ∷ 97 ∷ 116 ∷ 32 ∷ 119 ∷ 111 ∷ 114 ∷ 100 ∷ 32 ∷ []

-- `states part at word `
unfoldable pub states_label : List ℕ
states_label =
    115 ∷ 116 ∷ 97 ∷ 116 ∷ 101 ∷ 115 ∷ 32 ∷ 112 ∷ 97 ∷ 114 ∷ 116 ∷ 32 ∷ 97 ∷ 116 ∷ 32 ∷ 119 ∷ 111 ∷ 114 ∷ 100 ∷ 32
    ∷ []

unfoldable pub verdict_label : ℕ → List ℕ
verdict_label v =
    cond (eqb v traces_part) traces_label (cond (eqb v theirs_stops) stops_label (cond (eqb v ours_stops) goes_label states_label))

-- `answers part`, or the label and the word's number
unfoldable pub verdict_line : ℕ → ℕ → List ℕ
verdict_line v k = cond (eqb v answers_part) (97 ∷ 110 ∷ 115 ∷ 119 ∷ 101 ∷ 114 ∷ 115 ∷ 32 ∷ 112 ∷ 97 ∷ 114 ∷ 116 ∷ 10 ∷ []) (verdict_label v ++ decimal_line k)

-- a line for each word, behind a label
unfoldable pub labelled : List ℕ → List ℕ → List ℕ
labelled label [] = []
labelled label (w ∷ ws) = (label ++ hex_line w) ++ labelled label ws

-- `ours `, `supplier `

unfoldable pub ours : List ℕ
ours = 111 ∷ 117 ∷ 114 ∷ 115 ∷ 32 ∷ []

unfoldable pub supplier : List ℕ
supplier = 115 ∷ 117 ∷ 112 ∷ 112 ∷ 108 ∷ 105 ∷ 101 ∷ 114 ∷ 32 ∷ []

-- one side: where the answers part the answer, then the words from there
unfoldable pub side : List ℕ → ℕ → ℕ → List ℕ → List ℕ
side label v answer ws = cond (eqb v answers_part) (label ++ decimal_line answer) [] ++ labelled label ws

-- "the words on both sides from there": of the states where these part, else of the traces
unfoldable pub sides : Held → Result → ℕ → List ℕ → List ℕ
sides h r answer ws =
    cond (eqb h.verdict states_part)
    (side ours h.verdict r.answer (drop h.number r.state) ++ side supplier h.verdict answer (drop h.number (their_state r ws)))
    (side ours h.verdict r.answer (drop h.number r.words) ++ side supplier h.verdict answer (drop h.number (their_trace r ws)))

-- the n-th event e, our result r, the supplier's answer and words
unfoldable pub told_lines : ℕ → ℕ → Result → ℕ → List ℕ → List ℕ
told_lines n e r answer ws =
    cond (eqb (held_event r answer ws).verdict as_ordered) []
    ((event_line n e ++ verdict_line (held_event r answer ws).verdict (held_event r answer ws).number) ++ sides (held_event r answer ws) r answer ws)

-- The last line: `14 events: all as our tables order`, or `14 events: 2 not as our tables order`.

unfoldable pub events_label : List ℕ
events_label = 101 ∷ 118 ∷ 101 ∷ 110 ∷ 116 ∷ 115 ∷ 58 ∷ 32 ∷ []

unfoldable pub all_label : List ℕ
all_label = 97 ∷ 108 ∷ 108 ∷ 32 ∷ 97 ∷ 115 ∷ 32 ∷ 111 ∷ 117 ∷ 114 ∷ 32 ∷ 116 ∷ 97 ∷ 98 ∷ 108 ∷ 101 ∷ 115 ∷ 32 ∷ 111 ∷ 114 ∷ 100 ∷ 101 ∷ 114 ∷ 10 ∷ []

unfoldable pub not_label : List ℕ
not_label = 110 ∷ 111 ∷ 116 ∷ 32 ∷ 97 ∷ 115 ∷ 32 ∷ 111 ∷ 117 ∷ 114 ∷ 32 ∷ 116 ∷ 97 ∷ 98 ∷ 108 ∷ 101 ∷ 115 ∷ 32 ∷ 111 ∷ 114 ∷ 100 ∷ 101 ∷ 114 ∷ 10 ∷ []

unfoldable pub total_line : ℕ → ℕ → List ℕ
total_line n m = (decimal n ++ 32 ∷ []) ++ events_label ++ cond (eqb m 0) all_label ((decimal m ++ 32 ∷ []) ++ not_label)
