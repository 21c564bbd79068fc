-- "`cost TABLE EVENTS` takes the events as `run` does and prints a line for each: `event 0 answer 0 trace 3 visits 1`, its number counted
-- from 0, its answer, its trace words and its visits, all in decimal; at the end `most trace 3 event 0 bound 10` and
-- `most visits 1 event 0 bound 1397`: the largest over all events, the number of the first event that has it, and what it is never
-- above: B, and 127 (R + B). Without any event: `most trace 0 event none bound 10`, `most visits 0 event none bound 1397`. A table with a
-- reason prints reason and place as `run` does."
use Rattle.std.specs.Prelude.{ℕ, ◌+◌, ◌*◌, cond, List, [], ◌∷◌, ◌++◌, length, ltb, eqb}
use Rattle.rulebook.specs.Table.{rules}
use Rattle.rulebook.specs.Reasons.{check, accepted, bound}
use Rattle.rulebook.specs.State.{fresh}
use Rattle.rulebook.specs.Step.{Result}
use Rattle.text.specs.Words.{words_of}
use Rattle.text.specs.Lines.{decimal}
use Rattle.session.specs.Printed.{taken, reason_lines}
use Rattle.visits.specs.declared.Largest.{Largest}
use Rattle.visits.specs.declared.Most.{Most}

-- the results of events, each from the state that the one before left; after a refused event too it goes on
unfoldable pub results : List ℕ → List ℕ → List ℕ → List Result
results t s [] = []
results t s (e ∷ es) = taken t s e ∷ results t (taken t s e).state es

-- what a result counts

abbrev pub trace_count : Result → ℕ
trace_count r = length r.words

abbrev pub visit_count : Result → ℕ
visit_count r = r.visits

-- Labels.

abbrev pub space : ℕ
space = 32

abbrev pub newline : ℕ
newline = 10

-- `event `, `answer `, `trace `, `visits `

abbrev pub event_label : List ℕ
event_label = 101 ∷ 118 ∷ 101 ∷ 110 ∷ 116 ∷ 32 ∷ []

abbrev pub answer_label : List ℕ
answer_label = 97 ∷ 110 ∷ 115 ∷ 119 ∷ 101 ∷ 114 ∷ 32 ∷ []

abbrev pub trace_label : List ℕ
trace_label = 116 ∷ 114 ∷ 97 ∷ 99 ∷ 101 ∷ 32 ∷ []

abbrev pub visits_label : List ℕ
visits_label = 118 ∷ 105 ∷ 115 ∷ 105 ∷ 116 ∷ 115 ∷ 32 ∷ []

-- `most trace `, `most visits `, `event none `, `bound `

abbrev pub most_trace_label : List ℕ
most_trace_label = 109 ∷ 111 ∷ 115 ∷ 116 ∷ 32 ∷ 116 ∷ 114 ∷ 97 ∷ 99 ∷ 101 ∷ 32 ∷ []

abbrev pub most_visits_label : List ℕ
most_visits_label = 109 ∷ 111 ∷ 115 ∷ 116 ∷ 32 ∷ 118 ∷ 105 ∷ 115 ∷ 105 ∷ 116 ∷ 115 ∷ 32 ∷ []

abbrev pub no_event_label : List ℕ
no_event_label = 101 ∷ 118 ∷ 101 ∷ 110 ∷ 116 ∷ 32 ∷ 110 ∷ 111 ∷ 110 ∷ 101 ∷ 32 ∷ []

abbrev pub bound_label : List ℕ
bound_label = 98 ∷ 111 ∷ 117 ∷ 110 ∷ 100 ∷ 32 ∷ []

-- a label, a number and the byte behind it
unfoldable pub labelled : List ℕ → ℕ → ℕ → List ℕ
labelled label n end = label ++ (decimal n ++ end ∷ [])

-- The events: `event I answer K trace N visits V`.

unfoldable pub cost_line : ℕ → ℕ → ℕ → ℕ → List ℕ
cost_line i k n v = labelled event_label i space ++ labelled answer_label k space ++ labelled trace_label n space ++ labelled visits_label v newline

-- the first of them has number i
unfoldable pub cost_lines : ℕ → List Result → List ℕ
cost_lines i [] = []
cost_lines i (r ∷ rs) = cost_line i r.answer (trace_count r) (visit_count r) ++ cost_lines (i + 1) rs

-- The largest counts, event by event (`Largest` says what comes of it).

abbrev pub nothing : Most
nothing = record { events = 0; trace = record { count = 0; event = 0 }; visits = record { count = 0; event = 0 } }

-- event i has n: it is named only where it has more than every event before it
unfoldable pub larger : Largest → ℕ → ℕ → Largest
larger l i n = cond (ltb l.count n) (record { count = n; event = i }) l

-- one event more, with n trace words and v visits
unfoldable pub counted : Most → ℕ → ℕ → Most
counted m n v = record { events = m.events + 1; trace = larger m.trace m.events n; visits = larger m.visits m.events v }

unfoldable pub most_after : Most → List Result → Most
most_after m [] = m
most_after m (r ∷ rs) = most_after (counted m (trace_count r) (visit_count r)) rs

-- The end: `most trace N event I bound B` and `most visits V event I bound 127 (R + B)`.

-- `event I `, or `event none ` where there was none
unfoldable pub which : ℕ → ℕ → List ℕ
which events i = cond (eqb events 0) no_event_label (labelled event_label i space)

unfoldable pub largest_line : List ℕ → ℕ → Largest → ℕ → List ℕ
largest_line label events l most = labelled label l.count space ++ which events l.event ++ labelled bound_label most newline

-- Q-10: "at most 127 times the sum of R and B"
abbrev pub visits_bound : List ℕ → ℕ
visits_bound t = 127 * (rules t + bound t)

unfoldable pub most_lines : List ℕ → Most → List ℕ
most_lines t m = largest_line most_trace_label m.events m.trace (bound t) ++ largest_line most_visits_label m.events m.visits (visits_bound t)

-- all of it
unfoldable pub cost_of : List ℕ → List Result → List ℕ
cost_of t rs = cost_lines 0 rs ++ most_lines t (most_after nothing rs)

-- what stands on standard output for the bytes of a table file and of an events file
unfoldable pub cost_printed : List ℕ → List ℕ → List ℕ
cost_printed table events =
    cond (accepted (words_of table)) (cost_of (words_of table) (results (words_of table) (fresh (words_of table)) (words_of events)))
    (reason_lines (check (words_of table)))
