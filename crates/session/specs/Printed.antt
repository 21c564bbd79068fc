-- "A program that runs a table and a file of events and prints, after each, the answer in decimal, then state and trace, one item a
-- line, words in eight capital hex digits. It lends B trace words and prints those the count covers. A table with a reason prints
-- reason and place, two decimal lines, and ends; bytes past the last whole word of a file are ignored."
use Rattle.std.specs.Prelude.{ℕ, ◌+◌, ◌*◌, cond, List, [], ◌∷◌, ◌++◌}
use Rattle.rulebook.specs.Reasons.{Verdict, check, accepted, bound}
use Rattle.rulebook.specs.State.{fresh}
use Rattle.rulebook.specs.Step.{Result, step}
use Rattle.text.specs.Words.{words_of}
use Rattle.text.specs.Lines.{decimal_line, hex_lines}

-- an answer, a state and trace words
unfoldable pub lines : ℕ → List ℕ → List ℕ → List ℕ
lines answer state words = decimal_line answer ++ hex_lines state ++ hex_lines words

-- one event, with B trace words lent and no outcomes: all calls are good
abbrev pub taken : List ℕ → List ℕ → ℕ → Result
taken t s e = step t s (bound t) [] e

unfoldable pub event_lines : List ℕ → List ℕ → ℕ → List ℕ
event_lines t s e = lines (taken t s e).answer (taken t s e).state (taken t s e).words

-- the events of a run from a state, each from the state that the one before left; after a refused event too it goes on
unfoldable pub run_lines : List ℕ → List ℕ → List ℕ → List ℕ
run_lines t s [] = []
run_lines t s (e ∷ es) = event_lines t s e ++ run_lines t (taken t s e).state es

unfoldable pub state_after : List ℕ → List ℕ → List ℕ → List ℕ
state_after t s [] = s
state_after t s (e ∷ es) = state_after t (taken t s e).state es

unfoldable pub reason_lines : Verdict → List ℕ
reason_lines v = decimal_line v.reason ++ decimal_line v.place

-- what stands on standard output for the bytes of a table file and of an events file
unfoldable pub printed : List ℕ → List ℕ → List ℕ
printed table events =
    cond (accepted (words_of table)) (run_lines (words_of table) (fresh (words_of table)) (words_of events)) (reason_lines (check (words_of table)))

-- the most bytes that one event prints: its answer's line, and nine bytes for each of 360 state words and 4,096 trace words
abbrev pub most : ℕ
most = 2 + 9 * (360 + 4096)

-- how many words of a table file are read, one more than the longest table has: what stands behind them changes nothing
abbrev pub table_words : ℕ
table_words = 3186
