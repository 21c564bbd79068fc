-- "`play TABLE EVENTS` plays the whole file from fresh, resuming at 'trace full', in constant memory, and prints labelled lines in a
-- person's order: `trace F1000000` for each word as the day goes, then the state after it, one line a word, as `port 0 81400000`,
-- `rule 0 40000000`, `network 0 98000000`, `source 0 ..`, then `taken N` and `answer K` (0, or the first refusal; the event refused is the
-- one after the N-th, and it ends the play). A table with a reason prints reason and place as `run` does." Q-10: between the two last
-- lines `visits V`, the sum over the events taken.
use Rattle.std.specs.Prelude.{ℕ, ◌+◌, ◌*◌, ◌%◌, cond, List, [], ◌∷◌, ◌++◌, length}
use Rattle.rulebook.specs.Reasons.{check, accepted, bound}
use Rattle.rulebook.specs.State.{Thing, a_port, a_rule, a_network, a_source, thing, fresh}
use Rattle.rulebook.specs.Play.{Play, play}
use Rattle.text.specs.Words.{words_of}
use Rattle.text.specs.Lines.{decimal, decimal_line, hex_line}
use Rattle.session.specs.Printed.{reason_lines}

abbrev pub space : List ℕ
space = 32 ∷ []

-- `trace ` and the word
unfoldable pub trace_line : ℕ → List ℕ
trace_line w = (116 ∷ 114 ∷ 97 ∷ 99 ∷ 101 ∷ 32 ∷ []) ++ hex_line w

unfoldable pub trace_lines : List ℕ → List ℕ
trace_lines [] = []
trace_lines (w ∷ ws) = trace_line w ++ trace_lines ws

-- `port `, `rule `, `network `, `source `
unfoldable pub label : Thing → List ℕ
label (a_port p) = 112 ∷ 111 ∷ 114 ∷ 116 ∷ 32 ∷ []
label (a_rule r) = 114 ∷ 117 ∷ 108 ∷ 101 ∷ 32 ∷ []
label (a_network n) = 110 ∷ 101 ∷ 116 ∷ 119 ∷ 111 ∷ 114 ∷ 107 ∷ 32 ∷ []
label (a_source k) = 115 ∷ 111 ∷ 117 ∷ 114 ∷ 99 ∷ 101 ∷ 32 ∷ []

-- a thing's number within its section
unfoldable pub number : Thing → ℕ
number (a_port p) = p
number (a_rule r) = r
number (a_network n) = n
number (a_source k) = k

unfoldable pub named : Thing → List ℕ
named x = label x ++ decimal (number x) ++ space

-- a thing and its word
unfoldable pub thing_line : Thing → ℕ → List ℕ
thing_line x w = named x ++ hex_line w

-- the words of a state, the first of which stands at i
unfoldable pub lines_from : List ℕ → ℕ → List ℕ → List ℕ
lines_from t i [] = []
lines_from t i (w ∷ ws) = thing_line (thing t i) w ++ lines_from t (i + 1) ws

unfoldable pub state_lines : List ℕ → List ℕ → List ℕ
state_lines t s = lines_from t 0 s

-- `taken N`, `visits V` and `answer K`
unfoldable pub end_lines : ℕ → ℕ → ℕ → List ℕ
end_lines taken visits answer =
    (116 ∷ 97 ∷ 107 ∷ 101 ∷ 110 ∷ 32 ∷ [])
    ++ decimal_line taken
    ++ (118 ∷ 105 ∷ 115 ∷ 105 ∷ 116 ∷ 115 ∷ 32 ∷ [])
    ++ decimal_line visits
    ++ (97 ∷ 110 ∷ 115 ∷ 119 ∷ 101 ∷ 114 ∷ 32 ∷ [])
    ++ decimal_line answer

-- a sum of visits as 64 bits tell it
abbrev pub in64 : ℕ → ℕ
in64 visits = visits % 18446744073709551616

-- one play with room for all its events: B trace words for each of them
unfoldable pub whole : List ℕ → List ℕ → List ℕ → Play
whole t s es = play t s (length es * bound t) es

unfoldable pub day_lines : List ℕ → Play → List ℕ
day_lines t p = trace_lines p.words ++ state_lines t p.state ++ end_lines p.taken (in64 p.visits) p.answer

-- what stands on standard output for the bytes of a table file and of an events file
unfoldable pub played : List ℕ → List ℕ → List ℕ
played table events =
    cond (accepted (words_of table)) (day_lines (words_of table) (whole (words_of table) (fresh (words_of table)) (words_of events)))
    (reason_lines (check (words_of table)))
