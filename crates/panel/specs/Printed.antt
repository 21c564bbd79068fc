-- Q-13: "Given an operator number, it prints that operator's ports, networks, sources and trace words in table order, one per line, the
-- newest step's words last." So `port 0 81400000`, `network 0 80000000`, `source 0 40000008`, `trace F1000000`: the number within the
-- section in decimal, the word in eight capital hex digits. Rule words are not shown.
use Rattle.std.specs.Prelude.{ℕ, zero, suc, Bool, cond, not, List, [], ◌∷◌, ◌++◌, length, ltb, eqb}
use Rattle.rulebook.specs.Words.{word, between}
use Rattle.rulebook.specs.Table.{ports, networks, sources, port_owner, network_owner, source_owner}
use Rattle.rulebook.specs.State.{network_index, source_index}
use Rattle.rulebook.specs.Lists.{trace_owner}
use Rattle.rulebook.specs.Step.{refused_state}
use Rattle.text.specs.Lines.{decimal, hex_line}

-- The four parts of a panel by their numbers, and what each has in such a place: "ports, networks, sources and trace words".

abbrev pub the_ports : ℕ
the_ports = 0

abbrev pub the_networks : ℕ
the_networks = 1

abbrev pub the_sources : ℕ
the_sources = 2

abbrev pub the_trace : ℕ
the_trace = 3

unfoldable pub by_part : {A : Type 0} → ℕ → A → A → A → A → A
by_part part port network source trace =
    cond (eqb part the_ports) port (cond (eqb part the_networks) network (cond (eqb part the_sources) source trace))

-- how many words a part has; whose the i-th is; the word itself; `port `, `network `, `source `, `trace `

unfoldable pub count : ℕ → List ℕ → List ℕ → ℕ
count part t ws = by_part part (ports t) (networks t) (sources t) (length ws)

unfoldable pub owner : ℕ → List ℕ → List ℕ → ℕ → ℕ
owner part t ws i = by_part part (port_owner t i) (network_owner t i) (source_owner t i) (trace_owner (word ws i))

unfoldable pub shown_word : ℕ → List ℕ → List ℕ → List ℕ → ℕ → ℕ
shown_word part t s ws i = by_part part (word s i) (word s (network_index t i)) (word s (source_index t i)) (word ws i)

unfoldable pub label : ℕ → List ℕ
label part =
    by_part part (112 ∷ 111 ∷ 114 ∷ 116 ∷ 32 ∷ []) (110 ∷ 101 ∷ 116 ∷ 119 ∷ 111 ∷ 114 ∷ 107 ∷ 32 ∷ [])
    (115 ∷ 111 ∷ 117 ∷ 114 ∷ 99 ∷ 101 ∷ 32 ∷ []) (116 ∷ 114 ∷ 97 ∷ 99 ∷ 101 ∷ 32 ∷ [])

-- a thing's number and a space; a trace word has none
unfoldable pub numeral : ℕ → ℕ → List ℕ
numeral part i = by_part part (decimal i ++ 32 ∷ []) (decimal i ++ 32 ∷ []) (decimal i ++ 32 ∷ []) []

unfoldable pub line : ℕ → ℕ → ℕ → List ℕ
line part i w = (label part ++ numeral part i) ++ hex_line w

-- the line of the i-th, where it is the operator's
unfoldable pub line_at : ℕ → ℕ → List ℕ → List ℕ → List ℕ → ℕ → List ℕ
line_at part o t s ws i = cond (eqb (owner part t ws i) o) (line part i (shown_word part t s ws i)) []

-- the lines of the n numbers from i on
unfoldable pub lines : ℕ → ℕ → (ℕ → List ℕ) → List ℕ
lines i zero at = []
lines i (suc n) at = at i ++ lines (suc i) n at

unfoldable pub part_lines : ℕ → ℕ → List ℕ → List ℕ → List ℕ → List ℕ
part_lines part o t s ws = lines 0 (count part t ws) (line_at part o t s ws)

-- all of it, for operator o, table t, state s and the newest step's trace words ws
unfoldable pub panel : ℕ → List ℕ → List ℕ → List ℕ → List ℕ
panel o t s ws = part_lines the_ports o t s ws ++ part_lines the_networks o t s ws ++ part_lines the_sources o t s ws ++ part_lines the_trace o t s ws

-- The answers: "Number 0 or above 15 (answer 9), then a table or state that meets answer 1 or 2, is refused; nothing is printed"; then,
-- with an answer of its own, 11, too little room for the lines.

abbrev pub operator : ℕ → Bool
operator o = between 1 15 o

unfoldable pub answer : ℕ → List ℕ → List ℕ → List ℕ → ℕ → ℕ
answer o t s ws room =
    cond (not (operator o)) 9
    (cond (not (eqb (refused_state t s) 0)) (refused_state t s)
    (cond (ltb room (length (panel o t s ws))) 11 0))
