-- "After the marked run's first event operator 1 sees six lines", and what else the marked table shows, as one test.
use Rattle.std.specs.Prelude.{ℕ, Bool, ◌&&◌, List, [], ◌∷◌, eqb}
use Rattle.rulebook.specs.Marked.{table, marked, same, at_fresh, after_request}
use Rattle.panel.specs.Printed.{panel, answer}

-- the words that the request writes, the newest step's
unfoldable pub request_words : List ℕ
request_words = (marked at_fresh 0x11000500).words

-- `port 0 81400000`, `port 1 00000000`, `network 0 80000000`, `trace F1000000`, `trace 41000002`, `trace 01001234`
unfoldable pub six_lines : List ℕ
six_lines =
    112 ∷ 111 ∷ 114 ∷ 116 ∷ 32 ∷ 48 ∷ 32 ∷ 56 ∷ 49 ∷ 52 ∷ 48 ∷ 48 ∷ 48 ∷ 48 ∷ 48 ∷ 10
    ∷ 112 ∷ 111 ∷ 114 ∷ 116 ∷ 32 ∷ 49 ∷ 32 ∷ 48 ∷ 48 ∷ 48 ∷ 48 ∷ 48 ∷ 48 ∷ 48 ∷ 48 ∷ 10
    ∷ 110 ∷ 101 ∷ 116 ∷ 119 ∷ 111 ∷ 114 ∷ 107 ∷ 32 ∷ 48 ∷ 32 ∷ 56 ∷ 48 ∷ 48 ∷ 48 ∷ 48 ∷ 48 ∷ 48 ∷ 48 ∷ 10
    ∷ 116 ∷ 114 ∷ 97 ∷ 99 ∷ 101 ∷ 32 ∷ 70 ∷ 49 ∷ 48 ∷ 48 ∷ 48 ∷ 48 ∷ 48 ∷ 48 ∷ 10
    ∷ 116 ∷ 114 ∷ 97 ∷ 99 ∷ 101 ∷ 32 ∷ 52 ∷ 49 ∷ 48 ∷ 48 ∷ 48 ∷ 48 ∷ 48 ∷ 50 ∷ 10
    ∷ 116 ∷ 114 ∷ 97 ∷ 99 ∷ 101 ∷ 32 ∷ 48 ∷ 49 ∷ 48 ∷ 48 ∷ 49 ∷ 50 ∷ 51 ∷ 52 ∷ 10 ∷ []

-- the six lines, 96 bytes; operator 2 sees none; a platform's word between is not shown; and each refusal before the next
unfoldable pub marked_panel : Bool
marked_panel =
    same (panel 1 table after_request request_words) six_lines
    && eqb (answer 1 table after_request request_words 96) 0
    && same (panel 2 table after_request request_words) []
    && same (panel 1 table after_request (0xF0000000 ∷ request_words)) six_lines
    && eqb (answer 0 [] [] [] 0) 9
    && eqb (answer 16 table after_request request_words 96) 9
    && eqb (answer 15 [] [] [] 0) 1
    && eqb (answer 1 table [] request_words 0) 2
    && eqb (answer 1 table after_request request_words 95) 11
