-- "The marked table gives" twelve lines, as one test computed on the definitions, with the answers: done in 180 bytes, 11 in one less, and each reason
-- before the next.
use Rattle.std.specs.Prelude.{ℕ, Bool, ◌&&◌, List, [], ◌∷◌, eqb}
use Rattle.rulebook.specs.Marked.{table, same}
use Rattle.listing.specs.Lines.{listing}
use Rattle.listing.specs.Promises.{list_answer}

-- `header 1 2 1 0`, `header 1 1`, `header 1 2`, `port 0 0 0 1 0 0`, `port 0 1 0 1 0 0`, `network 1 1 2 0`,
-- `network 3 10 5`, `expression 0 0 5 0`, `rule 1 0 0 0 0 255`, `list 1 1 7 0 2`, `item 4 0 2`, `item 0 0 4660`
unfoldable pub twelve_lines : List ℕ
twelve_lines =
    104 ∷ 101 ∷ 97 ∷ 100 ∷ 101 ∷ 114 ∷ 32 ∷ 49 ∷ 32 ∷ 50 ∷ 32 ∷ 49 ∷ 32 ∷ 48 ∷ 10
    ∷ 104 ∷ 101 ∷ 97 ∷ 100 ∷ 101 ∷ 114 ∷ 32 ∷ 49 ∷ 32 ∷ 49 ∷ 10
    ∷ 104 ∷ 101 ∷ 97 ∷ 100 ∷ 101 ∷ 114 ∷ 32 ∷ 49 ∷ 32 ∷ 50 ∷ 10
    ∷ 112 ∷ 111 ∷ 114 ∷ 116 ∷ 32 ∷ 48 ∷ 32 ∷ 48 ∷ 32 ∷ 48 ∷ 32 ∷ 49 ∷ 32 ∷ 48 ∷ 32 ∷ 48 ∷ 10
    ∷ 112 ∷ 111 ∷ 114 ∷ 116 ∷ 32 ∷ 48 ∷ 32 ∷ 49 ∷ 32 ∷ 48 ∷ 32 ∷ 49 ∷ 32 ∷ 48 ∷ 32 ∷ 48 ∷ 10
    ∷ 110 ∷ 101 ∷ 116 ∷ 119 ∷ 111 ∷ 114 ∷ 107 ∷ 32 ∷ 49 ∷ 32 ∷ 49 ∷ 32 ∷ 50 ∷ 32 ∷ 48 ∷ 10
    ∷ 110 ∷ 101 ∷ 116 ∷ 119 ∷ 111 ∷ 114 ∷ 107 ∷ 32 ∷ 51 ∷ 32 ∷ 49 ∷ 48 ∷ 32 ∷ 53 ∷ 10
    ∷ 101 ∷ 120 ∷ 112 ∷ 114 ∷ 101 ∷ 115 ∷ 115 ∷ 105 ∷ 111 ∷ 110 ∷ 32 ∷ 48 ∷ 32 ∷ 48 ∷ 32 ∷ 53 ∷ 32 ∷ 48 ∷ 10
    ∷ 114 ∷ 117 ∷ 108 ∷ 101 ∷ 32 ∷ 49 ∷ 32 ∷ 48 ∷ 32 ∷ 48 ∷ 32 ∷ 48 ∷ 32 ∷ 48 ∷ 32 ∷ 50 ∷ 53 ∷ 53 ∷ 10
    ∷ 108 ∷ 105 ∷ 115 ∷ 116 ∷ 32 ∷ 49 ∷ 32 ∷ 49 ∷ 32 ∷ 55 ∷ 32 ∷ 48 ∷ 32 ∷ 50 ∷ 10
    ∷ 105 ∷ 116 ∷ 101 ∷ 109 ∷ 32 ∷ 52 ∷ 32 ∷ 48 ∷ 32 ∷ 50 ∷ 10
    ∷ 105 ∷ 116 ∷ 101 ∷ 109 ∷ 32 ∷ 48 ∷ 32 ∷ 48 ∷ 32 ∷ 52 ∷ 54 ∷ 54 ∷ 48 ∷ 10 ∷ []

unfoldable pub marked_listing : Bool
marked_listing =
    same (listing table) twelve_lines
    && eqb (list_answer table 180) 0
    && eqb (list_answer table 179) 11
    && eqb (list_answer [] 0) 1
    && eqb (list_answer (0x03020100 ∷ 0 ∷ 0 ∷ []) 0) 2
    && eqb (list_answer (0x02000000 ∷ 0x00010001 ∷ 0 ∷ []) 0) 3
    && eqb (list_answer (0x02010000 ∷ 0x00010001 ∷ 0 ∷ []) 0) 4
