-- Two tables of edition 2, computed as the marked run is: what the last sentence of demand 3 asks of outcomes (Outcomes) is needed, and it
-- is met where calls of both owners fail.
use Rattle.std.specs.Prelude.{ℕ, Bool, ◌&&◌, List, [], ◌∷◌, ◌++◌}
use Rattle.rulebook.specs.State.{fresh_state}
use Rattle.rulebook.specs.Step.{Result, step}
use Rattle.rulebook.specs.Marked.{same, gives}
use Rattle.stranger.specs.Outcomes.{met}

-- the step with sixteen trace words of room, and the state after events that lend nothing
unfoldable pub lending : List ℕ → List ℕ → List ℕ → ℕ → Result
lending t s os e = step t s 16 os e

unfoldable pub after_all : List ℕ → List ℕ → List ℕ → List ℕ
after_all t s [] = s
after_all t s (e ∷ es) = after_all t (lending t s [] e).state es

-- A stranger's call eats an outcome. Operator 1 has a call with abort and a call behind it, operator 2 a call that runs before them; each
-- port is asked for 5, and a tick lends one failed outcome. With operator 2's request struck out operator 1 has a word less, though the same
-- is lent.

unfoldable pub eaters : List ℕ
eaters =
    (0x02020000 ∷ 0x00020002 ∷ 0x00020003 ∷ [])
    ++ (0x21000000 ∷ 0x22000000 ∷ [])
    ++ (0x00005000 ∷ 0x00105000 ∷ [])
    ++ (0x100000FF ∷ 0x200101FF ∷ [])
    ++ (0x10380002 ∷ 0x20480201 ∷ [])
    ++ (0x0800000A ∷ 0x0000000B ∷ 0x0000000C ∷ [])

unfoldable pub eaters_fresh : List ℕ
eaters_fresh = fresh_state eaters (0 ∷ 0 ∷ 0 ∷ 0 ∷ [])

unfoldable pub eaten : Bool
eaten =
    gives (lending eaters (after_all eaters eaters_fresh (0x11000500 ∷ 0x12010500 ∷ [])) (1 ∷ []) 0) 0
    (0x81400000 ∷ 0x81400000 ∷ 0x40000000 ∷ 0x40000000 ∷ []) (0xF2010000 ∷ 0x0200000C ∷ 0xF1000000 ∷ 0x0100000A ∷ 0x0100000B ∷ []) 2
    && gives (lending eaters (after_all eaters eaters_fresh (0x11000500 ∷ [])) (1 ∷ []) 0) 0
    (0x81400000 ∷ 0 ∷ 0x40000000 ∷ 0 ∷ []) (0xF1000000 ∷ 0x0100000A ∷ []) 1

-- Calls of both owners fail. The platform has a list of two calls, the first with abort, and so has operator 1; operator 2's call runs before
-- them. A tick lends operator 2's call a good outcome and both others a failed one; with operator 2's request struck out it lends the two
-- failed ones.

unfoldable pub both_owners : List ℕ
both_owners =
    (0x02030000 ∷ 0x00030003 ∷ 0x00030005 ∷ [])
    ++ (0x20000000 ∷ 0x21000000 ∷ 0x22000000 ∷ [])
    ++ (0x00005000 ∷ 0x00105000 ∷ 0x00205000 ∷ [])
    ++ (0x000000FF ∷ 0x100101FF ∷ 0x200202FF ∷ [])
    ++ (0x00380002 ∷ 0x10280202 ∷ 0x20480401 ∷ [])
    ++ (0x0800000A ∷ 0x0000000B ∷ 0x0800000C ∷ 0x0000000D ∷ 0x0000000E ∷ [])

unfoldable pub both_fresh : List ℕ
both_fresh = fresh_state both_owners (0 ∷ 0 ∷ 0 ∷ 0 ∷ 0 ∷ 0 ∷ [])

unfoldable pub with_stranger : Result
with_stranger = lending both_owners (after_all both_owners both_fresh (0x10000500 ∷ 0x11010500 ∷ 0x12020500 ∷ [])) (0 ∷ 1 ∷ 1 ∷ []) 0

unfoldable pub struck : Result
struck = lending both_owners (after_all both_owners both_fresh (0x10000500 ∷ 0x11010500 ∷ [])) (1 ∷ 1 ∷ []) 0

-- what the calls of operator 1 and of the platform met is the same, both failed, and so are their words
unfoldable pub both_fail : Bool
both_fail =
    same with_stranger.words (0xF2020000 ∷ 0x0200000E ∷ 0xF0000000 ∷ 0x0000000A ∷ 0xF1010000 ∷ 0x0100000C ∷ [])
    && same struck.words (0xF0000000 ∷ 0x0000000A ∷ 0xF1010000 ∷ 0x0100000C ∷ [])
    && same (met 1 (0 ∷ 1 ∷ 1 ∷ []) with_stranger.words) (1 ∷ 1 ∷ [])
    && same (met 1 (1 ∷ 1 ∷ []) struck.words) (1 ∷ 1 ∷ [])
