-- "One table whole (marked)": ten cases as one test, each state passed on by the step.
use Rattle.std.specs.Prelude.{ℕ, Bool, true, false, ◌&&◌, List, [], ◌∷◌, eqb}
use Rattle.rulebook.specs.Words.{word}
use Rattle.rulebook.specs.State.{fresh_state}
use Rattle.rulebook.specs.Step.{Result, step}

unfoldable pub table : List ℕ
table =
    0x01020100 ∷ 0x00010001 ∷ 0x00010002 ∷ 0x01000000 ∷ 0x21000000 ∷ 0x10102000 ∷ 0x030A0005 ∷ 0x00005000 ∷ 0x100000FF ∷ 0x18380002 ∷ 0x40000002 ∷ 0x00001234 ∷ []

-- the step with three trace words of room, which is B here, and no outcomes lent
unfoldable pub marked : List ℕ → ℕ → Result
marked s e = step table s 3 [] e

-- the state after each of these events
unfoldable pub after : List ℕ → List ℕ → List ℕ
after s [] = s
after s (e ∷ es) = after (marked s e).state es

unfoldable pub same : List ℕ → List ℕ → Bool
same [] [] = true
same [] (y ∷ ys) = false
same (x ∷ xs) [] = false
same (x ∷ xs) (y ∷ ys) = eqb x y && same xs ys

unfoldable pub gives : Result → ℕ → List ℕ → List ℕ → ℕ → Bool
gives r answer state words visits = eqb r.answer answer && same r.state state && same r.words words && eqb r.visits visits

-- a refusal: the answer, the state as it was, no word, no visit
unfoldable pub refuses : List ℕ → ℕ → ℕ → Bool
refuses s e answer = gives (marked s e) answer s [] 0

unfoldable pub at_fresh : List ℕ
at_fresh = fresh_state table (7 ∷ 7 ∷ 7 ∷ 7 ∷ [])

unfoldable pub after_request : List ℕ
after_request = after at_fresh (0x11000500 ∷ [])

unfoldable pub after_tick : List ℕ
after_tick = after after_request (0 ∷ [])

unfoldable pub after_bus_off : List ℕ
after_bus_off = after after_tick (0x51000000 ∷ [])

unfoldable pub after_three : List ℕ
after_three = after after_bus_off (0 ∷ 0 ∷ 0 ∷ [])

unfoldable pub after_five : List ℕ
after_five = after after_three (0 ∷ 0 ∷ 0 ∷ 0 ∷ 0 ∷ [])

unfoldable pub marked_run : Bool
marked_run =
    same at_fresh (0 ∷ 0 ∷ 0 ∷ 0 ∷ [])
    && gives (marked at_fresh 0x11000500) 0 (0x81400000 ∷ 0 ∷ 0x40000000 ∷ 0x80000000 ∷ []) (0xF1000000 ∷ 0x41000002 ∷ 0x01001234 ∷ []) 1
    && gives (marked after_request 0) 0 (0x81400000 ∷ 0x80800000 ∷ 0x40000000 ∷ 0x90000005 ∷ []) [] 0
    && gives (marked after_tick 0x51000000) 0 (0x81400000 ∷ 0xC0C00000 ∷ 0x40000000 ∷ 0xA0080003 ∷ []) [] 0
    && eqb (word after_three 3) 0x90080005
    && eqb (word after_five 3) 0x98000000
    && refuses at_fresh 0x21000500 4
    && refuses at_fresh 0x21000000 5
    && refuses at_fresh 0x12000500 6
    && gives (step table at_fresh 2 [] 0x11000500) 3 at_fresh [] 0
