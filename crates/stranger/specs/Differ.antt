-- Q-14 on a table, computed: what may differ in two runs though nothing of operator 1 does, and that the platform's events must be shared. That
-- the outcomes must agree, `eaten` (Failing) shows. Then the four stronger statements that these runs break.
use Rattle.std.specs.Prelude.{ℕ, ◌≡◌, Bool, cond, ◌&&◌, ◌||◌, List, [], ◌∷◌, ◌++◌, length, eqb}
use Rattle.rulebook.specs.Words.{word}
use Rattle.rulebook.specs.Reasons.{accepted, bound}
use Rattle.rulebook.specs.State.{fresh}
use Rattle.rulebook.specs.Lists.{trace_owner, own}
use Rattle.rulebook.specs.Events.{event_owner}
use Rattle.rulebook.specs.Step.{step}
use Rattle.rulebook.specs.Marked.{same}
use Rattle.stranger.specs.Failing.{lending, after_all, eaters, both_owners}
use Rattle.stranger.specs.Nothing.{Sending, sending, shared, events_of, Ran, SameAfter, AfterEach, AfterEachShared}

-- A port of the platform's, of operator 1's and of operator 2's, each deferred, and "it equals 5" of each. Operator 1 has a rule on the platform's
-- port and one on its own, operator 2 one on its own, and each rule a list that calls; operator 2's list runs first and calls twice.
unfoldable pub three : List ℕ
three =
    (0x01030000 ∷ 0x00030003 ∷ 0x00030004 ∷ [])
    ++ (0x20000000 ∷ 0x21000000 ∷ 0x22000000 ∷ [])
    ++ (0x00005000 ∷ 0x00105000 ∷ 0x00205000 ∷ [])
    ++ (0x100000FF ∷ 0x100101FF ∷ 0x200202FF ∷ [])
    ++ (0x10380001 ∷ 0x10280101 ∷ 0x20480202 ∷ [])
    ++ (0x0000000A ∷ 0x0000000B ∷ 0x0000000C ∷ 0x0000000D ∷ [])

-- the run of these events, lent no outcomes, and then of a tick, lent these; each with B trace words
unfoldable pub tick_behind : List ℕ → List ℕ → List ℕ → List ℕ → List Sending
tick_behind t s [] os = sending t s (bound t) os 0 ∷ []
tick_behind t s (e ∷ es) os = sending t s (bound t) [] e ∷ tick_behind t (step t s (bound t) [] e).state es os

unfoldable pub run : List ℕ → List Sending
run es = tick_behind three (fresh three) es []

-- the answers, and the trace words of the tick
unfoldable pub answers_of : List Sending → List ℕ
answers_of [] = []
answers_of (x ∷ xs) = x.answer ∷ answers_of xs

unfoldable pub last_words : List ℕ → List Sending → List ℕ
last_words ws [] = ws
last_words ws (x ∷ xs) = last_words x.entry.words xs

-- Both ask operator 1's port for 5 and then tick. In the first operator 2 asks its own port for 5; in the second it sends a malformed word, names a port
-- that is not there, and asks operator 1's port.
unfoldable pub with_taken : List Sending
with_taken = run (0x11010500 ∷ 0x12020500 ∷ [])

unfoldable pub with_refused : List Sending
with_refused = run (0x92000000 ∷ 0x11010500 ∷ 0x12FF0500 ∷ 0x12010700 ∷ [])

-- The tick's total count is 5 words and 2, its visits (Q-10) are 2 and 1, and operator 1's two words stand at the end of the one trace and at the front of
-- the other.
unfoldable pub may_differ : Bool
may_differ =
    accepted three
    && same (answers_of with_taken) (0 ∷ 0 ∷ 0 ∷ [])
    && same (answers_of with_refused) (4 ∷ 0 ∷ 5 ∷ 6 ∷ 0 ∷ [])
    && same (events_of (shared 1 with_taken)) (0x11010500 ∷ 0 ∷ [])
    && same (events_of (shared 1 with_refused)) (0x11010500 ∷ 0 ∷ [])
    && same (last_words [] with_taken) (0xF2020000 ∷ 0x0200000C ∷ 0x0200000D ∷ 0xF1010000 ∷ 0x0100000B ∷ [])
    && same (last_words [] with_refused) (0xF1010000 ∷ 0x0100000B ∷ [])
    && same (own 1 (last_words [] with_taken)) (0xF1010000 ∷ 0x0100000B ∷ [])
    && eqb (lending three (after_all three (fresh three) (0x11010500 ∷ 0x12020500 ∷ [])) [] 0).visits 2
    && eqb (lending three (after_all three (fresh three) (0x11010500 ∷ [])) [] 0).visits 1

-- Both tick, and in the first the platform has asked its port for 5: operator 1's list runs there and not in the second.
unfoldable pub platform_needed : Bool
platform_needed =
    same (own 1 (last_words [] (run (0x10000500 ∷ [])))) (0xF1000000 ∷ 0x0100000A ∷ [])
    && same (own 1 (last_words [] (run []))) []

-- What is asked of outcomes can be met where calls fail: Failing's table of edition 2, the tick that lends operator 2's call a good outcome and the platform's
-- and operator 1's a failed one, beside the tick that lends the two failed ones, operator 2's request struck out and a malformed word of its in the place.
unfoldable pub both_failing : List Sending
both_failing = tick_behind both_owners (fresh both_owners) (0x10000500 ∷ 0x11010500 ∷ 0x12020500 ∷ []) (0 ∷ 1 ∷ 1 ∷ [])

unfoldable pub both_failing_struck : List Sending
both_failing_struck = tick_behind both_owners (fresh both_owners) (0x10000500 ∷ 0x92000000 ∷ 0x11010500 ∷ []) (1 ∷ 1 ∷ [])

-- Stronger than Q-14, and false (proofs/Failing): of the total counts; of the positions of operator 1's words; with the platform's events free as
-- well, ticks and operator 1's own alone shared; with nothing asked of outcomes.

abbrev pub Runs : List ℕ → ℕ → List Sending → Type 0
Runs t o xs = Ran t o (fresh t) xs

abbrev pub CountsToo : Type 0
CountsToo = AfterEachShared three (Runs three) 1 (λ x y. length x.entry.words ≡ length y.entry.words)

abbrev pub PositionsToo : Type 0
PositionsToo =
    AfterEachShared three (Runs three) 1
    (λ x y. (i : ℕ) → trace_owner (word x.entry.words i) ≡ 1 → word x.entry.words i ≡ word y.entry.words i)

unfoldable pub own_and_ticks : ℕ → List Sending → List Sending
own_and_ticks o [] = []
own_and_ticks o (x ∷ xs) = cond (eqb (event_owner x.entry.event) o || eqb x.entry.event 0) (x ∷ own_and_ticks o xs) (own_and_ticks o xs)

abbrev pub PlatformFree : Type 0
PlatformFree =
    AfterEach (own_and_ticks 1) (Runs three 1) (λ xs ys. events_of (own_and_ticks 1 xs) ≡ events_of (own_and_ticks 1 ys)) (SameAfter three 1)

abbrev pub OutcomesFree : Type 0
OutcomesFree = AfterEach (shared 1) (Runs eaters 1) (λ xs ys. events_of (shared 1 xs) ≡ events_of (shared 1 ys)) (SameAfter eaters 1)
