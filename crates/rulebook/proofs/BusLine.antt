-- Q-12's laws of one line: whole ticks, a time that goes back, the two bits, and what a refused line gives. Assumes nothing.
use Prim.Native.Nat.{ℕ}
use mathlib.Core.Path.{◌≡◌, refl}
use mathlib.Core.Bool.{true, false}
use mathlib.Core.List.{List, [], ◌∷◌}
use borrow.Author.Tests.{ne_eqb}
use Rattle.rulebook.specs.BusLog.{Cursor, Reading, value, number, has_bit, tells_bus_off, zero_time, ticks_due, goes_back, fault, read_line}

-- behind a first line at 7 microseconds and one at 9, no tick being given
abbrev begun : Cursor
begun = record { lines = 2; first = 7; last = 9; given = 0 }

-- "each whole 10 milliseconds passed": none of 9,999 microseconds, one of 10,000 and still of 19,999
pub whole-ticks : (ticks_due begun 10006 ≡ 0) × (ticks_due begun 10007 ≡ 1) × (ticks_due begun 20006 ≡ 1) × (ticks_due begun 20007 ≡ 2)
unfolding ticks_due zero_time
whole-ticks = (refl, refl, refl, refl)

-- "against the line before, equal times stand", and nothing is before the first line
pub back-from-last : (goes_back begun 8 ≡ true) × (goes_back begun 9 ≡ false) × (goes_back (record { lines = 0; first = 7; last = 9; given = 0 }) 0 ≡ false)
unfolding goes_back
back-from-last = (refl, refl, refl)

-- 20000040, 00000040, 20000000, 2000004 and E00000fF: "both bits needed, other bits free", eight digits alone
pub both_bits :
    (tells_bus_off (50 ∷ 48 ∷ 48 ∷ 48 ∷ 48 ∷ 48 ∷ 52 ∷ 48 ∷ []) ≡ true)
    × (tells_bus_off (48 ∷ 48 ∷ 48 ∷ 48 ∷ 48 ∷ 48 ∷ 52 ∷ 48 ∷ []) ≡ false)
    × (tells_bus_off (50 ∷ 48 ∷ 48 ∷ 48 ∷ 48 ∷ 48 ∷ 48 ∷ 48 ∷ []) ≡ false)
    × (tells_bus_off (52 ∷ 52 ∷ 48 ∷ []) ≡ false)
    × (tells_bus_off (69 ∷ 48 ∷ 48 ∷ 48 ∷ 48 ∷ 48 ∷ 102 ∷ 70 ∷ []) ≡ true)
unfolding tells_bus_off has_bit number value
both_bits = (refl, refl, refl, refl, refl)

-- "a line refused as misspelt, back or unlisted gives no ticks": it leaves all as it was but for the answer
pub refused-gives-nothing : (t names : List ℕ) (words : ℕ) (r : Reading) → (fault t names r.cursor r.rest ≡ 0 → ⊥)
    → read_line t names words r ≡ record { answer = fault t names r.cursor r.rest; cursor = r.cursor; events = r.events; rest = r.rest }
unfolding read_line
refused-gives-nothing t names words r some = rw (ne_eqb (fault t names r.cursor r.rest) 0 some)
