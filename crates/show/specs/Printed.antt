-- "`./herringcart panel OPERATOR TABLE EVENTS`: the panel after the last event, with the newest step's words; `--follow` lays it after each
-- event that changed one of its lines, with the event's number before it. A refused number or table: a message, nothing printed". Events
-- are taken as `run` takes them, from the fresh state; their numbers are counted from 0.
use Rattle.std.specs.Prelude.{ℕ, ◌+◌, ◌-◌, ◌*◌, ◌%◌, Bool, cond, ◌&&◌, List, [], ◌∷◌, ◌++◌, nat_lt}
use Rattle.rulebook.specs.Words.{between}
use Rattle.rulebook.specs.Reasons.{accepted}
use Rattle.rulebook.specs.State.{fresh}
use Rattle.rulebook.specs.Marked.{same}
use Rattle.text.specs.Words.{words_of}
use Rattle.text.specs.Lines.{decimal_line}
use Rattle.session.specs.Printed.{taken, state_after}
use Rattle.panel.specs.Printed.{panel, operator}

-- the newest step's words: those of the last event's own step, ws before any. The step of a refused event wrote none.
unfoldable pub newest : List ℕ → List ℕ → List ℕ → List ℕ → List ℕ
newest t s ws [] = ws
newest t s ws (e ∷ es) = newest t (taken t s e).state (taken t s e).words es

-- the panel behind event e
unfoldable pub panel_behind : ℕ → List ℕ → List ℕ → ℕ → List ℕ
panel_behind o t s e = panel o t (taken t s e).state (taken t s e).words

-- `event ` and the number, as 64 bits tell it
unfoldable pub event_line : ℕ → List ℕ
event_line i = (101 ∷ 118 ∷ 101 ∷ 110 ∷ 116 ∷ 32 ∷ []) ++ decimal_line (i % 18446744073709551616)

-- what is laid of event i, which found one panel and left another: nothing where no line has changed
unfoldable pub change : ℕ → List ℕ → List ℕ → List ℕ
change i found left = cond (same found left) [] (event_line i ++ left)

-- followed from event i on, which finds a panel
unfoldable pub followed : ℕ → List ℕ → ℕ → List ℕ → List ℕ → List ℕ → List ℕ
followed o t i s found [] = []
followed o t i s found (e ∷ es) = change i found (panel_behind o t s e) ++ followed o t (i + 1) (taken t s e).state (panel_behind o t s e) es

-- from the fresh state on, each event followed, or the panel behind the last one
unfoldable pub following : ℕ → List ℕ → List ℕ → List ℕ
following o t es = followed o t 0 (fresh t) (panel o t (fresh t) []) es

unfoldable pub behind_last : ℕ → List ℕ → List ℕ → List ℕ
behind_last o t es = panel o t (state_after t (fresh t) es) (newest t (fresh t) [] es)

-- OPERATOR, in decimal digits. Above 15 a number is no operator's, whatever follows, and a byte that is no digit makes it so.

unfoldable pub with_digit : ℕ → ℕ → ℕ
with_digit n b = cond (nat_lt 15 n) n (cond (between 48 57 b) (n * 10 + (b - 48)) 16)

unfoldable pub number_from : ℕ → List ℕ → ℕ
number_from n [] = n
number_from n (b ∷ word) = number_from (with_digit n b) word

-- what stands on standard output for an operator's number and the bytes of a table file and of an events file
unfoldable pub shown : Bool → ℕ → List ℕ → List ℕ → List ℕ
shown follow o table events =
    cond (operator o && accepted (words_of table))
    (cond follow (following o (words_of table) (words_of events)) (behind_last o (words_of table) (words_of events)))
    []
