-- What the program keeps from output to output, and from window to window.
use Rattle.std.specs.Prelude.{ℕ, ◌-◌, ◌≤◌, ◌≡◌, ◌≢◌, Option, Some, None, List, length, take}
use Rattle.rulebook.specs.BusLog as rulebook
use Rattle.rulebook.specs.BusLog.{read_log}
use Rattle.buslog.specs.Promises.{cursor_as, end_number}
use Rattle.buslog.specs.declared.reading.Cursor.{Cursor}
use Rattle.buslog.specs.declared.reading.Step.{Step}
use Rattle.text.specs.Window.{ahead}
use Rattle.canlog.specs.declared.Place.{Place}

-- the end of a part: where all of it is read, the cursor that reading it left
abbrev pub Ends : Step → Option Cursor → Type 0
Ends step (Some c) = (end_number step.end ≡ 0) × (c ≡ step.cursor)
Ends step None = end_number step.end ≢ 0

-- A log read to its end in one output after the other, from cursor c to c': each goes on with the cursor and the text that the one before left when it was
-- full.
pub data ReadOn (t names : List ℕ) : List ℕ → rulebook.Cursor → rulebook.Cursor → Type 0 where
  read : {log : List ℕ} {c : rulebook.Cursor} (words : ℕ) → (read_log t names log c words).answer ≡ 0
      → ReadOn t names log c (read_log t names log c words).cursor
  full : {log : List ℕ} {c c' : rulebook.Cursor} (words : ℕ) → (read_log t names log c words).answer ≡ 11
      → ReadOn t names (read_log t names log c words).rest (read_log t names log c words).cursor c' → ReadOn t names log c c'

-- that, where a cursor is told; nothing is said of a log that is left before its end
abbrev pub ReadsOn : List ℕ → List ℕ → List ℕ → rulebook.Cursor → Option Cursor → Type 0
ReadsOn t names log c (Some c') = ReadOn t names log c (cursor_as c')
ReadsOn t names log c None = Unit {0}

-- the bytes from `at` up to `end` still come first in the window, with more behind them where the log was read on
pub record ReadBehind (at end : ℕ) (window : List ℕ) (r : Place) (window' : List ℕ) : Type 0 where
  pub inside : r.end ≤ length window'
  pub first : take (end - at) (take r.end window') ≡ ahead at end window

-- where a read failed they come first all the same
abbrev pub More : ℕ → ℕ → List ℕ → Option Place → List ℕ → Type 0
More at end window (Some r) window' = ReadBehind at end window r window'
More at end window None window' = take (end - at) window' ≡ ahead at end window
