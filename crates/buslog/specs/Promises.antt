-- What `read_log` promises: the table, the list, the log, the cursor and the output, the answer, and every lent word afterwards.
use Rattle.std.specs.Prelude.{ℕ, ◌-◌, ◌/◌, ◌≤◌, ◌≡◌, List, [], ◌++◌, length, drop, Result, Ok, Err}
use Rattle.rulebook.specs.BusLog as rulebook
use Rattle.rulebook.specs.BusLog.{Reading, read_log, refused_line}
use Rattle.buslog.specs.declared.reading.Cursor.{Cursor}
use Rattle.buslog.specs.declared.reading.Step.{Step}
use Rattle.buslog.specs.declared.reading.Halt.{Halt}
use Rattle.buslog.specs.declared.reading.Halt.TheVariants.{BadTable, BadNames, Misspelt, GoesBack, Unlisted, NoRoom}

-- the answers' numbers, where numbers are wanted

abbrev pub end_number : Result (Unit {0}) Halt → ℕ
end_number (Ok u) = 0
end_number (Err BadTable) = 1
end_number (Err NoRoom) = 11
end_number (Err Misspelt) = 12
end_number (Err BadNames) = 13
end_number (Err GoesBack) = 14
end_number (Err Unlisted) = 15

abbrev pub cursor_as : Cursor → rulebook.Cursor
cursor_as c = record { lines = c.lines; first = c.first; last = c.last; given = c.given }

-- over the rulebook's cursor, the answer's number k, the line l that is refused, the events n written and the bytes m read, as `gateway` hands them to C
pub record ReadsLogIn
    (t names log : List ℕ) (c : rulebook.Cursor) (out : List ℕ) (k l n m : ℕ) (c' : rulebook.Cursor) (out' : List ℕ) : Type 0 where
  pub answer : k ≡ (read_log t names log c (length out)).answer
  pub line : l ≡ refused_line (read_log t names log c (length out))
  pub cursor : c' ≡ (read_log t names log c (length out)).cursor
  pub count : n ≡ length (read_log t names log c (length out)).events
  pub words : out' ≡ (read_log t names log c (length out)).events ++ drop n out
  pub rest : drop m log ≡ (read_log t names log c (length out)).rest
  pub bytes : m ≤ length log
  -- follows; here for a caller that writes them
  pub inside : n ≤ length out

-- the line that an answer refuses: the one behind those read, or 0
abbrev pub line_of : Step → ℕ
line_of r = refused_line (record { answer = end_number r.end; cursor = cursor_as r.cursor; events = []; rest = [] })

abbrev pub ReadsLog : List ℕ → List ℕ → List ℕ → Cursor → List ℕ → Step → List ℕ → Type 0
ReadsLog t names log c out r out' =
    ReadsLogIn t names log (cursor_as c) out (end_number r.end) (line_of r) r.events r.bytes (cursor_as r.cursor) out'

-- what reading came to, behind events that stand before it
abbrev pub behind_these : List ℕ → Reading → Reading
behind_these es r = record { answer = r.answer; cursor = r.cursor; events = es ++ r.events; rest = r.rest }

-- a cursor between two lines: "the ticks for each whole 10 milliseconds passed since" the first line's time are given, all of them and no more
pub record WholeTicks (c : rulebook.Cursor) : Type 0 where
  pub unbegun : c.lines ≡ 0 → c.given ≡ 0
  pub forward : (c.lines ≡ 0 → ⊥) → c.first ≤ c.last
  pub exact : (c.lines ≡ 0 → ⊥) → c.given ≡ (c.last - c.first) / 10000
