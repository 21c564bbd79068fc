-- What the functions inside promise each other. A place is a number of bytes; `drop at text` is the text from it on.
use Rattle.std.specs.Prelude.{ℕ, ◌+◌, ◌-◌, ◌*◌, ◌^◌, ◌≤◌, ◌<◌, min, ◌≡◌, Bool, true, false, cond, ◌&&◌, List, [], ◌∷◌, ◌++◌, length, take, drop, replicate, leb}
use Rattle.std.specs.Prelude.{Option, Some, None, Result, Ok, Err}
use Rattle.rulebook.specs.BusLog.{Piece, bytes_of, stands, behind, opening, seconds, micros, gap, identifier, pairs}
use Rattle.rulebook.specs.BusLog.{at_seconds, at_micros, at_gap, at_name, lines_behind, spelt, number, number_of, time, interface}
use Rattle.rulebook.specs.BusLog.{tells_bus_off, is_bus_off, Cursor, ticks_due, line_read, more_given, tick_word, bus_off_word, Reading}
use Rattle.buslog.specs.declared.lines.Stamp.{Stamp}
use Rattle.buslog.specs.declared.lines.Frame.{Frame}
use Rattle.buslog.specs.declared.lines.Line.{Line}
use Rattle.buslog.specs.declared.reading.Cursor.{Cursor as CursorRead}
use Rattle.buslog.specs.declared.reading.Halt.{Halt}
use Rattle.buslog.specs.declared.reading.Step.{Step}
use Rattle.buslog.specs.Promises.{cursor_as, end_number}

-- the bytes from a place up to another
abbrev pub part : List ℕ → ℕ → ℕ → List ℕ
part text from to = take (to - from) (drop from text)

-- a piece at a place: where its bytes end, whether it stands there or not, and where what is behind it begins

-- one that stands: the byte that ends it is there, and the next piece begins behind that
pub record Finds (p : Piece) (text : List ℕ) (at end : ℕ) : Type 0 where
  pub stood : stands p (drop at text) ≡ true
  pub ends : end ≡ at + length (bytes_of p (drop at text))
  pub bytes : part text at end ≡ bytes_of p (drop at text)
  pub next : drop (end + 1) text ≡ behind p (drop at text)
  pub from : at ≤ end
  pub inside : end < length text

-- one that does not stand: what is behind it begins at the text's end where no byte is behind its bytes
pub record Misses (p : Piece) (text : List ℕ) (at end : ℕ) : Type 0 where
  pub stood : stands p (drop at text) ≡ false
  pub ends : end ≡ at + length (bytes_of p (drop at text))
  pub bytes : part text at end ≡ bytes_of p (drop at text)
  pub next : drop (min (end + 1) (length text)) text ≡ behind p (drop at text)
  pub from : at ≤ end
  pub to : end ≤ length text
  pub inside : min (end + 1) (length text) ≤ length text

abbrev pub ReadsPiece : Piece → List ℕ → ℕ → Result ℕ ℕ → Type 0
ReadsPiece p text at (Ok end) = Finds p text at end
ReadsPiece p text at (Err end) = Misses p text at end

-- a number that fits behind `start`: no byte is worth more than 255, so a digit of base 10 or more adds less than 29 digits of worth
pub record Fits (digits : List ℕ) (base start : ℕ) : Type 0 where
  pub many : 10 ≤ base
  pub small : (start + 29) * base ^ length digits < 2 ^ 64

pub record Numbers (digits : List ℕ) (base start r : ℕ) : Type 0 where
  pub value : r ≡ number base start digits
  pub small : r + 29 ≤ (start + 29) * base ^ length digits

-- the front of a line, up to its name

unfoldable pub stamp_stands : List ℕ → Bool
stamp_stands line =
    stands opening line && stands seconds (at_seconds line) && stands micros (at_micros line) && stands gap (at_gap line)

pub record StampAt (text line : List ℕ) (r : Stamp) : Type 0 where
  pub stood : stamp_stands line ≡ true
  pub time : r.time ≡ time line
  pub next : drop r.next text ≡ at_name line
  pub inside : r.next ≤ length text

abbrev pub ReadsStamp : List ℕ → ℕ → Option Stamp → Type 0
ReadsStamp text at (Some r) = StampAt text (drop at text) r
ReadsStamp text at None = stamp_stands (drop at text) ≡ false

-- its end, from the identifier on

unfoldable pub frame_stands : List ℕ → Bool
frame_stands line = stands identifier line && stands pairs (behind identifier line)

pub record FrameAt (text line : List ℕ) (r : Frame) : Type 0 where
  pub stood : frame_stands line ≡ true
  pub told : r.bus_off ≡ tells_bus_off (bytes_of identifier line)
  pub next : drop r.next text ≡ behind pairs (behind identifier line)
  pub inside : r.next ≤ length text

abbrev pub ReadsFrame : List ℕ → ℕ → Option Frame → Type 0
ReadsFrame text at (Some r) = FrameAt text (drop at text) r
ReadsFrame text at None = frame_stands (drop at text) ≡ false

-- what a line says that is spelt right
pub record Says (text line : List ℕ) (r : Line) : Type 0 where
  pub spelt : spelt line ≡ true
  pub time : r.time ≡ time line
  pub name : r.name.now ≡ interface line
  pub told : r.bus_off ≡ is_bus_off line
  pub next : drop r.next text ≡ lines_behind line
  pub inside : r.next ≤ length text

abbrev pub ReadsLine : List ℕ → ℕ → Option Line → Type 0
ReadsLine text at (Some r) = Says text (drop at text) r
ReadsLine text at None = spelt (drop at text) ≡ false

-- the number of the first of k names that is this one, or that none is
abbrev pub IsNumberOf : List ℕ → ℕ → List ℕ → Option ℕ → Type 0
IsNumberOf called k names (Some i) = (i ≡ number_of called k names) × (i < k)
IsNumberOf called k names None = number_of called k names ≡ k

-- ticks laid from a place on, as many as fit
pub record GivesTicks (out : List ℕ) (at ticks r : ℕ) (out' : List ℕ) : Type 0 where
  pub count : r ≡ at + min ticks (length out - at)
  pub words : take r out' ≡ take at out ++ replicate (min ticks (length out - at)) tick_word
  pub kept : drop r out' ≡ drop r out
  pub long : length out' ≡ length out

-- a step made of its parts, and one that ends at a line without room, behind the ticks that fitted

pub record Stops (given : Result (Unit {0}) Halt) (c : CursorRead) (n at : ℕ) (r : Step) : Type 0 where
  pub end : r.end ≡ given
  pub cursor : r.cursor ≡ c
  pub events : r.events ≡ n
  pub bytes : r.bytes ≡ at

pub record NoRoomAt (c : CursorRead) (ticks n at : ℕ) (r : Step) : Type 0 where
  pub end : end_number r.end ≡ 11
  pub cursor : cursor_as r.cursor ≡ record { lines = c.lines; first = c.first; last = c.last; given = ticks }
  pub events : r.events ≡ n
  pub bytes : r.bytes ≡ at

-- what a line gives to a network, by what it says; and whether so much room is enough for it

unfoldable pub events_of : List ℕ → ℕ → Line → Cursor → List ℕ
events_of t network line c =
    replicate (ticks_due c line.time) tick_word ++ cond line.bus_off (bus_off_word t network ∷ []) []

unfoldable pub fits : List ℕ → ℕ → Line → Cursor → ℕ → Bool
fits t network line c room = leb (length (events_of t network line c)) room

pub record Gives (t : List ℕ) (network at : ℕ) (line : Line) (c : Cursor) (out : List ℕ) (n : ℕ) (r : Step) (out' : List ℕ) : Type 0 where
  pub answer : end_number r.end ≡ cond (fits t network line c (length out - n)) 0 11
  pub cursor : cursor_as r.cursor ≡ cond (fits t network line c (length out - n)) (line_read c line.time) (more_given c (length out - n))
  pub events : take r.events out'
      ≡ take n out ++ cond (fits t network line c (length out - n)) (events_of t network line c) (take (length out - n) (events_of t network line c))
  pub bytes : r.bytes ≡ cond (fits t network line c (length out - n)) line.next at
  pub grown : n ≤ r.events
  pub kept : drop r.events out' ≡ drop r.events out
  pub long : length out' ≡ length out
  pub words : r.events ≤ length out

-- where reading stands, in the rulebook's words: the first n words of the output are written, and the log is read up to a place
abbrev pub reading : ℕ → Cursor → List ℕ → ℕ → List ℕ → ℕ → Reading
reading answer c out n log at = record { answer = answer; cursor = c; events = take n out; rest = drop at log }

abbrev pub reading_of : Step → List ℕ → List ℕ → Reading
reading_of r out log = reading (end_number r.end) (cursor_as r.cursor) out r.events log r.bytes

-- a line, or all lines, read from where reading stands, n events being written
pub record ReadsTo (whole : Reading) (log out : List ℕ) (n : ℕ) (r : Step) (out' : List ℕ) : Type 0 where
  pub reading : reading_of r out' log ≡ whole
  pub grown : n ≤ r.events
  pub kept : drop r.events out' ≡ drop r.events out
  pub long : length out' ≡ length out
  pub words : r.events ≤ length out
  pub inside : r.bytes ≤ length log
