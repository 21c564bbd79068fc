-- Document 02, Q-12: how a line of a bus log is spelt, the list of the interfaces, and the event words that each line gives. Bytes are numbers, and one
-- past the end reads as 0, which ends no piece of a line.
use Rattle.std.specs.Prelude.{ℕ, zero, suc, ◌+◌, ◌-◌, ◌*◌, ◌/◌, ◌%◌, ◌^◌, min, Bool, true, false, cond, ◌&&◌, ◌||◌, not, List, [], ◌∷◌, ◌++◌, length, get_or, take, drop, replicate, leb, ltb, eqb}
use Rattle.rulebook.specs.Words.{in_field, between}
use Rattle.rulebook.specs.Table.{networks, network_owner}
use Rattle.rulebook.specs.Events.{event_tick, event_bus_off}
use Rattle.rulebook.specs.Reasons.{accepted}

-- The bytes. "hex digits in either case; a name is .. bytes other than space and newline"

unfoldable pub digit : ℕ → Bool
digit b = between 48 57 b

unfoldable pub hex_digit : ℕ → Bool
hex_digit b = digit b || between 65 70 b || between 97 102 b

unfoldable pub name_byte : ℕ → Bool
name_byte b = not (eqb b 32) && not (eqb b 10)

unfoldable pub no_byte : ℕ → Bool
no_byte b = false

-- A piece of a line: bytes of one kind, as many as stand there; how many they may be; and the one byte behind them that ends the piece.
pub record Piece : Type 0 where
  pub has : ℕ → Bool
  pub size : ℕ → Bool
  pub end : ℕ

abbrev pub piece : (ℕ → Bool) → (ℕ → Bool) → ℕ → Piece
piece has size end = record { has = has; size = size; end = end }

unfoldable pub none : ℕ → Bool
none n = eqb n 0

unfoldable pub one_to_ten : ℕ → Bool
one_to_ten n = between 1 10 n

unfoldable pub six : ℕ → Bool
six n = eqb n 6

unfoldable pub one_to_fifteen : ℕ → Bool
one_to_fifteen n = between 1 15 n

unfoldable pub three_or_eight : ℕ → Bool
three_or_eight n = eqb n 3 || eqb n 8

unfoldable pub up_to_eight_pairs : ℕ → Bool
up_to_eight_pairs n = eqb (n % 2) 0 && leb n 16

-- "A line is a time in round brackets (1 to 10 digits, a point, six digits), a space, an interface name (1 to 15 characters, no space), a space, an
-- identifier of three or eight hex digits, a hash sign, up to eight pairs of hex digits, a newline."

abbrev pub opening : Piece
opening = piece no_byte none 40

abbrev pub seconds : Piece
seconds = piece digit one_to_ten 46

abbrev pub micros : Piece
micros = piece digit six 41

abbrev pub gap : Piece
gap = piece no_byte none 32

abbrev pub name : Piece
name = piece name_byte one_to_fifteen 32

abbrev pub identifier : Piece
identifier = piece hex_digit three_or_eight 35

abbrev pub pairs : Piece
pairs = piece hex_digit up_to_eight_pairs 10

-- a name in the list of the interfaces: "one a line"
abbrev pub listed_name : Piece
listed_name = piece name_byte one_to_fifteen 10

-- the bytes of a kind at the front, up to the first that is of another
unfoldable pub run : (ℕ → Bool) → List ℕ → List ℕ
run has [] = []
run has (b ∷ bs) = elim (has b) [ true ↦ b ∷ run has bs | false ↦ [] ]

abbrev pub bytes_of : Piece → List ℕ → List ℕ
bytes_of p text = run p.has text

-- a piece stands at the front of a text, and what is behind it
unfoldable pub stands : Piece → List ℕ → Bool
stands p text = p.size (length (bytes_of p text)) && eqb (get_or text (length (bytes_of p text)) 0) p.end

unfoldable pub behind : Piece → List ℕ → List ℕ
behind p text = drop (length (bytes_of p text) + 1) text

-- where the pieces of the line at the front of a text begin, each behind the one before it, and the lines behind

abbrev pub at_seconds : List ℕ → List ℕ
at_seconds text = behind opening text

abbrev pub at_micros : List ℕ → List ℕ
at_micros text = behind seconds (at_seconds text)

abbrev pub at_gap : List ℕ → List ℕ
at_gap text = behind micros (at_micros text)

abbrev pub at_name : List ℕ → List ℕ
at_name text = behind gap (at_gap text)

abbrev pub at_identifier : List ℕ → List ℕ
at_identifier text = behind name (at_name text)

abbrev pub at_pairs : List ℕ → List ℕ
at_pairs text = behind identifier (at_identifier text)

unfoldable pub lines_behind : List ℕ → List ℕ
lines_behind text = behind pairs (at_pairs text)

unfoldable pub spelt : List ℕ → Bool
spelt text =
    stands opening text && stands seconds (at_seconds text) && stands micros (at_micros text) && stands gap (at_gap text)
    && stands name (at_name text) && stands identifier (at_identifier text) && stands pairs (at_pairs text)

-- What a line says: numbers by their digits, the first the highest, behind a number v that is read already.

unfoldable pub value : ℕ → ℕ
value b = cond (ltb b 58) (b - 48) (cond (ltb b 71) (b - 55) (b - 87))

unfoldable pub number : ℕ → ℕ → List ℕ → ℕ
number base v [] = v
number base v (b ∷ bs) = number base (v * base + value b) bs

-- the time in microseconds: the digits before the point and the six behind it
unfoldable pub time : List ℕ → ℕ
time text = number 10 (number 10 0 (bytes_of seconds (at_seconds text))) (bytes_of micros (at_micros text))

unfoldable pub interface : List ℕ → List ℕ
interface text = bytes_of name (at_name text)

-- "An eight-digit identifier with the error bit 20000000 and the bus-off bit 40 is a bus-off": "both bits needed, other bits free"

abbrev pub error_bit : ℕ
error_bit = 2 * 16 ^ 7

abbrev pub bus_off_bit : ℕ
bus_off_bit = 4 * 16

unfoldable pub has_bit : ℕ → ℕ → Bool
has_bit bit n = eqb (n / bit % 2) 1

unfoldable pub tells_bus_off : List ℕ → Bool
tells_bus_off digits = eqb (length digits) 8 && has_bit error_bit (number 16 0 digits) && has_bit bus_off_bit (number 16 0 digits)

unfoldable pub is_bus_off : List ℕ → Bool
is_bus_off text = tells_bus_off (bytes_of identifier (at_identifier text))

-- "A lent list names the networks' interfaces in order, one a line"

unfoldable pub same : List ℕ → List ℕ → Bool
same [] [] = true
same [] (y ∷ ys) = false
same (x ∷ xs) [] = false
same (x ∷ xs) (y ∷ ys) = eqb x y && same xs ys

-- the number of the first of k names that is this one; k where none is
unfoldable pub number_of : List ℕ → ℕ → List ℕ → ℕ
number_of called zero names = 0
number_of called (suc k) names =
    elim (same called (bytes_of listed_name names)) [ true ↦ 0 | false ↦ suc (number_of called k (behind listed_name names)) ]

-- "N different names": k of them, none of which stands there again, and nothing behind
unfoldable pub names_stand : ℕ → List ℕ → Bool
names_stand zero names = eqb (length names) 0
names_stand (suc k) names =
    stands listed_name names && eqb (number_of (bytes_of listed_name names) k (behind listed_name names)) k && names_stand k (behind listed_name names)

unfoldable pub network_of : List ℕ → List ℕ → List ℕ → ℕ
network_of t names text = number_of (interface text) (networks t) names

-- Where reading stands: how many lines are read, the time of the first and of the last of them, and how many ticks are given. The count of lines is held
-- at the most that 64 bits have.
pub record Cursor : Type 0 where
  pub lines : ℕ
  pub first : ℕ
  pub last : ℕ
  pub given : ℕ

abbrev pub next_line : ℕ → ℕ
next_line n = min (n + 1) (2 ^ 64 - 1)

-- "The first line's time is zero"
unfoldable pub zero_time : Cursor → ℕ → ℕ
zero_time c now = cond (eqb c.lines 0) now c.first

-- "before each line come the ticks for each whole 10 milliseconds passed since then and not yet given"
unfoldable pub ticks_due : Cursor → ℕ → ℕ
ticks_due c now = (now - zero_time c now) / 10000 - c.given

-- "going back is against the line before, equal times stand"
unfoldable pub goes_back : Cursor → ℕ → Bool
goes_back c now = not (eqb c.lines 0) && ltb now c.last

unfoldable pub more_given : Cursor → ℕ → Cursor
more_given c ticks = record { lines = c.lines; first = c.first; last = c.last; given = c.given + ticks }

unfoldable pub line_read : Cursor → ℕ → Cursor
line_read c now = record { lines = next_line c.lines; first = zero_time c now; last = now; given = c.given + ticks_due c now }

-- What a line gives: the ticks, then the bus-off "of the interface's network, under its owner". "Other frames give no event."

abbrev pub tick_word : ℕ
tick_word = in_field 0 4 event_tick

unfoldable pub bus_off_word : List ℕ → ℕ → ℕ
bus_off_word t n = in_field 0 4 event_bus_off + in_field 4 4 (network_owner t n) + in_field 8 8 n

unfoldable pub line_events : List ℕ → List ℕ → Cursor → List ℕ → List ℕ
line_events t names c text =
    replicate (ticks_due c (time text)) tick_word ++ cond (is_bus_off text) (bus_off_word t (network_of t names text) ∷ []) []

-- The answers, each a case where a number is wanted: 12 misspelt, 14 a time that goes back, 15 an interface not listed; and 11 where the output has no room
-- for the next event, 1 for a table with a reason and 13 for a list that is not N different names, these two "refused as line 0".

-- "in that order"
unfoldable pub fault : List ℕ → List ℕ → Cursor → List ℕ → ℕ
fault t names c text =
    cond (not (spelt text)) 12 (cond (goes_back c (time text)) 14 (cond (eqb (network_of t names text) (networks t)) 15 0))

-- What reading has come to: its answer, the cursor, the events written, and the text that is not read.
pub record Reading : Type 0 where
  pub answer : ℕ
  pub cursor : Cursor
  pub events : List ℕ
  pub rest : List ℕ

abbrev pub answered : ℕ → Reading → Reading
answered k r = record { answer = k; cursor = r.cursor; events = r.events; rest = r.rest }

unfoldable pub room : ℕ → Reading → ℕ
room words r = words - length r.events

-- one line read into an output of so many words. "A line without room keeps the ticks that fitted": as many events as there is room for, and as a bus-off
-- is a line's last event, these are ticks.
unfoldable pub read_line : List ℕ → List ℕ → ℕ → Reading → Reading
read_line t names words r =
    cond (not (eqb (fault t names r.cursor r.rest) 0)) (answered (fault t names r.cursor r.rest) r)
    (cond (leb (length (line_events t names r.cursor r.rest)) (room words r))
    (record {
      answer = 0;
      cursor = line_read r.cursor (time r.rest);
      events = r.events ++ line_events t names r.cursor r.rest;
      rest = lines_behind r.rest;
    })
    (record {
      answer = 11;
      cursor = more_given r.cursor (room words r);
      events = r.events ++ take (room words r) (line_events t names r.cursor r.rest);
      rest = r.rest;
    }))

-- line by line to the end or to the first refusal, in at most so many turns; as many as the text has bytes are always enough
unfoldable pub read_lines : ℕ → List ℕ → List ℕ → ℕ → Reading → Reading
read_lines zero t names words r = r
read_lines (suc turns) t names words r =
    cond (eqb (length r.rest) 0 || not (eqb r.answer 0)) r (read_lines turns t names words (read_line t names words r))

abbrev pub unread : Cursor → List ℕ → Reading
unread c log = record { answer = 0; cursor = c; events = []; rest = log }

-- "a table with a reason, or a list that isn't N different names, is refused as line 0"
unfoldable pub read_log : List ℕ → List ℕ → List ℕ → Cursor → ℕ → Reading
read_log t names log c words =
    cond (not (accepted t)) (answered 1 (unread c log))
    (cond (not (names_stand (networks t) names)) (answered 13 (unread c log)) (read_lines (length log) t names words (unread c log)))

-- "refused with the line number"; 0 where no line is
unfoldable pub refused_line : Reading → ℕ
refused_line r = cond (eqb r.answer 0 || eqb r.answer 1 || eqb r.answer 13) 0 (next_line r.cursor.lines)
