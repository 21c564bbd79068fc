-- "LOG is what document 01's program prints for the events, as a supplier's program printed it": "after each [event] the answer in decimal,
-- then state and trace, one item a line, words in eight capital hex digits." So a line is an answer, one digit and a newline, or a word, eight
-- capital hex digits and a newline; and an event's recording is an answer's line with the words' lines behind it.
use Rattle.std.specs.Prelude.{ℕ, zero, suc, ◌+◌, ◌-◌, ◌*◌, Bool, true, ◌&&◌, cond, List, [], ◌∷◌, length, get_or, eqb, ltb, leb}

-- a byte of a log; past its end 0, which no line has
abbrev pub byte : List ℕ → ℕ → ℕ
byte bytes i = get_or bytes i 0

abbrev pub within : ℕ → ℕ → ℕ → Bool
within low high b = leb low b && leb b high

-- 0 to 9, then A to F; 16 where a byte is no capital hex digit
unfoldable pub hex_value : ℕ → ℕ
hex_value b = cond (within 48 57 b) (b - 48) (cond (within 65 70 b) (b - 55) 16)

-- the k bytes from `at` on are hex digits; the number that they spell, the highest first

unfoldable pub hex_digits : ℕ → List ℕ → ℕ → Bool
hex_digits zero bytes at = true
hex_digits (suc k) bytes at = hex_digits k bytes at && ltb (hex_value (byte bytes (at + k))) 16

unfoldable pub hex_number : ℕ → List ℕ → ℕ → ℕ
hex_number zero bytes at = 0
hex_number (suc k) bytes at = hex_number k bytes at * 16 + hex_value (byte bytes (at + k))

-- what stands at a place: nothing any more, an answer's line, a word's

abbrev pub ended : List ℕ → ℕ → Bool
ended bytes at = leb (length bytes) at

unfoldable pub is_answer : List ℕ → ℕ → Bool
is_answer bytes at = within 48 57 (byte bytes at) && eqb (byte bytes (at + 1)) 10

unfoldable pub is_word : List ℕ → ℕ → Bool
is_word bytes at = hex_digits 8 bytes at && eqb (byte bytes (at + 8)) 10

-- how many words' lines stand one behind the other from a place on, `most` of them at most; the words

unfoldable pub word_count : ℕ → List ℕ → ℕ → ℕ
word_count zero bytes at = 0
word_count (suc most) bytes at = cond (is_word bytes at) (suc (word_count most bytes (at + 9))) 0

unfoldable pub words_from : ℕ → List ℕ → ℕ → List ℕ
words_from zero bytes at = []
words_from (suc n) bytes at = hex_number 8 bytes at ∷ words_from n bytes (at + 9)

-- A recording at a place: what is found, the words behind the answer's line, and the place behind them. A recording is whole where the next
-- one's answer stands behind it, and the last where nothing does. No event of ours has more than 360 + 4096 words; more than `most_words` are
-- not read.

abbrev pub most_words : ℕ
most_words = 8192

pub record Recording : Type 0 where
  pub found : ℕ
  pub answer : ℕ
  pub words : List ℕ
  pub next : ℕ

abbrev pub whole : ℕ
whole = 0

abbrev pub last : ℕ
last = 1

abbrev pub missing : ℕ
missing = 2

abbrev pub no_answer : ℕ
no_answer = 3

abbrev pub misspelt : ℕ
misspelt = 4

abbrev pub too_many : ℕ
too_many = 5

-- by what stands behind the words
unfoldable pub found_behind : List ℕ → ℕ → ℕ
found_behind bytes next = cond (ended bytes next) last (cond (is_answer bytes next) whole (cond (is_word bytes next) too_many misspelt))

unfoldable pub recording_of : ℕ → List ℕ → ℕ → Recording
recording_of n bytes at =
    record { found = found_behind bytes (at + 2 + 9 * n); answer = byte bytes at - 48; words = words_from n bytes (at + 2); next = at + 2 + 9 * n }

abbrev pub nothing : ℕ → ℕ → Recording
nothing found at = record { found = found; answer = 0; words = []; next = at }

-- with room for `most` words
unfoldable pub recording_at : ℕ → List ℕ → ℕ → Recording
recording_at most bytes at =
    cond (ended bytes at) (nothing missing at)
    (cond (is_answer bytes at) (recording_of (word_count most bytes (at + 2)) bytes at) (nothing no_answer at))
