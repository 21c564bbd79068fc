-- What the functions that read a log promise.
use Rattle.std.specs.Prelude.{ℕ, ◌<◌, ◌≤◌, ◌≡◌, true, false, List, ◌++◌, length, drop, Option, Some, None, Result, Ok, Err}
use Rattle.recording.specs.declared.Found.{Found}
use Rattle.recording.specs.declared.Found.TheVariants.{Whole, Last, Misspelt, TooMany}
use Rattle.recording.specs.declared.NotFound.{NotFound}
use Rattle.recording.specs.declared.NotFound.TheVariants.{Missing, NoAnswer}
use Rattle.recording.specs.declared.Recording.{Recording}
use Rattle.recording.specs.Log.{hex_value, hex_digits, hex_number, is_word, word_count, words_from, recording_at, whole, last, missing, no_answer, misspelt, too_many}

-- what was found, in numbers
abbrev pub found_number : Found → ℕ
found_number Whole = whole
found_number Last = last
found_number Misspelt = misspelt
found_number TooMany = too_many

abbrev pub not_found_number : NotFound → ℕ
not_found_number Missing = missing
not_found_number NoAnswer = no_answer

-- a byte, eight of them, and a line

abbrev pub ReadsDigit : ℕ → Option ℕ → Type 0
ReadsDigit b (Some v) = (v ≡ hex_value b) × (v < 16)
ReadsDigit b None = hex_value b ≡ 16

abbrev pub ReadsHex : List ℕ → ℕ → Option ℕ → Type 0
ReadsHex bytes at (Some w) = (hex_digits 8 bytes at ≡ true) × (w ≡ hex_number 8 bytes at)
ReadsHex bytes at None = hex_digits 8 bytes at ≡ false

abbrev pub ReadsWord : List ℕ → ℕ → Option ℕ → Type 0
ReadsWord bytes at (Some w) = (is_word bytes at ≡ true) × (w ≡ hex_number 8 bytes at)
ReadsWord bytes at None = is_word bytes at ≡ false

-- n words stand in the front of those lent, and the others are as they were
pub record ReadsWords (bytes : List ℕ) (at : ℕ) (lent : List ℕ) (n : ℕ) (after : List ℕ) : Type 0 where
  pub count : n ≡ word_count (length lent) bytes at
  pub words : after ≡ words_from n bytes at ++ drop n lent

-- `read_recording` of a log's bytes at a place, with words lent: what was found there, f in numbers, the answer a, n words in the front of those
-- lent, whose others are as they were, and the place behind them
pub record ReadsRecordingIn (bytes : List ℕ) (at : ℕ) (lent : List ℕ) (f a n to : ℕ) (after : List ℕ) : Type 0 where
  pub found : f ≡ (recording_at (length lent) bytes at).found
  pub answer : a ≡ (recording_at (length lent) bytes at).answer
  pub count : n ≡ length (recording_at (length lent) bytes at).words
  pub next : to ≡ (recording_at (length lent) bytes at).next
  pub words : after ≡ (recording_at (length lent) bytes at).words ++ drop (length (recording_at (length lent) bytes at).words) lent
  -- these follow; here for a caller that cuts the words out and reads on
  pub inside : n ≤ length lent
  pub within : at ≤ length bytes → to ≤ length bytes
  pub onward : at ≤ to

-- where none stands there, no answer and no words, and the place is where it was
abbrev pub ReadsRecording : List ℕ → ℕ → List ℕ → Result Recording NotFound → List ℕ → Type 0
ReadsRecording bytes at words (Ok r) words' = ReadsRecordingIn bytes at words (found_number r.found) r.answer r.count r.next words'
ReadsRecording bytes at words (Err e) words' = ReadsRecordingIn bytes at words (not_found_number e) 0 0 at words'
