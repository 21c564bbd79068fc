-- What stands behind a window that is long enough changes nothing, and the log's end is not seen. Assumes nothing.
use Prim.Native.Nat.{ℕ, zero, suc, ◌+◌, ◌*◌, ◌<◌, ◌≤◌}
use mathlib.Core.Path.{◌≡◌, refl}
use mathlib.Core.List.{List, ◌++◌}
use native.Mathlib.Omega.{arith}
use lib.ListN.{length, length-append, get_or-append}
use borrow.Author.Tests.{lt-leb}
use Rattle.recording.specs.Log.{byte, hex_digits, hex_number, is_answer, is_word, word_count, words_from}
use Rattle.recording.specs.Log.{found_behind, recording_of, recording_at, last, missing, most_words}
use Rattle.recording.specs.Window.{Window}
use Rattle.recording.proofs.Words.{split, count_room}
use Rattle.recording.proofs.Placed.{behind-whole, behind-word, behind-misspelt, at-answer, at-no-answer}

module _ (bytes more : List ℕ) where
  byte-same : (i : ℕ) → i < length bytes → byte (bytes ++ more) i ≡ byte bytes i
  byte-same i h = get_or-append bytes more 0 i h

  inside-still : (i : ℕ) → i < length bytes → i < length (bytes ++ more)
  inside-still i h = omega (arith, length-append bytes more)

  digits_same : (k at : ℕ) → at + k ≤ length bytes → hex_digits k (bytes ++ more) at ≡ hex_digits k bytes at
  unfolding hex_digits
  digits_same zero at h = refl
  digits_same (suc k) at h = rw (digits_same k at (omega arith), byte-same (at + k) (omega arith))

  number_same : (k at : ℕ) → at + k ≤ length bytes → hex_number k (bytes ++ more) at ≡ hex_number k bytes at
  unfolding hex_number
  number_same zero at h = refl
  number_same (suc k) at h = rw (number_same k at (omega arith), byte-same (at + k) (omega arith))

  answer-same : (at : ℕ) → at + 2 ≤ length bytes → is_answer (bytes ++ more) at ≡ is_answer bytes at
  unfolding is_answer
  answer-same at h = rw (byte-same at (omega arith), byte-same (at + 1) (omega arith))

  word_same : (at : ℕ) → at + 9 ≤ length bytes → is_word (bytes ++ more) at ≡ is_word bytes at
  unfolding is_word
  word_same at h = rw (digits_same 8 at (omega arith), byte-same (at + 8) (omega arith))

  count_same : (most at : ℕ) → at + 9 * most ≤ length bytes → word_count most (bytes ++ more) at ≡ word_count most bytes at
  unfolding word_count
  count_same zero at h = refl
  count_same (suc most) at h = rw (word_same at (omega arith), count_same most (at + 9) (omega arith))

  words_same : (n at : ℕ) → at + 9 * n ≤ length bytes → words_from n (bytes ++ more) at ≡ words_from n bytes at
  unfolding words_from
  words_same zero at h = refl
  words_same (suc n) at h = rw (number_same 8 at (omega arith), words_same n (at + 9) (omega arith))

  found-same : (next : ℕ) → next + 9 ≤ length bytes → found_behind (bytes ++ more) next ≡ found_behind bytes next
  unfolding found_behind
  found-same next h =
      rw (
        lt-leb (length (bytes ++ more)) next (inside-still next (omega arith)),
        lt-leb (length bytes) next (omega arith),
        answer-same next (omega arith),
        word_same next h,
      )

  of-same : (n at : ℕ) → at + (2 + 9 * n) + 9 ≤ length bytes → recording_of n (bytes ++ more) at ≡ recording_of n bytes at
  unfolding recording_of
  of-same n at h =
      rw (found-same (at + 2 + 9 * n) (omega arith), byte-same at (omega arith), words_same n (at + 2) (omega arith))

  recording-same : (most at : ℕ) → at + (2 + 9 * most) + 9 ≤ length bytes → recording_at most (bytes ++ more) at ≡ recording_at most bytes at
  unfolding recording_at
  recording-same most at h =
      let room = count_room bytes most (at + 2) in
      rw (
        lt-leb (length (bytes ++ more)) at (inside-still at (omega arith)),
        lt-leb (length bytes) at (omega arith),
        answer-same at (omega arith),
        count_same most (at + 2) (omega arith),
        of-same (word_count most bytes (at + 2)) at (omega arith),
      )

-- the log goes on behind a place inside

module _ (bytes : List ℕ) where
  behind-on : (next : ℕ) → next < length bytes → (found_behind bytes next ≡ missing → ⊥) × (found_behind bytes next ≡ last → ⊥)
  behind-on next h =
      split (is_answer bytes next)
      (λ a. let e = behind-whole bytes next h a in (λ p. omega arith, λ p. omega arith))
      (λ a.
      split (is_word bytes next)
      (λ w. let e = behind-word bytes next h a w in (λ p. omega arith, λ p. omega arith))
      (λ w. let e = behind-misspelt bytes next h a w in (λ p. omega arith, λ p. omega arith)))

  goes_on : (most at : ℕ) → at + (2 + 9 * most) + 9 ≤ length bytes
      → ((recording_at most bytes at).found ≡ missing → ⊥) × ((recording_at most bytes at).found ≡ last → ⊥)
  unfolding recording_of
  goes_on most at h =
      let n = word_count most bytes (at + 2) in
      let room = count_room bytes most (at + 2) in
      split (is_answer bytes at)
      (λ a. rw (at-answer most bytes at (omega arith) a) (behind-on (at + 2 + 9 * n) (omega arith)))
      (λ a. rw (at-no-answer most bytes at (omega arith) a) (λ p. omega arith, λ p. omega arith))

pub window : (most : ℕ) → Window most
window most bytes at h more =
    let on = goes_on bytes most at h in
    record { same = recording-same bytes more most at h; there = on.0; goes_on = on.1 }

-- with room for as many words as are read of a log
pub log-window : Window most_words
log-window = window most_words
