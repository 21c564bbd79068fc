-- What is found at a place, by what stands there. Assumes nothing.
use Prim.Native.Nat.{ℕ, ◌+◌, ◌-◌, ◌*◌, ◌<◌, ◌≤◌}
use mathlib.Core.Path.{◌≡◌}
use mathlib.Core.Bool.{true, false}
use mathlib.Core.List.{List}
use native.Mathlib.Omega.{arith}
use lib.ListN.{length}
use borrow.Author.Tests.{le-leb, lt-leb}
use Rattle.recording.specs.Log.{byte, is_answer, is_word, word_count, found_behind, recording_of, recording_at, nothing}
use Rattle.recording.specs.Log.{whole, last, missing, no_answer, misspelt, too_many}
use Rattle.recording.specs.Promises.{ReadsWords, ReadsRecordingIn}
use Rattle.recording.proofs.Spelling.{answer-inside}
use Rattle.recording.proofs.Words.{count_room, count-inside, words_long}

-- what stands behind the words

module _ (bytes : List ℕ) (next : ℕ) where
  pub behind-last : length bytes ≤ next → found_behind bytes next ≡ last
  unfolding found_behind
  behind-last h = rw (le-leb (length bytes) next h)

  pub behind-whole : next < length bytes → is_answer bytes next ≡ true → found_behind bytes next ≡ whole
  unfolding found_behind
  behind-whole h a = rw (lt-leb (length bytes) next h, a)

  pub behind-word : next < length bytes → is_answer bytes next ≡ false → is_word bytes next ≡ true → found_behind bytes next ≡ too_many
  unfolding found_behind
  behind-word h a w = rw (lt-leb (length bytes) next h, a, w)

  pub behind-misspelt : next < length bytes → is_answer bytes next ≡ false → is_word bytes next ≡ false → found_behind bytes next ≡ misspelt
  unfolding found_behind
  behind-misspelt h a w = rw (lt-leb (length bytes) next h, a, w)

-- a recording

module _ (most : ℕ) (bytes : List ℕ) (at : ℕ) where
  pub at-missing : length bytes ≤ at → recording_at most bytes at ≡ nothing missing at
  unfolding recording_at
  at-missing h = rw (le-leb (length bytes) at h)

  pub at-no-answer : at < length bytes → is_answer bytes at ≡ false → recording_at most bytes at ≡ nothing no_answer at
  unfolding recording_at
  at-no-answer h a = rw (lt-leb (length bytes) at h, a)

  pub at-answer : at < length bytes → is_answer bytes at ≡ true → recording_at most bytes at ≡ recording_of (word_count most bytes (at + 2)) bytes at
  unfolding recording_at
  at-answer h a = rw (lt-leb (length bytes) at h, a)

-- what `read_recording` gives

module _ (bytes : List ℕ) (at : ℕ) (lent : List ℕ) where
  nothing_read : (f : ℕ) → recording_at (length lent) bytes at ≡ nothing f at → ReadsRecordingIn bytes at lent f 0 0 at lent
  nothing_read f e = record {
    found = rw e;
    answer = rw e;
    count = rw e;
    next = rw e;
    words = rw e;
    inside = omega arith;
    within = λ h. h;
    onward = omega arith;
  }

  pub missing-read : length bytes ≤ at → ReadsRecordingIn bytes at lent missing 0 0 at lent
  missing-read h = nothing_read missing (at-missing (length lent) bytes at h)

  pub no-answer-read : at < length bytes → is_answer bytes at ≡ false → ReadsRecordingIn bytes at lent no_answer 0 0 at lent
  no-answer-read h a = nothing_read no_answer (at-no-answer (length lent) bytes at h a)

  -- the words' lines end inside the log
  pub words-inside : (n : ℕ) (after : List ℕ) → is_answer bytes at ≡ true → ReadsWords bytes (at + 2) lent n after → at + 2 + 9 * n ≤ length bytes
  words-inside n after is words = omega (arith, words.count, count-inside bytes (length lent) (at + 2) (answer-inside bytes at is))

  pub read : at < length bytes → is_answer bytes at ≡ true → (f a n to : ℕ) (after : List ℕ) → ReadsWords bytes (at + 2) lent n after
      → to ≡ at + 2 + 9 * n → f ≡ found_behind bytes to → a ≡ byte bytes at - 48
      → ReadsRecordingIn bytes at lent f a n to after
  unfolding recording_of
  read h is f a n to after words next found answer =
      let e = at-answer (length lent) bytes at h is in
      let q = words.count in
      let long = words_long bytes (word_count (length lent) bytes (at + 2)) (at + 2) in
      record {
        found = rw (e, ← q, ← next) found;
        answer = rw e answer;
        count = rw (e, long) q;
        next = rw (e, ← q) next;
        words = rw (e, long, ← q) words.words;
        inside = omega (arith, count_room bytes (length lent) (at + 2));
        within = λ _. omega (arith, count-inside bytes (length lent) (at + 2) (answer-inside bytes at is));
        onward = omega arith;
      }
