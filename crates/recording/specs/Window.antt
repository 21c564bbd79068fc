-- A log may be read through a window, some of its bytes at a time: where the window has room for the longest recording and a line behind it,
-- what stands behind the window changes nothing, and the log's end is not seen: proofs/Window.
use Rattle.std.specs.Prelude.{ℕ, ◌+◌, ◌*◌, ◌≤◌, ◌≡◌, List, ◌++◌, length}
use Rattle.recording.specs.Log.{recording_at, last, missing}

pub record Seen (most : ℕ) (bytes : List ℕ) (at : ℕ) (more : List ℕ) : Type 0 where
  pub same : recording_at most (bytes ++ more) at ≡ recording_at most bytes at
  pub there : (recording_at most bytes at).found ≡ missing → ⊥
  pub goes_on : (recording_at most bytes at).found ≡ last → ⊥

-- with room for `most` words; `most_words` where the log is read
abbrev pub Window : ℕ → Type 0
Window most = (bytes : List ℕ) (at : ℕ) → at + (2 + 9 * most) + 9 ≤ length bytes → (more : List ℕ) → Seen most bytes at more
