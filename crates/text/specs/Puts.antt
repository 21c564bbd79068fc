-- Bytes laid into lent bytes, and what the functions that lay them promise.
use Rattle.std.specs.Prelude.{ℕ, ◌+◌, ◌-◌, ◌*◌, ◌/◌, ◌≤◌, min, ◌≡◌, Bool, cond, List, ◌++◌, length, take, drop, leb}
use Rattle.text.specs.Lines.{hex_lines}
use Rattle.text.specs.declared.output.Laid.{Laid}

-- `out` with xs in the place of as many bytes from `at` on
unfoldable pub lay : List ℕ → ℕ → List ℕ → List ℕ
lay out at xs = take at out ++ xs ++ drop (at + length xs) out

abbrev pub has_room : List ℕ → ℕ → List ℕ → Bool
has_room out at xs = leb (at + length xs) (length out)

-- the line was laid and `next` is the place after it, or it has no room: then nothing is written and `next` is `at`
pub record Put (line out : List ℕ) (at next : ℕ) (after : List ℕ) : Type 0 where
  pub place : next ≡ cond (has_room out at line) (at + length line) at
  pub bytes : after ≡ cond (has_room out at line) (lay out at line) out
  -- follows from `place`; here for callers that lend the part up to `next`
  pub within : at ≤ length out → next ≤ length out

-- a line, or several, laid at a place that has room for them
pub record PutAt (xs out : List ℕ) (at next : ℕ) (after : List ℕ) : Type 0 where
  pub place : next ≡ at + length xs
  pub bytes : after ≡ lay out at xs

-- the elements from `from` up to, not including, `to`
abbrev pub run : List ℕ → ℕ → ℕ → List ℕ
run ws from to = drop from (take to ws)

-- as many of the run's lines were laid as fit past `at`, nine bytes each
pub record PutWords (out : List ℕ) (at : ℕ) (ws : List ℕ) (from to : ℕ) (r : Laid) (after : List ℕ) : Type 0 where
  pub count : r.words ≡ min (min to (length ws) - from) ((length out - at) / 9)
  pub place : r.next ≡ at + 9 * r.words
  pub bytes : after ≡ lay out at (hex_lines (take r.words (run ws from to)))
