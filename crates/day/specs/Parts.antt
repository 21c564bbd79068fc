-- A day in parts: calls of `play_part` one after the other, from block to block of a file, and what they print, take, answer and leave.
use Rattle.std.specs.Prelude.{ℕ, ◌+◌, ◌%◌, ◌≡◌, ◌⊎◌, List, [], ◌++◌, length, take, drop}
use Rattle.rulebook.specs.Play.{Play}
use Rattle.text.specs.Words.{words_of}
use Rattle.day.specs.declared.Part.{Part}
use Rattle.day.specs.Printed.{trace_lines, in64}
use Rattle.day.specs.Promises.{PlaysPart}

-- Events from a state on: the bytes printed, the events taken, their visits, the last part's number, the state left. A part that is full is resumed
-- at the event before which it stopped; any other is the last. The trace and the lines' room may be others at each call.
pub data Parts (t : List ℕ) : List ℕ → List ℕ → List ℕ → ℕ → ℕ → ℕ → List ℕ → Type 0 where
  last : {s es trace out s₁ trace₁ out₁ : List ℕ} {r : Part} → PlaysPart t s trace es out r s₁ trace₁ out₁ → (r.number ≡ 3 → ⊥)
      → Parts t s es (take r.bytes out₁) r.taken r.visits r.number s₁
  full : {s es trace out s₁ trace₁ out₁ ls : List ℕ} {n v k : ℕ} {s₂ : List ℕ} {r : Part} → PlaysPart t s trace es out r s₁ trace₁ out₁ → r.number ≡ 3
      → Parts t s₁ (drop r.taken es) ls n v k s₂
      → Parts t s es (take r.bytes out₁ ++ ls) (r.taken + n) (in64 (r.visits + v)) k s₂

-- A file in blocks, none of which but the last ends inside a word. Behind one that is done comes the next one; a refused event ends
-- the play, and what the file still has is not read.
pub data Blocks (t : List ℕ) : List ℕ → List ℕ → List ℕ → ℕ → ℕ → ℕ → List ℕ → Type 0 where
  ended : {s : List ℕ} → Blocks t s [] [] 0 0 0 s
  block : (bytes : List ℕ) {s rest ls : List ℕ} {n v : ℕ} {s₁ ms : List ℕ} {m w k : ℕ} {s₂ : List ℕ} → (length bytes % 4 ≡ 0) ⊎ (rest ≡ [])
      → Parts t s (words_of bytes) ls n v 0 s₁ → Blocks t s₁ rest ms m w k s₂
      → Blocks t s (bytes ++ rest) (ls ++ ms) (n + m) (in64 (v + w)) k s₂
  refused : (bytes : List ℕ) {s rest ls : List ℕ} {n v k : ℕ} {s₁ : List ℕ} → (length bytes % 4 ≡ 0) ⊎ (rest ≡ [])
      → Parts t s (words_of bytes) ls n v k s₁ → (k ≡ 0 → ⊥)
      → Blocks t s (bytes ++ rest) ls n v k s₁

-- the bytes printed, the events taken, their visits, the number and the state are those of play p
pub record Prints (p : Play) (ls : List ℕ) (n v k : ℕ) (s' : List ℕ) : Type 0 where
  pub lines : ls ≡ trace_lines p.words
  pub taken : n ≡ p.taken
  pub visits : v ≡ in64 p.visits
  pub number : k ≡ p.answer
  pub state : s' ≡ p.state
