-- A session whose cost is told, from call to call and from block to block, each state and the largest counts passed on, and what it prints.
use Rattle.std.specs.Prelude.{ℕ, ◌+◌, ◌%◌, ◌≤◌, ◌≡◌, ◌⊎◌, List, [], ◌++◌, length, take}
use Rattle.text.specs.Words.{words_of}
use Rattle.session.specs.Printed.{state_after}
use Rattle.session.specs.Promises.{offered}
use Rattle.visits.specs.declared.Most.{Most}
use Rattle.visits.specs.declared.Taken.{Taken}
use Rattle.visits.specs.Printed.{results, cost_lines, most_after}
use Rattle.visits.specs.Promises.{TookEvents}

-- Calls of `take_events` on one block's bytes, from its `from`-th word on until none is left; each call's bytes are printed. The
-- trace and the lines' room may be others at each call.
pub data Calls (t bytes : List ℕ) : ℕ → List ℕ → Most → List ℕ → List ℕ → Most → Type 0 where
  ended : {from : ℕ} {s : List ℕ} {m : Most} → length (words_of bytes) ≤ from → Calls t bytes from s m [] s m
  call : {from : ℕ} {s trace out s₁ trace₁ out₁ ls s₂ : List ℕ} {m m₂ : Most} {r : Taken}
      → TookEvents t s trace (offered t s (length trace) bytes from) m out r s₁ trace₁ out₁
      → Calls t bytes (from + r.events) s₁ r.most ls s₂ m₂
      → Calls t bytes from s m (take r.bytes out₁ ++ ls) s₂ m₂

-- A file in blocks, none of which but the last ends inside a word.
pub data Blocks (t : List ℕ) : List ℕ → Most → List ℕ → List ℕ → List ℕ → Most → Type 0 where
  ended : {s : List ℕ} {m : Most} → Blocks t s m [] [] s m
  block : {s bytes rest ls s₁ ms s₂ : List ℕ} {m m₁ m₂ : Most} → (length bytes % 4 ≡ 0) ⊎ (rest ≡ []) → Calls t bytes 0 s m ls s₁ m₁
      → Blocks t s₁ m₁ rest ms s₂ m₂
      → Blocks t s m (bytes ++ rest) (ls ++ ms) s₂ m₂

-- the state and the largest counts that events es leave, from state s and the counts m on
pub record Leaves (t s es : List ℕ) (m : Most) (s' : List ℕ) (m' : Most) : Type 0 where
  pub state : s' ≡ state_after t s es
  pub most : m' ≡ most_after m (results t s es)

-- and the bytes that they print
pub record Prints (t s es : List ℕ) (m : Most) (ls s' : List ℕ) (m' : Most) : Type 0 where
  pub lines : ls ≡ cost_lines m.events (results t s es)
  pub leaves : Leaves t s es m s' m'
