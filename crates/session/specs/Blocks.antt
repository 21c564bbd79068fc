-- A session that goes on from call to call and from block to block, each state passed on, and what it prints.
use Rattle.std.specs.Prelude.{ℕ, ◌+◌, ◌%◌, ◌≤◌, ◌≡◌, ◌⊎◌, List, [], ◌++◌, length, take}
use Rattle.text.specs.Words.{words_of}
use Rattle.session.specs.declared.Taken.{Taken}
use Rattle.session.specs.Promises.{offered, TookEvents}

-- Calls of `take_events` on one block's bytes, from its `from`-th word on until none is left; each call's bytes are printed. The
-- trace and the lines' room may be others at each call.
pub data Calls (t bytes : List ℕ) : ℕ → List ℕ → List ℕ → List ℕ → Type 0 where
  ended : {from : ℕ} {s : List ℕ} → length (words_of bytes) ≤ from → Calls t bytes from s [] s
  call : {from : ℕ} {s trace out s₁ trace₁ out₁ ls s₂ : List ℕ} {r : Taken}
      → TookEvents t s trace (offered t s (length trace) bytes from) out r s₁ trace₁ out₁ → Calls t bytes (from + r.events) s₁ ls s₂
      → Calls t bytes from s (take r.bytes out₁ ++ ls) s₂

-- A file in blocks, none of which but the last ends inside a word.
pub data Blocks (t : List ℕ) : List ℕ → List ℕ → List ℕ → Type 0 where
  ended : {s : List ℕ} → Blocks t s [] []
  block : {s bytes rest ls s₁ ms : List ℕ} → (length bytes % 4 ≡ 0) ⊎ (rest ≡ []) → Calls t bytes 0 s ls s₁ → Blocks t s₁ rest ms
      → Blocks t s (bytes ++ rest) (ls ++ ms)
