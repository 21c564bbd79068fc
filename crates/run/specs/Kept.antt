-- The state on its way from block to block: which events led to it, and from which state on.
use Rattle.std.specs.Prelude.{ℕ, ◌≤◌, ◌≡◌, Bool, true, false, Option, Some, None, List, ◌++◌, length, take}
use Rattle.rulebook.specs.Reasons.{accepted, bound}
use Rattle.rulebook.specs.State.{state_length}
use Rattle.session.specs.Printed.{state_after}
use Rattle.files.specs.Counts.{IsPrefixLen}

-- a table that stands, and words lent for its state and its trace
pub record Lent (t s trace : List ℕ) : Type 0 where
  pub table : accepted t ≡ true
  pub state : length s ≡ state_length t
  pub room : bound t ≤ length trace

-- some first ones of the events es were taken from s on, and no other event
pub record TookSome (t s es s' : List ℕ) : Type 0 where
  pub count : ℕ
  pub state : s' ≡ state_after t s (take count es)

-- A block with the events es: where its lines could be written all of them were taken, else some first ones.
pub record TookBlock (t s es : List ℕ) (written : Bool) (s' : List ℕ) : Type 0 where
  pub all : written ≡ true → s' ≡ state_after t s es
  pub some : TookSome t s es s'

-- Whether the next block was read behind one with the events es: then all of them were taken, and its bytes stand in the block; else its lines could
-- not be written.
abbrev pub Goes : List ℕ → List ℕ → List ℕ → Option ℕ → List ℕ → List ℕ → Type 0
Goes t s es (Some n) s' block' = TookBlock t s es true s' × IsPrefixLen n block'
Goes t s es None s' block' = TookBlock t s es false s'

-- A run whose first block has the events es; `whole` says that no block was left before its end. What a file's later blocks hold no
-- contract says, so their events are some list.
pub data Ran (t s es : List ℕ) : Bool → List ℕ → Type 0 where
  past : {whole : Bool} {s' : List ℕ} (later : List ℕ) → s' ≡ state_after t s (es ++ later) → Ran t s es whole s'
  stopped : {s' : List ℕ} → TookSome t s es s' → Ran t s es false s'
