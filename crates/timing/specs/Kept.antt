-- The state and the largest counts on their way from block to block: which events led to them, and from which on.
use Rattle.std.specs.Prelude.{ℕ, ◌+◌, ◌≤◌, ◌<◌, ◌≡◌, Bool, true, false, Result, Ok, Err, List, ◌++◌, length, take}
use Rattle.rulebook.specs.Reasons.{accepted, bound}
use Rattle.rulebook.specs.State.{state_length}
use Rattle.files.specs.Counts.{IsPrefixLen}
use Rattle.session.specs.Promises.{Ready}
use Rattle.visits.specs.declared.Most.{Most}
use Rattle.visits.specs.Promises.{most_line}
use Rattle.visits.specs.Blocks.{Leaves}
use Rattle.timing.specs.declared.Turn.{Turn}

-- the first n bytes of a block are a file's; a block has at most 16,384 words
pub record Loaded (n : ℕ) (block : List ℕ) : Type 0 where
  pub bytes : IsPrefixLen n block
  pub size : length block ≤ 65536

-- a table that stands, words lent for its state and its trace, and room for the line of an event
pub record Lent (t s trace out : List ℕ) : Type 0 where
  pub table : accepted t ≡ true
  pub state : length s ≡ state_length t
  pub room : bound t ≤ length trace
  pub line : most_line ≤ length out

-- table, state and trace are in order, and there is room for the line of an event
pub record Going (t s trace out : List ℕ) : Type 0 where
  pub ready : Ready t s trace
  pub line : most_line ≤ length out

-- the events of a block more still have numbers of 64 bits
pub record Countable (m : Most) : Type 0 where
  pub fits : m.events + 16384 < 18446744073709551616

-- some first ones of the events es were taken, and no other event
pub record TookSome (t s es : List ℕ) (m : Most) (s' : List ℕ) (m' : Most) : Type 0 where
  pub count : ℕ
  pub leaves : Leaves t s (take count es) m s' m'

-- A block with the events es: where no write and no read failed all of them were taken, else some first ones.
pub record TookBlock (t s es : List ℕ) (m : Most) (going : Bool) (s' : List ℕ) (m' : Most) : Type 0 where
  pub all : going ≡ true → Leaves t s es m s' m'
  pub some : TookSome t s es m s' m'

-- the events of a block taken: all of them, or in an error some first ones
abbrev pub Timed : List ℕ → List ℕ → List ℕ → Most → Result Most Most → List ℕ → Type 0
Timed t s es m (Ok m') s' = TookBlock t s es m true s' m'
Timed t s es m (Err m') s' = TookBlock t s es m false s' m'

-- the same, and where no read failed either the bytes of the next one stand in the block
abbrev pub Goes : List ℕ → List ℕ → List ℕ → Most → Result Turn Most → List ℕ → List ℕ → Type 0
Goes t s es m (Ok r) s' block' = TookBlock t s es m true s' r.most × IsPrefixLen r.bytes block'
Goes t s es m (Err m') s' block' = TookBlock t s es m false s' m'

-- A run whose first block has the events es, from the counts m on; `whole` says that no block was left before its end. What a file's
-- later blocks hold no contract says, so their events are some list.
pub data Ran (t s es : List ℕ) (m : Most) : Bool → List ℕ → Most → Type 0 where
  past : {whole : Bool} {s' : List ℕ} {m' : Most} (later : List ℕ) → Leaves t s (es ++ later) m s' m' → Ran t s es m whole s' m'
  stopped : {s' : List ℕ} {m' : Most} → TookSome t s es m s' m' → Ran t s es m false s' m'

-- a whole run, or in an error one that was stopped before its end
abbrev pub Ended : List ℕ → List ℕ → List ℕ → Most → Result Most Most → List ℕ → Type 0
Ended t s es m (Ok m') s' = Ran t s es m true s' m'
Ended t s es m (Err m') s' = Ran t s es m false s' m'
