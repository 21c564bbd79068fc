-- A play on its way from part to part and from block to block: what came of the events so far is what one play of them all gives, with
-- room for all.
use Rattle.std.specs.Prelude.{◌≡◌, ℕ, ◌*◌, ◌≤◌, Bool, true, false, Result, Ok, Err, List, ◌++◌, length, take}
use Rattle.rulebook.specs.Reasons.{accepted, bound}
use Rattle.rulebook.specs.State.{state_length}
use Rattle.rulebook.specs.Step.{refused_state}
use Rattle.files.specs.Counts.{IsPrefixLen}
use Rattle.day.specs.Printed.{in64, whole}
use Rattle.play.specs.declared.Count.{Count}
use Rattle.play.specs.declared.Turn.{Turn}

-- the first n bytes of a block are a file's; a block has at most as many words as are lent for its events
pub record Loaded (n : ℕ) (block : List ℕ) : Type 0 where
  pub bytes : IsPrefixLen n block
  pub size : length block ≤ 65536

-- a part has room for the most words that an event of table t can write, and for their lines
pub record Room (t trace out : List ℕ) : Type 0 where
  pub words : bound t ≤ length trace
  pub lines : 15 * bound t ≤ length out

-- a table that stands, words lent for its state, and room for a part
pub record Lent (t s trace out : List ℕ) : Type 0 where
  pub table : accepted t ≡ true
  pub state : length s ≡ state_length t
  pub room : Room t trace out

-- table and state stand, and there is room for a part
pub record Ready (t s trace out : List ℕ) : Type 0 where
  pub stands : refused_state t s ≡ 0
  pub room : Room t trace out

-- n events taken, their visits v, in 64 bits, the number k and the state s' are those of a play of the events es from state s on
pub record Told (t s es : List ℕ) (n v k : ℕ) (s' : List ℕ) : Type 0 where
  pub taken : n ≡ (whole t s es).taken
  pub visits : v ≡ in64 (whole t s es).visits
  pub number : k ≡ (whole t s es).answer
  pub state : s' ≡ (whole t s es).state

-- some first ones of the events es were played, and no other event
pub record TookSome (t s es : List ℕ) (n v k : ℕ) (s' : List ℕ) : Type 0 where
  pub count : ℕ
  pub told : Told t s (take count es) n v k s'

-- A block with the events es: where no write and no read failed all of them were played, else some first ones.
pub record TookBlock (t s es : List ℕ) (going : Bool) (n v k : ℕ) (s' : List ℕ) : Type 0 where
  pub all : going ≡ true → Told t s es n v k s'
  pub some : TookSome t s es n v k s'
  -- follows; here for a caller that adds them up
  pub within : n ≤ length es

-- a block played: all of its events, or in an error some first ones
abbrev pub Played : List ℕ → List ℕ → List ℕ → Result Count Count → List ℕ → Type 0
Played t s es (Ok c) s' = TookBlock t s es true c.taken c.visits c.number s'
Played t s es (Err c) s' = TookBlock t s es false c.taken c.visits c.number s'

-- the same, and where no read failed either the bytes of the next one stand in the block
abbrev pub Goes : List ℕ → List ℕ → List ℕ → Result Turn Count → List ℕ → List ℕ → Type 0
Goes t s es (Ok r) s' block' = TookBlock t s es true r.count.taken r.count.visits r.count.number s' × IsPrefixLen r.bytes block'
Goes t s es (Err c) s' block' = TookBlock t s es false c.taken c.visits c.number s'

-- A play whose first block has the events es; `over` says that it came to its end. What a file's later blocks hold no contract says, so
-- their events are some list.
pub data Ran (t s es : List ℕ) : Bool → ℕ → ℕ → ℕ → List ℕ → Type 0 where
  past : {over : Bool} {n v k : ℕ} {s' : List ℕ} (later : List ℕ) → Told t s (es ++ later) n v k s' → Ran t s es over n v k s'
  stopped : {n v k : ℕ} {s' : List ℕ} → TookSome t s es n v k s' → Ran t s es false n v k s'

-- a whole play, or in an error one that was stopped before its end
abbrev pub Ended : List ℕ → List ℕ → List ℕ → Result Count Count → List ℕ → Type 0
Ended t s es (Ok c) s' = Ran t s es true c.taken c.visits c.number s'
Ended t s es (Err c) s' = Ran t s es false c.taken c.visits c.number s'
