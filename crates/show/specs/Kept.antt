-- The state and the newest step's words on their way from block to block: which events led to them, and from which on.
use Rattle.std.specs.Prelude.{◌≡◌, ℕ, ◌≤◌, Bool, true, false, Result, Ok, Err, List, [], ◌++◌, length, take}
use Rattle.rulebook.specs.Reasons.{accepted, bound}
use Rattle.rulebook.specs.State.{state_length, fresh}
use Rattle.session.specs.Printed.{taken, state_after}
use Rattle.session.specs.Promises.{Ready}
use Rattle.panel.specs.Printed as printed
use Rattle.show.specs.Printed.{newest}
use Rattle.show.specs.Promises.{most_panel, Shown}
use Rattle.files.specs.Counts.{IsPrefixLen}
use Rattle.show.specs.declared.Seen.{Seen}
use Rattle.show.specs.declared.Turn.{Turn}

-- a table that stands, an operator, words lent for its state and its trace, and room for two panels
pub record Lent (o : ℕ) (t s trace found out : List ℕ) : Type 0 where
  pub operator : printed.operator o ≡ true
  pub table : accepted t ≡ true
  pub state : length s ≡ state_length t
  pub room : bound t ≤ length trace
  pub few : length trace ≤ 4096
  pub bytes : most_panel ≤ length found
  pub line : most_panel ≤ length out

-- the panel of a state and of the first n trace words can be laid
pub record Last (o : ℕ) (t s trace : List ℕ) (n : ℕ) (out : List ℕ) : Type 0 where
  pub inside : n ≤ length trace
  pub shown : Shown o t s (take n trace) out

-- operator, table, state and trace are in order; the newest step's words and the panel found are inside what is lent, and a panel has room
pub record Going (o : ℕ) (t s trace : List ℕ) (seen : Seen) (found out : List ℕ) : Type 0 where
  pub operator : printed.operator o ≡ true
  pub ready : Ready t s trace
  pub few : length trace ≤ 4096
  pub words : seen.count ≤ length trace
  pub bytes : seen.kept ≤ length found
  pub room : most_panel ≤ length found
  pub line : most_panel ≤ length out

-- the state and the newest step's words that events es leave, from s and ws on
pub record Leaves (t s ws es s' trace' : List ℕ) (n : ℕ) : Type 0 where
  pub state : s' ≡ state_after t s es
  pub words : take n trace' ≡ newest t s ws es

-- some first ones of the events es were taken from s on, and no other event
pub record TookSome (t s es s' : List ℕ) : Type 0 where
  pub events : List ℕ
  pub rest : List ℕ
  pub first : events ++ rest ≡ es
  pub state : s' ≡ state_after t s events

-- A block with the events es: where what is printed of them could be written all of them were taken, else some first ones; all is in
-- order for the next.
pub record TookBlock (o : ℕ) (t s ws es : List ℕ) (going : Bool) (s' trace' : List ℕ) (seen : Seen) (found' out' : List ℕ)
    : Type 0 where
  pub all : going ≡ true → Leaves t s ws es s' trace' seen.count
  pub some : TookSome t s es s'
  pub next : Going o t s' trace' seen found' out'

-- A run whose first block has the events es; `whole` says that no block was left before its end. What a file's later blocks hold no
-- contract says, so their events are some list.
pub data Ran (t s ws es : List ℕ) : Bool → List ℕ → List ℕ → ℕ → Type 0 where
  past : {whole : Bool} {s' trace' : List ℕ} {n : ℕ} (later : List ℕ) → Leaves t s ws (es ++ later) s' trace' n → Ran t s ws es whole s' trace' n
  stopped : {s' trace' : List ℕ} {n : ℕ} (later : List ℕ) → TookSome t s (es ++ later) s' → Ran t s ws es false s' trace' n

-- one event was taken, and all is in order for the next
pub record TookOne (o : ℕ) (t : List ℕ) (e : ℕ) (s trace : List ℕ) (seen : Seen) (s' trace' found' out' : List ℕ) : Type 0 where
  pub state : s' ≡ (taken t s e).state
  pub words : take seen.count trace' ≡ (taken t s e).words
  pub going : Going o t s' trace' seen found' out'

-- the same in an error, where what has changed could not be written
abbrev pub WatchedOne : ℕ → List ℕ → ℕ → List ℕ → List ℕ → Result Seen Seen → List ℕ → List ℕ → List ℕ → List ℕ → Type 0
WatchedOne o t e s trace (Ok seen) s' trace' found' out' = TookOne o t e s trace seen s' trace' found' out'
WatchedOne o t e s trace (Err seen) s' trace' found' out' = TookOne o t e s trace seen s' trace' found' out'

-- a block taken: all of its events, or in an error some first ones
abbrev pub WatchedBlock : ℕ → List ℕ → List ℕ → List ℕ → List ℕ → Result Seen Seen → List ℕ → List ℕ → List ℕ → List ℕ → Type 0
WatchedBlock o t s ws es (Ok seen) s' trace' found' out' = TookBlock o t s ws es true s' trace' seen found' out'
WatchedBlock o t s ws es (Err seen) s' trace' found' out' = TookBlock o t s ws es false s' trace' seen found' out'

-- the same, and where no read failed either the bytes of the next one stand in the block
abbrev pub Goes
    : ℕ → List ℕ → List ℕ → List ℕ → List ℕ → Result Turn Seen → List ℕ → List ℕ → List ℕ → List ℕ → List ℕ → Type 0
Goes o t s ws es (Ok r) s' trace' block' found' out' = TookBlock o t s ws es true s' trace' r.seen found' out' × IsPrefixLen r.bytes block'
Goes o t s ws es (Err seen) s' trace' block' found' out' = TookBlock o t s ws es false s' trace' seen found' out'

-- a run to its end, or in an error one that was stopped before it; all is in order behind both
pub record EndedAs (o : ℕ) (t s ws es : List ℕ) (whole : Bool) (seen : Seen) (s' trace' found' out' : List ℕ) : Type 0 where
  pub going : Going o t s' trace' seen found' out'
  pub ran : Ran t s ws es whole s' trace' seen.count

abbrev pub Ended : ℕ → List ℕ → List ℕ → List ℕ → List ℕ → Result Seen Seen → List ℕ → List ℕ → List ℕ → List ℕ → Type 0
Ended o t s ws es (Ok seen) s' trace' found' out' = EndedAs o t s ws es true seen s' trace' found' out'
Ended o t s ws es (Err seen) s' trace' found' out' = EndedAs o t s ws es false seen s' trace' found' out'

-- one from the fresh state: behind it the panel of the newest step can be laid
pub record EndedLast (o : ℕ) (t es : List ℕ) (whole : Bool) (seen : Seen) (s' trace' out' : List ℕ) : Type 0 where
  pub last : Last o t s' trace' seen.count out'
  pub ran : Ran t (fresh t) [] es whole s' trace' seen.count

abbrev pub EndedFresh : ℕ → List ℕ → List ℕ → Result Seen Seen → List ℕ → List ℕ → List ℕ → Type 0
EndedFresh o t es (Ok seen) s' trace' out' = EndedLast o t es true seen s' trace' out'
EndedFresh o t es (Err seen) s' trace' out' = EndedLast o t es false seen s' trace' out'
