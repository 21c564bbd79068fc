-- What the program's functions keep from event to event.
use Rattle.std.specs.Prelude.{◌≡◌, ℕ, ◌-◌, ◌≤◌, true, Option, Some, None, Result, Ok, Err, List, length, take}
use Rattle.rulebook.specs.Reasons.{accepted, bound}
use Rattle.rulebook.specs.State.{state_length}
use Rattle.session.specs.Promises.{Ready}
use Rattle.text.specs.Window.{Within, ahead}
use Rattle.files.specs.Counts.{IsPrefixLen}
use Rattle.audit.specs.declared.Place.{Place}
use Rattle.audit.specs.declared.Day.{Day}
use Rattle.audit.specs.declared.Stopped.{Stopped}
use Rattle.audit.specs.declared.Turn.{Turn}

-- the log's bytes that were read next still come first, from another place on and with more behind them where the log was read on
pub record WidenedTo (at end : ℕ) (window : List ℕ) (r : Place) (window' : List ℕ) : Type 0 where
  pub within : Within r.at r.end window'
  pub first : take (end - at) (ahead r.at r.end window') ≡ ahead at end window

-- where a read failed they come first all the same
abbrev pub Widened : ℕ → ℕ → List ℕ → Option Place → List ℕ → Type 0
Widened at end window (Some r) window' = WidenedTo at end window r window'
Widened at end window None window' = take (end - at) window' ≡ ahead at end window

-- a table that stands, and words lent for its state and its trace
pub record Lent (t s trace : List ℕ) : Type 0 where
  pub table : accepted t ≡ true
  pub state : length s ≡ state_length t
  pub room : bound t ≤ length trace
  pub small : length s ≤ 360
  pub few : length trace ≤ 4096

-- table, state and trace are in order, and no more words are lent than an event has
pub record Going (t s trace : List ℕ) : Type 0 where
  pub ready : Ready t s trace
  pub small : length s ≤ 360
  pub few : length trace ≤ 4096

-- behind events that were held all is in order; and the log's bytes that are read next stand in the window, unless the holding was stopped
abbrev pub HeldIn : List ℕ → List ℕ → List ℕ → List ℕ → Result Day Stopped → Type 0
HeldIn t s trace window (Ok d) = Going t s trace × Within d.place.at d.place.end window
HeldIn t s trace window (Err e) = Going t s trace

-- the same behind a block, where the bytes of the next one stand in it
abbrev pub Goes : List ℕ → List ℕ → List ℕ → List ℕ → List ℕ → Result Turn Stopped → Type 0
Goes t s trace block window (Ok r) = Going t s trace × Within r.day.place.at r.day.place.end window × IsPrefixLen r.bytes block
Goes t s trace block window (Err e) = Going t s trace

-- as many words of a recording as are read, and room for what is told of one

abbrev pub most_words : ℕ
most_words = 8192

abbrev pub told_bytes : ℕ
told_bytes = 262144
