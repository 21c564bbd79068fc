-- What the functions inside promise: a part's number, the counts that the header gives, and what lines leave of a room.
use Rattle.std.specs.Prelude.{ℕ, ◌+◌, ◌<◌, ◌≡◌, List, length, Option, Some, None, Result, Ok, Err}
use Rattle.rulebook.specs.Table as table
use Rattle.rulebook.specs.Step.{refused_state}
use Rattle.panel.specs.declared.Part.{Part}
use Rattle.panel.specs.declared.Part.TheVariants.{Ports, Networks, Sources, Trace}
use Rattle.panel.specs.declared.Counts.{Counts}
use Rattle.panel.specs.declared.NotShown.{NotShown}
use Rattle.panel.specs.Promises.{refusal_number}
use Rattle.panel.specs.Printed.{the_ports, the_networks, the_sources, the_trace}

-- a part in the numbers of `Printed`
abbrev pub part_number : Part → ℕ
part_number Ports = the_ports
part_number Networks = the_networks
part_number Sources = the_sources
part_number Trace = the_trace

-- the table's counts, with the bounds that their widths give
pub record Counted (t : List ℕ) (c : Counts) : Type 0 where
  pub ports : c.ports ≡ table.ports t
  pub networks : c.networks ≡ table.networks t
  pub sources : c.sources ≡ table.sources t
  pub rules : c.rules ≡ table.rules t
  pub few_ports : c.ports < 256
  pub few_networks : c.networks < 256
  pub few_sources : c.sources < 256
  pub few_rules : c.rules < 65536

-- lines xs in a room: what they leave of it, or that they do not fit
abbrev pub Leaves : List ℕ → ℕ → Option ℕ → Type 0
Leaves xs room (Some left) = left + length xs ≡ room
Leaves xs room None = room < length xs

-- table and state stand, or are refused with a number other than 0
abbrev pub Fitting : List ℕ → List ℕ → Result ℕ NotShown → Type 0
Fitting t s (Ok _) = refused_state t s ≡ 0
Fitting t s (Err e) = (refusal_number e ≡ refused_state t s) × (refusal_number e ≡ 0 → ⊥)
