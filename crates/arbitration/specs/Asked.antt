-- What the parts of an arbitration ask for. The 256 are the words of flags and results that are lent inside it.
use Rattle.std.specs.Prelude.{ℕ, ◌≤◌, ◌<◌, ◌≡◌, List, length}
use Rattle.rulebook.specs.Lists.{Run}
use Rattle.laws.specs.Facts.{Nested}
use Rattle.rulebook.specs.Table.{rules}
use Rattle.lists.specs.Runs.{Safe}

-- there is a word for each rule's result
pub record ResultsLent (t : List ℕ) (results : List ℕ) : Type 0 where
  pub few : rules t ≤ 256
  pub long : length results ≡ 256

-- the table's lists keep rule 7, and there is a word for each rule's result
pub record Bounded (t : List ℕ) : Type 0 where
  pub nested : Nested t
  pub few : rules t ≤ 256

-- an arbitration, or its lists, whose run is x
pub record MayArbitrate (t : List ℕ) (x : Run) (trace : List ℕ) : Type 0 where
  pub bounded : Bounded t
  pub safe : Safe x trace

-- so of port p alone
pub record MayArbitratePort (t : List ℕ) (p : ℕ) (x : Run) (trace : List ℕ) : Type 0 where
  pub bounded : Bounded t
  pub port : p < 256
  pub safe : Safe x trace
