-- The tests of the two loops over networks and sources. Assumes nothing.
use Prim.Native.Nat.{ℕ}
use mathlib.Core.Path.{◌≡◌}
use mathlib.Core.List.{List}
use lib.Dec.{eqb}
use Rattle.rulebook.specs.Reasons.{network_has, source_has}
use Rattle.words.specs.declared.sections.Network.{Network}
use Rattle.words.specs.declared.sections.Source.{Source}
use Rattle.words.specs.Sections.{NetworkAt, SourceAt}

module _ (t : List ℕ) (p i : ℕ) where
  pub network-has : (x : Network) → NetworkAt t i x → network_has t p i ≡ eqb x.port p
  unfolding network_has
  network-has x read = rw read.port.value

  pub source-has : (x : Source) → SourceAt t i x → source_has t p i ≡ eqb x.port p
  unfolding source_has
  source-has x read = rw read.port.value
