-- `arbitration::store` meets its contract. The loop's invariant: what the whole walk gives is what the rest of it gives. Assumes nothing.
use Rattle.std.proofs.Common.{◌≡◌, ◌-◌}
use Rattle.rulebook.specs.Words.{each}
use Rattle.arbitration.specs.Results.{store_by}
use Rattle.arbitration.proofs.store.Given as goal

abbrev pub invariant-loop-r : goal.invariant-loop-r
invariant-loop-r l =
    each 0 l.r-end (store_by l.t.words l.results) l.initial.s ≡ each l.r (l.r-end - l.r) (store_by l.t.words l.results) l.s
