-- `things::tick_things` meets its contract. Each loop's invariant: what the whole walk gives is what the rest of it gives from here. Assumes nothing.
use Rattle.std.proofs.Common.{◌≡◌, ◌-◌}
use Rattle.rulebook.specs.Words.{each}
use Rattle.rulebook.specs.Events.{tick_network, tick_source, tick_timer}
use Rattle.things.proofs.tick_things.Given as goal

abbrev pub invariant-loop-n : goal.invariant-loop-n
invariant-loop-n l = each 0 l.n-end (tick_network l.t.words) l.initial.s ≡ each l.n (l.n-end - l.n) (tick_network l.t.words) l.s

abbrev pub invariant-loop-k : goal.invariant-loop-k
invariant-loop-k l = each 0 l.k-end (tick_source l.t.words) l.initial.s ≡ each l.k (l.k-end - l.k) (tick_source l.t.words) l.s

abbrev pub invariant-loop-p : goal.invariant-loop-p
invariant-loop-p l = each 0 l.p-end (tick_timer l.t.words) l.initial.s ≡ each l.p (l.p-end - l.p) (tick_timer l.t.words) l.s
