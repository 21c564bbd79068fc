-- `manager::take_next` meets its promise: each exit by its law, and the run is safe on an accepted table. Assumes nothing.
use Rattle.std.proofs.Common.{[], arith}
use Rattle.manager.proofs.Steps.{short-trace, goes_on, bounded, run-safe}
use Rattle.manager.proofs.take_next.Goals as goal

pub returns-in_default : goal.returns-in_default
returns-in_default c = short-trace c.requires _ _ _ (omega (arith, c.in_default.ensures))

pub handle-requires : goal.handle-requires
handle-requires c = record {
  bounded = bounded c.requires c.args.trace.now [] 0;
  safe = run-safe c.requires _ _ _ (omega (arith, c.in-Some.ensures));
}

pub returns : goal.returns
returns c = rw (goes_on c.requires c.args.trace.now c.args.outcomes.now c.args.e (omega (arith, c.in-Some.ensures))) c.handle.ensures
