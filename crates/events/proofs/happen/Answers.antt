-- `events::happen` meets its contract: the dispatch is the rulebook's. Assumes nothing.
use Rattle.std.proofs.Common.{arith}
use Rattle.lists.proofs.Along.{ran-none}
use Rattle.events.proofs.Exits.{happens-tick, happens-mode, happens-request, happens-change}
use Rattle.events.proofs.happen.Goals as goal

pub tick-requires : goal.tick-requires
tick-requires c = record {
  bounded = c.requires.bounded;
  safe = rw (happens-tick _ _ _ _ _ c.args.e.kind_read c.in-0.is) at c.requires.safe;
}

pub returns-in-0 : goal.returns-in-0
returns-in-0 c = rw (happens-tick _ _ _ _ _ c.args.e.kind_read c.in-0.is) c.tick.ensures

pub request-requires : goal.request-requires
request-requires c = record {
  bounded = c.requires.bounded;
  port = c.args.e.index_small;
  safe = rw (happens-mode _ _ _ _ _ c.args.e.kind_read _ _ c.args.e.index_read c.args.e.value_read c.in-1.is) at c.requires.safe;
}

pub returns-in-1 : goal.returns-in-1
returns-in-1 c = rw (happens-mode _ _ _ _ _ c.args.e.kind_read _ _ c.args.e.index_read c.args.e.value_read c.in-1.is) c.request.ensures

pub request-requires-in-2 : goal.request-requires-in-2
request-requires-in-2 c = record {
  bounded = c.requires.bounded;
  port = c.args.e.index_small;
  safe = rw (happens-request _ _ _ _ _ c.args.e.kind_read _ c.args.e.index_read c.in-2.is) at c.requires.safe;
}

pub returns-in-2 : goal.returns-in-2
returns-in-2 c = rw (happens-request _ _ _ _ _ c.args.e.kind_read _ c.args.e.index_read c.in-2.is) c.request-in-2.ensures

pub returns-in_default : goal.returns-in_default
returns-in_default c =
    rw (
      happens-change _ _ _ _ _ c.args.e.kind_read _ c.args.e.index_read (λ z. omega arith) (λ z. omega arith) (λ z. omega arith),
      ← c.change.ensures,
      c.nothing.ensures,
    )
    (ran-none _ _ _)
