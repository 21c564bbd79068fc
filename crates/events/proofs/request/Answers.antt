-- `events::request` meets its contract: the write, and then the arbitration where it is immediate. Assumes nothing.
use Rattle.lists.proofs.Along.{ran-none}
use Rattle.events.proofs.Exits.{request-now, request-late}
use Rattle.events.proofs.request.Goals as goal

pub arbitrate_one-requires : goal.arbitrate_one-requires
arbitrate_one-requires c = record {
  bounded = c.requires.bounded;
  port = c.requires.port;
  safe = rw (request-now _ _ _ _ _ _ _ c.request_port.ensures c.if-request_port.true) at c.requires.safe;
}

pub returns-then-request_port : goal.returns-then-request_port
returns-then-request_port c = rw (request-now _ _ _ _ _ _ _ c.request_port.ensures c.if-request_port.true) c.arbitrate_one.ensures

pub returns : goal.returns
returns c =
    rw (request-late _ _ _ _ _ _ _ c.request_port.ensures c.if-request_port.false, c.nothing.ensures)
    (ran-none _ _ _)
