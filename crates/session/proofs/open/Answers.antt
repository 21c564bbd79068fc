-- `session::open` meets its promise: a reason's place is below 3,185, so it fits. Assumes nothing.
use native.Mathlib.Omega.{arith}
use Rattle.tables.proofs.Accepted.{is-accepted, is-refused}
use Rattle.states.proofs.Admitting.{finding-bound}
use Rattle.session.proofs.Checks.{place-small, place_is, refuses, stands}
use Rattle.session.proofs.open.Goals as goal

pub overflow_cast-result : goal.overflow_cast-result
overflow_cast-result c =
    let p = place-small c.args.t.now in
    let q = place_is _ c.check-checked.result c.check-checked.ensures c.numbers-fault.ensures.0 c.numbers-fault.ensures.1 in
    omega arith

pub returns-in_default : goal.returns-in_default
returns-in_default c =
    refuses _ c.check-checked.result c.check-checked.ensures c.numbers-fault.ensures.0 c.numbers-fault.ensures.1
    (is-refused _ c.check-checked.result c.in_default.not-Ok c.check-checked.ensures)

pub returns : goal.returns
returns c =
    let ok = is-accepted _ _ _ c.in-Ok.is c.check-checked.ensures in
    stands _ ok c.state_words.ensures (finding-bound _ _ _ c.in-Ok.is c.check-checked.ensures ok)
