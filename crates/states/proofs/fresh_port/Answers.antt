-- `states::fresh_port` meets its contract: each exit by the tests that led there. Assumes nothing.
use Rattle.rulebook.specs.State.{fresh_port}
use borrow.Author.Tests.{eq-eqb, ne_eqb}
use Rattle.states.proofs.fresh_port.Goals as goal

pub returns-then-port-eq1 : goal.returns-then-port-eq1
unfolding fresh_port
returns-then-port-eq1 c =
    let port = c.port-port.ensures in
    rw (← port.has-initial.value, eq-eqb _ _ c.if-port-eq1.true, ← port.initial.value) c.from.ensures

pub returns-then-port-eq-PORT_MODE : goal.returns-then-port-eq-PORT_MODE
unfolding fresh_port
returns-then-port-eq-PORT_MODE c =
    let port = c.port-port.ensures in
    rw (← port.has-initial.value, ne_eqb _ _ c.if-port-eq1.false, ← port.kind.value, eq-eqb _ _ c.if-port-eq-PORT_MODE.true)
    c.from-then-port-eq-PORT_MODE.ensures

pub returns : goal.returns
unfolding fresh_port
returns c =
    let port = c.port-port.ensures in
    rw (← port.has-initial.value, ne_eqb _ _ c.if-port-eq1.false, ← port.kind.value, ne_eqb _ _ c.if-port-eq-PORT_MODE.false) c.from-2.ensures
