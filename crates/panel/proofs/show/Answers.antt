-- `panel::show` meets its contract: what refuses it, one after the other, or the lines. Assumes nothing.
use Rattle.std.proofs.Common.{sym, arith}
use Rattle.panel.proofs.Answers.{not-operator, unfit, no_room, done}
use Rattle.panel.proofs.show.Goals as goal

pub returns-in_default : goal.returns-in_default
returns-in_default c = not-operator _ _ _ _ _ (sym c.in_default.ensures)

pub returns-in_default-fit : goal.returns-in_default-fit
returns-in_default-fit c =
    let e = c.in_default-fit.ensures in
    rw c.in_default-fit.is (unfit _ _ _ _ _ (sym c.in-true.ensures) _ e.0 e.1)

pub returns-in_default-room_left : goal.returns-in_default-room_left
returns-in_default-room_left c = no_room _ _ _ _ _ (sym c.in-true.ensures) c.in-Ok.ensures c.in_default-room_left.ensures

pub returns : goal.returns
returns c =
    let left = c.in-Some.ensures in
    done _ _ _ _ _ (sym c.in-true.ensures) c.in-Ok.ensures (omega arith) c.lay.ensures
