-- `session::ready` meets its contract: each exit by its law. Assumes nothing.
use Rattle.std.proofs.Common.{refl}
use Rattle.states.proofs.Admitting.{standing, standing-bound}
use Rattle.manager.proofs.Steps.{unadmitted-refused}
use Rattle.session.proofs.Steps.{not-admitted, room-decides}
use Rattle.session.proofs.ready.Goals as goal

pub returns-in-Ok : goal.returns-in-Ok
returns-in-Ok c =
    let said = c.in-Ok.ensures in
    rw (standing-bound refl said) (room-decides _ _ _ (standing refl said))

pub returns-in-Err : goal.returns-in-Err
returns-in-Err c = not-admitted _ _ _ (unadmitted-refused c.in-Err.field-0 c.in-Err.ensures)
