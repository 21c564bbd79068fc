-- `audit::Audit::hold_fresh` is safe: the state that it makes is ready. Assumes nothing.
use Rattle.std.proofs.Common.{arith}
use Rattle.audit.proofs.Kept.{fresh-going}
use Rattle.audit.proofs.Audit.hold_fresh.Goals as goal

pub hold_file-requires : goal.hold_file-requires
hold_file-requires c =
    let p = c.requires in
    let made = rw c.words.ensures at c.make_fresh.ensures in
    (p.0, fresh-going p.1 made c.make_fresh.auto.s, record { order = omega arith; inside = p.2 })
