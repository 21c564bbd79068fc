-- `audit::complaint::say` is safe: a number is laid inside its room. Assumes nothing.
use Rattle.std.proofs.Common.{arith}
use Rattle.audit.proofs.complaint.say.Goals as goal

pub slice_bounds-out-end : goal.slice_bounds-out-end
slice_bounds-out-end c =
    let put = c.put_decimal-bytes in
    omega (arith, put.ensures.within (omega arith), put.auto.out)
