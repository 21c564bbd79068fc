-- `recording::read_hex` meets its contract. Assumes nothing.
use Rattle.std.proofs.Common.{arith, sym}
use Rattle.recording.proofs.Spelling.{no-digits, no_number, one-digit, spoilt}
use Rattle.recording.proofs.read_hex.Goals as goal

pub loop-k-init : goal.loop-k-init
loop-k-init c = record { all = no-digits _ _; number = sym (no_number _ _) }

pub returns-in_err-digit : goal.returns-in_err-digit
returns-in_err-digit c =
    let none = rw c.byte.ensures at c.in_err-digit.ensures in
    rw c.from_residual.ensures (spoilt c.args.bytes.now c.args.at c.loop-k.k (omega arith) (omega (arith, none)))

pub overflow_mul-value : goal.overflow_mul-value
overflow_mul-value c =
    let l = c.loop-k in
    omega (arith, (one-digit c.args.bytes.now c.args.at l.k l.value _ (omega arith) l.invariant.all l.invariant.number c.byte.ensures c.in_ok-digit.ensures).2)

pub overflow_add-value : goal.overflow_add-value
overflow_add-value c =
    let l = c.loop-k in
    omega (arith, (one-digit c.args.bytes.now c.args.at l.k l.value _ (omega arith) l.invariant.all l.invariant.number c.byte.ensures c.in_ok-digit.ensures).2)

pub loop-k-preserved : goal.loop-k-preserved
loop-k-preserved c =
    let l = c.loop-k in
    let more = one-digit c.args.bytes.now c.args.at l.k l.value _ (omega arith) l.invariant.all l.invariant.number c.byte.ensures c.in_ok-digit.ensures in
    record { all = more.0; number = more.1 }
