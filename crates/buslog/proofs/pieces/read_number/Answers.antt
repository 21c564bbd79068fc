-- `buslog::pieces::read_number` meets its contract. The loop's invariant: `ToldTo`. Assumes nothing.
use mathlib.Core.Path.{◌∙◌}
use native.Mathlib.Omega.{arith}
use Rattle.buslog.proofs.Worth.{told_more, told-number, told-small}
use Rattle.buslog.proofs.pieces.read_number.Goals as goal

pub overflow_mul-n : goal.overflow_mul-n
overflow_mul-n c = omega (arith, told-small _ _ _ c.loop-b.n c.loop-b.b-index 0 c.requires c.loop-b-test.true (omega arith) c.loop-b.invariant)

pub overflow_add-n : goal.overflow_add-n
overflow_add-n c =
    omega (arith, told-small _ _ _ c.loop-b.n c.loop-b.b-index c.from.result c.requires c.loop-b-test.true (omega (arith, c.from.ensures)) c.loop-b.invariant)

pub loop-b-preserved : goal.loop-b-preserved
loop-b-preserved c =
    told_more _ _ _ c.loop-b.n c.loop-b.b-index c.from.result c.requires.many c.loop-b-test.true (c.from.ensures ∙ c.value.ensures)
    (omega (arith, c.from.ensures)) c.loop-b.invariant

pub returns : goal.returns
returns c = told-number _ _ _ _ _ c.requires (omega arith) c.loop-b.invariant
