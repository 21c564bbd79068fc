-- `telling::lay_total` meets its contract. Assumes nothing.
use Prim.Native.Nat.{◌^◌, ◌<◌}
use native.Mathlib.Omega.{arith}
use Rattle.session.proofs.Lines.{unlaid}
use Rattle.telling.specs.Told.{events_label, all_label, not_label}
use Rattle.telling.proofs.Lines.{all-total, some-total}
use Rattle.telling.proofs.lay_total.Goals as goal

pub returns-then-out-lt96 : goal.returns-then-out-lt96
returns-then-out-lt96 c = unlaid 96 _ _ (omega arith)

pub returns-then-parted-eq0 : goal.returns-then-parted-eq0
unfolding events_label all_label
returns-then-parted-eq0 c =
    let small : c.args.events < 2 ^ 64 = omega (arith, c.ranges.events.fits) in
    all-total _ _ small (omega arith) c.put_decimal-number.ensures c.put_label-next.ensures c.if-parted-eq0.true c.put_label.ensures

pub returns : goal.returns
unfolding events_label not_label
returns c =
    let small : c.args.events < 2 ^ 64 = omega (arith, c.ranges.events.fits) in
    let few : c.args.parted < 2 ^ 64 = omega (arith, c.ranges.parted.fits) in
    some-total _ _ small (omega arith) c.put_decimal-number.ensures c.put_label-next.ensures few c.if-parted-eq0.false c.put_decimal-many.ensures
    c.put_label-2.ensures
