-- `reach::raise_levels` meets its contract, from no round to that of depth 2. Assumes nothing.
use Rattle.std.proofs.Common.{◌≡◌, ◌+◌, ◌-◌, sym, ◌∙◌, arith}
use Rattle.reach.proofs.Rounds.{no-round}
use Rattle.reach.proofs.raise_levels.Goals as goal

pub loop-d-init : goal.loop-d-init
loop-d-init c = record { some = omega arith; closed = no-round _ _ c.requires.judged _ c.requires.started }

pub raise_level-requires : goal.raise_level-requires
raise_level-requires c =
    let same : c.loop-d.d - 1 + 1 ≡ c.loop-d.d = omega arith in
    record { sorted = c.requires.judged.sorted; shallow = omega arith; closed = rw same c.loop-d.invariant.closed }

pub loop-d-preserved : goal.loop-d-preserved
loop-d-preserved c = record { some = omega arith; closed = c.raise_level.ensures }

pub returns : goal.returns
returns c =
    let last : c.loop-d.d ≡ 1 = let some = c.loop-d.invariant.some in omega arith in
    rw last at c.loop-d.invariant.closed

pub shape_of-flags : goal.shape_of-flags
shape_of-flags c = c.loop-d.invariant.closed.long ∙ sym c.requires.started.long
