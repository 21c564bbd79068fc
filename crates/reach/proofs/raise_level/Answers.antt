-- `reach::raise_level` meets its contract, by the laws of a round. Assumes nothing.
use Rattle.std.proofs.Common.{◌<◌, sym, ◌∙◌, arith}
use Rattle.rulebook.specs.Table.{lists}
use Rattle.reach.proofs.Rounds.{round-starts, round-turn, round-ends}
use Rattle.reach.proofs.raise_level.Goals as goal

pub pass_on-requires : goal.pass_on-requires
pass_on-requires c = record { long = c.loop-l.invariant.long; shallow = c.requires.shallow }

pub loop-l-init : goal.loop-l-init
loop-l-init c = round-starts _ _ _ c.requires.closed

pub loop-l-preserved : goal.loop-l-preserved
loop-l-preserved c =
    let pre = c.requires in
    let there : c.loop-l.l < lists c.args.t.now.words = omega arith in
    round-turn _ _ _ _ _ _ pre.sorted.few there pre.shallow pre.sorted.found c.loop-l.invariant c.pass_on.ensures

pub returns : goal.returns
returns c = round-ends _ _ _ _ (omega arith) c.loop-l.invariant

pub shape_of-flags : goal.shape_of-flags
shape_of-flags c = c.loop-l.invariant.long ∙ sym c.requires.closed.long
