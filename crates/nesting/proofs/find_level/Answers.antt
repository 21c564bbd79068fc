-- `nesting::find_level` meets its contract, by the laws of a round. Assumes nothing.
use Rattle.std.proofs.Common.{◌<◌, sym, ◌∙◌, arith}
use Rattle.nesting.proofs.Levels.{round-starts, round-turn, round-ends, round-none, still-none}
use Rattle.nesting.proofs.find_level.Goals as goal

pub loop-l-init : goal.loop-l-init
loop-l-init c =
    let found = c.requires.searched.found in
    record { passed = round-starts _ _ _ found; none = λ _ k. found.small k }

pub loop-l-preserved : goal.loop-l-preserved
loop-l-preserved c =
    let before = c.loop-l.invariant in
    let few = c.requires.searched.few in
    let inside : c.loop-l.l < 256 = omega arith in
    let next = c.next_depth-depth.ensures in
    rw c.put.ensures
    (record {
      passed = round-turn _ _ _ _ _ inside before.passed next;
      none = λ h. still-none _ _ _ _ _ inside before.passed next _ before.none h;
    })

pub shape_of-depths : goal.shape_of-depths
shape_of-depths c = c.loop-l.invariant.passed.long ∙ sym c.requires.searched.found.long

pub returns : goal.returns
returns c =
    let past = c.loop-l.invariant in
    record {
      next = round-ends _ _ _ _ (omega arith) past.passed;
      none = λ h. round-none _ _ _ _ past.passed (past.none h);
    }
