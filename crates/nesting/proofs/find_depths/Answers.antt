-- `nesting::find_depths` meets its contract: once a round finds none, the levels above are all the same. Assumes nothing.
use Rattle.std.proofs.Common.{◌≡◌, sym, ◌∙◌, arith}
use Rattle.nesting.proofs.Levels.{settled}
use Rattle.nesting.proofs.find_depths.Goals as goal

pub find_level-requires : goal.find_level-requires
find_level-requires c = record { searched = record { few = c.requires.few; found = c.loop-d.invariant }; shallow = c.loop-d-test.true }

pub shape_of-depths-then-not-find_level : goal.shape_of-depths-then-not-find_level
shape_of-depths-then-not-find_level c = c.find_level.ensures.next.long ∙ sym c.requires.found.long

pub returns-then-not-find_level : goal.returns-then-not-find_level
returns-then-not-find_level c = let e = c.find_level.ensures in settled _ _ _ (e.none c.if-not-find_level.true) e.next 7 (omega arith)

pub shape_of-depths : goal.shape_of-depths
shape_of-depths c = c.loop-d.invariant.long ∙ sym c.requires.found.long

pub returns : goal.returns
returns c = let all : c.loop-d.d ≡ 7 = omega arith in rw all at c.loop-d.invariant

pub loop-d-preserved : goal.loop-d-preserved
loop-d-preserved c = c.find_level.ensures.next
