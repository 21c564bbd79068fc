-- `nesting::next_depth` meets its contract: each exit by its law. Assumes nothing.
use Rattle.nesting.proofs.Levels.{depth-kept, depth-found, depth-open}
use Rattle.nesting.proofs.next_depth.Goals as goal

pub returns-then-depth-ne0 : goal.returns-then-depth-ne0
returns-then-depth-ne0 c = depth-kept _ _ _ _ _ c.word-depth.ensures c.if-depth-ne0.true

pub returns-then-list_nests : goal.returns-then-list_nests
returns-then-list_nests c = depth-found _ _ _ _ _ c.word-depth.ensures _ c.list_nests.ensures c.if-depth-ne0.false c.if-list_nests.true

pub returns : goal.returns
returns c = depth-open _ _ _ _ _ c.word-depth.ensures _ c.list_nests.ensures c.if-depth-ne0.false c.if-list_nests.false
