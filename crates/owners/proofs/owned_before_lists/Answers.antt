-- `owners::owned_before_lists` meets its contract: no list stands before the lists. Assumes nothing.
use Rattle.std.proofs.Common.{sym}
use Rattle.laws.proofs.Parts.{no-list-before}
use Rattle.owners.proofs.owned_before_lists.Goals as goal

pub returns-in-List : goal.returns-in-List
returns-in-List c = absurd (no-list-before _ _ _ c.requires (sym c.in-List.ensures))
