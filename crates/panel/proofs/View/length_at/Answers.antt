-- `panel::View::length_at` meets its contract: a line is its name and nine bytes. Assumes nothing.
use Rattle.panel.proofs.Parts.{own-length, no_length}
use Rattle.panel.proofs.View.length_at.Goals as goal

pub returns-then-is_own : goal.returns-then-is_own
returns-then-is_own c = own-length _ _ _ _ _ _ c.is_own.ensures c.if-is_own.true c.name_length.ensures.0

pub returns-else-is_own : goal.returns-else-is_own
returns-else-is_own c = no_length _ _ _ _ _ _ c.is_own.ensures c.if-is_own.false
