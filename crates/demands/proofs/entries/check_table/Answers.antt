-- `demands::entries::check_table`: what the demands conclude follows from what the entry promises. Assumes nothing.
use Rattle.demands.proofs.Conclusions.{of-table}
use Rattle.demands.proofs.entries.check_table.Goals as goal

pub returns : goal.returns
returns c = of-table _ _ _ _ c.check_table.ensures
