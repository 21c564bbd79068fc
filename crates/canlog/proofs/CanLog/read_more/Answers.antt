-- `canlog::CanLog::read_more` meets its contract: what was moved to the front stays while the log is read on behind it. Assumes nothing.
use Rattle.canlog.proofs.Reading.{more}
use Rattle.canlog.proofs.CanLog.read_more.Goals as goal

pub returns : goal.returns
returns c = more _ c.slide-kept.ensures c.in-Ok.ensures
