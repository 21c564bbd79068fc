-- `manager::end_by` meets its contract: each refusal but 8 has its end. Assumes nothing.
use Rattle.std.proofs.Common.{ap}
use Rattle.events.specs.Answers.{refusal_number}
use Rattle.manager.proofs.end_by.Goals as goal

pub returns-in-BadOutcome : goal.returns-in-BadOutcome
returns-in-BadOutcome c = absurd (c.requires (ap refusal_number c.in-BadOutcome.is))
