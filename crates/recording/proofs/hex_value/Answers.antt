-- `recording::hex_value` meets its contract, by its tests. Assumes nothing.
use Rattle.std.proofs.Common.{◌∙◌, arith, sym}
use Rattle.recording.proofs.Spelling.{value_low, value-digit, value-between, value-letter, value-high}
use Rattle.recording.proofs.hex_value.Goals as goal

pub returns-in-48-to-57 : goal.returns-in-48-to-57
returns-in-48-to-57 c = (c.from.ensures ∙ sym (value-digit c.args.b (omega arith) (omega arith)), omega arith)

pub returns-in-65-to-70 : goal.returns-in-65-to-70
returns-in-65-to-70 c = omega (arith, value-letter c.args.b (omega arith) (omega arith))

pub returns-in_default : goal.returns-in_default
returns-in_default c = value_low c.args.b (omega arith)

pub returns-in_default-2 : goal.returns-in_default-2
returns-in_default-2 c = value-between c.args.b (omega arith) (omega arith)

pub returns-in_default-3 : goal.returns-in_default-3
returns-in_default-3 c = value-high c.args.b (omega arith)
