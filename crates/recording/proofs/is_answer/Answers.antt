-- `recording::is_answer` meets its contract, by its tests. Assumes nothing.
use Rattle.std.proofs.Common.{◌∙◌, sym}
use Rattle.recording.proofs.Spelling.{digit-answer, no-digit-answer}
use Rattle.recording.proofs.is_answer.Goals as goal

pub returns-then-is_ascii_digit : goal.returns-then-is_ascii_digit
returns-then-is_ascii_digit c =
    let digit = rw c.byte.ensures at c.if-is_ascii_digit.ensures.cases in
    rw c.byte-then-is_ascii_digit.ensures (digit-answer c.args.bytes.now c.args.at digit.0 digit.1)

pub returns-else-is_ascii_digit : goal.returns-else-is_ascii_digit
returns-else-is_ascii_digit c =
    let none = rw c.byte.ensures at c.if-is_ascii_digit.ensures.cases in
    c.if-is_ascii_digit.false ∙ sym (no-digit-answer c.args.bytes.now c.args.at none)
