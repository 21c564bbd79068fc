-- `recording::found_behind` meets its contract, by what stands there. Assumes nothing.
use Rattle.std.proofs.Common.{sym, ◌∙◌, arith}
use Rattle.recording.proofs.Placed.{behind-last, behind-whole, behind-word, behind-misspelt}
use Rattle.recording.proofs.found_behind.Goals as goal

pub returns-then-bytes-next : goal.returns-then-bytes-next
returns-then-bytes-next c = sym (behind-last _ _ c.if-bytes-next.true)

pub returns-then-is_answer : goal.returns-then-is_answer
returns-then-is_answer c = sym (behind-whole _ _ (omega arith) (sym c.is_answer.ensures ∙ c.if-is_answer.true))

pub returns-in-Some : goal.returns-in-Some
returns-in-Some c = sym (behind-word _ _ (omega arith) (sym c.is_answer.ensures ∙ c.if-is_answer.false) c.in-Some.ensures.0)

pub returns-in-None : goal.returns-in-None
returns-in-None c = sym (behind-misspelt _ _ (omega arith) (sym c.is_answer.ensures ∙ c.if-is_answer.false) c.in-None.ensures)
