-- `verdict::lay_verdict` meets its promise: a reason's place is below 3,186, so it fits. Assumes nothing.
use borrow.Author.Rules.{rules}
use Rattle.session.proofs.Lines.{unlaid}
use Rattle.verdict.proofs.Lines.{laid, place-fits}
use Rattle.verdict.proofs.lay_verdict.Goals as goal

pub returns-then-out-lt33 : goal.returns-then-out-lt33
returns-then-out-lt33 c = unlaid 33 _ _ c.if-out-lt33.true

pub overflow_cast-place : goal.overflow_cast-place
overflow_cast-place c =
    let p = place-fits _ c.check.result c.check.ensures _ _ c.numbers-said.ensures.0
    c.numbers-said.ensures.1 in
    search rules

pub returns : goal.returns
returns c =
    let says = rw c.check.ensures at c.numbers-said.ensures in
    laid _ _ _ _ says (search rules)
    (place-fits _ c.check.result c.check.ensures _ _ c.numbers-said.ensures.0
    c.numbers-said.ensures.1)
    (search rules) c.if-out-lt33.false c.put_decimal_line-second.ensures
    c.put_decimal_line-third.ensures c.put_decimal_line.ensures
