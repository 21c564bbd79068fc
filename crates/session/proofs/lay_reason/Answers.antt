-- `session::lay_reason` meets its contract. Assumes nothing.
use Rattle.session.proofs.Lines.{unlaid, reason-laid}
use borrow.Author.Rules.{rules}
use Rattle.session.proofs.lay_reason.Goals as goal

pub returns-then-out-lt22 : goal.returns-then-out-lt22
returns-then-out-lt22 c = unlaid 22 _ _ c.if-out-lt22.true

pub returns : goal.returns
returns c =
    reason-laid _ _ (search rules) (search rules) c.if-out-lt22.false
    c.put_decimal_line-next.ensures c.put_decimal_line.ensures
