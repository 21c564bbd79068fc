-- `day::lay_end` meets its promise. Assumes nothing.
use Rattle.session.proofs.Lines.{unlaid}
use Rattle.day.specs.Promises.{most_end}
use Rattle.day.proofs.Lines.{end-laid}
use native.Mathlib.Omega.{arith}
use borrow.Author.Rules.{rules}
use Rattle.day.proofs.lay_end.Goals as goal

pub returns-then-out-lt-MOST_END : goal.returns-then-out-lt-MOST_END
returns-then-out-lt-MOST_END c = unlaid most_end _ _ c.if-out-lt-MOST_END.true

pub returns : goal.returns
returns c =
    end-laid c.args.taken c.args.visits c.args.number (omega (arith, c.ranges.taken.fits))
    (omega (arith, c.ranges.visits.fits)) (omega (arith, c.ranges.number.fits)) c.if-out-lt-MOST_END.false c.put_label-count.ensures
    c.put_decimal-second.ensures
    c.put_label-sum.ensures c.put_decimal-third.ensures c.put_label-answer.ensures c.put_decimal.ensures
