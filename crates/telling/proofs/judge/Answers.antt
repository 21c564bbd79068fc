-- `telling::judge` meets its contract: the answers, or the recordings compared. Assumes nothing.
use mathlib.Core.Path.{sym}
use native.Mathlib.Omega.{arith}
use lib.Seq.{length-take-le}
use Rattle.telling.proofs.Judging.{answers-differ, compared}
use Rattle.telling.proofs.judge.Goals as goal

pub returns-then-answer-said : goal.returns-then-answer-said
returns-then-answer-said c = answers-differ _ _ _ _ _ c.min-cut.ensures c.if-answer-said.true

pub slice_bounds-compare-end-2 : goal.slice_bounds-compare-end-2
slice_bounds-compare-end-2 c =
    sym (length-take-le c.min-cut.result c.args.words.now (omega (arith, c.min-cut.ensures)))

pub returns : goal.returns
returns c = compared _ _ _ _ _ c.min-cut.ensures c.if-answer-said.false c.compare-verdict.ensures
