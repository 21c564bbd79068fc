-- `text::output::put_digits` meets its contract. Assumes nothing.
use Rattle.std.proofs.Common.{◌∙◌, arith, length-set, ◌≡◌, length}
use Rattle.text.proofs.Puts.{digits-turn, digits-full, digits-end}
use Rattle.text.proofs.output.put_digits.Goals as goal

pub returns-then-saturating_sub-k : goal.returns-then-saturating_sub-k
returns-then-saturating_sub-k c =
    let a = c.args in
    digits-full a.at a.base a.out.now a.k a.n a.end (omega arith)

pub loop-i-preserved : goal.loop-i-preserved
loop-i-preserved c =
    let a = c.args in
    let l = c.loop-i in
    let long : length l.out ≡ length a.out.now = simp length-set at l.auto.out in
    digits-turn a.at a.base l.out l.i l.rest c.digit.result c.loop-i-test.true (omega arith) c.requires.0 c.requires.1 c.digit.ensures
    ∙ l.invariant

pub returns : goal.returns
returns c =
    let a = c.args in
    let l = c.loop-i in
    digits-end a.at a.base a.out.now l.out a.k a.n a.end l.i l.rest (omega arith) c.loop-i-test.false l.invariant
