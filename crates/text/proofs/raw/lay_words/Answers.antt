-- `text::raw::lay_words` meets its contract. Assumes nothing.
use Rattle.std.proofs.Common.{arith, ◌∙◌, ◌≡◌, length}
use Rattle.text.proofs.Bytes.{none-laid, word-laid, turn, all_laid}
use Rattle.text.proofs.raw.lay_words.Goals as goal

pub loop-i-init : goal.loop-i-init
loop-i-init c = none-laid c.args.out.now

pub loop-i-preserved : goal.loop-i-preserved
loop-i-preserved c =
    let a = c.args in
    let l = c.loop-i in
    turn a.words.now a.out.now l.i c.requires c.loop-i-test.true l.invariant
    (word-laid _ _ _ (omega arith) (c.copy_from_slice.ensures.after ∙ c.to_be_bytes.ensures))

pub returns : goal.returns
returns c =
    let all : c.loop-i.i ≡ length c.args.words.now = omega arith in
    all_laid c.args.words.now c.args.out.now _ (omega arith) (rw all at c.loop-i.invariant)
