-- `telling::lay_side` meets its contract. Assumes nothing.
use mathlib.Core.Path.{refl}
use Rattle.telling.proofs.Judging.{words-side}
use Rattle.telling.proofs.Lines.{answer-room, side-laid}
use Rattle.telling.proofs.lay_side.Goals as goal

pub lay_words-requires : goal.lay_words-requires
lay_words-requires c =
    answer-room _ _ _ _ refl (rw c.in-AnswersPart.is at c.requires) c.put_label-number.ensures c.put_decimal_line-next.ensures

pub returns-in-AnswersPart : goal.returns-in-AnswersPart
returns-in-AnswersPart c =
    rw c.in-AnswersPart.is
    (side-laid _ _ _ _ refl (rw c.in-AnswersPart.is at c.requires) c.put_label-number.ensures c.put_decimal_line-next.ensures c.lay_words.ensures)

pub lay_words-requires-in-Words : goal.lay_words-requires-in-Words
lay_words-requires-in-Words c =
    let asked = rw (c.in-Words.is, words-side c.args.label.now c.in-Words.verdict c.args.answer _) at c.requires in
    rw c.given.ensures asked

pub returns-in-Words : goal.returns-in-Words
returns-in-Words c =
    rw (c.in-Words.is, words-side c.args.label.now c.in-Words.verdict c.args.answer _, ← c.given.ensures) c.lay_words-in-Words.ensures
