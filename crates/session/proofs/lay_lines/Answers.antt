-- `session::lay_lines` meets its contract. Assumes nothing.
use Rattle.session.proofs.Lines.{lines-laid}
use Rattle.session.proofs.lay_lines.Goals as goal

pub returns : goal.returns
returns c =
    lines-laid _ _ c.requires.0 c.requires.1 c.requires.2
    c.put_decimal_line-first.ensures c.put_words-state.ensures
    c.put_words-words.ensures
