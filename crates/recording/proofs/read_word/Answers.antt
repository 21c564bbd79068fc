-- `recording::read_word` meets its contract: a word is eight digits with a newline behind them. Assumes nothing.
use Rattle.std.proofs.Common.{sym, ◌∙◌}
use Rattle.recording.proofs.Spelling.{no-newline, ends-word}
use Rattle.recording.proofs.read_word.Goals as goal

pub returns-then-byte-ne10 : goal.returns-then-byte-ne10
returns-then-byte-ne10 c = no-newline _ _ (λ e. c.if-byte-ne10.true (c.byte.ensures ∙ e))

pub returns : goal.returns
returns c =
    let s = c.args in
    ends-word s.bytes.now s.at c.read_hex.result (sym c.byte.ensures ∙ c.if-byte-ne10.false) c.read_hex.ensures
