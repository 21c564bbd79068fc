-- `text::input::word_count` meets its contract. Assumes nothing.
use mathlib.Core.Path.{sym}
use Rattle.text.proofs.Words.{counted}
use Rattle.text.proofs.input.word_count.Goals as goal

pub returns : goal.returns
returns c = sym (counted c.args.bytes.now)
