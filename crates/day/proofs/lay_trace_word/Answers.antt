-- `day::lay_trace_word` meets its contract. Assumes nothing.
use Rattle.day.proofs.Lines.{trace-word-laid}
use borrow.Author.Rules.{rules}
use Rattle.day.proofs.lay_trace_word.Goals as goal

pub returns : goal.returns
returns c =
    trace-word-laid _ c.requires c.put_label-next.ensures c.put_hex_line.ensures
