-- `telling::lay_event` meets its contract: the label, the number, the word. Assumes nothing.
use Rattle.telling.proofs.Lines.{event-laid}
use Rattle.telling.proofs.lay_event.Goals as goal

pub returns : goal.returns
returns c =
    event-laid _ _ c.requires c.put_label-label.ensures c.put_decimal-number.ensures c.put_hex_line.ensures
