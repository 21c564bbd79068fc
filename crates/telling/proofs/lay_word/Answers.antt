-- `telling::lay_word` meets its contract: the label, then the word. Assumes nothing.
use native.Mathlib.Omega.{arith}
use lib.ListN.{length-append}
use Rattle.text.specs.Lines.{hex_line}
use Rattle.text.proofs.Puts.{one-put, put_then}
use Rattle.telling.proofs.lay_word.Goals as goal

pub returns : goal.returns
returns c =
    let a = c.args in
    let asked = c.requires in
    let long = length-append a.label.now (hex_line a.w) in
    put_then {xs = a.label.now} {line = hex_line a.w} (omega arith) (one-put {line = a.label.now} (omega arith) c.put_label-next.ensures)
    c.put_hex_line.ensures
