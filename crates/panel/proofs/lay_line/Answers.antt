-- `panel::lay_line` meets its contract: the name, then the word. Assumes nothing.
use Rattle.std.proofs.Common.{arith, ◌++◌}
use Rattle.panel.specs.Inside.{part_number}
use Rattle.panel.specs.Printed.{label, numeral, line}
use Rattle.text.specs.Lines.{hex_line}
use Rattle.text.proofs.Digits.{length-hex}
use Rattle.text.proofs.Puts.{put_then}
use Rattle.panel.proofs.Parts.{length-line}
use Rattle.panel.proofs.lay_line.Goals as goal

pub lay_name-next-requires : goal.lay_name-next-requires
lay_name-next-requires c = let a = c.args in omega (arith, c.requires, length-line (part_number a.part) a.i a.w)

pub returns : goal.returns
unfolding line
returns c =
    let a = c.args in
    let part = part_number a.part in
    put_then {xs = label part ++ numeral part a.i} {line = hex_line a.w}
    (omega (arith, c.requires, length-line part a.i a.w, length-hex a.w)) c.lay_name-next.ensures c.put_hex_line.ensures
