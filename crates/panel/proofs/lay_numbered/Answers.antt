-- `panel::lay_numbered` meets its contract: the label, then the number. Assumes nothing.
use native.Mathlib.Omega.{arith}
use mathlib.Core.List.{[], ◌∷◌, ◌++◌}
use lib.ListN.{length-append}
use Rattle.text.specs.Lines.{decimal}
use Rattle.text.proofs.Puts.{one-put, put_then}
use Rattle.panel.proofs.lay_numbered.Goals as goal

pub returns : goal.returns
returns c =
    let a = c.args in
    let asked = c.requires in
    let long = length-append a.label.now (decimal a.i ++ 32 ∷ []) in
    put_then {xs = a.label.now} {line = decimal a.i ++ 32 ∷ []} (omega arith) (one-put {line = a.label.now} (omega arith) c.put_label-next.ensures)
    c.put_decimal.ensures
