-- `text::output::put_label` meets its contract. Assumes nothing.
use Rattle.std.proofs.Common.{arith, refl}
use Rattle.text.proofs.Puts.{room, part-laid}
use Rattle.text.proofs.output.put_label.Goals as goal

pub returns : goal.returns
returns c =
    let a = c.args in
    room a.label.now a.out.now a.at _ _ (omega arith) refl (part-laid a.out.now a.at _ a.label.now _ c.copy_from_slice.ensures.after (omega arith))
