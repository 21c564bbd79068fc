-- `panel::lay_name` meets its contract, part by part. Assumes nothing.
use Rattle.std.proofs.Common.{arith, [], ◌∷◌}
use Rattle.panel.specs.Printed.{by_part, label, numeral}
use Rattle.text.proofs.Puts.{one-put}
use Rattle.panel.proofs.lay_name.Goals as goal

pub lay_numbered-requires : goal.lay_numbered-requires
unfolding label numeral by_part
lay_numbered-requires c = let asked = rw c.in-Ports.is at c.requires in omega arith

pub lay_numbered-requires-in-Networks : goal.lay_numbered-requires-in-Networks
unfolding label numeral by_part
lay_numbered-requires-in-Networks c = let asked = rw c.in-Networks.is at c.requires in omega arith

pub lay_numbered-requires-in-Sources : goal.lay_numbered-requires-in-Sources
unfolding label numeral by_part
lay_numbered-requires-in-Sources c = let asked = rw c.in-Sources.is at c.requires in omega arith

pub returns-in-Ports : goal.returns-in-Ports
unfolding label numeral by_part
returns-in-Ports c = rw c.in-Ports.is c.lay_numbered.ensures

pub returns-in-Networks : goal.returns-in-Networks
unfolding label numeral by_part
returns-in-Networks c = rw c.in-Networks.is c.lay_numbered-in-Networks.ensures

pub returns-in-Sources : goal.returns-in-Sources
unfolding label numeral by_part
returns-in-Sources c = rw c.in-Sources.is c.lay_numbered-in-Sources.ensures

pub returns-in-Trace : goal.returns-in-Trace
unfolding label numeral by_part
returns-in-Trace c =
    let asked = rw c.in-Trace.is at c.requires in
    rw c.in-Trace.is (one-put {line = 116 ∷ 114 ∷ 97 ∷ 99 ∷ 101 ∷ 32 ∷ []} asked c.put_label.ensures)
