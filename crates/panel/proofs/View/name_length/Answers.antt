-- `panel::View::name_length` meets its contract, part by part. Assumes nothing.
use Rattle.std.proofs.Common.{arith, refl}
use Rattle.panel.specs.Printed.{by_part, label, numeral}
use Rattle.panel.proofs.Parts.{port-small, network-small, source-small}
use Rattle.panel.proofs.View.name_length.Goals as goal

pub numeral_length-requires : goal.numeral_length-requires
numeral_length-requires c = omega (arith, port-small _ _ _ c.args.self.now.counted c.args.i (rw c.in-Ports.is at c.requires))

pub numeral_length-requires-in-Networks : goal.numeral_length-requires-in-Networks
numeral_length-requires-in-Networks c = omega (arith, network-small _ _ _ c.args.self.now.counted c.args.i (rw c.in-Networks.is at c.requires))

pub numeral_length-requires-in-Sources : goal.numeral_length-requires-in-Sources
numeral_length-requires-in-Sources c = omega (arith, source-small _ _ _ c.args.self.now.counted c.args.i (rw c.in-Sources.is at c.requires))

pub returns-in-Ports : goal.returns-in-Ports
unfolding label numeral by_part
returns-in-Ports c = let long = c.numeral_length.ensures in rw c.in-Ports.is (omega (arith, long.0), omega (arith, long.1))

pub returns-in-Networks : goal.returns-in-Networks
unfolding label numeral by_part
returns-in-Networks c = let long = c.numeral_length-in-Networks.ensures in rw c.in-Networks.is (omega (arith, long.0), omega (arith, long.1))

pub returns-in-Sources : goal.returns-in-Sources
unfolding label numeral by_part
returns-in-Sources c = let long = c.numeral_length-in-Sources.ensures in rw c.in-Sources.is (omega (arith, long.0), omega (arith, long.1))

pub returns-in-Trace : goal.returns-in-Trace
unfolding label numeral by_part
returns-in-Trace c = rw c.in-Trace.is (refl, omega arith)
