-- `panel::View::count` meets its contract, part by part. Assumes nothing.
use Rattle.panel.specs.Printed.{by_part, count}
use Rattle.panel.proofs.View.count.Goals as goal

pub returns-in-Ports : goal.returns-in-Ports
unfolding count by_part
returns-in-Ports c = rw c.in-Ports.is c.args.self.now.counted.ports

pub returns-in-Networks : goal.returns-in-Networks
unfolding count by_part
returns-in-Networks c = rw c.in-Networks.is c.args.self.now.counted.networks

pub returns-in-Sources : goal.returns-in-Sources
unfolding count by_part
returns-in-Sources c = rw c.in-Sources.is c.args.self.now.counted.sources

pub returns-in-Trace : goal.returns-in-Trace
unfolding count by_part
returns-in-Trace c = rw c.in-Trace.is
