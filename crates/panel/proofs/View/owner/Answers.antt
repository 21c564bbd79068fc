-- `panel::View::owner` meets its contract, part by part. Assumes nothing.
use Rattle.std.proofs.Common.{◌≡◌, ◌+◌, ◌*◌, ◌/◌, ◌%◌, ℕ, ap, arith}
use Rattle.rulebook.specs.Words.{word, digit}
use Rattle.rulebook.specs.Table.{sources_from}
use Rattle.panel.specs.Printed.{by_part, owner}
use Rattle.panel.proofs.Parts.{port-small, network-small, source-small}
use Rattle.panel.proofs.View.owner.Goals as goal

pub overflow_add-i : goal.overflow_add-i
overflow_add-i c = let v = c.args.self.now in omega (arith, port-small _ _ _ v.counted c.args.i (rw c.in-Ports.is at c.requires))

pub overflow_mul-i : goal.overflow_mul-i
overflow_mul-i c = let v = c.args.self.now in omega (arith, network-small _ _ _ v.counted c.args.i (rw c.in-Networks.is at c.requires))

pub overflow_add-ports-in-Networks : goal.overflow_add-ports-in-Networks
overflow_add-ports-in-Networks c =
    let v = c.args.self.now in
    omega (arith, network-small _ _ _ v.counted c.args.i (rw c.in-Networks.is at c.requires), v.counted.few_ports)

pub overflow_add-ports-in-Sources-3 : goal.overflow_add-ports-in-Sources-3
overflow_add-ports-in-Sources-3 c =
    let v = c.args.self.now in
    omega (arith, source-small _ _ _ v.counted c.args.i (rw c.in-Sources.is at c.requires), v.counted.few_ports, v.counted.few_networks)

pub returns-in-Ports : goal.returns-in-Ports
unfolding owner by_part digit
returns-in-Ports c = rw (c.in-Ports.is, c.word.ensures)

pub returns-in-Networks : goal.returns-in-Networks
unfolding owner by_part digit
returns-in-Networks c = rw (c.in-Networks.is, c.word-in-Networks.ensures, c.args.self.now.counted.ports)

pub returns-in-Sources : goal.returns-in-Sources
unfolding owner by_part digit
returns-in-Sources c =
    let v = c.args.self.now in
    let place : 3 + v.counts.ports + 2 * v.counts.networks + c.args.i ≡ sources_from v.table.now + c.args.i =
    omega (arith, v.counted.ports, v.counted.networks) in
    rw (c.in-Sources.is, c.word-in-Sources.ensures) (ap (λ (p : ℕ). word v.table.now p / 268435456 % 16) place)

pub returns-in-Trace : goal.returns-in-Trace
unfolding owner by_part digit
returns-in-Trace c = rw (c.in-Trace.is, c.word-in-Trace.ensures)
