-- `panel::View::shown_word` meets its contract, part by part. Assumes nothing.
use Rattle.std.proofs.Common.{◌≡◌, ◌+◌, ◌∙◌, ℕ, ap, arith}
use Rattle.rulebook.specs.Words.{word}
use Rattle.rulebook.specs.State.{network_index, source_index}
use Rattle.panel.specs.Printed.{by_part, shown_word}
use Rattle.panel.proofs.Parts.{network-small, source-small}
use Rattle.panel.proofs.View.shown_word.Goals as goal

pub overflow_add-ports-in-Networks : goal.overflow_add-ports-in-Networks
overflow_add-ports-in-Networks c =
    let v = c.args.self.now in
    omega (arith, network-small _ _ _ v.counted c.args.i (rw c.in-Networks.is at c.requires), v.counted.few_ports, v.counted.few_rules)

pub overflow_add-ports-in-Sources-3 : goal.overflow_add-ports-in-Sources-3
overflow_add-ports-in-Sources-3 c =
    let v = c.args.self.now in
    let n = v.counted in
    omega (arith, source-small _ _ _ n c.args.i (rw c.in-Sources.is at c.requires), n.few_ports, n.few_rules, n.few_networks)

pub returns-in-Ports : goal.returns-in-Ports
unfolding shown_word by_part
returns-in-Ports c = rw c.in-Ports.is c.word.ensures

pub returns-in-Networks : goal.returns-in-Networks
unfolding shown_word by_part
returns-in-Networks c =
    let v = c.args.self.now in
    let place : v.counts.ports + v.counts.rules + c.args.i ≡ network_index v.table.now c.args.i = omega (arith, v.counted.ports, v.counted.rules) in
    rw c.in-Networks.is (c.word-in-Networks.ensures ∙ ap (λ (p : ℕ). word v.state.now p) place)

pub returns-in-Sources : goal.returns-in-Sources
unfolding shown_word by_part
returns-in-Sources c =
    let v = c.args.self.now in
    let place : v.counts.ports + v.counts.rules + v.counts.networks + c.args.i ≡ source_index v.table.now c.args.i =
    omega (arith, v.counted.ports, v.counted.rules, v.counted.networks) in
    rw c.in-Sources.is (c.word-in-Sources.ensures ∙ ap (λ (p : ℕ). word v.state.now p) place)

pub returns-in-Trace : goal.returns-in-Trace
unfolding shown_word by_part
returns-in-Trace c = rw c.in-Trace.is c.word-in-Trace.ensures
