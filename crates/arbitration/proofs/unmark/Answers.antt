-- `arbitration::unmark` meets its contract. Assumes nothing.
use Rattle.std.proofs.Common.{sym, ◌∙◌}
use Rattle.rulebook.specs.Arbitration.{unmark_port, unmark_ports}
use Rattle.words.specs.Flags.{flagged}
use Rattle.walks.proofs.Walks.{each_turn, each-end}
use Rattle.arbitration.proofs.unmark.Goals as goal

pub loop-p-preserved : goal.loop-p-preserved
loop-p-preserved c =
    rw c.unmark_port.ensures (c.loop-p.invariant ∙ each_turn _ _ (unmark_port (flagged c.args.flags.now)) _ c.loop-p-test.true)

pub returns : goal.returns
unfolding unmark_ports
returns c =
    rw (← c.ports-p-end.ensures.value)
    (sym (c.loop-p.invariant ∙ each-end _ _ (unmark_port (flagged c.args.flags.now)) _ c.loop-p-test.false))
