-- `tables::counts_inside` meets its contract: the counts are the table's. Assumes nothing.
use lib.Dec.{leb-zero}
use Rattle.rulebook.specs.Reasons.{counts_inside}
use Rattle.tables.proofs.counts_inside.Goals as goal

pub returns : goal.returns
unfolding counts_inside
returns c =
    simp (
      leb-zero,
      c.ports-ports.ensures.value,
      c.networks-networks.ensures.value,
      c.sources-sources.ensures.value,
      c.expressions-expressions.ensures.value,
      c.rules-rules.ensures.value,
      c.lists-lists.ensures.value,
      c.items-items.ensures.value,
    )
