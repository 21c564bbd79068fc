-- `lists::stops` meets its contract: by the outcome about to be read, or by that it does not say failed. Assumes nothing.
use mathlib.Core.Path.{sym, ◌∙◌}
use mathlib.Core.Bool.{and-true}
use borrow.Author.Tests.{eq-eqb}
use Rattle.lists.proofs.Items.{stops-by, good-next}
use Rattle.lists.proofs.stops.Goals as goal

pub returns-then-word-ne1 : goal.returns-then-word-ne1
returns-then-word-ne1 c = good-next _ c.args.outcomes.now _ _ c.word.ensures c.if-word-ne1.true

pub returns : goal.returns
returns c =
    stops-by _ _ _ c.item-item.ensures c.args.outcomes.now _
    (sym (rw (eq-eqb _ 1 (sym c.word.ensures ∙ c.if-word-ne1.false), and-true)))
