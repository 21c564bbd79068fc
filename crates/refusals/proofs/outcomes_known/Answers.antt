-- `refusals::outcomes_known` meets its contract: the chain asks of each outcome in turn. Assumes nothing.
use Rattle.std.proofs.Common.{rules, tests, ◌∙◌}
use lib.Dec.{leb}
use Rattle.std.proofs.lemmas.Iterator.{YieldsList-from_slice}
use Rattle.std.proofs.lemmas.Iterator.Search.{all_from_yields_List}
use Rattle.refusals.proofs.Outcomes.{each-known}
use Rattle.refusals.proofs.outcomes_known.Goals as goal

pub returns : goal.returns
returns c =
    all_from_yields_List (λ o. leb o 1) _ _ _ c.all.ensures.ran (YieldsList-from_slice c.args.outcomes.now cc) (λ x b q k. search (rules, tests))
    ∙ each-known c.args.outcomes.now
