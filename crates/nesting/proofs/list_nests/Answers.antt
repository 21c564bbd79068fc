-- `nesting::list_nests` meets its contract: the walk by its test of one item. Assumes nothing.
use Rattle.std.proofs.Common.{rules, sym, ◌∙◌, arith}
use borrow.Author.Tests.{tests, le-ltb}
use Rattle.rulebook.specs.Table.{first_item, item_count}
use Rattle.rulebook.specs.Reasons.{item_nests}
use Rattle.walks.proofs.Ranges.{all-of_range}
use Rattle.nesting.specs.Depths.{found_by}
use Rattle.nesting.proofs.Levels.{list-absent, list-present}
use Rattle.nesting.proofs.list_nests.Goals as goal

pub returns-then-l-lists : goal.returns-then-l-lists
returns-then-l-lists c =
    let t = c.args.t.now.words in
    all-of_range (item_nests t (found_by c.args.depths.now c.args.d)) (first_item t c.args.l) (item_count t c.args.l) c.all.ensures.ran
    c.items_of.ensures.from c.items_of.ensures.to (λ x y h k. search (rules, tests))
    ∙ sym (list-present _ _ _ (omega arith))

pub returns-else-l-lists : goal.returns-else-l-lists
returns-else-l-lists c = le-ltb _ _ c.if-l-lists.false ∙ list-absent _ _ _ (omega arith)
