-- `reach::raise_list` meets its contract, by the laws of flags that go up in turns. Assumes nothing.
use Rattle.std.proofs.Common.{◌<◌, sym, ◌∙◌, arith}
use Rattle.rulebook.specs.Reasons.{item_reaches}
use Rattle.walks.proofs.Walks.{whole}
use Rattle.reach.specs.Raised.{is_list, list_has}
use Rattle.reach.proofs.Raised.{gained-turn, gained-end}
use Rattle.reach.proofs.raise_list.Goals as goal

pub loop-i-init : goal.loop-i-init
loop-i-init c =
    let items = c.items_of-i-items.ensures in
    record { long = c.requires; says = λ k b. rw (c.into_iter-i-iterator.ensures.into_iter_gives, items.from, items.to, whole) }

pub loop-i-preserved : goal.loop-i-preserved
loop-i-preserved c =
    let t = c.args.t.now.words in
    let step = c.in-Some.ensures.steps in
    let more : c.loop-i.i-iterator.start < c.loop-i.i-iterator.end = let some = step.1.0 in omega arith in
    let raised = rw step.1.1 at c.raise_item.ensures in
    record {
      long = raised.long;
      says = λ k b.
          rw (step.0, step.1.2)
          (c.loop-i.invariant.says k b ∙ gained-turn (λ k. item_reaches t (is_list k)) _ _ _ k _ more raised b);
    }

pub returns : goal.returns
unfolding list_has
returns c =
    let t = c.args.t.now.words in
    let step = c.in-None.ensures.steps in
    record {
      long = c.loop-i.invariant.long;
      says = λ k b.
          sym (c.loop-i.invariant.says k b
          ∙ gained-end (λ k. item_reaches t (is_list k)) _ _ _ k (let none = step.1.0 in omega arith));
    }
