-- `reach::raise_starts` meets its contract, by the laws of flags that go up in turns. Assumes nothing.
use Rattle.std.proofs.Common.{sym, ap, ◌∙◌, length}
use Rattle.reach.specs.Raised.{starts_list}
use Rattle.reach.proofs.Raised.{gained-turn, gained-end, none-up}
use Rattle.reach.proofs.raise_starts.Goals as goal

pub loop-r-init : goal.loop-r-init
loop-r-init c =
    record {
      long = ap length c.requires;
      says = λ k b. rw (c.requires, c.rules-r-end.ensures.value) (none-up (starts_list c.args.t.now.words k) _ k);
    }

pub loop-r-preserved : goal.loop-r-preserved
loop-r-preserved c =
    let raised = c.raise_start.ensures in
    record {
      long = raised.long;
      says = λ k b. c.loop-r.invariant.says k b ∙ gained-turn (starts_list c.args.t.now.words) _ _ _ k _ c.loop-r-test.true raised b;
    }

pub returns : goal.returns
returns c =
    record {
      long = c.loop-r.invariant.long;
      says = λ k b. sym (c.loop-r.invariant.says k b ∙ gained-end (starts_list c.args.t.now.words) _ _ _ k c.loop-r-test.false);
    }

pub shape_of-flags : goal.shape_of-flags
shape_of-flags c = c.loop-r.invariant.long ∙ sym (ap length c.requires)
