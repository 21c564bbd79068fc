-- `states::write_fresh` meets its contract. Assumes nothing.
use Rattle.std.proofs.Common.{arith, ◌≡◌, length-set}
use Rattle.rulebook.specs.State.{fresh_at}
use Rattle.words.proofs.Fill.{set_more}
use Rattle.states.proofs.Making.{fresh-here, all-fresh}
use Rattle.states.proofs.write_fresh.Goals as goal

pub loop-i-preserved : goal.loop-i-preserved
loop-i-preserved c = (
  simp length-set c.loop-i.invariant.0,
  set_more (λ k w. w ≡ fresh_at c.args.t.now.words k) c.loop-i.s c.loop-i.i c.fresh_word.result (omega (arith, c.loop-i.invariant.0))
      (fresh-here _ _ _ _ c.fresh_word.ensures c.thing.ensures) c.loop-i.invariant.1,
)

pub returns : goal.returns
returns c = all-fresh _ _ _ c.loop-i.invariant.0 c.requires (λ k h. c.loop-i.invariant.1 k (omega arith))
