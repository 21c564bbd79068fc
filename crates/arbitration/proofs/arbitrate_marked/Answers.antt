-- `arbitration::arbitrate_marked` meets its contract: with no mark nothing is to do, else the flags are those of the marked ports. Assumes nothing.
use Rattle.std.proofs.Common.{ℕ, Bool, sym, ap}
use Rattle.rulebook.specs.Arbitration.{arbitrate}
use Rattle.rulebook.specs.Events.{arbitrate_marked}
use Rattle.lists.proofs.Cycle.{safe-as, ran-as}
use Rattle.arbitration.proofs.Marks.{marked-are, nothing-marked}
use Rattle.arbitration.proofs.arbitrate_marked.Goals as goal

pub returns-then-not-any_marked : goal.returns-then-not-any_marked
unfolding arbitrate_marked
returns-then-not-any_marked c = rw c.nothing.ensures (nothing-marked _ _ _ _ (sym c.if-not-any_marked.ensures))

pub arbitrate-requires : goal.arbitrate-requires
unfolding arbitrate_marked
arbitrate-requires c = record {
  bounded = c.requires.bounded;
  safe = safe-as _ _ _
      (ap (λ (q : ℕ → Bool). arbitrate c.args.t.now.words q c.args.outcomes.now c.args.s.now)
      (sym (marked-are _ _ _ c.flag_marked.ensures)))
      c.requires.safe;
}

pub returns : goal.returns
unfolding arbitrate_marked
returns c =
    ran-as _ _ _ _ _ _ _
    (ap (λ (q : ℕ → Bool). arbitrate c.args.t.now.words q c.args.outcomes.now c.args.s.now)
    (sym (marked-are _ _ _ c.flag_marked.ensures)))
    c.arbitrate.ensures
