-- `arbitration::arbitrate_one` meets its contract: the one flag is up. Assumes nothing.
use Rattle.std.proofs.Common.{ℕ, Bool, ap}
use Rattle.rulebook.specs.Arbitration.{arbitrate}
use Rattle.lists.proofs.Cycle.{safe-as, ran-as}
use Rattle.arbitration.proofs.Marks.{only_one}
use Rattle.arbitration.proofs.arbitrate_one.Goals as goal

pub arbitrate-requires : goal.arbitrate-requires
arbitrate-requires c = record {
  bounded = c.requires.bounded;
  safe = safe-as _ _ _
      (ap (λ (q : ℕ → Bool). arbitrate c.args.t.now.words q c.args.outcomes.now c.args.s.now)
      (only_one _ c.requires.port))
      c.requires.safe;
}

pub returns : goal.returns
returns c =
    ran-as _ _ _ _ _ _ _
    (ap (λ (q : ℕ → Bool). arbitrate c.args.t.now.words q c.args.outcomes.now c.args.s.now)
    (only_one _ c.requires.port))
    c.arbitrate.ensures
