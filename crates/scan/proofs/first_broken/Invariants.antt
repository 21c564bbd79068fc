-- The loop's invariant: what the whole scan gives is what the rest of it gives.
use Rattle.std.proofs.Common.{◌≡◌, ℕ, ◌-◌, Bool, List}
use Rattle.rulebook.specs.Words.{first}
use Rattle.rulebook.specs.Table.{Part}
use Rattle.rulebook.specs.Reasons.{breaks, lowest}
use Rattle.scan.specs.Judging.{Judges}
use Rattle.scan.proofs.first_broken.Given as goal

abbrev pub invariant-loop-i : goal.invariant-loop-i
invariant-loop-i g l =
    (rule : List ℕ → Part → Bool) → Judges (goal.F-post g l.keeps) rule l.t.words → lowest rule l.t.words ≡ first l.i (l.end - l.i) (breaks rule l.t.words)
