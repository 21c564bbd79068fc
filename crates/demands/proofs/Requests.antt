-- Q-2's and Q-8's sentences hold of whatever the promise of the event call allows. Assumes nothing.
use mathlib.Core.List.{List}
use Prim.Native.Nat.{ℕ}
use lib.ListN.{take}
use Rattle.rulebook.specs.Events.{happen}
use Rattle.rulebook.specs.Step.{heeded}
use Rattle.laws.specs.Facts.{Facts}
use Rattle.laws.specs.Cleared.{ClearCounts}
use Rattle.laws.proofs.Facts.{facts}
use Rattle.laws.proofs.FitKept.{Fits}
use Rattle.laws.proofs.Happen.{Taken}
use Rattle.laws.proofs.Cleared.{clear-counts}
use Rattle.stranger.specs.Heard.{HeardCounts}
use Rattle.stranger.proofs.Heard.{heard-counts}
use Rattle.demands.specs.Demand2.{OfEachCall}
use Rattle.demands.proofs.Demand2.{call, steps}

-- what holds of every event that is done holds of every call that is answered 0
of-done : (P : List ℕ → ℕ → List ℕ → List ℕ → List ℕ → Type 0)
    → ((t : List ℕ) → Facts t → (e : ℕ) (os s : List ℕ) → Taken t e → Fits t s → P t e s (happen t e os s).state (happen t e os s).words)
    → OfEachCall (λ t s trace os e n v s' trace'. P t e s s' (take n trace'))
of-done P holds t s trace os e k n v s' trace' p z =
    let done = call t s trace os e k n v s' trace' p z in
    let made = steps t s trace os e k n v s' trace' p z in
    rw (made.state, made.new) (holds t (facts t done.callable.table) e (heeded t os) s done.taken done.callable.state)

pub clears : OfEachCall (λ t s trace os e n v s' trace'. ClearCounts t e s s' (take n trace'))
clears = of-done ClearCounts clear-counts

pub heards : OfEachCall (λ t s trace os e n v s' trace'. HeardCounts t e s s' (take n trace'))
heards = of-done HeardCounts heard-counts
