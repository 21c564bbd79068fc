-- A request is its write, and then the arbitration of the port where that is immediate. Assumes nothing.
use Prim.Native.Nat.{ℕ}
use mathlib.Core.Path.{◌≡◌}
use mathlib.Core.Bool.{Bool, cond}
use mathlib.Core.List.{List}
use lib.Dec.{eqb}
use Rattle.rulebook.specs.Table.{deferred}
use Rattle.rulebook.specs.Lists.{start}
use Rattle.rulebook.specs.Arbitration.{arbitrate}
use Rattle.rulebook.specs.Events.{only, request}
use Rattle.laws.proofs.Tests.{split}
use Rattle.things.specs.Requests.{Requested}

pub request-goes : (t : List ℕ) (p value : ℕ) (os s after : List ℕ) (immediate : Bool) → Requested t p value s after immediate
    → request t p value os s ≡ cond immediate (arbitrate t (only p) os after) (start os after)
unfolding request
request-goes t p value os s after immediate r =
    split (eqb (deferred t p) 1) (λ y. rw (r.written, r.answered, y)) (λ y. rw (r.written, r.answered, y))
