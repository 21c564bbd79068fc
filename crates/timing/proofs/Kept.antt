-- Blocks one after the other, each from the state and the largest counts that the one before left. Assumes nothing.
use Prim.Native.Nat.{ℕ, ◌+◌, ◌≤◌}
use mathlib.Core.Path.{◌≡◌}
use mathlib.Core.Bool.{Bool, true, false}
use mathlib.Core.List.{List, [], ◌++◌}
use native.Mathlib.Omega.{arith}
use lib.ListN.{length, take, length-take}
use Rattle.states.specs.Made.{Makes}
use Rattle.text.specs.Words.{words_of}
use Rattle.text.proofs.Words.{counted}
use Rattle.session.proofs.Whole.{made-fresh, fresh-ready, ready-after}
use Rattle.visits.specs.declared.Most.{Most}
use Rattle.visits.specs.Blocks.{Leaves}
use Rattle.visits.proofs.Whole.{leaves-then, leaves-count, leaves_none}
use Rattle.timing.specs.Kept.{Loaded, Lent, Going, TookBlock, Ran}
use Rattle.timing.specs.Kept as kept

-- the state that `make_fresh` makes in them
pub fresh-going : {t s₀ s trace out : List ℕ} {k : ℕ} → Lent t s₀ trace out → Makes t s₀ k s → Going t s trace out
fresh-going lent made =
    record { ready = fresh-ready lent.table (made-fresh lent.table lent.state made) lent.room; line = lent.line }

-- what events leave
pub going-after : {t s trace out : List ℕ} (es : List ℕ) {m : Most} {s₁ trace₁ out₁ : List ℕ} {m₁ : Most} → Going t s trace out → Leaves t s es m s₁ m₁
    → length trace₁ ≡ length trace → length out₁ ≡ length out → Going t s₁ trace₁ out₁
going-after es going leaves long wide =
    record { ready = ready-after es going.ready long leaves.state; line = let l = going.line in omega arith }

pub few_words : (n : ℕ) (block : List ℕ) → Loaded n block → length (words_of (take n block)) ≤ 16384
few_words n block loaded = omega (arith, counted (take n block), loaded.bytes.0, loaded.bytes.1, loaded.size)

pub took-few : {t s es : List ℕ} {m : Most} {going : Bool} {s' : List ℕ} {m' : Most} → TookBlock t s es m going s' m' → m'.events ≤ m.events + length es
took-few {es = es} took =
    omega (arith, leaves-count took.some.leaves, length-take took.some.count es)

-- a run that goes on behind a whole block
pub ran_on : {t s s₁ es fs : List ℕ} {m m₁ : Most} {whole : Bool} {s' : List ℕ} {m' : Most} → Leaves t s es m s₁ m₁ → Ran t s₁ fs m₁ whole s' m'
    → Ran t s es m whole s' m'
ran_on {fs = fs} first (kept.past later next) = kept.past (fs ++ later) (leaves-then first next)
ran_on {fs = fs} first (kept.stopped some) = kept.past (take some.count fs) (leaves-then first some.leaves)

-- one whose block at hand has no bytes is whole, and one that takes no further block is not
pub ran-over : {n : ℕ} (t s block : List ℕ) (m : Most) → n ≡ 0 → Ran t s (words_of (take n block)) m true s m
unfolding words_of
ran-over t s block m none = rw none (kept.past [] (leaves_none t s m))

pub ran-left : (n : ℕ) (t s block : List ℕ) (m : Most) → Ran t s (words_of (take n block)) m false s m
ran-left n t s block m = kept.stopped (record { count = 0; leaves = leaves_none t s m })
