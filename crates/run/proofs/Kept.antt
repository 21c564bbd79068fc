-- Blocks one after the other, each from the state that the one before left. Assumes nothing.
use Prim.Native.Nat.{ℕ}
use mathlib.Core.Path.{◌≡◌, refl, sym, ap, ◌∙◌}
use mathlib.Core.Bool.{Bool, true, false}
use mathlib.Core.List.{List, [], ◌++◌}
use lib.ListN.{take}
use lib.Dec.{eqb}
use borrow.Author.Tests.{eqb-true}
use Rattle.text.specs.Words.{words_of}
use Rattle.session.specs.Printed.{state_after}
use Rattle.session.proofs.Along.{state-append}
use Rattle.run.specs.Kept.{Ran}
use Rattle.run.specs.Kept as kept

-- a run that goes on behind a whole block
pub ran_on : {t s s₁ es fs : List ℕ} {whole : Bool} {s' : List ℕ} → s₁ ≡ state_after t s es → Ran t s₁ fs whole s' → Ran t s es whole s'
ran_on {t} {s} {s₁} {es} {fs} is (kept.past later h) =
    kept.past (fs ++ later) (h ∙ ap (λ (v : List ℕ). state_after t v (fs ++ later)) is ∙ sym (state-append t s es (fs ++ later)))
ran_on {t} {s} {s₁} {es} {fs} is (kept.stopped p) =
    let some = take p.count fs in
    kept.past some (p.state ∙ ap (λ (v : List ℕ). state_after t v some) is ∙ sym (state-append t s es some))

-- a run that takes no further block leaves none before its end only where the one at hand has no bytes
pub ran-none : (t s block : List ℕ) (n : ℕ) → Ran t s (words_of (take n block)) (eqb n 0) s
unfolding state_after words_of
ran-none t s block n = by (eqb n 0) refl
  where
    by : (b : Bool) → eqb n 0 ≡ b → Ran t s (words_of (take n block)) b s
    by true h = rw (eqb-true n 0 h) (kept.past [] refl)
    by false h = kept.stopped (record { count = 0; state = refl })

-- one whose block at hand has none is past the file's end
pub ran_end : {n : ℕ} (t s block : List ℕ) → n ≡ 0 → Ran t s (words_of (take n block)) true s
unfolding state_after words_of
ran_end t s block none = rw none (kept.past [] refl)
