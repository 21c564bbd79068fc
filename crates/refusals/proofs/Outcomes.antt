-- The outcomes tested one after the other, as a chain goes, are tested by number, as the rulebook's walk goes. Assumes nothing.
use Rattle.std.proofs.Common.{◌≡◌, ℕ, suc, ◌+◌, Bool, List, [], ◌∷◌, length, refl, sym, ap, ap₂, ◌∙◌, arith}
use mathlib.Core.Bool.{◌&&◌}
use lib.Dec.{leb}
use Rattle.std.specs.List.{list_all}
use Rattle.rulebook.specs.Words.{word, all}
use Rattle.rulebook.specs.Step.{good_or_failed, outcomes_known}

by_number : (p q : ℕ → Bool) (i : ℕ) (xs : List ℕ) → ((k : ℕ) → q (i + k) ≡ p (word xs k)) → list_all p xs ≡ all i (length xs) q
unfolding all
by_number p q i [] h = refl
by_number p q i (x ∷ xs) h =
    ap₂ ◌&&◌ (sym (h 0) ∙ ap q (let e : i + 0 ≡ i = omega arith in e))
    (by_number p q (suc i) xs (λ k. ap q (let e : suc i + k ≡ i + suc k = omega arith in e) ∙ h (suc k)))

pub each-known : (os : List ℕ) → list_all (λ o. leb o 1) os ≡ outcomes_known os
unfolding outcomes_known good_or_failed
each-known os = by_number (λ o. leb o 1) (λ k. leb (word os k) 1) 0 os (λ k. ap (λ (j : ℕ). leb (word os j) 1) (let e : 0 + k ≡ k = omega arith in e))
