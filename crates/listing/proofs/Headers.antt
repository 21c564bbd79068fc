-- A header's soundness, word by word: each of the three has its own limits, and the least header keeps them. Assumes nothing.
use Prim.Native.Nat.{ℕ, zero, suc, ◌<◌, ◌^◌}
use mathlib.Core.Path.{◌≡◌, refl, sym, ◌∙◌}
use mathlib.Core.Bool.{Bool, true, ◌&&◌, ◌||◌, and_assoc}
use mathlib.Core.List.{List}
use native.Mathlib.Omega.{arith}
use lib.Dec.{eqb}
use Rattle.laws.proofs.Tests.{and_left, and_right, and_both}
use Rattle.rulebook.specs.Words.{word, digit, field, between}
use Rattle.rulebook.specs.Reasons.{known_edition, counts_inside}
use Rattle.listing.specs.Inside.{least}

-- what the limits ask of the first, second and third word

abbrev first : ℕ → Bool
first w =
    (eqb (field 0 8 w) 1 || eqb (field 0 8 w) 2) && (between 1 64 (field 8 8 w) && (between 0 8 (field 16 8 w) && between 0 32 (field 24 8 w)))

abbrev second : ℕ → Bool
second w = between 1 512 (field 0 16 w) && between 1 256 (field 16 16 w)

abbrev third : ℕ → Bool
third w = between 0 255 (field 0 16 w) && between 0 2047 (field 16 16 w)

abbrev pub inside_at : ℕ → ℕ → Bool
inside_at zero w = first w
inside_at (suc zero) w = second w
inside_at (suc (suc zero)) w = third w
inside_at (suc (suc (suc i))) w = true

abbrev pub sound : List ℕ → Bool
sound t = known_edition t && counts_inside t

same_parts : (t : List ℕ) → sound t ≡ first (word t 0) && (second (word t 1) && third (word t 2))
unfolding known_edition counts_inside
same_parts t = simp and_assoc

pub sound-of : (t : List ℕ) → ((j : ℕ) → j < 3 → inside_at j (word t j) ≡ true) → sound t ≡ true
sound-of t each =
    same_parts t
    ∙ and_both (first (word t 0)) _ (each 0 (omega arith)) (and_both (second (word t 1)) _ (each 1 (omega arith)) (each 2 (omega arith)))

pub of-sound : (t : List ℕ) → sound t ≡ true → (j : ℕ) → j < 3 → inside_at j (word t j) ≡ true
of-sound t s zero h = and_left (first (word t 0)) _ (sym (same_parts t) ∙ s)
of-sound t s (suc zero) h = and_left (second (word t 1)) _ (and_right (first (word t 0)) _ (sym (same_parts t) ∙ s))
of-sound t s (suc (suc zero)) h = and_right (second (word t 1)) _ (and_right (first (word t 0)) _ (sym (same_parts t) ∙ s))
of-sound t s (suc (suc (suc j))) h = absurd (omega arith)

pub least-inside : (j : ℕ) → j < 3 → inside_at j (word least j) ≡ true
unfolding digit
least-inside zero h = refl
least-inside (suc zero) h = refl
least-inside (suc (suc zero)) h = refl
least-inside (suc (suc (suc j))) h = absurd (omega arith)

pub least-words : (j : ℕ) → word least j < 2 ^ 32
least-words zero = omega arith
least-words (suc zero) = omega arith
least-words (suc (suc zero)) = omega arith
least-words (suc (suc (suc j))) = omega arith
