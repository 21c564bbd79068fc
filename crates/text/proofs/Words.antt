-- The whole words of bytes: how many there are, and which bytes make each. Assumes nothing.
use Prim.Native.Nat.{ℕ, zero, suc, ◌+◌, ◌/◌, ◌<◌, ◌≤◌}
use mathlib.Core.Path.{◌≡◌, refl, ap, ◌∙◌}
use mathlib.Core.List.{List, [], ◌∷◌, ◌++◌, append_assoc}
use native.Mathlib.Numerals.{add-one}
use native.Mathlib.Omega.{arith}
use lib.ListN.{length, get_or, set, take, drop, get_or-eq_default}
use lib.Seq.{take-suc, drop-cons, set_at, length-take-le}
use Rattle.std.specs.Int.{w32, from_be_bytes}
use Rattle.std.specs.Simd.{first_chunks}
use Rattle.text.specs.Words.{words_of, word_at}

four-more : (n : ℕ) → suc (n / 4) ≡ suc (suc (suc (suc n))) / 4
four-more n = omega arith

pub counted : (bytes : List ℕ) → length (words_of bytes) ≡ length bytes / 4
unfolding words_of
counted (a ∷ b ∷ c ∷ d ∷ rest) = ap suc (counted rest) ∙ four-more (length rest)
counted (a ∷ b ∷ c ∷ []) = refl
counted (a ∷ b ∷ []) = refl
counted (a ∷ []) = refl
counted [] = refl

-- the bytes taken four at a time make the words
pub chunk-word : (n i : ℕ) (bytes : List ℕ) → n ≡ length bytes / 4 → i < n → word_at bytes i ≡ from_be_bytes w32 (get_or (first_chunks 4 n bytes) i [])
unfolding words_of
chunk-word zero i bytes e h = absurd (omega arith)
chunk-word (suc n) zero (a ∷ b ∷ c ∷ d ∷ rest) e h = refl
chunk-word (suc n) (suc i) (a ∷ b ∷ c ∷ d ∷ rest) e h = chunk-word n i rest (omega arith) (omega arith)
chunk-word (suc n) i (a ∷ b ∷ c ∷ []) e h = absurd (omega arith)
chunk-word (suc n) i (a ∷ b ∷ []) e h = absurd (omega arith)
chunk-word (suc n) i (a ∷ []) e h = absurd (omega arith)
chunk-word (suc n) i [] e h = absurd (omega arith)

pub none-past : (bytes : List ℕ) (i : ℕ) → length bytes / 4 ≤ i → word_at bytes i ≡ 0
none-past bytes i h = get_or-eq_default (words_of bytes) 0 (rw counted h)

-- one more element of ws in the front of a list
pub front-more : (ws before : List ℕ) (i : ℕ) → i < length ws → i < length before
    → set (take i ws ++ drop i before) i (get_or ws i 0) ≡ take (i + 1) ws ++ drop (i + 1) before
front-more ws before i hw hb =
    rw (add-one, drop-cons before i 0 hb, take-suc ws i 0 hw, append_assoc)
    (set_at (take i ws) (get_or before i 0) (drop (suc i) before) (get_or ws i 0) i (length-take-le i ws (omega arith)))
