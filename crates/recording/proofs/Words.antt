-- Words' lines one behind the other: how many, the words, and one more of them in the front of those lent. Assumes nothing.
use Prim.Native.Nat.{ℕ, zero, suc, ◌+◌, ◌-◌, ◌*◌, ◌<◌, ◌≤◌}
use mathlib.Core.Path.{◌≡◌, refl, ap}
use mathlib.Core.Bool.{Bool, true, false}
use mathlib.Core.List.{List, [], ◌∷◌, ◌++◌, append_assoc}
use native.Mathlib.Numerals.{add-one}
use native.Mathlib.Omega.{arith}
use lib.ListN.{length, get_or, set, drop}
use lib.Seq.{drop-cons, set_at}
use Rattle.recording.specs.Log.{hex_number, is_word, word_count, words_from}
use Rattle.recording.proofs.Spelling.{word-inside}

-- a test is true or false
pub split : {A : Type 0} (b : Bool) → (b ≡ true → A) → (b ≡ false → A) → A
split true f g = f refl
split false f g = g refl

module _ (bytes : List ℕ) where
  -- how many

  pub count_none : (at : ℕ) → word_count 0 bytes at ≡ 0
  unfolding word_count
  count_none at = refl

  pub count-one : (most at : ℕ) → is_word bytes at ≡ true → word_count (suc most) bytes at ≡ suc (word_count most bytes (at + 9))
  unfolding word_count
  count-one most at e = rw e

  pub count-end : (most at : ℕ) → is_word bytes at ≡ false → word_count most bytes at ≡ 0
  unfolding word_count
  count-end zero at e = refl
  count-end (suc most) at e = rw e

  -- no more than there is room for, and all inside

  pub count_room : (most at : ℕ) → word_count most bytes at ≤ most
  count_room zero at = omega (arith, count_none at)
  count_room (suc most) at =
      split (is_word bytes at) (λ e. omega (arith, count-one most at e, count_room most (at + 9)))
      (λ e. omega (arith, count-end (suc most) at e))

  pub count-inside : (most at : ℕ) → at ≤ length bytes → at + 9 * word_count most bytes at ≤ length bytes
  count-inside zero at h = omega (arith, count_none at)
  count-inside (suc most) at h =
      split (is_word bytes at)
      (λ e. omega (arith, count-one most at e, count-inside most (at + 9) (word-inside bytes at e)))
      (λ e. omega (arith, count-end (suc most) at e))

  -- a run of n words, and what is left of it

  module _ (at most : ℕ) where
    pub count-begin : word_count most bytes at ≡ 0 + word_count (most - 0) bytes (at + 9 * 0)
    count-begin =
        let all : most - 0 ≡ most = omega arith in
        let here : at + 9 * 0 ≡ at = omega arith in
        rw (all, here) (omega arith)

    pub count-more : (n : ℕ) → n < most → is_word bytes (at + 9 * n) ≡ true
        → word_count most bytes at ≡ n + word_count (most - n) bytes (at + 9 * n)
        → word_count most bytes at ≡ n + 1 + word_count (most - (n + 1)) bytes (at + 9 * (n + 1))
    count-more n h e all =
        let left : most - n ≡ suc (most - (n + 1)) = omega arith in
        let next : at + 9 * n + 9 ≡ at + 9 * (n + 1) = omega arith in
        let one = count-one (most - (n + 1)) (at + 9 * n) e in
        omega (arith, rw left at all, rw next at one)

    pub count-stop : (n : ℕ) → is_word bytes (at + 9 * n) ≡ false → word_count most bytes at ≡ n + word_count (most - n) bytes (at + 9 * n)
        → n ≡ word_count most bytes at
    count-stop n e all = omega (arith, count-end (most - n) (at + 9 * n) e)

    pub count-full : (n : ℕ) → most ≤ n → word_count most bytes at ≡ n + word_count (most - n) bytes (at + 9 * n) → n ≡ word_count most bytes at
    count-full n h all =
        let none : most - n ≡ 0 = omega arith in
        omega (arith, rw none at all, count_none (at + 9 * n))

  -- the words

  pub words_long : (n at : ℕ) → length (words_from n bytes at) ≡ n
  unfolding words_from
  words_long zero at = refl
  words_long (suc n) at = ap suc (words_long n (at + 9))

  pub words_last : (n at : ℕ) → words_from (suc n) bytes at ≡ words_from n bytes at ++ hex_number 8 bytes (at + 9 * n) ∷ []
  unfolding words_from
  words_last zero at =
      let here : at + 9 * 0 ≡ at = omega arith in
      rw here
  words_last (suc n) at =
      let next : at + 9 + 9 * n ≡ at + 9 * suc n = omega arith in
      ap (λ (l : List ℕ). hex_number 8 bytes at ∷ l) (rw next at (words_last n (at + 9)))

  module _ (at : ℕ) (lent : List ℕ) where
    pub words-begin : lent ≡ words_from 0 bytes at ++ drop 0 lent
    unfolding words_from
    words-begin = refl

    pub words_more : (n : ℕ) → n < length lent → (w : ℕ) → w ≡ hex_number 8 bytes (at + 9 * n)
        → set (words_from n bytes at ++ drop n lent) n w ≡ words_from (n + 1) bytes at ++ drop (n + 1) lent
    words_more n h w e =
        rw (add-one, drop-cons lent n 0 h, words_last n at, append_assoc, e)
        (set_at (words_from n bytes at) (get_or lent n 0) (drop (suc n) lent) (hex_number 8 bytes (at + 9 * n)) n (words_long n at))
