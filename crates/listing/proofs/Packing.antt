-- Fields read one behind the other: the word that they make, and that no other word has them. Assumes nothing.
use Prim.Native.Nat.{ℕ, ◌+◌, ◌-◌, ◌*◌, ◌/◌, ◌%◌, ◌^◌, ◌<◌, ◌≤◌}
use mathlib.Core.Path.{◌≡◌, sym, ap, ◌∙◌}
use mathlib.Core.List.{List, [], ◌∷◌, ◌++◌, append_assoc}
use native.Mathlib.Nat.{add-mul, mul-le-mul_right, mod-lt, div-one, div-eq_of_lt, lt_of_lt_of_le}
use mathlib.Core.Logic.{⊎_elim}
use native.Mathlib.Omega.{arith}
use lib.ListN.{length, get_or, drop}
use lib.Pow.{pow_pos, pow-add, pow_mono, shr-shr, split, high, low}
use Rattle.rulebook.specs.Words.{digit}
use Rattle.rulebook.specs.Listing.{form, fields_from, fields_of}
use Rattle.text.specs.Lines.{decimal}
use Rattle.listing.specs.Lines.{ending, spelt}
use Rattle.listing.specs.Inside.{HasNumber, HasFields}
use Rattle.listing.proofs.Digits.{Digit, decimal-digits, told, tail_of, decimal-one-to-one}
use Rattle.listing.proofs.Widths.{bits, no_bits, bits-next, bits-within, bits_full, width-there}
use Rattle.listing.proofs.Laying.{rest, rest_all, rest-none, rest-next}

-- Arithmetic, over plain variables: m bits stand behind a field of `width`, which a number v fills, with x behind it.

module _ (m width : ℕ) where
  -- the upper part of a word, one field longer
  pub upper-next : (w : ℕ) → w / 2 ^ (m + width) * 2 ^ width + w / 2 ^ m % 2 ^ width ≡ w / 2 ^ m
  upper-next w = rw (← shr-shr w m width) (split (w / 2 ^ m) width)

  module _ (w upper v : ℕ) (small : v < 2 ^ width) (is : w / 2 ^ m ≡ upper * 2 ^ width + v) where
    upper-before : w / 2 ^ (m + width) ≡ upper
    upper-before = sym (shr-shr w m width) ∙ rw is (high upper width small)

    its-field : w / 2 ^ m % 2 ^ width ≡ v
    its-field = rw is (low upper width small)

-- a number of some bits with a field behind it
upper-small : (j width upper v : ℕ) → upper < 2 ^ j → v < 2 ^ width → upper * 2 ^ width + v < 2 ^ (j + width)
upper-small j width upper v h small =
    let one : (upper + 1) * 2 ^ width ≡ upper * 2 ^ width + 2 ^ width = rw add-mul (omega arith) in
    let most : (upper + 1) * 2 ^ width ≤ 2 ^ j * 2 ^ width = mul-le-mul_right (2 ^ width) (omega arith) in
    rw (pow-add 2 j width) (omega arith)

module _ (end : ℕ) (ends : end < 48) where
  no_digit : Digit end → ⊥
  no_digit d = omega (arith, d.low)

  -- two numbers at one place, each with the same end, are one
  pub one_number : (v n : ℕ) (more rest : List ℕ) → (decimal v ++ end ∷ []) ++ more ≡ (decimal n ++ end ∷ []) ++ rest → (v ≡ n) × (more ≡ rest)
  one_number v n more rest same =
      let flat : decimal v ++ end ∷ more ≡ decimal n ++ end ∷ rest =
      sym (append_assoc (decimal v) (end ∷ []) more) ∙ same ∙ append_assoc (decimal n) (end ∷ []) rest in
      let both = told (decimal-digits v) (decimal-digits n) (end ∷ more) end rest no_digit no_digit flat in
      (decimal-one-to-one v n both.0, ap tail_of both.1)

module _ (f : ℕ) (text : List ℕ) (at : ℕ) where
  abbrev widths : List ℕ
  widths = (form f).widths

  -- the first k fields are told: `upper` is what they make, and those behind them stand from `next` on
  pub record Told (k next upper : ℕ) : Type 0 where
    pub inside : next ≤ length text
    pub small : upper < 2 ^ bits k widths
    -- any word with this upper part whose other fields stand at `next` has all of them at `at`
    pub sound : (w : ℕ) (more : List ℕ) → w / 2 ^ (32 - bits k widths) ≡ upper → drop next text ≡ rest f w k ++ more
        → drop at text ≡ spelt (fields_of f w) ++ more
    -- any word that has them at `at` has this upper part, and its other fields at `next`
    pub only : (w : ℕ) (more : List ℕ) → w < 2 ^ 32 → drop at text ≡ spelt (fields_of f w) ++ more
        → (w / 2 ^ (32 - bits k widths) ≡ upper) × (drop next text ≡ rest f w k ++ more)

  pub begin : at ≤ length text → Told 0 at 0
  begin h =
      record {
        inside = h;
        small = rw (no_bits widths) (omega arith);
        sound = λ w more _ same. rw (rest_all f w) same;
        only = λ w more small same. (rw (no_bits widths) (div-eq_of_lt small), rw (rest_all f w) at same);
      }

  module _ (k next upper : ℕ) (so : Told k next upper) where
    module _ (there : k < length widths) (size end : ℕ) (sized : size ≡ 2 ^ get_or widths k 0) (low : end < 48)
        (ends : (w : ℕ) → end ≡ ending (fields_from (bits (k + 1) widths) (drop (k + 1) widths) w)) where
      abbrev width : ℕ
      width = get_or widths k 0

      abbrev behind-bits : ℕ
      behind-bits = 32 - bits (k + 1) widths

      before : behind-bits + width ≡ 32 - bits k widths
      before = omega (arith, bits-next k widths there, (width-there f k there).within)

      abbrev its-value : ℕ → ℕ
      its-value w = w / 2 ^ behind-bits % 2 ^ width

      -- the fields from the k-th on: its value, its end, and those behind it
      here : (w : ℕ) (more : List ℕ) → rest f w k ++ more ≡ (decimal (its-value w) ++ end ∷ []) ++ (rest f w (k + 1) ++ more)
      unfolding digit
      here w more =
          rw (rest-next f w k there, ends w, ← bits-next k widths there)
          (append_assoc (decimal (its-value w) ++ ending (fields_from (bits (k + 1) widths) (drop (k + 1) widths) w) ∷ []) (rest f w (k + 1)) more)

      stands : (w : ℕ) (more : List ℕ) → w < 2 ^ 32 → drop at text ≡ spelt (fields_of f w) ++ more
          → (w / 2 ^ (behind-bits + width) ≡ upper) × (drop next text ≡ (decimal (its-value w) ++ end ∷ []) ++ (rest f w (k + 1) ++ more))
      stands w more small same = let both = so.only w more small same in (rw before both.0, both.1 ∙ here w more)

      pub no_word : ((v : ℕ) (more : List ℕ) → v < size → drop next text ≡ (decimal v ++ end ∷ []) ++ more → ⊥)
          → (w : ℕ) (more : List ℕ) → w < 2 ^ 32 → drop at text ≡ spelt (fields_of f w) ++ more → ⊥
      no_word none w more small same =
          none (its-value w) (rest f w (k + 1) ++ more) (rw sized (mod-lt (w / 2 ^ behind-bits) (pow_pos width))) (stands w more small same).1

      pub step : (v behind : ℕ) → HasNumber size end text next v behind → Told (k + 1) behind (upper * size + v)
      step v behind n =
          let fits : v < 2 ^ width = rw sized at n.small in
          record {
            inside = n.inside;
            small = rw (bits-next k widths there, sized) (upper-small (bits k widths) width upper v so.small fits);
            sound = λ w more is same.
                let is' : w / 2 ^ behind-bits ≡ upper * 2 ^ width + v = rw sized at is in
                so.sound w more (rw before at (upper-before behind-bits width w upper v fits is'))
                (n.same ∙ rw (same, ← its-field behind-bits width w upper v fits is') (sym (here w more)));
            only = λ w more small same.
                let both = stands w more small same in
                let one = one_number end low v (its-value w) (drop behind text) (rest f w (k + 1) ++ more) (sym n.same ∙ both.1) in
                (sym (upper-next behind-bits width w) ∙ rw (both.0, ← one.0, sized), one.1);
          }

    nothing : k ≡ length widths → length widths ≡ 0 → upper ≡ 0
    nothing e none =
        let z : k ≡ 0 = omega arith in
        let small : upper < 2 ^ bits 0 widths = rw z at so.small in
        omega (arith, rw (no_bits widths) at small)

    pub upper_fits : upper < 2 ^ 32
    upper_fits = lt_of_lt_of_le so.small (pow_mono (bits-within f k))

    -- behind the last field the upper part is the word
    whole : k ≡ length widths → upper / 2 ^ (32 - bits k widths) ≡ upper
    whole e =
        ⊎_elim (λ (full : bits (length widths) widths ≡ 32). let z : 32 - bits k widths ≡ 0 = rw e (omega arith) in rw z (div-one upper))
        (λ (none : length widths ≡ 0).
        let z : upper ≡ 0 = nothing e none in
        rw z (div-eq_of_lt (pow_pos (32 - bits k widths))))
        (bits_full f)

    pub finish : k ≡ length widths → HasFields f text at upper next
    finish e =
        record {
          small = upper_fits;
          same = so.sound upper (drop next text) (whole e) (rw (rest-none f upper k (omega arith)));
          inside = so.inside;
        }
