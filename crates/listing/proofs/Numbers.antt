-- A number read from a text: what is told so far, digit by digit, and each end. Assumes nothing.
use Prim.Native.Nat.{ℕ, ◌+◌, ◌*◌, ◌/◌, ◌%◌, ◌<◌, ◌≤◌}
use mathlib.Core.Path.{◌≡◌, refl, sym, ap, ◌∙◌}
use mathlib.Core.Bool.{cond}
use mathlib.Core.List.{List, [], ◌∷◌, ◌++◌, append_assoc}
use native.Mathlib.Numerals.{add-one}
use native.Mathlib.Omega.{arith}
use lib.ListN.{length, get_or, drop, length-append, get_or-append, get_or-eq_default}
use lib.Seq.{drop-cons, get_or-drop}
use lib.Dec.{eqb}
use borrow.Author.Tests.{ne_eqb, lt-ltb}
use Rattle.text.specs.Lines.{hex_digit, decimal}
use Rattle.text.proofs.Digits.{below, value as value_of, value_from}
use Rattle.text.proofs.Decimal.{decimal-one, decimal-more, decimal-says, no-leading-zero}
use Rattle.listing.specs.Inside.{digit_of, digit_at, Spelling, HasNumber}
use Rattle.listing.proofs.Digits.{Digit, is_digit, is_none, none, decimal-digits, head, tail_of, told, front_below}

-- The digits of a number that is not 0, and none of 0: what stands where no digit is told yet.

unfoldable pub leading : ℕ → List ℕ
leading n = cond (eqb n 0) [] (decimal n)

leading-some : (n : ℕ) → 1 ≤ n → leading n ≡ decimal n
unfolding leading
leading-some n h = rw (ne_eqb n 0 (λ e. omega arith))

leading-more : (n d : ℕ) → d < 10 → (n ≡ 0 → d ≡ 0 → ⊥) → leading (n * 10 + d) ≡ leading n ++ (48 + d) ∷ []
unfolding leading hex_digit
leading-more n d h first =
    below n 1
    (λ b.
    let z : n ≡ 0 = omega arith in
    let s : n * 10 + d ≡ d = omega arith in
    rw (s, z, ne_eqb d 0 (first z)) (decimal-one d h))
    (λ b.
    let q : (n * 10 + d) / 10 ≡ n = omega arith in
    let r : (n * 10 + d) % 10 ≡ d = omega arith in
    rw (ne_eqb (n * 10 + d) 0 (λ e. omega arith), ne_eqb n 0 (λ e. omega arith), decimal-more (n * 10 + d) (omega arith), q, r, lt-ltb d 10 h))

-- a number has a digit
pub decimal-some : (n : ℕ) → 0 < length (decimal n)
decimal-some n = below n 10 (λ b. rw (decimal-one n b) (omega arith)) (λ b. rw (decimal-more n b) (simp length-append (omega arith)))

-- the byte at a place is the first of what stands from it on

module _ (text : List ℕ) where
  pub here : (p : ℕ) → get_or (drop p text) 0 0 ≡ get_or text p 0
  here p = let z : p + 0 ≡ p = omega arith in get_or-drop p text 0 0 ∙ rw z

  pub digit-inside : (p : ℕ) → digit_at text p < 10 → p < length text
  digit-inside p h =
      below p (length text) (λ l. l)
      (λ l. let b = get_or-eq_default text 0 l in absurd (omega (arith, (is_digit (get_or text p 0) h).0.low)))

  pub byte_inside : (p b : ℕ) → get_or text p 0 ≡ b → 1 ≤ b → p < length text
  byte_inside p b e h = below p (length text) (λ l. l) (λ l. absurd (omega (arith, get_or-eq_default text 0 l)))

  pub step-on : (p b : ℕ) → p < length text → get_or text p 0 ≡ b → drop p text ≡ b ∷ drop (p + 1) text
  step-on p b h e = rw (add-one, drop-cons text p 0 h, e)

-- so far `value` is told up to p
pub record Begun (text : List ℕ) (at size value p : ℕ) : Type 0 where
  pub from : at ≤ p
  pub inside : p ≤ length text
  pub small : value < size
  pub same : drop at text ≡ leading value ++ drop p text

module _ (text : List ℕ) (at size end : ℕ) (asked : Spelling text at size end) where
  no_end : Digit end → ⊥
  no_end d = omega (arith, d.low, asked.ends)

  flat : (v : ℕ) (rest : List ℕ) → (decimal v ++ end ∷ []) ++ rest ≡ decimal v ++ end ∷ rest
  flat v rest = append_assoc (decimal v) (end ∷ []) rest

  abbrev Stands : ℕ → List ℕ → Type 0
  Stands v rest = drop at text ≡ (decimal v ++ end ∷ []) ++ rest

  pub begin : Begun text at size 0 at
  unfolding leading
  begin = record { from = omega arith; inside = asked.inside; small = omega (arith, asked.some); same = refl }

  -- behind that, d is the digit at p, where the first is not 0
  module _ (first : get_or text at 0 ≡ 48 → ⊥) (value p d : ℕ) (so : Begun text at size value p) (digit : d ≡ digit_at text p) where
    not-zero : digit_at text at ≡ 0 → ⊥
    not-zero z = first (omega (arith, (is_digit (get_or text at 0) (omega arith)).1))

    -- where nothing is told yet, the digit at p is the first
    is-first : value ≡ 0 → d ≡ digit_at text at
    unfolding leading
    is-first z =
        let same : drop at text ≡ drop p text = rw z at so.same in
        digit ∙ ap digit_of (sym (here text p) ∙ ap head (sym same) ∙ here text at)

    module _ (small : d < 10) where
      there : p < length text
      there = digit-inside text p (omega (arith, digit))

      longer : drop at text ≡ leading (value * 10 + d) ++ drop (p + 1) text
      longer =
          let is = (is_digit (get_or text p 0) (omega (arith, digit))).1 in
          let b : get_or text p 0 ≡ 48 + d = omega (arith, digit) in
          so.same
          ∙ rw (step-on text p (48 + d) there b, leading-more value d small (λ z e. not-zero (sym (is-first z) ∙ e)))
          (sym (append_assoc (leading value) ((48 + d) ∷ []) (drop (p + 1) text)))

      pub step : value * 10 + d < size → Begun text at size (value * 10 + d) (p + 1)
      step h = record { from = omega (arith, so.from); inside = omega (arith, there); small = h; same = longer }

      pub too_large : size ≤ value * 10 + d → (v : ℕ) (rest : List ℕ) → v < size → Stands v rest → ⊥
      too_large h v rest small stands =
          let n = value * 10 + d in
          let now : drop at text ≡ decimal n ++ drop (p + 1) text = longer ∙ rw (leading-some n (omega (arith, asked.some))) in
          omega (arith, front_below v n (drop (p + 1) text) end rest no_end (sym now ∙ stands ∙ flat v rest))

    module _ (past : 10 ≤ d) where
      no_more : Digit (head (drop p text)) → ⊥
      no_more x = is_none (get_or text p 0) (omega (arith, digit)) (rw (here text p) at x)

      pub nothing-told : value ≡ 0 → (v : ℕ) (rest : List ℕ) → v < size → Stands v rest → ⊥
      unfolding leading value_of value_from
      nothing-told z v rest small stands =
          let same : drop at text ≡ drop p text = rw z at so.same in
          let no-digits : ◌≡◌ {A = List ℕ} [] (decimal v) =
          (told none (decimal-digits v) (drop p text) end rest no_more no_end (sym same ∙ stands ∙ flat v rest)).0 in
          let zero : v ≡ 0 = sym (decimal-says v) ∙ sym (ap (value_of 10) no-digits) in
          let bad : ◌≡◌ {A = List ℕ} [] (48 ∷ []) = no-digits ∙ rw zero (decimal-one 0 (omega arith)) in
          let w : ◌≡◌ {A = ℕ} 0 1 = ap length bad in
          omega arith

      module _ (some : value ≡ 0 → ⊥) where
        now : drop at text ≡ decimal value ++ drop p text
        now = so.same ∙ rw (leading-some value (below value 1 (λ b. absurd (some (omega arith))) (λ b. b)))

        pub wrong-end : (get_or text p 0 ≡ end → ⊥) → (v : ℕ) (rest : List ℕ) → v < size → Stands v rest → ⊥
        wrong-end other v rest small stands =
            let behind = (told (decimal-digits value) (decimal-digits v) (drop p text) end rest no_more no_end (sym now ∙ stands ∙ flat v rest)).1 in
            other (sym (here text p) ∙ ap head behind)

        pub number-ends : get_or text p 0 ≡ end → HasNumber size end text at value (p + 1)
        number-ends e =
            let h = byte_inside text p end e asked.ending in
            record {
              small = so.small;
              same = now ∙ rw (step-on text p end h e) (sym (flat value (drop (p + 1) text)));
              inside = omega arith;
            }

  -- a zero at the front

  module _ (is_zero : get_or text at 0 ≡ 48) where
    at-inside : at < length text
    at-inside = byte_inside text at 48 is_zero (omega arith)

    pub zero-alone : get_or text (at + 1) 0 ≡ end → HasNumber size end text at 0 (at + 2)
    zero-alone e =
        let h = byte_inside text (at + 1) end e asked.ending in
        let two : at + 1 + 1 ≡ at + 2 = omega arith in
        record {
          small = omega (arith, asked.some);
          same = step-on text at 48 at-inside is_zero ∙ rw (step-on text (at + 1) end h e, two, decimal-one 0 (omega arith)) refl;
          inside = omega arith;
        }

    pub zero-spoilt : (get_or text (at + 1) 0 ≡ end → ⊥) → (v : ℕ) (rest : List ℕ) → v < size → Stands v rest → ⊥
    zero-spoilt other v rest small stands =
        let same = stands ∙ flat v rest in
        below v 1
        (λ b.
        let z : v ≡ 0 = omega arith in
        let zero : drop at text ≡ 48 ∷ end ∷ rest = rw (z, decimal-one 0 (omega arith)) at same in
        other (sym (here text (at + 1)) ∙ ap head (ap tail_of (sym (step-on text at 48 at-inside is_zero) ∙ zero))))
        (λ b.
        no-leading-zero v b
        (sym (get_or-append (decimal v) (end ∷ rest) 0 0 (decimal-some v)) ∙ ap head (sym same) ∙ here text at ∙ is_zero))
