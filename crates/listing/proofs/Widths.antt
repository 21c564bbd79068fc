-- The widths of a form's fields: each 1 to 16 bits, and at most 32 together; the bits before the k-th, and the fields from the k-th on. Assumes nothing.
use Prim.Native.Nat.{ℕ, zero, suc, ◌+◌, ◌-◌, ◌^◌, ◌<◌, ◌≤◌}
use mathlib.Core.Path.{◌≡◌, refl, ◌∙◌}
use mathlib.Core.Bool.{Bool, true, false, ◌&&◌, ◌||◌, cond}
use mathlib.Core.Logic.{◌⊎◌, inl, inr, ⊎_elim}
use mathlib.Core.List.{List, [], ◌∷◌}
use native.Mathlib.Numerals.{add-one}
use native.Mathlib.Omega.{arith}
use lib.ListN.{length, get_or, drop, drop_of_length-le, length-map}
use lib.Seq.{drop-cons}
use lib.Pow.{pow_pos, pow_mono}
use lib.Dec.{eqb, leb, ltb}
use borrow.Author.Tests.{eqb-true, leb-true, lt-ltb, le-ltb}
use Rattle.laws.proofs.Tests.{and_left, and_right, or_some}
use Rattle.text.proofs.Digits.{below}
use Rattle.rulebook.specs.Words.{field}
use Rattle.rulebook.specs.Listing.{Form, of, form, forms, fields_from, fields_of}
use Rattle.listing.specs.Lines.{ending}
use Rattle.listing.specs.Inside.{sizes_of, power}

-- A test of every form, computed over them all.

abbrev pub every : (Form → Bool) → List Form → Bool
every test [] = true
every test (x ∷ xs) = test x && every test xs

at-any : (test : Form → Bool) (d : Form) → test d ≡ true → (xs : List Form) → every test xs ≡ true → (f : ℕ) → test (get_or xs f d) ≡ true
at-any test d none [] all f = none
at-any test d none (x ∷ xs) all zero = and_left (test x) (every test xs) all
at-any test d none (x ∷ xs) all (suc f) = at-any test d none xs (and_right (test x) (every test xs) all) f

pub of-every-form : (test : Form → Bool) → every test forms ≡ true → test (of [] []) ≡ true → (f : ℕ) → test (form f) ≡ true
unfolding form
of-every-form test all none f = at-any test (of [] []) none forms all f

-- a space or a newline is no digit, and is there
pub ends_low : (end : ℕ) (b : Bool) → end ≡ cond b 32 10 → (end < 48) × (1 ≤ end)
ends_low end true e = (omega arith, omega arith)
ends_low end false e = (omega arith, omega arith)

-- each width is 1 to 16, and together they are at most `left`
abbrev sound : ℕ → List ℕ → Bool
sound left [] = true
sound left (width ∷ widths) = leb 1 width && (leb width 16 && (leb width left && sound (left - width) widths))

abbrev sound-form : Form → Bool
sound-form x = sound 32 x.widths && (leb (length x.name) 11 && leb (length x.widths) 6)

forms-sound : (f : ℕ) → sound-form (form f) ≡ true
unfolding forms
forms-sound f = of-every-form sound-form refl refl f

pub short-name : (f : ℕ) → length (form f).name ≤ 11
short-name f = leb-true _ _ (and_left _ (leb (length (form f).widths) 6) (and_right (sound 32 (form f).widths) _ (forms-sound f)))

pub few-fields : (f : ℕ) → length (form f).widths ≤ 6
few-fields f = leb-true _ _ (and_right (leb (length (form f).name) 11) _ (and_right (sound 32 (form f).widths) _ (forms-sound f)))

-- the bits of the first k fields
unfoldable pub bits : ℕ → List ℕ → ℕ
bits zero widths = 0
bits (suc k) [] = 0
bits (suc k) (width ∷ widths) = width + bits k widths

pub no_bits : (widths : List ℕ) → bits 0 widths ≡ 0
unfolding bits
no_bits widths = refl

pub bits-next : (k : ℕ) (widths : List ℕ) → k < length widths → bits (k + 1) widths ≡ bits k widths + get_or widths k 0
unfolding bits
bits-next k [] h = absurd (omega arith)
bits-next zero (width ∷ widths) h = omega arith
bits-next (suc k) (width ∷ widths) h =
    let q : suc k + 1 ≡ suc (k + 1) = omega arith in
    rw q (omega (arith, bits-next k widths (omega arith)))

pub record Wide (k : ℕ) (widths : List ℕ) : Type 0 where
  pub some : 1 ≤ get_or widths k 0
  pub most : get_or widths k 0 ≤ 16
  pub within : bits k widths + get_or widths k 0 ≤ 32

wide : (left k : ℕ) (widths : List ℕ) → sound left widths ≡ true → k < length widths
    → (1 ≤ get_or widths k 0) × (get_or widths k 0 ≤ 16) × (bits k widths + get_or widths k 0 ≤ left)
unfolding bits
wide left k [] s h = absurd (omega arith)
wide left zero (width ∷ widths) s h =
    let behind = and_right (leb 1 width) _ s in (
      leb-true 1 width (and_left _ _ s),
      leb-true width 16 (and_left _ _ behind),
      let l = leb-true width left (and_left _ _ (and_right (leb width 16) _ behind)) in omega arith,
    )
wide left (suc k) (width ∷ widths) s h =
    let behind = and_right (leb width 16) _ (and_right (leb 1 width) _ s) in
    let l = leb-true width left (and_left _ _ behind) in
    let next = wide (left - width) k widths (and_right (leb width left) _ behind) (omega arith) in
    (next.0, next.1, omega (arith, next.2))

bits_most : (left k : ℕ) (widths : List ℕ) → sound left widths ≡ true → bits k widths ≤ left
unfolding bits
bits_most left zero widths s = omega arith
bits_most left (suc k) [] s = omega arith
bits_most left (suc k) (width ∷ widths) s =
    let behind = and_right (leb width 16) _ (and_right (leb 1 width) _ s) in
    let l = leb-true width left (and_left _ _ behind) in
    let next = bits_most (left - width) k widths (and_right (leb width left) _ behind) in
    omega arith

size-at : (k : ℕ) (widths : List ℕ) → k < length widths → get_or (sizes_of widths) k 0 ≡ 2 ^ get_or widths k 0
unfolding sizes_of
size-at k [] h = absurd (omega arith)
size-at zero (width ∷ widths) h = refl
size-at (suc k) (width ∷ widths) h = size-at k widths (omega arith)

-- the fields fill the word, where there are any

abbrev full : Form → Bool
full x = eqb (bits (length x.widths) x.widths) 32 || eqb (length x.widths) 0

forms-full : (f : ℕ) → full (form f) ≡ true
unfolding forms bits
forms-full f = of-every-form full refl refl f

module _ (f : ℕ) where
  abbrev of-form : List ℕ
  of-form = (form f).widths

  is-sound : sound 32 of-form ≡ true
  is-sound = and_left (sound 32 of-form) _ (forms-sound f)

  pub bits_full : (bits (length of-form) of-form ≡ 32) ⊎ (length of-form ≡ 0)
  bits_full = ⊎_elim (λ e. inl (eqb-true _ _ e)) (λ e. inr (eqb-true _ _ e)) (or_some _ _ (forms-full f))

  pub bits-within : (k : ℕ) → bits k of-form ≤ 32
  bits-within k = bits_most 32 k of-form is-sound

  module _ (k : ℕ) (there : k < length of-form) where
    pub width-there : Wide k of-form
    width-there = let w = wide 32 k of-form is-sound there in record { some = w.0; most = w.1; within = w.2 }

    pub narrow : get_or of-form k 0 ≤ 16
    narrow = width-there.most

    -- what stands behind the k-th field
    pub ends-field : (from w : ℕ) → cond (ltb (k + 1) (length of-form)) 32 10 ≡ ending (fields_from from (drop (k + 1) of-form) w)
    unfolding ending fields_from
    ends-field from w =
        below (k + 1) (length of-form) (λ h. rw (lt-ltb _ _ h, drop-cons of-form (k + 1) 0 h))
        (λ h. rw (le-ltb _ _ h, drop_of_length-le of-form h))

    -- the fields from the k-th on: the k-th, and those behind it
    pub field_next : (w : ℕ)
        → fields_from (bits k of-form) (drop k of-form) w
        ≡ field (bits k of-form) (get_or of-form k 0) w ∷ fields_from (bits (k + 1) of-form) (drop (k + 1) of-form) w
    unfolding fields_from
    field_next w = rw (drop-cons of-form k 0 there, bits-next k of-form there, add-one)

  -- behind the last field there is none
  pub fields-end : (from k w : ℕ) → length of-form ≤ k → fields_from from (drop k of-form) w ≡ []
  unfolding fields_from
  fields-end from k w h = rw (drop_of_length-le of-form h)

  pub fields-all : (w : ℕ) → fields_of f w ≡ fields_from (bits 0 of-form) (drop 0 of-form) w
  unfolding fields_of bits
  fields-all w = refl

-- a form's sizes in a row, as the code has them, and what ends the k-th field

module _ (f : ℕ) (row : List ℕ) (is : row ≡ sizes_of (form f).widths) where
  pub row-length : length row ≡ length (form f).widths
  unfolding sizes_of
  row-length = rw is (length-map (form f).widths power)

  module _ (k : ℕ) (in-row : k < length row) where
    pub field-there : k < length (form f).widths
    field-there = rw row-length at in-row

    pub size-there : get_or row k 0 ≡ 2 ^ get_or (form f).widths k 0
    size-there = rw is (size-at k (form f).widths field-there)

    pub size-some : 1 ≤ get_or row k 0
    size-some = rw size-there (pow_pos (get_or (form f).widths k 0))

    pub size-most : get_or row k 0 ≤ 65536
    size-most = rw size-there (pow_mono {j = 16} (narrow f k field-there))

    pub ends-row : (end from w : ℕ) → end ≡ cond (ltb (k + 1) (length row)) 32 10
        → end ≡ ending (fields_from from (drop (k + 1) (form f).widths) w)
    ends-row end from w e = e ∙ rw row-length (ends-field f k field-there from w)
