-- Hex digits and the lines of a log: what each test says, and that a line ends inside the log. Assumes nothing.
use Prim.Native.Nat.{ℕ, zero, suc, ◌+◌, ◌-◌, ◌*◌, ◌^◌, ◌<◌, ◌≤◌}
use mathlib.Core.Path.{◌≡◌, refl, sym, ◌∙◌}
use mathlib.Core.Bool.{Bool, true, false, ◌&&◌, true≢false}
use mathlib.Core.List.{List}
use native.Mathlib.Nat.{pow-suc, pow-le-pow_right}
use native.Mathlib.Numerals.{add-one}
use native.Mathlib.Omega.{arith}
use lib.ListN.{length, get_or-eq_default}
use lib.Dec.{eqb, leb}
use borrow.Author.Tests.{lt-ltb, le-ltb, ltb-true, le-leb, lt-leb, eq-eqb, ne_eqb, eqb-true}
use Rattle.std.proofs.Common.{Option, Some, None, ◌⊎◌, inl, inr}
use Rattle.recording.specs.Log.{byte, within, hex_value, hex_digits, hex_number, is_answer, is_word}
use Rattle.recording.specs.Promises.{ReadsHex, ReadsWord}
use Rattle.text.proofs.Digits.{below}

-- both of two tests

pub both : (a b : Bool) → a ≡ true → b ≡ true → (a && b) ≡ true
both a b p q = rw (p, q)

pub first_of : (a b : Bool) → (a && b) ≡ true → a ≡ true
first_of true b e = refl
first_of false b e = e

pub second-of : (a b : Bool) → (a && b) ≡ true → b ≡ true
second-of true b e = e
second-of false b e = absurd (true≢false (sym e))

pub not_first : (a b : Bool) → a ≡ false → (a && b) ≡ false
not_first a b p = rw p

pub not-second : (a b : Bool) → b ≡ false → (a && b) ≡ false
not-second true b p = p
not-second false b p = refl

-- a byte that is a number is inside
pub inside : (bytes : List ℕ) (at : ℕ) → 0 < byte bytes at → at < length bytes
inside bytes at h = below at (length bytes) (λ l. l) (λ l. absurd (omega (arith, get_or-eq_default bytes 0 l)))

-- the value of a digit

pub is_within : (low high b : ℕ) → low ≤ b → b ≤ high → within low high b ≡ true
is_within low high b h k = rw (le-leb low b h, le-leb b high k)

pub is_below : (low high b : ℕ) → b < low → within low high b ≡ false
is_below low high b h = rw (lt-leb low b h)

pub is-above : (low high b : ℕ) → high < b → within low high b ≡ false
is-above low high b h = not-second (leb low b) (leb b high) (lt-leb b high h)

pub value-digit : (b : ℕ) → 48 ≤ b → b ≤ 57 → hex_value b ≡ b - 48
unfolding hex_value
value-digit b h k = rw (is_within 48 57 b h k)

pub value-letter : (b : ℕ) → 65 ≤ b → b ≤ 70 → hex_value b ≡ b - 55
unfolding hex_value
value-letter b h k = rw (is-above 48 57 b (omega arith), is_within 65 70 b h k)

pub value_low : (b : ℕ) → b < 48 → hex_value b ≡ 16
unfolding hex_value
value_low b h = rw (is_below 48 57 b h, is_below 65 70 b (omega arith))

pub value-between : (b : ℕ) → 57 < b → b < 65 → hex_value b ≡ 16
unfolding hex_value
value-between b h k = rw (is-above 48 57 b h, is_below 65 70 b k)

pub value-high : (b : ℕ) → 70 < b → hex_value b ≡ 16
unfolding hex_value
value-high b h = rw (is-above 48 57 b (omega arith), is-above 65 70 b h)

-- digits, one more of them

module _ (bytes : List ℕ) (at : ℕ) where
  pub no-digits : hex_digits 0 bytes at ≡ true
  unfolding hex_digits
  no-digits = refl

  pub no_number : hex_number 0 bytes at ≡ 0
  unfolding hex_number
  no_number = refl

  pub digits_more : (k : ℕ) → hex_digits k bytes at ≡ true → hex_value (byte bytes (at + k)) < 16 → hex_digits (suc k) bytes at ≡ true
  unfolding hex_digits
  digits_more k e h = rw (e, lt-ltb (hex_value (byte bytes (at + k))) 16 h)

  pub number_more : (k : ℕ) → hex_number (suc k) bytes at ≡ hex_number k bytes at * 16 + hex_value (byte bytes (at + k))
  unfolding hex_number
  number_more k = refl

  pub digits-end : (k : ℕ) → 16 ≤ hex_value (byte bytes (at + k)) → hex_digits (suc k) bytes at ≡ false
  unfolding hex_digits
  digits-end k h = not-second (hex_digits k bytes at) _ (le-ltb (hex_value (byte bytes (at + k))) 16 h)

  longer : (m k : ℕ) → k ≤ m → hex_digits k bytes at ≡ false → hex_digits m bytes at ≡ false
  unfolding hex_digits
  longer zero k h e =
      let q : k ≡ 0 = omega arith in
      rw q at e
  longer (suc m) k h e =
      below k (suc m) (λ l. not_first (hex_digits m bytes at) _ (longer m k (omega arith) e))
      (λ l. let q : k ≡ suc m = omega arith in rw q at e)

  -- one byte that is none spoils all
  pub spoilt : (k : ℕ) → k < 8 → 16 ≤ hex_value (byte bytes (at + k)) → hex_digits 8 bytes at ≡ false
  spoilt k h v = longer 8 (suc k) (omega arith) (digits-end k v)

  -- k digits spell a number below 16 ^ k
  pub number_small : (k : ℕ) → hex_digits k bytes at ≡ true → hex_number k bytes at < 16 ^ k
  unfolding hex_digits hex_number
  number_small zero e = omega arith
  number_small (suc k) e =
      let small = number_small k (first_of _ _ e) in
      let one = ltb-true (hex_value (byte bytes (at + k))) 16 (second-of (hex_digits k bytes at) _ e) in
      rw pow-suc (omega arith)

  pub number_fits : (k : ℕ) → k ≤ 8 → hex_digits k bytes at ≡ true → hex_number k bytes at < 2 ^ 32
  number_fits k h e =
      let small = number_small k e in
      let most : 16 ^ k ≤ 16 ^ 8 = pow-le-pow_right (omega arith) h in
      omega arith

  -- one digit more, which still fits a word
  pub one-digit : (k v d : ℕ) {b : ℕ} → k < 8 → hex_digits k bytes at ≡ true → v ≡ hex_number k bytes at → b ≡ byte bytes (at + k)
      → (d ≡ hex_value b) × (d < 16)
      → (hex_digits (k + 1) bytes at ≡ true) × (v * 16 + d ≡ hex_number (k + 1) bytes at) × (v * 16 + d < 2 ^ 32)
  one-digit k v d h all number is digit =
      let value : d ≡ hex_value (byte bytes (at + k)) = rw is at digit.0 in
      let more = digits_more k all (omega arith) in
      let sum : v * 16 + d ≡ hex_number (suc k) bytes at = rw (number_more k, number, value) in
      let fits = number_fits (suc k) (omega arith) more in
      rw add-one (more, sum, omega arith)

  -- lines

  pub no-newline : (byte bytes (at + 8) ≡ 10 → ⊥) → is_word bytes at ≡ false
  unfolding is_word
  no-newline h = not-second (hex_digits 8 bytes at) _ (ne_eqb (byte bytes (at + 8)) 10 h)

  pub ends-word : (r : Option ℕ) → byte bytes (at + 8) ≡ 10 → ReadsHex bytes at r → ReadsWord bytes at r
  unfolding is_word
  ends-word (Some w) n h = (both (hex_digits 8 bytes at) _ h.0 (eq-eqb (byte bytes (at + 8)) 10 n), h.1)
  ends-word None n h = not_first (hex_digits 8 bytes at) _ h

  -- a word's line, or an answer's, is inside

  pub word-inside : is_word bytes at ≡ true → at + 9 ≤ length bytes
  unfolding is_word
  word-inside e =
      let q = eqb-true (byte bytes (at + 8)) 10 (second-of (hex_digits 8 bytes at) _ e) in
      omega (arith, inside bytes (at + 8) (omega arith))

  pub answer-inside : is_answer bytes at ≡ true → at + 2 ≤ length bytes
  unfolding is_answer
  answer-inside e =
      let q = eqb-true (byte bytes (at + 1)) 10 (second-of (within 48 57 (byte bytes at)) _ e) in
      omega (arith, inside bytes (at + 1) (omega arith))

  pub answer-digit : is_answer bytes at ≡ true → 48 ≤ byte bytes at
  unfolding is_answer
  answer-digit e = below (byte bytes at) 48 (λ h. absurd (true≢false (sym e ∙ not_first _ _ (is_below 48 57 (byte bytes at) h)))) (λ h. h)

  pub no-digit-answer : (byte bytes at < 48) ⊎ (57 < byte bytes at) → is_answer bytes at ≡ false
  unfolding is_answer
  no-digit-answer (inl h) = not_first _ _ (is_below 48 57 (byte bytes at) h)
  no-digit-answer (inr h) = not_first _ _ (is-above 48 57 (byte bytes at) h)

  pub digit-answer : 48 ≤ byte bytes at → byte bytes at ≤ 57 → eqb (byte bytes (at + 1)) 10 ≡ is_answer bytes at
  unfolding is_answer
  digit-answer h k = rw (is_within 48 57 (byte bytes at) h k)
