-- Decimal digits in a text: the digit at a place; the digits of a number are digits, and say it; where they end, they are told. Assumes nothing.
use Prim.Native.Nat.{ℕ, zero, suc, ◌+◌, ◌-◌, ◌*◌, ◌/◌, ◌%◌, ◌<◌, ◌≤◌}
use mathlib.Core.Path.{◌≡◌, refl, sym, ap, ◌∙◌}
use mathlib.Core.List.{List, [], ◌∷◌, ◌++◌}
use native.Mathlib.Omega.{arith}
use lib.ListN.{get_or}
use borrow.Author.Tests.{le-leb, lt-leb, lt-ltb}
use Rattle.text.specs.Lines.{hex_digit, decimal}
use Rattle.text.proofs.Digits.{below, worth, value_from, value}
use Rattle.text.proofs.Decimal.{decimal-one, decimal-more, decimal-says}
use Rattle.std.specs.Prelude.{Option, Some, None, MatchOption}
use Rattle.std.specs.Option.{SomeIff}
use Rattle.std.specs.Char.{digit_value as digit_of_char, NotDecimalDigitIn, IsDigitOf}
use Rattle.listing.specs.Inside.{digit_of, ReadsDigit}

module _ (b : ℕ) where
  pub no-digit-below : b < 48 → 10 ≡ digit_of b
  unfolding digit_of
  no-digit-below h = rw (lt-leb 48 b h)

  pub no-digit-above : 57 < b → 10 ≡ digit_of b
  unfolding digit_of
  no-digit-above h = rw (le-leb 48 b (omega arith), lt-leb b 57 h)

  pub digit_value : 48 ≤ b → b ≤ 57 → b - 48 ≡ digit_of b
  unfolding digit_of
  digit_value h k = rw (le-leb 48 b h, le-leb b 57 k)

  pub record Digit : Type 0 where
    pub low : 48 ≤ b
    pub high : b ≤ 57

  -- a byte that is a digit, or is none
  pub digit_or : {A : Type 0} → (Digit → digit_of b ≡ b - 48 → A) → ((Digit → ⊥) → digit_of b ≡ 10 → A) → A
  digit_or f g =
      below b 48 (λ h. g (λ d. omega (arith, d.low)) (sym (no-digit-below h)))
      (λ h. below 57 b (λ k. g (λ d. omega (arith, d.high)) (sym (no-digit-above k))) (λ k. f (record { low = h; high = k }) (sym (digit_value h k))))

  pub is_digit : digit_of b < 10 → (Digit) × (b ≡ 48 + digit_of b)
  is_digit h = digit_or (λ d e. (d, omega (arith, d.low))) (λ n e. absurd (omega arith))

  pub is_none : 10 ≤ digit_of b → Digit → ⊥
  is_none h d = digit_or (λ _ e. omega (arith, d.low, d.high)) (λ n e. n d)

-- all of a list's bytes are digits
pub data Digits : List ℕ → Type 0 where
  none : Digits []
  more : {b : ℕ} {bs : List ℕ} → Digit b → Digits bs → Digits (b ∷ bs)

joined : {xs ys : List ℕ} → Digits xs → Digits ys → Digits (xs ++ ys)
joined none e = e
joined (more b d) e = more b (joined d e)

digit-of : (d : ℕ) → d < 10 → Digit (hex_digit d)
unfolding hex_digit
digit-of d h = rw (lt-ltb d 10 h) (record { low = omega arith; high = omega arith })

decimal-in : (k n : ℕ) → n ≤ k → Digits (decimal n)
decimal-in zero n h = rw (decimal-one n (omega arith)) (more {b = 48 + n} (record { low = omega arith; high = omega arith }) none)
decimal-in (suc k) n h =
    below n 10 (λ b. rw (decimal-one n b) (more {b = 48 + n} (record { low = omega arith; high = omega arith }) none))
    (λ b. rw (decimal-more n b) (joined (decimal-in k (n / 10) (omega arith)) (more (digit-of (n % 10) (omega arith)) none)))

-- the digits of a number are digits
pub decimal-digits : (n : ℕ) → Digits (decimal n)
decimal-digits n = decimal-in n n (omega arith)

-- Digits with something behind them that begins with none: both are told by the whole.

abbrev pub head : List ℕ → ℕ
head xs = get_or xs 0 0

abbrev pub tail_of : List ℕ → List ℕ
tail_of [] = []
tail_of (x ∷ xs) = xs

pub told : {xs ys : List ℕ} → Digits xs → Digits ys → (rest : List ℕ) (e : ℕ) (more : List ℕ) → (Digit (head rest) → ⊥) → (Digit e → ⊥)
    → xs ++ rest ≡ ys ++ e ∷ more → (xs ≡ ys) × (rest ≡ e ∷ more)
told none none rest e m no-rest no-e same = (refl, same)
told none (more d ds) rest e m no-rest no-e same = absurd (no-rest (rw same d))
told (more d ds) none rest e m no-rest no-e same = absurd (no-e (rw (← ap head same) d))
told {xs = x ∷ xs} {ys = y ∷ ys} (more d ds) (more f fs) rest e m no-rest no-e same =
    let first : x ≡ y = ap head same in
    let behind = told ds fs rest e m no-rest no-e (ap tail_of same) in
    (rw (first, behind.0), behind.1)

-- digits at the front of a number's, whatever is behind them, say no more than the number
value_grows : (so_far : ℕ) (xs : List ℕ) → so_far ≤ value_from 10 so_far xs
unfolding value_from
value_grows so_far [] = omega arith
value_grows so_far (x ∷ xs) = let q = value_grows (so_far * 10 + worth x) xs in omega arith

front_less : {xs ys : List ℕ} → Digits xs → Digits ys → (so_far : ℕ) (rest : List ℕ) (e : ℕ) (more : List ℕ) → (Digit e → ⊥)
    → xs ++ rest ≡ ys ++ e ∷ more → value_from 10 so_far xs ≤ value_from 10 so_far ys
unfolding value_from
front_less {ys = ys} none e so_far rest end m no-e same = value_grows so_far ys
front_less (more d ds) none so_far rest end m no-e same = absurd (no-e (rw (← ap head same) d))
front_less {xs = x ∷ xs} {ys = y ∷ ys} (more d ds) (more f fs) so_far rest end m no-e same =
    let first : x ≡ y = ap head same in
    rw first (front_less ds fs (so_far * 10 + worth y) rest end m no-e (ap tail_of same))

pub front_below : (v n : ℕ) (rest : List ℕ) (e : ℕ) (more : List ℕ) → (Digit e → ⊥) → decimal n ++ rest ≡ decimal v ++ e ∷ more → n ≤ v
unfolding value
front_below v n rest e m no-e same =
    let q = front_less (decimal-digits n) (decimal-digits v) 0 rest e m no-e same in
    omega (arith, decimal-says n, decimal-says v)

pub decimal-one-to-one : (v n : ℕ) → decimal v ≡ decimal n → v ≡ n
decimal-one-to-one v n e = sym (decimal-says v) ∙ ap (value 10) e ∙ decimal-says n

-- the digit at a place, as the library reads it

module _ (text : List ℕ) (at c : ℕ) (is : c ≡ get_or text at 0) where
  pub reads_digit : (r : Option ℕ) → SomeIff r (digit_of_char c < 10) (digit_of_char c) → MatchOption r (NotDecimalDigitIn 10 c) (IsDigitOf c)
      → ReadsDigit text at r
  reads_digit (Some d) small cases =
      let low : (48 ≤ c) × (c ≤ 57) × (48 + d ≡ c) = grind arith in
      (omega (arith, digit_value c low.0 low.1, ap digit_of is), omega arith)
  reads_digit None large cases = rw (← is) (digit_or c (λ d e. absurd (omega (arith, cases d.low d.high, d.high))) (λ n e. omega arith))
