-- Decimal numbers: how many digits, what they say, and that the first of several is no zero. Assumes nothing.
use Prim.Native.Nat.{ℕ, zero, suc, ◌+◌, ◌/◌, ◌%◌, ◌^◌, ◌*◌, ◌<◌, ◌≤◌}
use mathlib.Core.Path.{◌≡◌, refl, sym, ap, ◌∙◌}
use mathlib.Core.Bool.{Bool, true, false}
use mathlib.Core.List.{[], ◌∷◌, ◌++◌}
use native.Mathlib.Nat.{mul_comm, pow-suc, mod-eq_of_lt}
use native.Mathlib.Omega.{arith}
use lib.ListN.{length, get_or, get_or-append}
use lib.Dec.{ltb}
use Rattle.std.proofs.Common.{lit≤}
use borrow.Author.Tests.{lt-ltb, le-ltb}
use Rattle.text.specs.Lines.{hex_digit, digits, places_in, places, decimal}
use Rattle.text.proofs.Digits.{below, length_digits, value, digits-say}

step : (turns n : ℕ) (b : Bool) → ltb n 10 ≡ b → places_in (suc turns) n ≡ elim b [ true ↦ 1 | false ↦ suc (places_in turns (n / 10)) ]
unfolding places_in
step turns n b y = rw (y, places_in)

one : (turns n : ℕ) → n < 10 → places_in turns n ≡ 1
unfolding places_in
one zero n h = refl
one (suc turns) n h = step turns n true (lt-ltb n 10 h)

more : (turns n : ℕ) → 10 ≤ n → places_in (suc turns) n ≡ suc (places_in turns (n / 10))
more turns n h = step turns n false (le-ltb n 10 h)

-- n divisions are as good as any larger number of them
enough : (j k n : ℕ) → n ≤ j → n ≤ k → places_in j n ≡ places_in k n
enough zero k n hj hk = one 0 n (omega arith) ∙ sym (one k n (omega arith))
enough (suc j) zero n hj hk = one (suc j) n (omega arith) ∙ sym (one 0 n (omega arith))
enough (suc j) (suc k) n hj hk =
    below n 10 (λ h. one (suc j) n h ∙ sym (one (suc k) n h))
    (λ h. more j n h ∙ ap suc (enough j k (n / 10) (omega arith) (omega arith)) ∙ sym (more k n h))

pub places-one : (n : ℕ) → n < 10 → places n ≡ 1
unfolding places
places-one n h = one n n h

pub places-more : (n : ℕ) → 10 ≤ n → places n ≡ suc (places (n / 10))
unfolding places
places-more n h =
    enough n (suc n) n (omega arith) (omega arith)
    ∙ more n n h
    ∙ ap suc (enough n (n / 10) (n / 10) (omega arith) (omega arith))

-- a number below 10 ^ k has at most k digits
pub places-within : (k n : ℕ) → n < 10 ^ suc k → places n ≤ suc k
places-within zero n h = omega (arith, places-one n h)
places-within (suc k) n h =
    below n 10 (λ b. omega (arith, places-one n b))
    (λ b.
    let q : n < 10 ^ suc k * 10 = rw pow-suc at h in
    omega (arith, places-more n b, places-within k (n / 10) (omega arith)))

places-some : (n : ℕ) → 0 < places n
places-some n = below n 10 (λ h. omega (arith, places-one n h)) (λ h. omega (arith, places-more n h))

-- and one from there on has more than k
pow-some : (k : ℕ) → 1 ≤ 10 ^ k
pow-some zero = lit≤ tt
pow-some (suc k) = rw pow-suc (omega (arith, pow-some k))

places-past : (k n : ℕ) → 10 ^ k ≤ n → k < places n
places-past zero n h = places-some n
places-past (suc k) n h =
    let q : 10 ^ k * 10 ≤ n = rw pow-suc at h in
    below n 10 (λ b. absurd (omega (arith, pow-some k)))
    (λ b. omega (arith, places-more n b, places-past k (n / 10) (omega arith)))

pub places-between : (k n : ℕ) → 10 ^ k ≤ n → n < 10 * 10 ^ k → k + 1 ≡ places n
places-between k n h b = omega (arith, places-past k n h, places-within k n (rw (pow-suc, mul_comm (10 ^ k) 10) b))

pub decimal-within : (k n : ℕ) → n < 10 ^ suc k → length (decimal n) ≤ suc k
unfolding decimal
decimal-within k n h = rw length_digits (places-within k n h)

pub length-decimal : (n : ℕ) → n < 2 ^ 32 → length (decimal n) ≤ 10
length-decimal n h = decimal-within 9 n (omega arith)

-- the digits hold the number, so they say it

hold : (k n : ℕ) → n ≤ k → n < 10 ^ places n
hold zero n h = rw (places-one n (omega arith)) (omega arith)
hold (suc k) n h =
    below n 10 (λ b. rw (places-one n b) b)
    (λ b.
    let q = hold k (n / 10) (omega arith) in
    rw (places-more n b, pow-suc) (omega arith))

pub decimal-says : (n : ℕ) → value 10 (decimal n) ≡ n
unfolding decimal
decimal-says n = digits-say 10 (places n) n (omega arith) (hold n n (omega arith))

-- a number below 10 is its one digit; another has its last digit after those of its tenth

pub decimal-one : (n : ℕ) → n < 10 → decimal n ≡ (48 + n) ∷ []
unfolding decimal digits hex_digit
decimal-one n h = rw (places-one n h, digits, mod-eq_of_lt h, lt-ltb n 10 h)

pub decimal-more : (n : ℕ) → 10 ≤ n → decimal n ≡ decimal (n / 10) ++ hex_digit (n % 10) ∷ []
unfolding decimal digits
decimal-more n h = rw (places-more n h)

first-digit : (n : ℕ) → 10 ≤ n → get_or (decimal n) 0 0 ≡ get_or (decimal (n / 10)) 0 0
unfolding decimal
first-digit n h = rw (decimal-more n h) (get_or-append (decimal (n / 10)) _ 0 0 (rw length_digits (places-some (n / 10))))

-- no number but 0 begins with a zero
no_zero : (k n : ℕ) → n ≤ k → 0 < n → get_or (decimal n) 0 0 ≡ 48 → ⊥
no_zero zero n h p = absurd (omega arith)
no_zero (suc k) n h p =
    below n 10 (λ b. rw (decimal-one n b) (λ e. omega arith))
    (λ b. rw (first-digit n b) (no_zero k (n / 10) (omega arith) (omega arith)))

pub no-leading-zero : (n : ℕ) → 0 < n → get_or (decimal n) 0 0 ≡ 48 → ⊥
no-leading-zero n p = no_zero n n (omega arith) p
