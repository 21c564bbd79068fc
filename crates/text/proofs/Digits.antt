-- Digits: how many there are, and that they say the number. Assumes nothing.
use Prim.Native.Nat.{ℕ, zero, suc, ◌+◌, ◌-◌, ◌*◌, ◌/◌, ◌%◌, ◌^◌, ◌<◌, ◌≤◌}
use mathlib.Core.Path.{◌≡◌, refl}
use mathlib.Core.Bool.{Bool, true, false, cond}
use mathlib.Core.List.{List, [], ◌∷◌, ◌++◌}
use native.Mathlib.Nat.{pow-zero, pow-suc, div-lt_iff_lt-mul, div-add-mod'}
use native.Mathlib.Omega.{arith}
use lib.ListN.{length, take, length-append}
use lib.Seq.{take_at}
use lib.Dec.{ltb}
use borrow.Author.Tests.{lt-ltb, le-ltb, ltb-true, ltb-false}
use Rattle.text.specs.Lines.{hex_digit, digits, newline, hex_line, hex_lines}

cases : {A : Type 0} (b : Bool) → (b ≡ true → A) → (b ≡ false → A) → A
cases true f g = f refl
cases false f g = g refl

-- a number is below a limit, or it is not
pub below : {A : Type 0} (n limit : ℕ) → (n < limit → A) → (limit ≤ n → A) → A
below n limit f g = cases (ltb n limit) (λ e. f (ltb-true n limit e)) (λ e. g (ltb-false n limit e))

pub length_digits : (base k n : ℕ) → length (digits base k n) ≡ k
unfolding digits
length_digits base zero n = refl
length_digits base (suc k) n = simp (length-append, length_digits base k (n / base)) (omega arith)

pub length-hex : (w : ℕ) → length (hex_line w) ≡ 9
unfolding hex_line
length-hex w = simp (length-append, length_digits)

pub length-hexes : (ws : List ℕ) → length (hex_lines ws) ≡ 9 * length ws
unfolding hex_lines
length-hexes [] = refl
length-hexes (w ∷ ws) = simp (length-append, length-hex, length-hexes ws) (omega arith)

-- What digits say, read from the first to the last.

unfoldable pub worth : ℕ → ℕ
worth x = cond (ltb x 58) (x - 48) (x - 55)

unfoldable pub value_from : ℕ → ℕ → List ℕ → ℕ
value_from base so_far [] = so_far
value_from base so_far (x ∷ xs) = value_from base (so_far * base + worth x) xs

unfoldable pub value : ℕ → List ℕ → ℕ
value base xs = value_from base 0 xs

worth-digit : (d : ℕ) → worth (hex_digit d) ≡ d
unfolding hex_digit worth
worth-digit d =
    below d 10 (λ h. rw (lt-ltb d 10 h, lt-ltb (48 + d) 58 (omega arith)) (omega arith))
    (λ h. rw (le-ltb d 10 h, le-ltb (55 + d) 58 (omega arith)) (omega arith))

value-last : (base so_far : ℕ) (xs : List ℕ) (x : ℕ) → value_from base so_far (xs ++ x ∷ []) ≡ value_from base so_far xs * base + worth x
unfolding value_from
value-last base so_far [] x = refl
value-last base so_far (y ∷ xs) x = value-last base (so_far * base + worth y) xs x

-- the last k digits of a number that has no more say that number
pub digits-say : (base k n : ℕ) → 0 < base → n < base ^ k → value base (digits base k n) ≡ n
unfolding digits value value_from
digits-say base zero n hb h = omega (arith, rw pow-zero at h)
digits-say base (suc k) n hb h =
    rw (value-last base 0 (digits base k (n / base)) (hex_digit (n % base)), worth-digit (n % base))
    (rw (digits-say base k (n / base) hb ((div-lt_iff_lt-mul hb).1 (rw pow-suc at h))) (div-add-mod' n base))

-- reading a word's line back, up to its newline, gives the word
pub hex-says : (w : ℕ) → w < 2 ^ 32 → value 16 (take 8 (hex_line w)) ≡ w
unfolding hex_line
hex-says w h = rw (take_at (digits 16 8 w) newline 8 (length_digits 16 8 w)) (digits-say 16 8 w (omega arith) h)
