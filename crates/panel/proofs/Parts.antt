-- A part's numbers, words and lines, part by part, and how long they are. Assumes nothing.
use Prim.Native.Nat.{ℕ, suc, ◌+◌, ◌-◌, ◌<◌, ◌≤◌}
use mathlib.Core.Path.{◌≡◌, sym, ap, ◌∙◌}
use mathlib.Core.Bool.{Bool, true, false}
use mathlib.Core.List.{List, [], ◌∷◌, ◌++◌}
use native.Mathlib.Omega.{arith}
use lib.ListN.{length, length-append}
use lib.Dec.{eqb}
use borrow.Author.Tests.{ne_eqb}
use Rattle.text.specs.Lines.{decimal, places}
use Rattle.text.proofs.Digits.{length_digits, length-hex}
use Rattle.text.proofs.Decimal.{decimal-within}
use Rattle.panel.specs.declared.Counts.{Counts}
use Rattle.panel.specs.Printed.{the_ports, the_networks, the_sources, by_part, count, label, numeral, line, line_at, lines, owner, shown_word}
use Rattle.panel.specs.Inside.{Counted}

-- behind the tests for the other three comes the trace
pub by-trace : {A : Type 0} (part : ℕ) (a b c d : A) → (part ≡ 0 → ⊥) → (part ≡ 1 → ⊥) → (part ≡ 2 → ⊥) → by_part part a b c d ≡ d
unfolding by_part
by-trace part a b c d p n s = rw (ne_eqb part 0 p, ne_eqb part 1 n, ne_eqb part 2 s)

-- `trace `
pub trace-name : (part i : ℕ) → (part ≡ 0 → ⊥) → (part ≡ 1 → ⊥) → (part ≡ 2 → ⊥) → label part ++ numeral part i ≡ 116 ∷ 114 ∷ 97 ∷ 99 ∷ 101 ∷ 32 ∷ []
unfolding label numeral
trace-name part i p n s = rw (by-trace part _ _ _ _ p n s, by-trace part _ _ _ _ p n s)

-- a thing's number is small
module _ (t ws : List ℕ) (c : Counts) (counted : Counted t c) (i : ℕ) where
  pub port-small : i < count the_ports t ws → i < 256
  unfolding count by_part
  port-small h = omega (arith, counted.ports, counted.few_ports)

  pub network-small : i < count the_networks t ws → i < 256
  unfolding count by_part
  network-small h = omega (arith, counted.networks, counted.few_networks)

  pub source-small : i < count the_sources t ws → i < 256
  unfolding count by_part
  source-small h = omega (arith, counted.sources, counted.few_sources)

-- a number below 1,000 and the space behind it
pub numeral-short : (i : ℕ) → i < 1000 → length (decimal i ++ 32 ∷ []) ≤ 4
numeral-short i h = let d = decimal-within 2 i (omega arith) in simp length-append (omega arith)

pub length-numeral : (i : ℕ) → length (decimal i ++ 32 ∷ []) ≡ places i + 1
unfolding decimal
length-numeral i = simp (length-append, length_digits)

-- a line and its name
pub length-line : (part i w : ℕ) → length (line part i w) ≡ length (label part ++ numeral part i) + 9
unfolding line
length-line part i w = rw (length-append (label part ++ numeral part i), length-hex)

-- the line of a word that is the operator's, and of one that is not

module _ (part o : ℕ) (t s ws : List ℕ) (i : ℕ) where
  pub own_line : eqb (owner part t ws i) o ≡ true → line_at part o t s ws i ≡ line part i (shown_word part t s ws i)
  unfolding line_at
  own_line e = rw e

  pub no_line : eqb (owner part t ws i) o ≡ false → line_at part o t s ws i ≡ []
  unfolding line_at
  no_line e = rw e

  -- and how long it is, where r is whether the word is the operator's and n is as long as its name
  pub own-length : {r : Bool} {n : ℕ} → r ≡ eqb (owner part t ws i) o → r ≡ true → n ≡ length (label part ++ numeral part i)
      → n + 9 ≡ length (line_at part o t s ws i)
  own-length whose mine long = rw (own_line (sym whose ∙ mine), length-line part i (shown_word part t s ws i)) (ap (λ (k : ℕ). k + 9) long)

  pub no_length : {r : Bool} → r ≡ eqb (owner part t ws i) o → r ≡ false → 0 ≡ length (line_at part o t s ws i)
  no_length whose other = rw (no_line (sym whose ∙ other))

-- lines, the first taken off, and those of none

pub lines_next : (at : ℕ → List ℕ) (i n : ℕ) → i < n → lines i (n - i) at ≡ at i ++ lines (i + 1) (n - (i + 1)) at
unfolding lines
lines_next at i n h =
    let more : n - i ≡ suc (n - (i + 1)) = omega arith in
    let next : i + 1 ≡ suc i = omega arith in
    rw (more, next)

pub lines_none : (at : ℕ → List ℕ) (i n : ℕ) → n ≤ i → lines i (n - i) at ≡ []
unfolding lines
lines_none at i n h = let none : n - i ≡ 0 = omega arith in rw none
