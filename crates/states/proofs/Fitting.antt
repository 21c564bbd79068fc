-- The exits of the state check. Assumes nothing.
use Prim.Native.Nat.{ℕ, ◌-◌}
use mathlib.Core.Path.{◌≡◌, sym, ◌∙◌}
use mathlib.Core.Bool.{Bool, false}
use mathlib.Core.List.{List}
use native.Mathlib.Nat.{sub-zero}
use lib.ListN.{length}
use borrow.Author.Tests.{eq-eqb, ne_eqb}
use Rattle.rulebook.specs.Words.{word, all}
use Rattle.rulebook.specs.State.{Thing, thing, state_length, thing_fits, fits_at, fits}

module _ (t s : List ℕ) (n : ℕ) (asked : n ≡ state_length t) where
  pub wrong-length : (length s ≡ n → ⊥) → false ≡ fits t s
  unfolding fits
  wrong-length h = rw (ne_eqb (length s) (state_length t) (rw asked at h))

  pub right-length : length s ≡ n → fits t s ≡ all 0 (n - 0) (fits_at t s)
  unfolding fits
  right-length h = rw (sub-zero, eq-eqb (length s) (state_length t) (h ∙ asked), asked)

pub fits-here : (t s : List ℕ) (i w : ℕ) (x : Thing) (r : Bool) → r ≡ thing_fits t x w → x ≡ thing t i → w ≡ word s i → fits_at t s i ≡ r
unfolding fits_at
fits-here t s i w x r hr hx hw = rw (← hx, ← hw) (sym hr)
