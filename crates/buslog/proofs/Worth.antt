-- Digits read one after the other, and how large their number can be. Assumes nothing.
use Prim.Native.Nat.{ℕ, ◌+◌, ◌*◌, ◌^◌, ◌<◌, ◌≤◌}
use mathlib.Core.Path.{◌≡◌, sym, ◌∙◌}
use mathlib.Core.List.{List}
use native.Mathlib.Omega.{arith}
use native.Mathlib.Nat.{pow-suc, mul_assoc, add-mul, mul-le-mul_left, mul-le-mul_right, pow-le-pow_right}
use native.Mathlib.Numerals.{add-one}
use lib.ListN.{length, get_or, drop}
use lib.Seq.{drop-cons}
use Rattle.rulebook.specs.BusLog.{number, value}
use Rattle.buslog.specs.Inside.{Fits, Numbers}
use Rattle.buslog.proofs.Runs.{none_left}

module _ (digits : List ℕ) (base start : ℕ) where
  -- n is told by the first i of the digits
  pub record ToldTo (n i : ℕ) : Type 0 where
    pub same : number base start digits ≡ number base n (drop i digits)
    pub small : n + 29 ≤ (start + 29) * base ^ i

  -- a digit more leaves room for the next
  pub digit_room : (n i v : ℕ) → 10 ≤ base → v ≤ 255 → n + 29 ≤ (start + 29) * base ^ i → n * base + v + 29 ≤ (start + 29) * base ^ (i + 1)
  digit_room n i v b h small =
      let grown = mul-le-mul_right base small in
      let so : (start + 29) * base ^ (i + 1) ≡ (start + 29) * base ^ i * base = rw (add-one, pow-suc base i) (sym (mul_assoc (start + 29) (base ^ i) base)) in
      omega (arith, grown, so, add-mul n 29 base)

  pub told_more : (n i v : ℕ) → 10 ≤ base → i < length digits → v ≡ value (get_or digits i 0) → v ≤ 255 → ToldTo n i → ToldTo (n * base + v) (i + 1)
  unfolding number
  told_more n i v b h e l so =
      record {
        same = so.same ∙ rw (drop-cons digits i 0 h, add-one, e);
        small = digit_room n i v b l so.small;
      }

  -- the number at any place, and one digit more, is as small as the whole may be

  grows : (i : ℕ) → 10 ≤ base → i ≤ length digits → (start + 29) * base ^ i ≤ (start + 29) * base ^ length digits
  grows i b l = mul-le-mul_left (start + 29) (pow-le-pow_right {n = base} (omega arith) l)

  pub told-small : (n i v : ℕ) → Fits digits base start → i < length digits → v ≤ 255 → ToldTo n i → n * base + v + 29 < 2 ^ 64
  told-small n i v fits h l so =
      omega (arith, grows (i + 1) fits.many (omega arith), digit_room n i v fits.many l so.small, fits.small)

  pub told-number : (n i : ℕ) → Fits digits base start → i ≡ length digits → ToldTo n i → Numbers digits base start n
  unfolding number
  told-number n i fits h so =
      record { value = sym (so.same ∙ rw (h, none_left digits (length digits) (omega arith))); small = rw h at so.small }
