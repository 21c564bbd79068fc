-- A line put where it has room and where it has none, and the turns of the loops that put one. Assumes nothing.
use Prim.Native.Nat.{ℕ, zero, suc, ◌+◌, ◌-◌, ◌/◌, ◌%◌, ◌<◌, ◌≤◌}
use mathlib.Core.Path.{◌≡◌, sym, ap, ◌∙◌}
use mathlib.Core.List.{List, [], ◌∷◌, ◌++◌, append_assoc}
use native.Mathlib.Nat.{mod-lt, mod-eq_of_lt}
use native.Mathlib.Omega.{arith}
use lib.ListN.{length, set, take, length-append}
use lib.Seq.{drop-drop}
use borrow.Rule.Slice.PartMut.{put_mid}
use borrow.Author.Tests.{le-leb, lt-leb}
use Rattle.text.specs.Lines.{hex_digit, digits}
use Rattle.text.specs.Puts.{lay, Put, PutAt}
use Rattle.text.proofs.Digits.{length_digits}
use Rattle.text.proofs.Lay.{lay-none, lay-back, length-lay, lay-more}

module _ (line out : List ℕ) (at : ℕ) where
  pub no_room : length out < at + length line → Put line out at at out
  no_room h =
      let q = lt-leb (at + length line) (length out) h in
      record { place = rw q; bytes = rw q; within = λ h. h }

  pub room : (next : ℕ) (after : List ℕ) → at + length line ≤ length out → next ≡ at + length line → after ≡ lay out at line
      → Put line out at next after
  room next after h n b =
      let q = le-leb (at + length line) (length out) h in
      record { place = rw q n; bytes = rw q b; within = λ _. omega arith }

-- What Put says of a line that has room, and of one that has none; and the answer tells which.

module _ (line out : List ℕ) (at next : ℕ) (after : List ℕ) (put : Put line out at next after) where
  pub laid : at + length line ≤ length out → (next ≡ at + length line) × (after ≡ lay out at line)
  laid h =
      let q = le-leb (at + length line) (length out) h in
      (rw q at put.place, rw q at put.bytes)

  pub refused : length out < at + length line → (next ≡ at) × (after ≡ out)
  refused h =
      let q = lt-leb (at + length line) (length out) h in
      (rw q at put.place, rw q at put.bytes)

-- a loop that stores the digits of n from the last to the first

module _ (at base : ℕ) where
  length-line : (k n end : ℕ) → at + length (digits base k n ++ end ∷ []) ≡ at + k + 1
  length-line k n end = simp (length-append, length_digits) (omega arith)

  pub digits-turn : (out : List ℕ) (i rest v : ℕ) → 0 < i → at + i ≤ length out → 0 < base → base ≤ 16 → v ≡ hex_digit (rest % base % 16)
      → lay (set out (at + (i - 1)) v) at (digits base (i - 1) (rest / base)) ≡ lay out at (digits base i rest)
  unfolding digits
  digits-turn out zero rest v hi h hb hs e = absurd (omega arith)
  digits-turn out (suc j) rest v hi h hb hs e =
      let q : suc j - 1 ≡ j = omega arith in
      let m = mod-lt rest hb in
      let r : rest % base % 16 ≡ rest % base = mod-eq_of_lt (omega arith) in
      rw (q, e, r) (lay-back out at (digits base j (rest / base)) j (hex_digit (rest % base)) (length_digits base j (rest / base)) (omega arith))

  pub digits-full : (out : List ℕ) (k n end : ℕ) → length out - at ≤ k → Put (digits base k n ++ end ∷ []) out at at out
  digits-full out k n end h = no_room (digits base k n ++ end ∷ []) out at (rw length-line (omega arith))

  pub digits-end : (before out : List ℕ) (k n end i rest : ℕ) → k < length before - at → i ≤ 0
      → lay out at (digits base i rest) ≡ lay (set before (at + k) end) at (digits base k n)
      → Put (digits base k n ++ end ∷ []) before at (at + k + 1) out
  unfolding digits
  digits-end before out k n end zero rest h z e =
      room (digits base k n ++ end ∷ []) before at (at + k + 1) out (rw length-line (omega arith)) (sym (length-line k n end))
      (sym (lay-none out at) ∙ e ∙ lay-back before at (digits base k n) k end (length_digits base k n) (omega arith))
  digits-end before out k n end (suc i) rest h z e = absurd (omega arith)

-- a part that was written over as a whole
pub part-laid : (out : List ℕ) (at k : ℕ) (xs part : List ℕ) → part ≡ xs → k ≡ length xs → put_mid at k out part ≡ lay out at xs
unfolding lay
part-laid out at k xs part e l = rw (e, l, drop-drop) (sym (append_assoc (take at out) xs _))

-- Lines laid one behind the other.

pub put-more : {xs ys out : List ℕ} {at n₁ n₂ : ℕ} {o₁ o₂ : List ℕ} → at + length xs ≤ length out → PutAt xs out at n₁ o₁ → PutAt ys o₁ n₁ n₂ o₂
    → PutAt (xs ++ ys) out at n₂ o₂
put-more {xs} {ys} {out} {at} h p q =
    let l : length (xs ++ ys) ≡ length xs + length ys = simp length-append in
    record { place = omega (arith, p.place, q.place); bytes = q.bytes ∙ rw (p.place, p.bytes) (lay-more out at xs ys h) }

-- the place after, and the length of what was laid into
pub put-length : {xs out : List ℕ} {at n : ℕ} {o : List ℕ} → at + length xs ≤ length out → PutAt xs out at n o → length o ≡ length out
put-length {xs} {out} {at} h p = ap length p.bytes ∙ length-lay out at xs h

pub one-put : {line out : List ℕ} {at next : ℕ} {after : List ℕ} → at + length line ≤ length out → Put line out at next after → PutAt line out at next after
one-put {line} {out} {at} {next} {after} h p =
    let q = laid line out at next after p h in
    record { place = q.0; bytes = q.1 }

-- a line, or a part of one, put behind what was laid
pub put_then : {xs line out : List ℕ} {at n₁ n₂ : ℕ} {o₁ o₂ : List ℕ} → at + length xs + length line ≤ length out → PutAt xs out at n₁ o₁
    → Put line o₁ n₁ n₂ o₂
    → PutAt (xs ++ line) out at n₂ o₂
put_then {xs} {line} h p q =
    let long = put-length {xs = xs} (omega arith) p in
    put-more {xs = xs} {ys = line} (omega arith) p (one-put {line = line} (omega (arith, p.place)) q)
