-- The cursor, and ticks laid into an output. Assumes nothing.
use Prim.Native.Nat.{ℕ, ◌+◌, ◌-◌, ◌*◌, ◌%◌, ◌^◌, ◌<◌, ◌≤◌, min}
use mathlib.Core.Path.{◌≡◌, sym, ap, ◌∙◌}
use mathlib.Core.List.{List}
use native.Mathlib.Omega.{arith}
use native.Mathlib.Nat.{div-le_self, mod-eq_of_lt}
use lib.ListN.{length, take, drop, replicate, length-drop, length-replicate}
use borrow.Rule.Slice.PartMut.{put_mid, same_len_mid}
use lib.Seq.{length-take-le}
use Rattle.std.proofs.lemmas.Slice.{take-put_mid, drop-put_mid}
use Rattle.rulebook.specs.Table.{network_owner}
use Rattle.rulebook.specs.BusLog.{Cursor, zero_time, ticks_due, tick_word, bus_off_word}
use Rattle.buslog.specs.Inside.{GivesTicks}

-- the ticks given and those due are no more than 64 bits hold
pub given-small : (c : Cursor) (time : ℕ) → c.given < 2 ^ 64 → time < 2 ^ 64 → c.given + ticks_due c time < 2 ^ 64
unfolding ticks_due
given-small c time h l =
    let part = div-le_self (time - zero_time c time) 10000 in
    omega arith

-- ticks laid into a part of an output, which they fill: as many as fit
pub fills : (out : List ℕ) (at ticks k : ℕ) (filled : List ℕ) → at ≤ length out → k ≡ min ticks (length out - at)
    → filled ≡ replicate (length (take (at + k - at) (drop at out))) tick_word → GivesTicks out at ticks (at + k) (put_mid at (at + k - at) out filled)
fills out at ticks k filled within fit is =
    let q : at + k - at ≡ k = omega arith in
    let long : length (take (at + k - at) (drop at out)) ≡ k = length-take-le (at + k - at) (drop at out) (omega (arith, length-drop at out)) ∙ q in
    let all : filled ≡ replicate k tick_word = is ∙ rw long in
    let many : length filled ≡ k = ap length all ∙ length-replicate k tick_word in
    record {
      count = rw fit;
      words = take-put_mid at (at + k - at) out filled (at + k) (omega (arith, many)) within ∙ rw (all, fit);
      kept = drop-put_mid at (at + k - at) out filled (at + k) (omega arith) within (many ∙ sym q);
      long = same_len_mid at (at + k - at) out filled (many ∙ sym long);
    }

-- the word of a bus-off, by its fields
pub packed : (t : List ℕ) (n owner : ℕ) → owner ≡ network_owner t n → owner < 16 → n < 256 → 1342177280 + owner * 16777216 + n * 65536 ≡ bus_off_word t n
unfolding bus_off_word
packed t n owner e o h =
    let q : network_owner t n % 16 ≡ owner = rw (← e) (mod-eq_of_lt o) in
    let p : n % 256 ≡ n = mod-eq_of_lt h in
    omega (arith, q, p)
