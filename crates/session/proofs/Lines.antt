-- Lines laid one behind the other, and how long they are. Assumes nothing.
use Prim.Native.Nat.{ℕ, ◌+◌, ◌*◌, ◌^◌, ◌<◌, ◌≤◌}
use mathlib.Core.Path.{◌≡◌, ap, ◌∙◌}
use mathlib.Core.List.{List, ◌++◌}
use native.Mathlib.Nat.{zero-add}
use native.Mathlib.Omega.{arith}
use lib.ListN.{length, take, length-append}
use lib.Seq.{take-take, take_all, length-take-le}
use borrow.Author.Tests.{le-leb, lt-leb}
use Rattle.rulebook.specs.Reasons.{verdict}
use Rattle.text.specs.declared.output.Laid.{Laid}
use Rattle.text.specs.Lines.{decimal, decimal_line, hex_lines}
use Rattle.text.specs.Puts.{Put, PutAt, PutWords}
use Rattle.text.proofs.Digits.{length-hexes}
use Rattle.text.proofs.Decimal.{decimal-one, length-decimal}
use Rattle.text.proofs.Lay.{front-laid}
use Rattle.text.proofs.Puts.{put-more, put-length, one-put, put_then}
use Rattle.session.specs.Printed.{lines, reason_lines}
use Rattle.session.specs.Promises.{PutLines}

-- Lines at the front: nothing where fewer than `room` bytes are lent, and where so many are that they have room.

pub unlaid : (room : ℕ) (xs out : List ℕ) → length out < room → PutLines room xs out 0 out
unlaid room xs out h = let q = lt-leb room (length out) h in record { count = rw q; bytes = rw q; inside = omega arith }

pub put-lines : (room : ℕ) {xs out : List ℕ} {n : ℕ} {after : List ℕ} → room ≤ length out → length xs ≤ room → PutAt xs out 0 n after
    → PutLines room xs out n after
put-lines room {out = out} h few p =
    let q = le-leb room (length out) h in
    record { count = rw q (p.place ∙ zero-add _); bytes = rw q p.bytes; inside = omega (arith, p.place) }

-- what stands at the front then
pub laid-front : (room : ℕ) {xs out : List ℕ} {n : ℕ} {o : List ℕ} → room ≤ length out → PutLines room xs out n o → take n o ≡ xs
laid-front room {xs} {out} h put =
    let fits = le-leb room (length out) h in
    rw (rw fits at put.bytes, rw fits at put.count) (front-laid out xs)

-- the first `to` words, where there is room for their lines
pub words-put : {out : List ℕ} {at : ℕ} {ws : List ℕ} {to : ℕ} {r : Laid} {after : List ℕ} → to ≤ length ws → at + 9 * to ≤ length out
    → PutWords out at ws 0 to r after
    → PutAt (hex_lines (take to ws)) out at r.next after
words-put {out} {at} {ws} {to} {r} h room p =
    let n : r.words ≡ to = omega (arith, p.count) in
    let l : length (hex_lines (take to ws)) ≡ 9 * to = length-hexes (take to ws) ∙ ap (λ (k : ℕ). 9 * k) (length-take-le to ws h) in
    record { place = omega (arith, p.place); bytes = rw (n, take-take to to ws (omega arith)) at p.bytes }

pub digit-long : (n : ℕ) → n < 10 → length (decimal_line n) ≡ 2
digit-long n h = rw (decimal-one n h)

pub decimal-long : (n : ℕ) → n < 2 ^ 32 → length (decimal_line n) ≤ 11
decimal-long n h = let l = length-decimal n h in simp length-append (omega arith)

pub lines_long : (n : ℕ) (s ws : List ℕ) → n < 10 → length (lines n s ws) ≡ 2 + 9 * (length s + length ws)
unfolding lines
lines_long n s ws h =
    let one : length (decimal n) ≡ 1 = rw (decimal-one n h) in
    simp (length-append, length-hexes) (omega arith)

-- The two lines of a reason.

pub reason-laid : {out o₁ o₂ : List ℕ} {n₁ n₂ : ℕ} (k i : ℕ) → k < 2 ^ 32 → i < 2 ^ 32 → 22 ≤ length out → Put (decimal_line k) out 0 n₁ o₁
    → Put (decimal_line i) o₁ n₁ n₂ o₂
    → PutLines 22 (reason_lines (verdict k i)) out n₂ o₂
unfolding reason_lines
reason-laid {out} k i hk hi h p q =
    let a = decimal-long k hk in
    let b = decimal-long i hi in
    let first = one-put {line = decimal_line k} (omega arith) p in
    put-lines 22 h (omega (arith, length-append (decimal_line k) (decimal_line i))) (put_then {xs = decimal_line k} {line = decimal_line i} (omega arith) first q)

-- The lines of an event.

pub lines-laid : {out s ws o₁ o₂ o₃ : List ℕ} {at n₁ : ℕ} {r₂ r₃ : Laid} (k m : ℕ) → k < 10 → m ≤ length ws → at + (2 + 9 * (length s + m)) ≤ length out
    → Put (decimal_line k) out at n₁ o₁ → PutWords o₁ n₁ s 0 (length s) r₂ o₂ → PutWords o₂ r₂.next ws 0 m r₃ o₃
    → PutAt (lines k s (take m ws)) out at r₃.next o₃
unfolding lines
lines-laid {out} {s} {ws} {o₁} {o₂} {o₃} {at} {n₁} {r₂} {r₃} k m hk hm room p q r =
    let d = digit-long k hk in
    let first = one-put {line = decimal_line k} (omega arith) p in
    let l₁ = put-length {xs = decimal_line k} (omega arith) first in
    let all = take_all (length s) s (omega arith) in
    let state : PutAt (hex_lines s) o₁ n₁ r₂.next o₂ = rw all at (words-put {ws = s} {to = length s} (omega arith) (omega (arith, first.place)) q) in
    let h₂ = length-hexes s in
    let two = put-more {xs = decimal_line k} {ys = hex_lines s} (omega arith) first state in
    let long : length (decimal_line k ++ hex_lines s) ≡ 2 + 9 * length s = length-append (decimal_line k) (hex_lines s) ∙ omega arith in
    let l₂ = put-length {xs = decimal_line k ++ hex_lines s} (omega arith) two in
    let words = words-put {ws = ws} {to = m} hm (omega (arith, two.place)) r in
    put-more {xs = decimal_line k ++ hex_lines s} {ys = hex_lines (take m ws)} (omega arith) two words
