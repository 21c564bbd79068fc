-- Words as a file has them: four bytes each, which make the words again. Assumes nothing.
use Prim.Native.Nat.{ℕ, zero, suc, ◌+◌, ◌-◌, ◌*◌, ◌/◌, ◌%◌, ◌^◌, ◌<◌, ◌≤◌}
use mathlib.Core.Path.{◌≡◌, refl, sym}
use mathlib.Core.List.{List, [], ◌∷◌, ◌++◌, append_assoc, append-nil}
use native.Mathlib.Nat.{mod-eq_of_lt, div-add-mod, div-div-eq-div-mul}
use native.Mathlib.Numerals.{add-one}
use native.Mathlib.Omega.{arith}
use lib.ListN.{length, get_or, take, length-append}
use lib.Seq.{take_all, length-take-le}
use Rattle.std.specs.Int.{w32, to_be_bytes}
use borrow.Rule.Slice.PartMut.{put_mid}
use Rattle.text.specs.Words.{word_of, words_of}
use Rattle.text.specs.Puts.{PutAt}
use Rattle.text.proofs.Lay.{lay-none}
use Rattle.text.proofs.Puts.{put-more, part-laid}
use Rattle.text.specs.Raw.{bytes_of, bytes_in}

four_bytes : (w : ℕ) → length (bytes_of w) ≡ 4
unfolding bytes_of
four_bytes w = refl

pub all-bytes : (ws : List ℕ) → length (bytes_in ws) ≡ 4 * length ws
unfolding bytes_in
all-bytes [] = refl
all-bytes (w ∷ ws) = simp (length-append, four_bytes) (omega (arith, all-bytes ws))

-- What the bytes say: the words again. So a table's file that `read` wrote is read as that table.

together : (w a b c x y z : ℕ) → 256 * a + z ≡ w → 256 * b + y ≡ a → 256 * c + x ≡ b → word_of c x y z ≡ w
together w a b c x y z p q r = omega arith

same_word : (w : ℕ) → w < 2 ^ 32 → word_of (w / 2 ^ 24 % 256) (w / 2 ^ 16 % 256) (w / 2 ^ 8 % 256) (w % 256) ≡ w
same_word w h =
    let second : w / 2 ^ 8 / 256 ≡ w / 2 ^ 16 = div-div-eq-div-mul w (2 ^ 8) 256 in
    let first : w / 2 ^ 16 / 256 ≡ w / 2 ^ 24 = div-div-eq-div-mul w (2 ^ 16) 256 in
    let top : w / 2 ^ 24 % 256 ≡ w / 2 ^ 24 = mod-eq_of_lt (omega arith) in
    rw top
    (together w (w / 2 ^ 8) (w / 2 ^ 16) (w / 2 ^ 24) _ _ _ (div-add-mod w 256) (rw second at (div-add-mod (w / 2 ^ 8) 256))
    (rw first at (div-add-mod (w / 2 ^ 16) 256)))

pub read_back : (ws : List ℕ) → ((i : ℕ) → get_or ws i 0 < 2 ^ 32) → words_of (bytes_in ws) ≡ ws
unfolding bytes_of bytes_in words_of
read_back [] h = refl
read_back (w ∷ ws) h = rw (same_word w (h zero), read_back ws (λ (i : ℕ). h (suc i)))

-- Laying them: a word's four bytes written over a part.

pub word-laid : (out : List ℕ) (at w : ℕ) {next : ℕ} {part : List ℕ} → next ≡ at + 4 → part ≡ to_be_bytes w32 w
    → PutAt (bytes_of w) out at next (put_mid at (at + 4 - at) out part)
unfolding bytes_of
word-laid out at w h e = record { place = h; bytes = part-laid out at (at + 4 - at) (bytes_of w) _ e (omega arith) }

-- Words one behind the other: none, all, and a turn of the loop.

pub none-laid : (out : List ℕ) → PutAt (bytes_in []) out 0 0 out
unfolding bytes_in
none-laid out = record { place = refl; bytes = sym (lay-none out 0) }

pub all_laid : (ws out : List ℕ) (i : ℕ) {n : ℕ} {o : List ℕ} → length ws ≤ i → PutAt (bytes_in (take i ws)) out 0 n o → PutAt (bytes_in ws) out 0 n o
all_laid ws out i h p = rw (take_all i ws h) at p

one_more : (ws : List ℕ) (i : ℕ) → i < length ws → bytes_in (take (suc i) ws) ≡ bytes_in (take i ws) ++ bytes_of (get_or ws i 0)
unfolding bytes_in
one_more [] i h = absurd (omega arith)
one_more (w ∷ ws) zero h = append-nil (bytes_of w)
one_more (w ∷ ws) (suc i) h =
    rw (one_more ws i (omega arith)) (sym (append_assoc (bytes_of w) (bytes_in (take i ws)) (bytes_of (get_or ws i 0))))

module _ (ws out : List ℕ) (i : ℕ) (room : 4 * length ws ≤ length out) (h : i < length ws) where
  front : length (bytes_in (take i ws)) ≡ 4 * i
  front = rw (all-bytes, length-take-le i ws (omega arith))

  pub room_for : {n : ℕ} {o : List ℕ} → length o ≡ length out → PutAt (bytes_in (take i ws)) out 0 n o → n + 4 ≤ length o
  room_for long p = omega (arith, front, p.place)

  pub turn : {n₁ n₂ : ℕ} {o₁ o₂ : List ℕ} → PutAt (bytes_in (take i ws)) out 0 n₁ o₁ → PutAt (bytes_of (get_or ws i 0)) o₁ n₁ n₂ o₂
      → PutAt (bytes_in (take (i + 1) ws)) out 0 n₂ o₂
  turn p q = rw (add-one, one_more ws i h) (put-more {xs = bytes_in (take i ws)} {ys = bytes_of (get_or ws i 0)} (omega (arith, front)) p q)
