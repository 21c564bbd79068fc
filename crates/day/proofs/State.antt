-- The lines of a state, laid one behind the other, and how long they are. Assumes nothing.
use Prim.Native.Nat.{ℕ, ◌+◌, ◌*◌, ◌<◌, ◌≤◌}
use mathlib.Core.Path.{◌≡◌, refl, sym, ◌∙◌}
use mathlib.Core.Bool.{false, and-false}
use mathlib.Core.List.{List, [], ◌∷◌, ◌++◌, append_assoc, append-nil}
use native.Mathlib.Nat.{add-zero, zero-add}
use native.Mathlib.Numerals.{add-one}
use native.Mathlib.Omega.{arith}
use lib.ListN.{length, get_or, take, length-append}
use lib.Seq.{take-suc, length-take-le, take_all}
use lib.Dec.{ltb, eqb}
use borrow.Author.Tests.{eq-eqb, ne_eqb, le-leb, lt-leb}
use Rattle.rulebook.specs.Table.{ports, rules, networks}
use Rattle.rulebook.specs.State.{Thing, a_port, a_rule, a_network, a_source, thing, state_length}
use Rattle.laws.proofs.Tests.{split}
use Rattle.text.specs.Lines.{decimal, hex_line}
use Rattle.text.specs.Puts.{Put, PutAt}
use Rattle.text.proofs.Digits.{length-hex}
use Rattle.text.proofs.Decimal.{decimal-within}
use Rattle.text.proofs.Lay.{lay-none}
use Rattle.text.proofs.Puts.{put-more, put-length, one-put, put_then}
use Rattle.session.proofs.Lines.{put-lines}
use Rattle.day.specs.Printed.{space, label, number, named, thing_line, lines_from, state_lines}
use Rattle.day.specs.Promises.{most_words, most_state, shown, LaysState}

-- a thing's number is at most its word's place in the state
pub number_small : (t : List ℕ) (i : ℕ) → number (thing t i) ≤ i
unfolding thing number
number_small t i =
    split (ltb i (ports t)) (λ a. rw a (omega arith))
    (λ a. split (ltb i (ports t + rules t)) (λ b. rw (a, b) (omega arith))
    (λ b. split (ltb i (ports t + rules t + networks t)) (λ c. rw (a, b, c) (omega arith)) (λ c. rw (a, b, c) (omega arith))))

label-short : (x : Thing) → length (label x) ≤ 8
unfolding label
label-short (a_port p) = omega arith
label-short (a_rule r) = omega arith
label-short (a_network n) = omega arith
label-short (a_source k) = omega arith

name-short : (x : Thing) → number x < 1000 → length (named x) ≤ 12
unfolding named
name-short x h =
    let a = label-short x in
    let b = decimal-within 2 (number x) (omega arith) in
    simp length-append (omega arith)

pub line-short : (x : Thing) (w : ℕ) → number x < 1000 → length (thing_line x w) ≤ 21
unfolding thing_line
line-short x w h =
    let a = name-short x h in
    simp (length-append, length-hex) (omega arith)

pub numbered-laid : {lab out o₁ o₂ : List ℕ} {at n₁ n₂ : ℕ} (n : ℕ) → n < 1000 → at + (length lab + 4) ≤ length out → Put lab out at n₁ o₁
    → Put (decimal n ++ space) o₁ n₁ n₂ o₂
    → PutAt (lab ++ decimal n ++ space) out at n₂ o₂
numbered-laid {lab} n h room p q =
    let b = decimal-within 2 n (omega arith) in
    let l = length-append (decimal n) space in
    rw append_assoc (put_then {xs = lab} {line = decimal n ++ space} (omega arith) (one-put {line = lab} (omega arith) p) q)

pub state-word-laid : {out o₁ o₂ : List ℕ} {at n₁ n₂ : ℕ} (x : Thing) (w : ℕ) → number x < 1000 → at + 21 ≤ length out → PutAt (named x) out at n₁ o₁
    → Put (hex_line w) o₁ n₁ n₂ o₂
    → PutAt (thing_line x w) out at n₂ o₂
unfolding thing_line
state-word-laid x w h room p q =
    let a = name-short x h in
    let l = length-hex w in
    put_then {xs = named x} {line = hex_line w} (omega arith) p q

-- one word more

from_last : (t : List ℕ) (j : ℕ) (ws : List ℕ) (w : ℕ) → lines_from t j (ws ++ w ∷ []) ≡ lines_from t j ws ++ thing_line (thing t (j + length ws)) w
unfolding lines_from
from_last t j [] w = rw add-zero (append-nil (thing_line (thing t j) w))
from_last t j (v ∷ ws) w =
    let q : j + 1 + length ws ≡ j + length (v ∷ ws) = omega arith in
    rw (from_last t (j + 1) ws w, q) (sym (append_assoc (thing_line (thing t j) v) (lines_from t (j + 1) ws) (thing_line (thing t (j + length (v ∷ ws))) w)))

-- The loop: the lines of the first i words end at `at`.
pub record Along (t s out : List ℕ) (i at : ℕ) (o : List ℕ) : Type 0 where
  pub lines : PutAt (lines_from t 0 (take i s)) out 0 at o
  pub few : at ≤ 21 * i
  pub long : length o ≡ length out

module _ (t s out : List ℕ) where
  pub begin : Along t s out 0 0 out
  unfolding lines_from
  begin = record { lines = record { place = refl; bytes = sym (lay-none out 0) }; few = omega arith; long = refl }

  pub next : (i at : ℕ) (o : List ℕ) → Along t s out i at o → i < length s → length s ≤ most_words → most_state ≤ length out
      → (n : ℕ) (o' : List ℕ) → PutAt (thing_line (thing t i) (get_or s i 0)) o at n o' → Along t s out (i + 1) n o'
  next i at o a inside small room n o' p =
      let l = length-take-le i s (omega arith) in
      let short = line-short (thing t i) (get_or s i 0) (let b = number_small t i in omega arith) in
      let here = a.lines.place in
      let few = a.few in
      let long = a.long in
      let last : lines_from t 0 (take (i + 1) s) ≡ lines_from t 0 (take i s) ++ thing_line (thing t i) (get_or s i 0) =
      rw (add-one, take-suc s i 0 inside, from_last t 0 (take i s) (get_or s i 0), l, zero-add) in
      record {
        lines = rw last (put-more {xs = lines_from t 0 (take i s)} (omega arith) a.lines p);
        few = omega (arith, p.place);
        long = put-length {xs = thing_line (thing t i) (get_or s i 0)} (omega arith) p ∙ long;
      }

  pub end : (i at : ℕ) (o : List ℕ) → Along t s out i at o → length s ≤ i → i ≤ most_words → length s ≡ state_length t → length s ≤ most_words
      → most_state ≤ length out → LaysState t s out at o
  unfolding shown state_lines
  end i at o a all few is small room =
      let lines : PutAt (lines_from t 0 s) out 0 at o = rw (take_all i s all) at a.lines in
      let f = a.few in
      rw (eq-eqb _ _ is, le-leb _ _ small) (put-lines most_state {xs = lines_from t 0 s} room (omega (arith, lines.place)) lines)

  pub nothing-shown : shown t s ≡ false → most_state ≤ length out → LaysState t s out 0 out
  nothing-shown h room = rw h (put-lines most_state room (omega arith) (record { place = refl; bytes = sym (lay-none out 0) }))

  pub other_length : (length s ≡ state_length t → ⊥) → shown t s ≡ false
  unfolding shown
  other_length n = rw (ne_eqb _ _ n)

  pub too_many : most_words < length s → shown t s ≡ false
  unfolding shown
  too_many h = rw (lt-leb _ _ h) (and-false (eqb (length s) (state_length t)))
