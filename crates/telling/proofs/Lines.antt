-- Lines behind a label, laid one by one, and how long what is told can be. Assumes nothing.
use Prim.Native.Nat.{ℕ, ◌+◌, ◌*◌, ◌^◌, ◌<◌, ◌≤◌}
use mathlib.Core.Path.{◌≡◌, sym, ap, ◌∙◌}
use mathlib.Core.List.{List, [], ◌∷◌, ◌++◌, append_assoc}
use native.Mathlib.Numerals.{add-one}
use native.Mathlib.Omega.{arith}
use lib.ListN.{length, get_or, drop, length-append, drop_of_length-le}
use lib.Seq.{drop-cons}
use lib.Dec.{eqb}
use borrow.Author.Tests.{eq-eqb, ne_eqb}
use Rattle.rulebook.specs.Hold.{traces_part, theirs_stops, ours_stops}
use Rattle.laws.proofs.Tests.{split}
use Rattle.text.specs.Lines.{decimal, decimal_line, hex_line}
use Rattle.text.specs.Puts.{lay, Put, PutAt}
use Rattle.text.proofs.Digits.{length-hex}
use Rattle.text.proofs.Decimal.{decimal-within, length-decimal}
use Rattle.text.proofs.Lay.{lay-none, lay-more}
use Rattle.text.proofs.Puts.{put-length, one-put, put_then, put-more}
use Rattle.session.specs.Promises.{PutLines}
use Rattle.session.proofs.Lines.{put-lines}
use Rattle.telling.specs.Told.{event_line, traces_label, stops_label, goes_label, states_label, verdict_label, answers_part, verdict_line}
use Rattle.telling.specs.Told.{labelled, side, events_label, all_label, not_label, total_line}

pub labelled-next : (label ws : List ℕ) (i : ℕ) → i < length ws
    → labelled label (drop i ws) ≡ (label ++ hex_line (get_or ws i 0)) ++ labelled label (drop (i + 1) ws)
unfolding labelled
labelled-next label ws i h = rw (drop-cons ws i 0 h, add-one)

pub labelled-none : (label ws : List ℕ) (i : ℕ) → length ws ≤ i → labelled label (drop i ws) ≡ []
unfolding labelled
labelled-none label ws i h = rw (drop_of_length-le ws {i = i} h)

pub labelled-long : (label ws : List ℕ) {k : ℕ} → length label ≡ k → length (labelled label ws) ≡ (k + 9) * length ws
unfolding labelled
labelled-long label [] e = omega arith
labelled-long label (w ∷ ws) {k} e =
    let rest = labelled-long label ws e in
    simp length-append (omega (arith, rest, length-hex w))

-- a loop over the words: with the lines to come laid behind them the lines are all of them

module _ (label ws before all : List ℕ) (at : ℕ) where
  pub record LaidOf (next : ℕ) (out : List ℕ) (i : ℕ) : Type 0 where
    pub place : next + length (labelled label (drop i ws)) ≡ at + length all
    pub bytes : lay out next (labelled label (drop i ws)) ≡ lay before at all
    pub long : length out ≡ length before

  module _ (room : at + length all ≤ length before) (next : ℕ) (out : List ℕ) (i : ℕ) (a : LaidOf next out i) where
    pub laid-room : i < length ws → next + length (label ++ hex_line (get_or ws i 0)) ≤ length out
    laid-room h =
        let line = label ++ hex_line (get_or ws i 0) in
        omega (arith, ap length (labelled-next label ws i h), length-append line (labelled label (drop (i + 1) ws)), a.place, a.long)

    pub laid_next : (n : ℕ) (o : List ℕ) → i < length ws → PutAt (label ++ hex_line (get_or ws i 0)) out next n o → LaidOf n o (i + 1)
    laid_next n o h p =
        let line = label ++ hex_line (get_or ws i 0) in
        let rest = labelled label (drop (i + 1) ws) in
        let fits = laid-room h in
        record {
          place = omega (arith, ap length (labelled-next label ws i h), length-append line rest, a.place, p.place);
          bytes = rw (p.bytes, p.place) (lay-more out next line rest fits ∙ rw (← labelled-next label ws i h) a.bytes);
          long = put-length {xs = line} fits p ∙ a.long;
        }

    pub laid_end : length ws ≤ i → PutAt all before at next out
    laid_end h =
        let none = labelled-none label ws i h in
        record {
          place = omega (arith, a.place, ap length none);
          bytes = sym (lay-none out next) ∙ rw none at a.bytes;
        }

-- how long each line is at most

decimal-long : (n : ℕ) → n < 2 ^ 64 → length (decimal n) ≤ 20
decimal-long n h = decimal-within 19 n (omega (arith, h))

pub event-long : (n e : ℕ) → n < 2 ^ 64 → length (event_line n e) ≤ 36
unfolding event_line
event-long n e h = let d = decimal-long n h in simp length-append (omega (arith, length-hex e))

label-long : (v : ℕ) → length (verdict_label v) ≤ 37
unfolding verdict_label traces_label stops_label goes_label states_label
label-long v =
    split (eqb v traces_part) (λ a. rw a (omega arith))
    (λ a. split (eqb v theirs_stops) (λ b. rw (a, b) (omega arith))
    (λ b. split (eqb v ours_stops) (λ c. rw (a, b, c) (omega arith)) (λ c. rw (a, b, c) (omega arith))))

pub verdict-long : (v k : ℕ) → k < 2 ^ 64 → length (verdict_line v k) ≤ 58
unfolding verdict_line
verdict-long v k h =
    let d = decimal-long k h in
    let l = label-long v in
    split (eqb v answers_part) (λ e. rw e (omega arith)) (λ e. rw e (simp length-append (omega arith)))

pub side-long : (label : List ℕ) (v answer : ℕ) (ws : List ℕ) {k : ℕ} → length label ≡ k → answer < 2 ^ 32
    → length (side label v answer ws) ≤ k + 11 + (k + 9) * length ws
unfolding side
side-long label v answer ws e h =
    let d = length-decimal answer h in
    let l = labelled-long label ws e in
    split (eqb v answers_part) (λ q. rw q (simp length-append (omega arith))) (λ q. rw q (omega arith))

-- the lines of the head, one behind the other

pub event-laid : (n e : ℕ) {out : List ℕ} {at n₁ n₂ n₃ : ℕ} {o₁ o₂ o₃ : List ℕ} → at + length (event_line n e) ≤ length out
    → Put (101 ∷ 118 ∷ 101 ∷ 110 ∷ 116 ∷ 32 ∷ []) out at n₁ o₁ → Put (decimal n ++ 32 ∷ []) o₁ n₁ n₂ o₂ → Put (hex_line e) o₂ n₂ n₃ o₃
    → PutAt (event_line n e) out at n₃ o₃
unfolding event_line
event-laid n e {out} {at} h p q r =
    let label : List ℕ = 101 ∷ 118 ∷ 101 ∷ 110 ∷ 116 ∷ 32 ∷ [] in
    let l₁ = length-append label (decimal n ++ 32 ∷ []) in
    let l₂ = length-append (label ++ (decimal n ++ 32 ∷ [])) (hex_line e) in
    let first = one-put {line = label} (omega (arith, h)) p in
    let second = put_then {xs = label} {line = decimal n ++ 32 ∷ []} (omega (arith, h)) first q in
    put_then {xs = label ++ (decimal n ++ 32 ∷ [])} {line = hex_line e} (omega (arith, h)) second r

-- one side, where the answers part
module _ (label : List ℕ) (v answer : ℕ) (ws : List ℕ) {out : List ℕ} {at n₁ n₂ : ℕ} {o₁ o₂ : List ℕ} (is : v ≡ answers_part)
    (room : at + length (side label v answer ws) ≤ length out) (p : Put label out at n₁ o₁) (q : Put (decimal_line answer) o₁ n₁ n₂ o₂) where
  answer-side : side label v answer ws ≡ (label ++ decimal_line answer) ++ labelled label ws
  unfolding side
  answer-side = rw (eq-eqb v answers_part is)

  answer-long : length (side label v answer ws) ≡ length label + length (decimal_line answer) + length (labelled label ws)
  answer-long = ap (λ (l : List ℕ). length l) answer-side ∙ length-append (label ++ decimal_line answer) (labelled label ws)
      ∙ ap (λ (k : ℕ). k + length (labelled label ws)) (length-append label (decimal_line answer))

  answer-laid : PutAt (label ++ decimal_line answer) out at n₂ o₂
  answer-laid =
      let long = answer-long in
      put_then {xs = label} {line = decimal_line answer} (omega (arith, room)) (one-put {line = label} (omega (arith, room)) p) q

  pub answer-room : n₂ + length (labelled label ws) ≤ length o₂
  answer-room =
      let long = answer-long in
      let both = length-append label (decimal_line answer) in
      let same = put-length {xs = label ++ decimal_line answer} (omega (arith, room)) answer-laid in
      omega (arith, room, answer-laid.place)

  pub side-laid : {n₃ : ℕ} {o₃ : List ℕ} → PutAt (labelled label ws) o₂ n₂ n₃ o₃ → PutAt (side label v answer ws) out at n₃ o₃
  side-laid h =
      let long = answer-long in
      let both = length-append label (decimal_line answer) in
      rw answer-side (put-more {xs = label ++ decimal_line answer} (omega (arith, room)) answer-laid h)

-- The last line.

total-long : (n m : ℕ) → n < 2 ^ 64 → m < 2 ^ 64 → length (total_line n m) ≤ 78
unfolding total_line events_label all_label not_label
total-long n m h k =
    let d = decimal-long n h in
    let e = decimal-long m k in
    split (eqb m 0) (λ q. rw q (simp length-append (omega arith))) (λ q. rw q (simp length-append (omega arith)))

module _ (n m : ℕ) (h : n < 2 ^ 64) {out : List ℕ} (room : 96 ≤ length out) {n₁ n₂ : ℕ} {o₁ o₂ : List ℕ}
    (p : Put (decimal n ++ 32 ∷ []) out 0 n₁ o₁) (q : Put events_label o₁ n₁ n₂ o₂) where
  events-long : length ((decimal n ++ 32 ∷ []) ++ events_label) ≤ 29
  unfolding events_label
  events-long = let d = decimal-long n h in simp length-append (omega arith)

  events-laid : PutAt ((decimal n ++ 32 ∷ []) ++ events_label) out 0 n₂ o₂
  events-laid =
      let l = events-long in
      let a = length-append (decimal n ++ 32 ∷ []) events_label in
      put_then {xs = decimal n ++ 32 ∷ []} {line = events_label} (omega arith) (one-put {line = decimal n ++ 32 ∷ []} (omega arith) p) q

  pub all-total : {n₃ : ℕ} {o₃ : List ℕ} → m ≡ 0 → Put all_label o₂ n₂ n₃ o₃ → PutLines 96 (total_line n m) out n₃ o₃
  unfolding total_line all_label
  all-total z r =
      let l = events-long in
      put-lines 96 room (omega (arith, total-long n m h (omega (arith, z))))
      (rw (eq-eqb m 0 z) (put_then {xs = (decimal n ++ 32 ∷ []) ++ events_label} {line = all_label} (omega arith) events-laid r))

  pub some-total : {n₃ n₄ : ℕ} {o₃ o₄ : List ℕ} → m < 2 ^ 64 → (m ≡ 0 → ⊥) → Put (decimal m ++ 32 ∷ []) o₂ n₂ n₃ o₃ → Put not_label o₃ n₃ n₄ o₄
      → PutLines 96 (total_line n m) out n₄ o₄
  unfolding total_line not_label
  some-total k not r u =
      let front = (decimal n ++ 32 ∷ []) ++ events_label in
      let l = events-long in
      let d = decimal-long m k in
      let dm : length (decimal m ++ 32 ∷ []) ≤ 21 = simp length-append (omega arith) in
      let a = length-append front (decimal m ++ 32 ∷ []) in
      let third = put_then {xs = front} {line = decimal m ++ 32 ∷ []} (omega arith) events-laid r in
      put-lines 96 room (omega (arith, total-long n m h k))
      (rw (ne_eqb m 0 not, ← append_assoc front (decimal m ++ 32 ∷ []) not_label)
      (put_then {xs = front ++ (decimal m ++ 32 ∷ [])} {line = not_label} (omega arith) third u))
