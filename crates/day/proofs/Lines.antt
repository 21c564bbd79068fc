-- The lines of trace words, laid one behind the other, and those of the end; how long they are. Assumes nothing.
use Prim.Native.Nat.{ℕ, ◌+◌, ◌*◌, ◌^◌, ◌<◌, ◌≤◌}
use mathlib.Core.Path.{◌≡◌, refl, sym, ap, ◌∙◌}
use mathlib.Core.List.{List, [], ◌∷◌, ◌++◌, append_assoc, append-nil}
use native.Mathlib.Numerals.{add-one}
use native.Mathlib.Omega.{arith}
use lib.ListN.{length, get_or, take, length-append}
use lib.Seq.{take-suc, length-take-le}
use Rattle.text.specs.Lines.{decimal, decimal_line, hex_line}
use Rattle.text.specs.Puts.{Put, PutAt}
use Rattle.text.proofs.Digits.{length-hex}
use Rattle.text.proofs.Decimal.{decimal-within}
use Rattle.text.proofs.Lay.{lay-none}
use Rattle.text.proofs.Puts.{put-more, one-put, put_then}
use Rattle.session.specs.Promises.{PutLines}
use Rattle.session.proofs.Lines.{put-lines}
use Rattle.day.specs.Printed.{trace_line, trace_lines, end_lines}
use Rattle.day.specs.Promises.{most_end}

-- Trace words.

abbrev trace_label : List ℕ
trace_label = 116 ∷ 114 ∷ 97 ∷ 99 ∷ 101 ∷ 32 ∷ []

pub trace-long : (w : ℕ) → length (trace_line w) ≡ 15
unfolding trace_line
trace-long w = simp length-hex

pub traces-long : (ws : List ℕ) → length (trace_lines ws) ≡ 15 * length ws
unfolding trace_lines
traces-long [] = refl
traces-long (w ∷ ws) = simp (length-append, trace-long, traces-long ws) (omega arith)

pub traces-append : (xs ys : List ℕ) → trace_lines (xs ++ ys) ≡ trace_lines xs ++ trace_lines ys
unfolding trace_lines
traces-append [] ys = refl
traces-append (x ∷ xs) ys = rw (traces-append xs ys) (sym (append_assoc (trace_line x) (trace_lines xs) (trace_lines ys)))

traces-last : (xs : List ℕ) (w : ℕ) → trace_lines (xs ++ w ∷ []) ≡ trace_lines xs ++ trace_line w
unfolding trace_lines
traces-last xs w = traces-append xs (w ∷ []) ∙ ap (λ (l : List ℕ). trace_lines xs ++ l) (append-nil (trace_line w))

pub trace-word-laid : {out o₁ o₂ : List ℕ} {at n₁ n₂ : ℕ} (w : ℕ) → at + 15 ≤ length out → Put trace_label out at n₁ o₁ → Put (hex_line w) o₁ n₁ n₂ o₂
    → PutAt (trace_line w) out at n₂ o₂
unfolding trace_line
trace-word-laid w room p q =
    let l = length-hex w in
    put_then {xs = trace_label} {line = hex_line w} (omega arith) (one-put {line = trace_label} (omega arith) p) q

-- none, and one more
module _ (out trace : List ℕ) where
  pub no-trace-laid : PutAt (trace_lines (take 0 trace)) out 0 0 out
  unfolding trace_lines
  no-trace-laid = record { place = refl; bytes = sym (lay-none out 0) }

  module _ (i at : ℕ) (o : List ℕ) (inside : i < length trace) (laid : PutAt (trace_lines (take i trace)) out 0 at o) where
    pub traced-to : at ≡ 15 * i
    traced-to =
        laid.place ∙ omega (arith, traces-long (take i trace), length-take-le i trace (omega arith))

    pub trace-more : 15 * (i + 1) ≤ length out → (next : ℕ) (o' : List ℕ) → PutAt (trace_line (get_or trace i 0)) o at next o'
        → PutAt (trace_lines (take (i + 1) trace)) out 0 next o'
    trace-more room next o' p =
        rw (add-one, take-suc trace i 0 inside, traces-last (take i trace) (get_or trace i 0))
        (put-more {xs = trace_lines (take i trace)} (omega (arith, laid.place, traced-to)) laid p)

-- The end: 20 digits hold a number of 64 bits, ten one of 32.

abbrev taken_label : List ℕ
taken_label = 116 ∷ 97 ∷ 107 ∷ 101 ∷ 110 ∷ 32 ∷ []

abbrev visits_label : List ℕ
visits_label = 118 ∷ 105 ∷ 115 ∷ 105 ∷ 116 ∷ 115 ∷ 32 ∷ []

abbrev answer_label : List ℕ
answer_label = 97 ∷ 110 ∷ 115 ∷ 119 ∷ 101 ∷ 114 ∷ 32 ∷ []

pub end-laid : {out o₁ o₂ o₃ o₄ o₅ o₆ : List ℕ} {n₁ n₂ n₃ n₄ n₅ n₆ : ℕ} (taken visits number : ℕ) → taken < 2 ^ 64 → visits < 2 ^ 64 → number < 2 ^ 32
    → most_end ≤ length out → Put taken_label out 0 n₁ o₁ → Put (decimal_line taken) o₁ n₁ n₂ o₂ → Put visits_label o₂ n₂ n₃ o₃
    → Put (decimal_line visits) o₃ n₃ n₄ o₄ → Put answer_label o₄ n₄ n₅ o₅ → Put (decimal_line number) o₅ n₅ n₆ o₆
    → PutLines most_end (end_lines taken visits number) out n₆ o₆
unfolding end_lines
end-laid taken visits number ht hv hn room p q r s u w =
    let a = decimal-within 19 taken (omega arith) in
    let b = decimal-within 19 visits (omega arith) in
    let c = decimal-within 9 number (omega arith) in
    let la = length-append (decimal taken) (10 ∷ []) in
    let lb = length-append (decimal visits) (10 ∷ []) in
    let lc = length-append (decimal number) (10 ∷ []) in
    let one = one-put {line = taken_label} (omega arith) p in
    let two = put_then {xs = taken_label} {line = decimal_line taken} (omega arith) one q in
    let l₂ = length-append taken_label (decimal_line taken) in
    let three = put_then {xs = taken_label ++ decimal_line taken} {line = visits_label} (omega arith) two r in
    let l₃ = length-append (taken_label ++ decimal_line taken) visits_label in
    let four = put_then {xs = taken_label ++ decimal_line taken ++ visits_label} {line = decimal_line visits} (omega arith) three s in
    let l₄ = length-append (taken_label ++ decimal_line taken ++ visits_label) (decimal_line visits) in
    let five = put_then {xs = taken_label ++ decimal_line taken ++ visits_label ++ decimal_line visits} {line = answer_label} (omega arith) four u in
    let l₅ = length-append (taken_label ++ decimal_line taken ++ visits_label ++ decimal_line visits) answer_label in
    let six = put_then {xs = taken_label ++ decimal_line taken ++ visits_label ++ decimal_line visits ++ answer_label} {line = decimal_line number} (omega arith)
    five w in
    let l₆ = length-append (taken_label ++ decimal_line taken ++ visits_label ++ decimal_line visits ++ answer_label) (decimal_line number) in
    put-lines most_end room (omega arith) six
