-- Labelled numbers laid one behind the other. Assumes nothing.
use Prim.Native.Nat.{ℕ, ◌+◌, ◌^◌, ◌<◌, ◌≤◌}
use mathlib.Core.Path.{◌≡◌, refl, sym}
use mathlib.Core.Bool.{true, false}
use mathlib.Core.List.{List, [], ◌∷◌, ◌++◌}
use native.Mathlib.Omega.{arith}
use lib.ListN.{length, length-append}
use borrow.Author.Tests.{ne_eqb}
use Rattle.rulebook.specs.Reasons.{accepted, bound}
use Rattle.text.specs.Lines.{decimal}
use Rattle.text.specs.Puts.{Put, PutAt}
use Rattle.text.proofs.Decimal.{decimal-within}
use Rattle.text.proofs.Lay.{lay-none}
use Rattle.text.proofs.Puts.{put-more, one-put, put_then}
use Rattle.session.proofs.Lines.{put-lines}
use Rattle.visits.specs.declared.Largest.{Largest}
use Rattle.visits.specs.declared.Most.{Most}
use Rattle.visits.specs.Printed.{space, newline, event_label, answer_label, trace_label, visits_label, most_trace_label, most_visits_label}
use Rattle.visits.specs.Printed.{no_event_label, bound_label, labelled, cost_line, which, largest_line, visits_bound, most_lines}
use Rattle.visits.specs.Promises.{most_number, most_line, most_behind, most_end, PutFew, LaysMost}

pub few-more : {a b : ℕ} {xs ys out : List ℕ} {at n₁ n₂ : ℕ} {o₁ o₂ : List ℕ} → at + (a + b) ≤ length out → PutFew a xs out at n₁ o₁
    → PutFew b ys o₁ n₁ n₂ o₂ → PutFew (a + b) (xs ++ ys) out at n₂ o₂
few-more {xs = xs} {ys} room p q =
    let here = p.put.place in
    let one = p.few in
    let two = q.few in
    record { put = put-more {xs = xs} {ys = ys} (omega arith) p.put q.put; few = omega arith }

-- 20 digits hold a number of 64 bits
pub labelled-laid : {label out o₁ o₂ : List ℕ} {at n₁ n₂ : ℕ} (n end : ℕ) → n < 2 ^ 64 → at + (length label + most_number) ≤ length out
    → Put label out at n₁ o₁ → Put (decimal n ++ end ∷ []) o₁ n₁ n₂ o₂ → PutFew (length label + most_number) (labelled label n end) out at n₂ o₂
unfolding labelled
labelled-laid {label} {at = at} n end h room p q =
    let b = decimal-within 19 n (omega arith) in
    let l = length-append (decimal n) (end ∷ []) in
    let all = put_then {xs = label} {line = decimal n ++ end ∷ []} (omega arith) (one-put {line = label} (omega arith) p) q in
    let long = length-append label (decimal n ++ end ∷ []) in
    record { put = all; few = omega (arith, all.place) }

-- an event's line
pub event-laid : {out o₁ o₂ o₃ o₄ : List ℕ} {at n₁ n₂ n₃ n₄ : ℕ} (i k n v : ℕ) → at + most_line ≤ length out
    → PutFew (6 + most_number) (labelled event_label i space) out at n₁ o₁
    → PutFew (7 + most_number) (labelled answer_label k space) o₁ n₁ n₂ o₂
    → PutFew (6 + most_number) (labelled trace_label n space) o₂ n₂ n₃ o₃
    → PutFew (7 + most_number) (labelled visits_label v newline) o₃ n₃ n₄ o₄
    → PutFew most_line (cost_line i k n v) out at n₄ o₄
unfolding cost_line
event-laid i k n v room p q r s = few-more (omega arith) (few-more (omega arith) (few-more (omega arith) p q) r) s

-- a line of the end
pub largest-laid : (label : List ℕ) {out o₁ o₂ o₃ : List ℕ} {at n₁ n₂ n₃ : ℕ} (events : ℕ) (l : Largest) (most : ℕ)
    → at + (length label + most_behind) ≤ length out
    → PutFew (length label + most_number) (labelled label l.count space) out at n₁ o₁
    → PutFew (6 + most_number) (which events l.event) o₁ n₁ n₂ o₂
    → PutFew (6 + most_number) (labelled bound_label most newline) o₂ n₂ n₃ o₃
    → PutFew (length label + most_behind) (largest_line label events l most) out at n₃ o₃
unfolding largest_line
largest-laid label events l most room p q r =
    let all = few-more (omega arith) (few-more (omega arith) p q) r in
    record { put = all.put; few = let f = all.few in omega arith }

-- which event it is
pub none-laid : {out o : List ℕ} {at n : ℕ} (i : ℕ) → at + (6 + most_number) ≤ length out → Put no_event_label out at n o
    → PutFew (6 + most_number) (which 0 i) out at n o
unfolding which
none-laid i room p =
    let put = one-put {line = no_event_label} (omega arith) p in
    record { put = put; few = omega (arith, put.place) }

pub some-laid : {out o : List ℕ} {at n : ℕ} (events i : ℕ) → (events ≡ 0 → ⊥) → PutFew (6 + most_number) (labelled event_label i space) out at n o
    → PutFew (6 + most_number) (which events i) out at n o
unfolding which
some-laid events i some p = rw (ne_eqb events 0 some) p

-- The two lines of the end.

pub most-laid : (t : List ℕ) {out o₁ o₂ : List ℕ} {n₁ n₂ : ℕ} (m : Most) (b v : ℕ) → accepted t ≡ true → b ≡ bound t → v ≡ visits_bound t → most_end ≤ length out
    → PutFew (11 + most_behind) (largest_line most_trace_label m.events m.trace b) out 0 n₁ o₁
    → PutFew (12 + most_behind) (largest_line most_visits_label m.events m.visits v) o₁ n₁ n₂ o₂
    → LaysMost t m out n₂ o₂
unfolding most_lines
most-laid t m b v ok isb isv room p q =
    let all = few-more {xs = largest_line most_trace_label m.events m.trace b} (omega arith) p q in
    let few = all.few in
    let lines = put-lines most_end room (omega (arith, all.put.place)) all.put in
    rw (ok, ← isv, ← isb) lines

-- a table with a reason has none
pub none-lines : (t out : List ℕ) (m : Most) → accepted t ≡ false → most_end ≤ length out → LaysMost t m out 0 out
none-lines t out m refused room = rw refused (put-lines most_end room (omega arith) (record { place = refl; bytes = sym (lay-none out 0) }))
