-- Calls and blocks one after the other, and then the end, print what `cost_printed` says of the two files, wherever they are cut, and none
-- is ever stuck. Assumes nothing.
use Prim.Native.Nat.{ℕ, ◌+◌, ◌<◌, ◌≤◌}
use mathlib.Core.Path.{◌≡◌, refl, sym, ap, ◌∙◌}
use mathlib.Core.Bool.{true, false}
use mathlib.Core.List.{List, [], ◌++◌}
use native.Mathlib.Omega.{arith}
use lib.ListN.{length, take, drop}
use lib.Seq.{take-append_seam}
use borrow.Author.Tests.{ne_eqb}
use Rattle.rulebook.specs.Reasons.{accepted, check, verdict}
use Rattle.states.specs.Made.{Makes}
use Rattle.text.specs.Words.{words_of}
use Rattle.text.specs.Puts.{lay}
use Rattle.text.proofs.Digits.{below}
use Rattle.std.specs.Prelude.{Ok, Err}
use Rattle.session.specs.declared.Opening.{Opening}
use Rattle.session.specs.declared.Refused.{Refused}
use Rattle.session.specs.Printed.{state_after, reason_lines, printed}
use Rattle.session.specs.Promises.{Opens, PutLines, Ready, offered}
use Rattle.session.proofs.Lines.{laid-front}
use Rattle.session.proofs.Steps.{ready-is}
use Rattle.session.proofs.Along.{state-append, offered-long}
use Rattle.session.proofs.Whole.{left-then, drop-none, two-parts, next-words, made-fresh, reason-printed, ready-after}
use Rattle.visits.specs.declared.Most.{Most}
use Rattle.visits.specs.declared.Taken.{Taken}
use Rattle.visits.specs.Printed.{results, cost_lines, nothing, most_after, cost_of, cost_printed}
use Rattle.visits.specs.Promises.{most_line, most_end, TookEvents, LaysMost}
use Rattle.visits.specs.Blocks.{Calls, Blocks, Leaves, Prints}
use Rattle.visits.specs.Blocks as blocks
use Rattle.visits.proofs.Along.{results-append, results-long, costs-append, most-append, most-events}

-- The events xs and then ys, told from m on.
module _ (t s xs ys : List ℕ) (m : Most) where
  abbrev between : Most
  between = most_after m (results t s xs)

  costs-then : cost_lines m.events (results t s (xs ++ ys))
      ≡ cost_lines m.events (results t s xs) ++ cost_lines between.events (results t (state_after t s xs) ys)
  costs-then = rw (results-append t s xs ys, costs-append m.events (results t s xs) (results t (state_after t s xs) ys), most-events m (results t s xs))

  most-then : most_after m (results t s (xs ++ ys)) ≡ most_after between (results t (state_after t s xs) ys)
  most-then = rw (results-append t s xs ys) (most-append m (results t s xs) (results t (state_after t s xs) ys))

pub leaves-then : {t s xs ys : List ℕ} {m : Most} {s₁ s₂ : List ℕ} {m₁ m₂ : Most} → Leaves t s xs m s₁ m₁ → Leaves t s₁ ys m₁ s₂ m₂
    → Leaves t s (xs ++ ys) m s₂ m₂
leaves-then {t} {s} {xs} {ys} {m} a b =
    let c = rw (a.state, a.most) at b in
    record { state = c.state ∙ sym (state-append t s xs ys); most = c.most ∙ sym (most-then t s xs ys m) }

prints-then : {t s xs ys : List ℕ} {m : Most} {ls ms s₁ s₂ : List ℕ} {m₁ m₂ : Most} → Prints t s xs m ls s₁ m₁ → Prints t s₁ ys m₁ ms s₂ m₂
    → Prints t s (xs ++ ys) m (ls ++ ms) s₂ m₂
prints-then {t} {s} {xs} {ys} {m} a b =
    let c = rw (a.leaves.state, a.leaves.most) at b.lines in
    record { lines = rw (costs-then t s xs ys m, a.lines, c); leaves = leaves-then a.leaves b.leaves }

-- each event is counted
pub leaves-count : {t s es : List ℕ} {m : Most} {s' : List ℕ} {m' : Most} → Leaves t s es m s' m' → m'.events ≡ m.events + length es
leaves-count {t} {s} {es} {m} a =
    ap (λ (x : Most). x.events) a.most ∙ most-events m (results t s es) ∙ ap (λ (n : ℕ). m.events + n) (results-long t s es)

pub leaves_none : (t s : List ℕ) (m : Most) → Leaves t s [] m s m
unfolding results state_after most_after
leaves_none t s m = record { state = refl; most = refl }

prints-none : (t s : List ℕ) (m : Most) → Prints t s [] m [] s m
unfolding results cost_lines
prints-none t s m = record { lines = refl; leaves = leaves_none t s m }

-- a call
call-leaves : {t s trace es : List ℕ} {m : Most} {out : List ℕ} {r : Taken} {s₁ w₁ o₁ : List ℕ} → TookEvents t s trace es m out r s₁ w₁ o₁
    → Leaves t s (take r.events es) m s₁ r.most
call-leaves p = record { state = p.state; most = p.most }

call-prints : {t s trace es : List ℕ} {m : Most} {out : List ℕ} {r : Taken} {s₁ w₁ o₁ : List ℕ} → TookEvents t s trace es m out r s₁ w₁ o₁
    → Prints t s (take r.events es) m (take r.bytes o₁) s₁ r.most
unfolding lay
call-prints p = record { lines = rw (p.lines, p.bytes) (take-append_seam _ _); leaves = call-leaves p }

pub calls-print : (t bytes : List ℕ) (from : ℕ) (s : List ℕ) (m : Most) (ls s₂ : List ℕ) (m₂ : Most) → Calls t bytes from s m ls s₂ m₂
    → Prints t s (drop from (words_of bytes)) m ls s₂ m₂
calls-print t bytes from s m ls s₂ m₂ (blocks.ended h) = rw (drop-none from (words_of bytes) h) (prints-none t s m)
calls-print t bytes from s m ls s₂ m₂ (blocks.call {trace = w} {s₁ = s₁} {r = r} p rest) =
    let i = calls-print t bytes (from + r.events) s₁ r.most _ s₂ m₂ rest in
    rw (left-then t s w bytes from r.events p.within) (prints-then (call-prints p) i)

pub blocks-print : (t s : List ℕ) (m : Most) (file ls s₂ : List ℕ) (m₂ : Most) → Blocks t s m file ls s₂ m₂ → Prints t s (words_of file) m ls s₂ m₂
unfolding words_of
blocks-print t s m file ls s₂ m₂ blocks.ended = prints-none t s m
blocks-print t s m file ls s₂ m₂ (blocks.block {bytes = bytes} {rest = rest} {s₁ = s₁} {m₁ = m₁} whole calls more) =
    let c = calls-print t bytes 0 s m _ s₁ m₁ calls in
    let i = blocks-print t s₁ m₁ rest _ s₂ m₂ more in
    rw (two-parts bytes rest whole) (prints-then c i)

-- The program, by what its functions promise.

-- sizes from `open`, a state from `make_fresh`, the file's blocks from there, and then the end in room for it
pub cost-printed : (table events : List ℕ) {o : Opening} {s₀ s : List ℕ} {k : ℕ} → Opens (words_of table) (Ok o) → length s₀ ≡ o.state
    → Makes (words_of table) s₀ k s → {ls s₁ : List ℕ} {m : Most} → Blocks (words_of table) s nothing events ls s₁ m
    → {out : List ℕ} {n : ℕ} {out' : List ℕ} → most_end ≤ length out → LaysMost (words_of table) m out n out'
    → ls ++ take n out' ≡ cost_printed table events
unfolding cost_printed cost_of
cost-printed table events {s = s} opens long made {ls} {s₁} {m} b room laid =
    let t = words_of table in
    let ok = opens.accepted in
    let c = blocks-print t s nothing events ls s₁ m b in
    let end = laid-front most_end room (rw ok at laid) in
    rw (ok, end, c.lines, c.leaves.most, made-fresh ok (long ∙ opens.state) made)

-- a reason from `open`, and the bytes that `lay_reason` lays for it where there is room
pub reason-cost : (table events : List ℕ) {o : Refused} {out : List ℕ} {n : ℕ} {out' : List ℕ} → Opens (words_of table) (Err o)
    → 22 ≤ length out → PutLines 22 (reason_lines (verdict o.reason o.place)) out n out' → take n out' ≡ cost_printed table events
unfolding cost_printed printed
reason-cost table events opens room put = reason-printed table events opens room put ∙ rw opens.refused

-- No call is stuck: ready, with an event left and with room for one, it takes one, and what it leaves is ready again.

module _ (t s trace bytes : List ℕ) (from : ℕ) (m : Most) (out : List ℕ) (r : Taken) (s₁ w₁ o₁ : List ℕ)
    (took : TookEvents t s trace (offered t s (length trace) bytes from) m out r s₁ w₁ o₁) where
  pub some-taken : Ready t s trace → from < length (words_of bytes) → most_line ≤ length out → 1 ≤ r.events
  unfolding results cost_lines
  some-taken ready left room =
      let long = offered-long t s trace bytes from (ready-is t s trace ready) in
      below r.events 1
      (λ none.
      let zero : r.events ≡ 0 = omega arith in
      let full : length out < most_line = rw zero at (took.full (omega arith)) in
      absurd (omega arith))
      (λ some. some)

pub ready-again : {t s trace es : List ℕ} {m : Most} {out : List ℕ} {r : Taken} {s₁ w₁ o₁ : List ℕ} → Ready t s trace → length w₁ ≡ length trace
    → TookEvents t s trace es m out r s₁ w₁ o₁ → Ready t s₁ w₁
ready-again ready same p = ready-after _ ready same p.state

-- What a caller of many calls keeps: the state and the largest counts are those of the words before the next call's.
pub leaves-so-far : (t s₀ s trace bytes : List ℕ) (from : ℕ) {m₀ m : Most} {out : List ℕ} {r : Taken} {s₁ w₁ o₁ : List ℕ}
    → Leaves t s₀ (take from (words_of bytes)) m₀ s m → TookEvents t s trace (offered t s (length trace) bytes from) m out r s₁ w₁ o₁
    → Leaves t s₀ (take (from + r.events) (words_of bytes)) m₀ s₁ r.most
leaves-so-far t s₀ s trace bytes from {r = r} so_far p =
    rw (next-words t s trace bytes from r.events p.within) (leaves-then so_far (call-leaves p))
