-- Parts and blocks one after the other, and then the state and the end, print what `played` says of the two files, and no part is ever
-- stuck. Assumes nothing.
use Prim.Native.Nat.{ℕ, ◌+◌, ◌*◌, ◌≤◌}
use mathlib.Core.Path.{◌≡◌, refl, sym, ap, ◌∙◌}
use mathlib.Core.Bool.{true, false}
use mathlib.Core.List.{List, ◌++◌}
use native.Mathlib.Omega.{arith}
use lib.ListN.{length, take, drop}
use lib.Seq.{take-append_seam}
use borrow.Author.Tests.{eq-eqb, ne_eqb, le-leb}
use Rattle.rulebook.specs.Reasons.{accepted, check, verdict, bound}
use Rattle.rulebook.specs.State.{fresh}
use Rattle.rulebook.specs.Step.{refused_state}
use Rattle.rulebook.specs.Play.{Play, onto, play}
use Rattle.laws.proofs.Fit.{fits-length}
use Rattle.laws.proofs.Steps.{fresh-fits}
use Rattle.laws.proofs.Play.{stands, stood-table, stood-state}
use Rattle.states.specs.Made.{Makes}
use Rattle.text.specs.Words.{words_of}
use Rattle.text.specs.Puts.{lay}
use Rattle.std.specs.Prelude.{Ok, Err}
use Rattle.session.specs.declared.Opening.{Opening}
use Rattle.session.specs.declared.Refused.{Refused}
use Rattle.session.specs.Printed.{reason_lines, printed}
use Rattle.session.specs.Promises.{Opens, PutLines}
use Rattle.session.proofs.Lines.{laid-front}
use Rattle.session.proofs.Checks.{state-small}
use Rattle.session.proofs.Whole.{two-parts, made-fresh, reason-printed}
use Rattle.day.specs.declared.Part.{Part}
use Rattle.day.specs.Printed.{trace_lines, state_lines, in64, whole, day_lines, played}
use Rattle.day.specs.Promises.{room_of, PlaysPart, most_state, most_end, shown, LaysState, LaysEnd}
use Rattle.day.specs.Parts.{Parts, Blocks, Prints}
use Rattle.day.specs.Parts as parts
use Rattle.day.proofs.Lines.{traces-append}
use Rattle.day.proofs.Playing.{taken-within, stands_after, full-takes, whole_is, whole-resumed, whole-on, whole-ends, whole-none, whole-leaves}

-- what stands at the front of the bytes after a part
part-front : (t s trace es out : List ℕ) {r : Part} {s₁ w₁ o₁ : List ℕ} → PlaysPart t s trace es out r s₁ w₁ o₁
    → take r.bytes o₁ ≡ trace_lines (play t s (room_of trace out) es).words
unfolding lay
part-front t s trace es out p = rw (p.lines, p.bytes) (take-append_seam _ _)

-- m events that wrote ws and made u visits, told in 64 bits, in front of a play
prints-onto : {p : Play} {ls : List ℕ} {n v k : ℕ} {s' : List ℕ} (m : ℕ) (ws : List ℕ) (u : ℕ) → Prints p ls n v k s'
    → Prints (onto m ws u p) (trace_lines ws ++ ls) (m + n) (in64 (in64 u + v)) k s'
prints-onto {p} m ws u i =
    record {
      lines = rw i.lines (sym (traces-append ws p.words));
      taken = ap (λ (n : ℕ). m + n) i.taken;
      visits = rw i.visits (told u p.visits);
      number = i.number;
      state = i.state;
    }
  where
    told : (a b : ℕ) → in64 (in64 a + in64 b) ≡ in64 (a + b)
    told a b = omega arith

pub parts-print : (t s es : List ℕ) {ls : List ℕ} {n v k : ℕ} {s' : List ℕ} → Parts t s es ls n v k s' → Prints (whole t s es) ls n v k s'
parts-print t s es (parts.last {trace = trace} {out = out} p other) =
    let is = whole_is t s es (room_of trace out) (λ z. other (p.number ∙ z)) in
    rw (← is) (record { lines = part-front t s trace es out p; taken = p.taken; visits = p.visits; number = p.number; state = p.state })
parts-print t s es (parts.full {trace = trace} {out = out} {s₁ = s₁} {r = r} p z more) =
    let q = play t s (room_of trace out) es in
    let i = rw (p.state, p.taken) at (parts-print t s₁ (drop r.taken es) more) in
    let all = prints-onto q.taken q.words q.visits i in
    rw (whole-resumed t s (room_of trace out) es (sym p.number ∙ z), part-front t s trace es out p, p.taken, p.visits) all

pub blocks-print : (t s file : List ℕ) {ls : List ℕ} {n v k : ℕ} {s' : List ℕ} → refused_state t s ≡ 0 → Blocks t s file ls n v k s'
    → Prints (whole t s (words_of file)) ls n v k s'
unfolding words_of trace_lines
blocks-print t s file z parts.ended = rw (whole-none t s z) (record { lines = refl; taken = refl; visits = refl; number = refl; state = refl })
blocks-print t s file z (parts.block bytes {rest = rest} {s₁ = s₁} aligned calls more) =
    let xs = words_of bytes in
    let p = whole t s xs in
    let c = parts-print t s xs calls in
    let i = blocks-print t s₁ rest (rw c.state (whole-leaves t s xs z)) more in
    let all = prints-onto p.taken p.words p.visits (rw c.state at i) in
    rw (two-parts bytes rest aligned, whole-on t s xs (words_of rest) (sym c.number), c.lines, c.taken, c.visits) all
blocks-print t s file z (parts.refused bytes {rest = rest} aligned calls some) =
    let c = parts-print t s (words_of bytes) calls in
    rw (two-parts bytes rest aligned, whole-ends t s (words_of bytes) (words_of rest) (λ e. some (c.number ∙ e))) c

-- The program, by what its functions promise.

-- a state that stands is shown
stands-shown : (t s : List ℕ) → refused_state t s ≡ 0 → shown t s ≡ true
unfolding shown
stands-shown t s z =
    let long = fits-length t s (stood-state t s z) in
    let small = state-small t (stood-table t s z) in
    rw (eq-eqb _ _ long, le-leb (length s) 360 (omega arith))

pub state-front : (t s : List ℕ) {out : List ℕ} {n : ℕ} {o : List ℕ} → refused_state t s ≡ 0 → most_state ≤ length out → LaysState t s out n o
    → take n o ≡ state_lines t s
state-front t s z room laid = laid-front most_state room (rw (stands-shown t s z) at laid)

module _ (table events : List ℕ) {o : Opening} {s₀ s : List ℕ} {k₀ : ℕ} (opens : Opens (words_of table) (Ok o))
    (long : length s₀ ≡ o.state) (made : Makes (words_of table) s₀ k₀ s) where
  abbrev t : List ℕ
  t = words_of table

  ok : accepted t ≡ true
  ok = opens.accepted

  is-fresh : s ≡ fresh t
  is-fresh = made-fresh ok (long ∙ opens.state) made

  pub fresh-stands : refused_state t s ≡ 0
  fresh-stands = stands t s ok (rw is-fresh (fresh-fits t ok))

  -- sizes from `open`, a state from `make_fresh`, the file's blocks from there, and then the state and the end in room for them
  pub day-printed : {ls : List ℕ} {n v k : ℕ} {s₁ : List ℕ} → Blocks t s events ls n v k s₁
      → {out : List ℕ} {a : ℕ} {out' : List ℕ} → most_state ≤ length out → LaysState t s₁ out a out'
      → {last : List ℕ} {b : ℕ} {last' : List ℕ} → most_end ≤ length last → LaysEnd n v k last b last'
      → ls ++ take a out' ++ take b last' ≡ played table events
  unfolding played day_lines
  day-printed {s₁ = s₁} blocks room laid room' laid' =
      let c = blocks-print t s events fresh-stands blocks in
      let after : refused_state t s₁ ≡ 0 = rw c.state (whole-leaves t s (words_of events) fresh-stands) in
      rw (ok, state-front t s₁ after room laid, laid-front most_end room' laid', c.lines, c.taken, c.visits, c.number, c.state, is-fresh)

-- a reason from `open`, and the bytes that `lay_reason` lays for it where there is room
pub reason-played : (table events : List ℕ) {o : Refused} {out : List ℕ} {n : ℕ} {out' : List ℕ} → Opens (words_of table) (Err o)
    → 22 ≤ length out → PutLines 22 (reason_lines (verdict o.reason o.place)) out n out' → take n out' ≡ played table events
unfolding played printed
reason-played table events opens room put = reason-printed table events opens room put ∙ rw opens.refused

-- No part is stuck: with B trace words and the bytes of their lines lent, one that is full has taken an event. What a part leaves
-- stands again, and it takes no more events than there are.

module _ (t s trace es out : List ℕ) {r : Part} {s₁ w₁ o₁ : List ℕ} (part : PlaysPart t s trace es out r s₁ w₁ o₁) where
  pub part-takes : refused_state t s ≡ 0 → bound t ≤ length trace → 15 * bound t ≤ length out → r.number ≡ 3 → 1 ≤ r.taken
  part-takes z words bytes full =
      rw part.taken (full-takes t s (room_of trace out) es z (omega arith) (sym part.number ∙ full))

  pub part-stands : refused_state t s ≡ 0 → refused_state t s₁ ≡ 0
  part-stands z = rw part.state (stands_after t s (room_of trace out) es z)

  pub part-within : r.taken ≤ length es
  part-within = rw part.taken (taken-within t s (room_of trace out) es)
