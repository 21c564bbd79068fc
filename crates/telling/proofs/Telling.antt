-- What is told, in the order in which it is laid, and that it has room. Assumes nothing.
use Prim.Native.Nat.{ℕ, ◌+◌, ◌-◌, ◌*◌, ◌^◌, ◌<◌, ◌≤◌}
use mathlib.Core.Path.{◌≡◌, refl, sym, ◌∙◌}
use mathlib.Core.List.{List, ◌++◌}
use native.Mathlib.Nat.{zero-add}
use native.Mathlib.Omega.{arith}
use lib.ListN.{length, take, drop, length-append, length-drop, length-take}
use lib.Seq.{length-take-le}
use lib.Dec.{eqb, ltb}
use borrow.Author.Tests.{eq-eqb, ne_eqb}
use Rattle.rulebook.specs.Hold.{parting, held_states, held_traces, beside, as_ordered, states_part}
use Rattle.laws.proofs.Tests.{split}
use Rattle.hold.proofs.Exactly.{within-ours}
use Rattle.text.specs.Puts.{PutAt}
use Rattle.text.proofs.Lay.{lay-none}
use Rattle.text.proofs.Puts.{put-more, put-length}
use Rattle.telling.specs.declared.Judged.{Judged}
use Rattle.telling.specs.declared.Judgement.{Judgement}
use Rattle.telling.specs.Told.{held_event, event_line, verdict_line, ours, supplier, side, sides, told_lines}
use Rattle.telling.specs.Promises.{result, verdict_in, word_in, Judges, Room, head, both, Tells}
use Rattle.telling.proofs.Judging.{cut-trace, cut-state}
use Rattle.telling.proofs.Lines.{event-long, verdict-long, side-long}

head-long : (n e : ℕ) (j : Judgement) → n < 2 ^ 64 → word_in j < 2 ^ 64 → length (head n e j) ≤ 94
head-long n e j h k =
    let a = event-long n e h in
    let b = verdict-long (verdict_in j) (word_in j) k in
    omega (arith, length-append (event_line n e) (verdict_line (verdict_in j) (word_in j)))

both_long : (j : Judgement) (answer : ℕ) (a : List ℕ) (said : ℕ) (b : List ℕ) → answer < 2 ^ 32 → said < 2 ^ 32
    → length (both j answer a said b) ≤ 36 + 14 * length a + 18 * length b
unfolding ours supplier
both_long j answer a said b h k =
    let l = side-long ours (verdict_in j) answer (drop (word_in j) a) {k = 5} refl h in
    let m = side-long supplier (verdict_in j) said (drop (word_in j) b) {k = 9} refl k in
    let da = length-drop (word_in j) a in
    let db = length-drop (word_in j) b in
    let all = length-append (side ours (verdict_in j) answer (drop (word_in j) a)) (side supplier (verdict_in j) said (drop (word_in j) b)) in
    omega arith

-- the number that a verdict gives is one of ours

states-small : (a b : List ℕ) → (held_states (parting a b) a b).number ≤ length a
unfolding held_states
states-small a b =
    let k = within-ours a b in
    split (ltb (parting a b) (length a)) (λ e. rw e (omega arith))
    (λ e. split (ltb (parting a b) (length b)) (λ f. rw (e, f) (omega arith)) (λ f. rw (e, f) (omega arith)))

beside-small : (a s b t : List ℕ) → (beside a s b t).number ≤ length a + length s
unfolding beside held_traces
beside-small a s b t =
    let k = within-ours a b in
    let rest = states-small s t in
    split (ltb (parting a b) (length a))
    (λ e. split (ltb (parting a b) (length b)) (λ f. rw (e, f) (omega arith)) (λ f. rw (e, f) (omega arith)))
    (λ e. split (ltb (parting a b) (length b)) (λ f. rw (e, f) (omega arith)) (λ f. rw (e, f) (omega (arith, rest))))

event-small : (answer : ℕ) (ws state : List ℕ) (said : ℕ) (theirs : List ℕ) → (held_event (result answer ws state) said theirs).number ≤ length ws + length state
unfolding held_event
event-small answer ws state said theirs =
    let b = beside-small ws state (drop (length state) theirs) (take (length state) theirs) in
    split (eqb answer said) (λ e. rw e b) (λ e. rw e (omega arith))

module _ (n e answer : ℕ) (ws state : List ℕ) (said : ℕ) (theirs : List ℕ) (j : Judged) (is : Judges answer ws state said theirs j) where
  abbrev all : List ℕ
  all = told_lines n e (result answer ws state) said theirs

  pub nothing-told : (out : List ℕ) → verdict_in j.judgement ≡ 0 → Tells n e answer ws state said theirs out 0 out
  unfolding told_lines
  nothing-told out z =
      let none = eq-eqb (held_event (result answer ws state) said theirs).verdict as_ordered (sym is.verdict ∙ z) in
      record { lines = rw none (record { place = refl; bytes = sym (lay-none out 0) }); inside = omega arith }

  pub cut-within : j.cut ≤ length theirs
  cut-within = omega (arith, is.cut)

  module _ (not : verdict_in j.judgement ≡ 0 → ⊥) where
    states-lines : verdict_in j.judgement ≡ 5 → all ≡ head n e j.judgement ++ both j.judgement answer state said (take j.cut theirs)
    unfolding told_lines sides
    states-lines v =
        rw (
          ← is.verdict,
          ← is.number,
          ne_eqb (verdict_in j.judgement) as_ordered not,
          eq-eqb (verdict_in j.judgement) states_part v,
          cut-state answer ws state said theirs is.cut,
        )

    traces-lines : (verdict_in j.judgement ≡ 5 → ⊥) → all ≡ head n e j.judgement ++ both j.judgement answer ws said (take (length theirs - j.cut) (drop j.cut theirs))
    unfolding told_lines sides
    traces-lines v =
        rw (
          ← is.verdict,
          ← is.number,
          ne_eqb (verdict_in j.judgement) as_ordered not,
          ne_eqb (verdict_in j.judgement) states_part v,
          cut-trace answer ws state said theirs is.cut,
        )

  module _ {out : List ℕ} (room : Room ws state theirs out) (small : n < 2 ^ 64) (known : answer < 2 ^ 32) (heard : said < 2 ^ 32)
    where
      few : word_in j.judgement < 2 ^ 64
      few = omega (arith, is.number, event-small answer ws state said theirs, room.few, room.small)

      pub head-room : length (head n e j.judgement) ≤ length out
      head-room = omega (arith, head-long n e j.judgement small few, room.bytes)

      module _ {next : ℕ} {o : List ℕ} (p : PutAt (head n e j.judgement) out 0 next o) where
        same : length o ≡ length out
        same = put-length {xs = head n e j.judgement} (rw zero-add head-room) p

        pub states-room : next + length (both j.judgement answer state said (take j.cut theirs)) ≤ length o
        states-room =
            let h = head-long n e j.judgement small few in
            let b = both_long j.judgement answer state said (take j.cut theirs) known heard in
            let t = length-take-le j.cut theirs cut-within in
            let c = cut-within in
            omega (arith, same, p.place, room.small, room.read, room.bytes)

        pub traces-room : next + length (both j.judgement answer ws said (take (length theirs - j.cut) (drop j.cut theirs))) ≤ length o
        traces-room =
            let h = head-long n e j.judgement small few in
            let rest = take (length theirs - j.cut) (drop j.cut theirs) in
            let b = both_long j.judgement answer ws said rest known heard in
            let t = length-take (length theirs - j.cut) (drop j.cut theirs) in
            let d = length-drop j.cut theirs in
            omega (arith, same, p.place, room.few, room.read, room.bytes)

        module _ (not : verdict_in j.judgement ≡ 0 → ⊥) {bytes : ℕ} {o' : List ℕ} where
          pub states-told : verdict_in j.judgement ≡ 5 → PutAt (both j.judgement answer state said (take j.cut theirs)) o next bytes o'
              → Tells n e answer ws state said theirs out bytes o'
          states-told v q =
              record {
                lines = rw (states-lines not v) (put-more {xs = head n e j.judgement} (rw zero-add head-room) p q);
                inside = omega (arith, q.place, states-room, same);
              }

          pub traces-told : (verdict_in j.judgement ≡ 5 → ⊥) → PutAt (both j.judgement answer ws said (take (length theirs - j.cut) (drop j.cut theirs))) o next bytes o'
              → Tells n e answer ws state said theirs out bytes o'
          traces-told v q =
              record {
                lines = rw (traces-lines not v) (put-more {xs = head n e j.judgement} (rw zero-add head-room) p q);
                inside = omega (arith, q.place, traces-room, same);
              }
