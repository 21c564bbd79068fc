-- Time is exact: between two lines the ticks given are the whole 10 milliseconds since the first line's time. Assumes nothing.
use Prim.Native.Nat.{ℕ, zero, suc, ◌+◌, ◌-◌, ◌/◌, ◌≤◌}
use mathlib.Core.Path.{◌≡◌, refl, ap, ◌∙◌}
use mathlib.Core.Bool.{false}
use mathlib.Core.List.{List}
use native.Mathlib.Omega.{arith}
use native.Mathlib.Nat.{zero-div}
use borrow.Author.Tests.{ne_eqb, eqb-true, eqb-false, ltb-false}
use lib.ListN.{length}
use lib.Dec.{eqb, leb}
use Rattle.laws.proofs.Tests.{split}
use Rattle.rulebook.specs.Table.{networks}
use Rattle.rulebook.specs.Reasons.{accepted}
use Rattle.rulebook.specs.BusLog.{Cursor, Reading, unread, spelt, time, zero_time, ticks_due, goes_back, line_read, line_events, fault, room}
use Rattle.rulebook.specs.BusLog.{read_line, read_lines, read_log, names_stand}
use Rattle.buslog.specs.Promises.{WholeTicks}
use Rattle.buslog.proofs.Taking.{refused-stays, read_stays, turn, more-than-none}
use Rattle.buslog.proofs.Resuming.{no-turn}

module _ (c : Cursor) (now : ℕ) (h : goes_back c now ≡ false) (so : WholeTicks c) where
  begins : (z : c.lines ≡ 0) → (zero_time c now ≡ now) × (c.given + ticks_due c now ≡ (now - zero_time c now) / 10000)
  unfolding zero_time ticks_due
  begins z = let q : now - now ≡ 0 = omega arith in (rw z, rw (z, q, zero-div 10000) (omega (arith, so.unbegun z)))

  goes : (some : c.lines ≡ 0 → ⊥) → (zero_time c now ≤ now) × (c.given + ticks_due c now ≡ (now - zero_time c now) / 10000)
  unfolding zero_time ticks_due goes_back
  goes some =
      let z = ne_eqb c.lines 0 some in
      let later : c.last ≤ now = ltb-false now c.last (rw z at h) in
      let more : (c.last - c.first) / 10000 ≤ (now - c.first) / 10000 = omega arith in
      (rw z (omega (arith, so.forward some)), rw z (omega (arith, so.exact some)))

  line-exact : WholeTicks (line_read c now)
  unfolding line_read
  line-exact =
      split (eqb c.lines 0)
      (λ e.
      let first = begins (eqb-true _ _ e) in
      record { unbegun = λ z. absurd (omega (arith, z)); forward = λ _. omega (arith, first.0); exact = λ _. first.1 })
      (λ e.
      let later = goes (eqb-false _ _ e) in
      record { unbegun = λ z. absurd (omega (arith, z)); forward = λ _. later.0; exact = λ _. later.1 })

module _ (t names : List ℕ) (words : ℕ) where
  not_back : (c : Cursor) (line : List ℕ) → fault t names c line ≡ 0 → goes_back c (time line) ≡ false
  unfolding fault
  not_back c line e =
      split (spelt line)
      (λ f. split (goes_back c (time line)) (λ g. let wrong : 14 ≡ 0 = rw (f, g) at e in absurd (omega (arith, wrong))) (λ g. g))
      (λ f. let wrong : 12 ≡ 0 = rw f at e in absurd (omega (arith, wrong)))

  step-exact : (r : Reading) → ((read_line t names words r).answer ≡ 11 → ⊥) → WholeTicks r.cursor → WholeTicks (read_line t names words r).cursor
  unfolding read_line
  step-exact r roomy so =
      split (eqb (fault t names r.cursor r.rest) 0)
      (λ e. split (leb (length (line_events t names r.cursor r.rest)) (room words r))
      (λ f. rw (e, f) (line-exact r.cursor (time r.rest) (not_back r.cursor r.rest (eqb-true _ _ e)) so))
      (λ f. let wrong : 11 ≡ 11 → ⊥ = rw (e, f) at roomy in absurd (wrong refl)))
      (λ e. rw e so)

  lines-exact : (turns : ℕ) (r : Reading) → ((read_lines turns t names words r).answer ≡ 11 → ⊥) → WholeTicks r.cursor
      → WholeTicks (read_lines turns t names words r).cursor
  lines-exact zero r roomy so = rw (no-turn t names words r) so
  lines-exact (suc turns) r roomy so =
      split (eqb (length r.rest) 0)
      (λ e. rw (read_stays t names words (suc turns) r (eqb-true _ _ e)) so)
      (λ e. split (eqb r.answer 0)
      (λ f.
      let went = turn t names words turns r (more-than-none (length r.rest) (eqb-false _ _ e)) (eqb-true _ _ f) in
      let next = read_line t names words r in
      let roomy-then : (read_lines turns t names words next).answer ≡ 11 → ⊥ =
      λ (z : (read_lines turns t names words next).answer ≡ 11). roomy (ap (λ (x : Reading). x.answer) went ∙ z) in
      let roomy-now : next.answer ≡ 11 → ⊥ =
      λ (z : next.answer ≡ 11). roomy-then
      (ap (λ (x : Reading). x.answer) (refused-stays t names words turns next (λ (y : next.answer ≡ 0). omega (arith, z))) ∙ z) in
      rw went (lines-exact turns next roomy-then (step-exact r roomy-now so)))
      (λ f. rw (refused-stays t names words (suc turns) r (eqb-false _ _ f)) so))

pub log-exact : (t names log : List ℕ) (c : Cursor) (words : ℕ) → ((read_log t names log c words).answer ≡ 11 → ⊥) → WholeTicks c
    → WholeTicks (read_log t names log c words).cursor
unfolding read_log
log-exact t names log c words roomy so =
    split (accepted t)
    (λ a. split (names_stand (networks t) names)
    (λ n. rw (a, n) (lines-exact t names words (length log) (unread c log) (rw (a, n) at roomy) so)) (λ n. rw (a, n) so))
    (λ a. rw a so)
