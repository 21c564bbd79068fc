-- What reading ended with: all is read, or the line behind those read has that fault, or the output is full. Assumes nothing.
use Prim.Native.Nat.{ℕ, zero, suc, ◌<◌, ◌≤◌}
use mathlib.Core.Path.{◌≡◌, refl, sym, ap, ◌∙◌}
use mathlib.Core.Bool.{true}
use mathlib.Core.List.{List}
use native.Mathlib.Omega.{arith}
use borrow.Author.Tests.{eqb-true, eqb-false}
use lib.ListN.{length}
use lib.Dec.{eqb, leb}
use Rattle.laws.proofs.Tests.{split}
use Rattle.rulebook.specs.Table.{networks}
use Rattle.rulebook.specs.Reasons.{accepted}
use Rattle.rulebook.specs.BusLog.{Cursor, Reading, unread, line_events, fault, room, read_line, read_lines, read_log, names_stand}
use Rattle.buslog.proofs.Taking.{refused-stays, read_stays, turn, less-left, more-than-none}
use Rattle.buslog.proofs.Resuming.{no-turn, full-up}

module _ (t names : List ℕ) (words : ℕ) where
  line-faulty : (r : Reading) → ((read_line t names words r).answer ≡ 0 → ⊥) → ((read_line t names words r).answer ≡ 11 → ⊥)
      → fault t names (read_line t names words r).cursor (read_line t names words r).rest ≡ (read_line t names words r).answer
  unfolding read_line
  line-faulty r some other =
      split (eqb (fault t names r.cursor r.rest) 0)
      (λ e. split (leb (length (line_events t names r.cursor r.rest)) (room words r))
      (λ f. let wrong : 0 ≡ 0 → ⊥ = rw (e, f) at some in absurd (wrong refl)) (λ f. let wrong : 11 ≡ 11 → ⊥ = rw (e, f) at other in absurd (wrong refl)))
      (λ e. rw e)

  lines-faulty : (turns : ℕ) (r : Reading) → r.answer ≡ 0 → ((read_lines turns t names words r).answer ≡ 0 → ⊥)
      → ((read_lines turns t names words r).answer ≡ 11 → ⊥)
      → fault t names (read_lines turns t names words r).cursor (read_lines turns t names words r).rest ≡ (read_lines turns t names words r).answer
  lines-faulty zero r ok some other = absurd (some (ap (λ (x : Reading). x.answer) (no-turn t names words r) ∙ ok))
  lines-faulty (suc turns) r ok some other =
      split (eqb (length r.rest) 0)
      (λ e. absurd (some (ap (λ (x : Reading). x.answer) (read_stays t names words (suc turns) r (eqb-true _ _ e)) ∙ ok)))
      (λ e.
      let went = turn t names words turns r (more-than-none (length r.rest) (eqb-false _ _ e)) ok in
      let next = read_line t names words r in
      let some_then : (read_lines turns t names words next).answer ≡ 0 → ⊥ =
      λ (z : (read_lines turns t names words next).answer ≡ 0). some (ap (λ (x : Reading). x.answer) went ∙ z) in
      let other-then : (read_lines turns t names words next).answer ≡ 11 → ⊥ =
      λ (z : (read_lines turns t names words next).answer ≡ 11). other (ap (λ (x : Reading). x.answer) went ∙ z) in
      rw went
      (split (eqb next.answer 0)
      (λ f. lines-faulty turns next (eqb-true _ _ f) some_then other-then)
      (λ f.
      let stays = refused-stays t names words turns next (eqb-false _ _ f) in
      rw stays (line-faulty r (eqb-false _ _ f) (λ (z : next.answer ≡ 11). other-then (ap (λ (x : Reading). x.answer) stays ∙ z))))))

  pub lines-all : (turns : ℕ) (r : Reading) → length r.rest ≤ turns → r.answer ≡ 0 → (read_lines turns t names words r).answer ≡ 0
      → length (read_lines turns t names words r).rest ≡ 0
  lines-all zero r h ok good = rw (no-turn t names words r) (omega arith)
  lines-all (suc turns) r h ok good =
      split (eqb (length r.rest) 0)
      (λ e. rw (read_stays t names words (suc turns) r (eqb-true _ _ e)) (eqb-true _ _ e))
      (λ e.
      let some : 0 < length r.rest = more-than-none (length r.rest) (eqb-false _ _ e) in
      let went = turn t names words turns r some ok in
      let next = read_line t names words r in
      let good-then : (read_lines turns t names words next).answer ≡ 0 = ap (λ (x : Reading). x.answer) (sym went) ∙ good in
      rw went
      (split (eqb next.answer 0)
      (λ f. let less = less-left t names words r some (eqb-true _ _ f) in lines-all turns next (omega arith) (eqb-true _ _ f) good-then)
      (λ f. absurd (eqb-false _ _ f (sym (ap (λ (x : Reading). x.answer) (refused-stays t names words turns next (eqb-false _ _ f))) ∙ good-then)))))

module _ (t names log : List ℕ) (c : Cursor) (words : ℕ) where
  abbrev came-to : Reading
  came-to = read_log t names log c words

  pub log-full : came-to.answer ≡ 11 → length came-to.events ≡ words
  unfolding read_log
  log-full full =
      split (accepted t)
      (λ a. split (names_stand (networks t) names)
      (λ n. rw (a, n) (full-up t names words (length log) (unread c log) refl (omega arith) (rw (a, n) at full)))
      (λ n. let wrong : 13 ≡ 11 = rw (a, n) at full in absurd (omega (arith, wrong))))
      (λ a. let wrong : 1 ≡ 11 = rw a at full in absurd (omega (arith, wrong)))

  module _ (a : accepted t ≡ true) (n : names_stand (networks t) names ≡ true) where
    pub log-faulty : (came-to.answer ≡ 0 → ⊥) → (came-to.answer ≡ 11 → ⊥) → fault t names came-to.cursor came-to.rest ≡ came-to.answer
    unfolding read_log
    log-faulty some other = rw (a, n) (lines-faulty t names words (length log) (unread c log) refl (rw (a, n) at some) (rw (a, n) at other))

    pub log-read : came-to.answer ≡ 0 → length came-to.rest ≡ 0
    unfolding read_log
    log-read good = rw (a, n) (lines-all t names words (length log) (unread c log) (omega arith) refl (rw (a, n) at good))
