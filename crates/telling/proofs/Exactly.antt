-- Nothing is told of an event exactly if the supplier's recording is ours. Assumes nothing.
use Prim.Native.Nat.{ℕ}
use mathlib.Core.Path.{◌≡◌, refl, sym, ap, ◌∙◌}
use mathlib.Core.List.{List, ◌++◌}
use native.Mathlib.Omega.{arith}
use lib.ListN.{length, get_or, take, drop, take-append-drop}
use lib.Seq.{take-append_seam, drop-append_seam}
use lib.Dec.{eqb}
use borrow.Author.Tests.{eqb-true, eq-eqb}
use Rattle.rulebook.specs.Step.{Result}
use Rattle.rulebook.specs.Hold.{held_by, beside, as_ordered}
use Rattle.laws.proofs.Tests.{split}
use Rattle.hold.proofs.Exactly.{yes-exactly}
use Rattle.telling.specs.Told.{held_event, answers_part, event_line, told_lines}
use Rattle.telling.specs.Exactly.{NothingTold}

-- our result as one that is done: `beside` looks at words and states alone
abbrev done : Result → Result
done r = record { answer = 0; state = r.state; words = r.words; visits = 0 }

module _ (r : Result) (answer : ℕ) (ws : List ℕ) where
  abbrev theirs : List ℕ
  theirs = drop (length r.state) ws

  abbrev before : List ℕ
  before = take (length r.state) ws

  beside-yes : theirs ≡ r.words → before ≡ r.state → (beside r.words r.state theirs before).verdict ≡ as_ordered
  unfolding held_by
  beside-yes a b = (yes-exactly (done r) theirs before).said-where (refl, a, b)

  beside-only : (beside r.words r.state theirs before).verdict ≡ as_ordered → (theirs ≡ r.words) × (before ≡ r.state)
  unfolding held_by
  beside-only e = let y = (yes-exactly (done r) theirs before).only-where e in (y.1, y.2)

  pub yes-ours : answer ≡ r.answer → ws ≡ r.state ++ r.words → (held_event r answer ws).verdict ≡ as_ordered
  unfolding held_event
  yes-ours a e =
      let d : theirs ≡ r.words = rw e (drop-append_seam r.state r.words) in
      let t : before ≡ r.state = rw e (take-append_seam r.state r.words) in
      rw (eq-eqb r.answer answer (sym a)) (beside-yes d t)

  only-ours : (held_event r answer ws).verdict ≡ as_ordered → (answer ≡ r.answer) × (ws ≡ r.state ++ r.words)
  unfolding held_event
  only-ours e =
      split (eqb r.answer answer)
      (λ q.
      let parts = beside-only (rw q at e) in
      let whole : before ++ theirs ≡ ws = take-append-drop (length r.state) ws in
      (sym (eqb-true r.answer answer q), sym whole ∙ rw (parts.0, parts.1)))
      (λ q. let six : answers_part ≡ as_ordered = rw q at e in absurd (omega (arith, six)))

  pub nothing-told : (n e : ℕ) → NothingTold n e r answer ws
  unfolding told_lines event_line
  nothing-told n e =
      record {
        where-ours = λ h. rw (eq-eqb (held_event r answer ws).verdict as_ordered (yes-ours h.0 h.1));
        only-ours = λ h.
            split (eqb (held_event r answer ws).verdict as_ordered)
            (λ q. only-ours (eqb-true (held_event r answer ws).verdict as_ordered q))
            (λ q. let first : 101 ≡ 0 = ap (λ (l : List ℕ). get_or l 0 0) (rw q at h) in absurd (omega (arith, first)));
      }
