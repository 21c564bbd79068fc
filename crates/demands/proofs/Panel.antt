-- What is concluded of a panel follows from what the call promises. Assumes nothing.
use Prim.Native.Nat.{ℕ, ◌+◌, ◌*◌, ◌<◌, ◌≤◌}
use mathlib.Core.Path.{◌≡◌, sym, ◌∙◌}
use mathlib.Core.Logic.{◌⊎◌, ⊎_elim}
use mathlib.Core.Bool.{true, false, and-false}
use mathlib.Core.List.{List}
use native.Mathlib.Omega.{arith}
use lib.ListN.{length}
use lib.Dec.{leb}
use borrow.Author.Tests.{ne_eqb, le-leb, lt-leb, le-ltb, lt-ltb}
use Rattle.rulebook.specs.Reasons.{accepted}
use Rattle.rulebook.specs.State.{fits}
use Rattle.rulebook.specs.Step.{refused_state}
use Rattle.laws.proofs.Tests.{split}
use Rattle.laws.proofs.Facts.{facts}
use Rattle.panel.specs.Printed.{panel, operator, answer}
use Rattle.panel.specs.Promises.{ShowsIn}
use Rattle.panel.proofs.Same.{laid-bytes, laid-count, laid-behind, prints-alike}
use Rattle.panel.proofs.Short.{panel-short}
use Rattle.demands.specs.Demand1.{PanelAnswered}
use Rattle.demands.specs.Conclusions.{OfPanel}

-- which numbers are operators'

is-operator : (o : ℕ) → 1 ≤ o → o ≤ 15 → operator o ≡ true
is-operator o low high = rw (le-leb 1 o low, le-leb o 15 high)

no-operator : (o : ℕ) → (o ≡ 0) ⊎ (15 < o) → operator o ≡ false
no-operator o other =
    ⊎_elim (λ zero. rw (lt-leb 1 o (omega arith))) (λ above. rw (lt-leb o 15 above) (and-false (leb 1 o))) other

module _ (o : ℕ) (t s ws out : List ℕ) (k n : ℕ) (out' : List ℕ) (p : ShowsIn o t s ws out k n out') where
  pub panel-answered : PanelAnswered o t s ws out k n out'
  unfolding answer refused_state
  panel-answered =
      record {
        no_operator = λ other. p.answer ∙ rw (no-operator o other);
        bad_table = λ low high a. p.answer ∙ rw (is-operator o low high, a);
        unfit = λ low high a f. p.answer ∙ rw (is-operator o low high, a, f);
        no_room = λ low high a f short. p.answer ∙ rw (is-operator o low high, a, f, lt-ltb (length out) (length (panel o t s ws)) short);
        done = λ low high a f room. p.answer ∙ rw (is-operator o low high, a, f, le-ltb (length out) (length (panel o t s ws)) room);
        bytes_kept = λ r. p.bytes ∙ rw (ne_eqb (answer o t s ws (length out)) 0 (λ z. r (p.answer ∙ z)));
        no_bytes = λ r. p.count ∙ rw (ne_eqb (answer o t s ws (length out)) 0 (λ z. r (p.answer ∙ z)));
      }

  -- 11 is said of an accepted table only, and its panel is never longer than that
  always-enough : 104 * 21 + 15 * length ws ≤ length out → k ≡ 11 → ⊥
  unfolding answer refused_state
  always-enough room e =
      split (operator o)
      (λ is. split (accepted t)
      (λ a. split (fits t s)
      (λ f.
      let counts = (facts t a).counts in
      let short = panel-short o t s ws counts.ports counts.networks counts.sources in
      let y : 0 ≡ 11 = rw (is, a, f, le-ltb (length out) (length (panel o t s ws)) (omega arith)) at (sym p.answer ∙ e) in
      omega arith)
      (λ f. let y : 2 ≡ 11 = rw (is, a, f) at (sym p.answer ∙ e) in omega arith))
      (λ a. let y : 1 ≡ 11 = rw (is, a) at (sym p.answer ∙ e) in omega arith))
      (λ is. let y : 9 ≡ 11 = rw is at (sym p.answer ∙ e) in omega arith)

  pub of-panel : OfPanel o t s ws out k n out'
  of-panel =
      record {
        answered = panel-answered;
        lines = laid-bytes p;
        count = laid-count p;
        behind = laid-behind p;
        enough = always-enough;
        alike = prints-alike p;
      }
