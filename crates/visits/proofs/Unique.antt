-- Any two results that a promise allows are equal. Assumes nothing.
use Prim.Native.Nat.{ℕ, ◌<◌}
use mathlib.Core.Path.{◌≡◌, sym, ap, ◌∙◌}
use mathlib.Core.List.{List}
use native.Mathlib.Omega.{arith}
use lib.ListN.{length, take}
use Rattle.text.proofs.Digits.{below}
use Rattle.text.specs.Puts.{lay}
use Rattle.session.specs.Printed.{state_after}
use Rattle.session.specs.Promises.{trace_after}
use Rattle.session.proofs.Unique.{one-laying}
use Rattle.visits.specs.declared.Most.{Most}
use Rattle.visits.specs.declared.Taken.{Taken}
use Rattle.visits.specs.Printed.{results, cost_lines, most_after}
use Rattle.visits.specs.Promises.{TookEvents, LaysMost}

module _ {t s trace es : List ℕ} {m : Most} {out : List ℕ} {p q : Taken} {s₁ s₂ w₁ w₂ o₁ o₂ : List ℕ} where
  -- the second would have taken an event for which the first had no room
  not-fewer : TookEvents t s trace es m out p s₁ w₁ o₁ → TookEvents t s trace es m out q s₂ w₂ o₂ → p.events < q.events → ⊥
  not-fewer a b h = let free = b.free p.events h in let full = a.full (let w = b.within in omega arith) in omega arith

module _ {t s trace es : List ℕ} {m : Most} {out : List ℕ} {p q : Taken} {s₁ s₂ w₁ w₂ o₁ o₂ : List ℕ} where
  pub one-taking : TookEvents t s trace es m out p s₁ w₁ o₁ → TookEvents t s trace es m out q s₂ w₂ o₂
      → (p.events ≡ q.events) × (p.bytes ≡ q.bytes) × (p.most ≡ q.most) × (s₁ ≡ s₂) × (w₁ ≡ w₂) × (o₁ ≡ o₂)
  one-taking a b =
      let e : p.events ≡ q.events =
      below p.events q.events (λ h. absurd (not-fewer a b h))
      (λ h. below q.events p.events (λ k. absurd (not-fewer b a k)) (λ k. omega arith))
      in (
        e,
        a.bytes ∙ ap (λ (n : ℕ). length (cost_lines m.events (results t s (take n es)))) e ∙ sym b.bytes,
        a.most ∙ ap (λ (n : ℕ). most_after m (results t s (take n es))) e ∙ sym b.most,
        a.state ∙ ap (λ (n : ℕ). state_after t s (take n es)) e ∙ sym b.state,
        a.words ∙ ap (λ (n : ℕ). trace_after t s (take n es) trace) e ∙ sym b.words,
        a.lines ∙ ap (λ (n : ℕ). lay out 0 (cost_lines m.events (results t s (take n es)))) e ∙ sym b.lines,
      )

pub one_end : (t : List ℕ) (m : Most) {out : List ℕ} {k n : ℕ} {a b : List ℕ} → LaysMost t m out k a → LaysMost t m out n b → (k ≡ n) × (a ≡ b)
one_end t m p q = one-laying p q
