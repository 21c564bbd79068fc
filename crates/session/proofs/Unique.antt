-- Any two results that a promise allows are equal. Assumes nothing.
use Prim.Native.Nat.{ℕ, ◌<◌}
use mathlib.Core.Path.{◌≡◌, refl, sym, ap, ◌∙◌}
use mathlib.Core.Bool.{false≢true}
use Rattle.std.specs.Prelude.{Result, Ok, Err}
use mathlib.Core.List.{List}
use native.Mathlib.Omega.{arith}
use lib.ListN.{length, take}
use Rattle.text.proofs.Digits.{below}
use Rattle.text.specs.Puts.{lay}
use Rattle.session.specs.declared.Opening.{Opening}
use Rattle.session.specs.declared.Refused.{Refused}
use Rattle.session.specs.declared.Taken.{Taken}
use Rattle.session.specs.Printed.{run_lines, state_after}
use Rattle.session.specs.Promises.{Opens, PutLines, trace_after, TookEvents}

pub one-opening : (t : List ℕ) (p q : Result Opening Refused) → Opens t p → Opens t q → p ≡ q
one-opening t (Ok p) (Ok q) a b = rw (a.state ∙ sym b.state, a.trace ∙ sym b.trace) refl
one-opening t (Ok p) (Err q) a b = absurd (false≢true (sym b.refused ∙ a.accepted))
one-opening t (Err p) (Ok q) a b = absurd (false≢true (sym a.refused ∙ b.accepted))
one-opening t (Err p) (Err q) a b = rw (a.reason ∙ sym b.reason, a.place ∙ sym b.place) refl

pub one-laying : {room : ℕ} {xs out : List ℕ} {m n : ℕ} {a b : List ℕ} → PutLines room xs out m a → PutLines room xs out n b → (m ≡ n) × (a ≡ b)
one-laying p q = (p.count ∙ sym q.count, p.bytes ∙ sym q.bytes)

module _ {t s trace es out : List ℕ} {p q : Taken} {s₁ s₂ w₁ w₂ o₁ o₂ : List ℕ} where
  -- the second would have taken an event for which the first had no room
  not-fewer : TookEvents t s trace es out p s₁ w₁ o₁ → TookEvents t s trace es out q s₂ w₂ o₂ → p.events < q.events → ⊥
  not-fewer a b h = let free = b.free p.events h in let full = a.full (let w = b.within in omega arith) in omega arith

module _ {t s trace es out : List ℕ} {p q : Taken} {s₁ s₂ w₁ w₂ o₁ o₂ : List ℕ} where
  pub one-taking : TookEvents t s trace es out p s₁ w₁ o₁ → TookEvents t s trace es out q s₂ w₂ o₂
      → (p.events ≡ q.events) × (p.bytes ≡ q.bytes) × (s₁ ≡ s₂) × (w₁ ≡ w₂) × (o₁ ≡ o₂)
  one-taking a b =
      let e : p.events ≡ q.events =
      below p.events q.events (λ h. absurd (not-fewer a b h))
      (λ h. below q.events p.events (λ k. absurd (not-fewer b a k)) (λ k. omega arith))
      in (
        e,
        a.bytes ∙ ap (λ (n : ℕ). length (run_lines t s (take n es))) e ∙ sym b.bytes,
        a.state ∙ ap (λ (n : ℕ). state_after t s (take n es)) e ∙ sym b.state,
        a.words ∙ ap (λ (n : ℕ). trace_after t s (take n es) trace) e ∙ sym b.words,
        a.lines ∙ ap (λ (n : ℕ). lay out 0 (run_lines t s (take n es))) e ∙ sym b.lines,
      )
