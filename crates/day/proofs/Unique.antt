-- Any two results that a promise allows are equal. Assumes nothing.
use Prim.Native.Nat.{ℕ}
use mathlib.Core.Path.{◌≡◌, sym, ◌∙◌}
use mathlib.Core.List.{List}
use Rattle.session.proofs.Unique.{one-laying}
use Rattle.day.specs.declared.Part.{Part}
use Rattle.day.specs.Promises.{PlaysPart, LaysState, LaysEnd}

pub one-part : (t s trace es out : List ℕ) {p q : Part} {s₁ s₂ w₁ w₂ o₁ o₂ : List ℕ} → PlaysPart t s trace es out p s₁ w₁ o₁
    → PlaysPart t s trace es out q s₂ w₂ o₂
    → (p.taken ≡ q.taken) × (p.visits ≡ q.visits) × (p.bytes ≡ q.bytes) × (p.number ≡ q.number) × (s₁ ≡ s₂) × (w₁ ≡ w₂) × (o₁ ≡ o₂)
one-part t s trace es out a b = (
  a.taken ∙ sym b.taken,
  a.visits ∙ sym b.visits,
  a.bytes ∙ sym b.bytes,
  a.number ∙ sym b.number,
  a.state ∙ sym b.state,
  a.words ∙ sym b.words,
  a.lines ∙ sym b.lines,
)

pub one_state : (t s : List ℕ) {out : List ℕ} {m n : ℕ} {a b : List ℕ} → LaysState t s out m a → LaysState t s out n b → (m ≡ n) × (a ≡ b)
one_state t s p q = one-laying p q

pub one_end : (taken visits number : ℕ) {out : List ℕ} {m n : ℕ} {a b : List ℕ} → LaysEnd taken visits number out m a
    → LaysEnd taken visits number out n b → (m ≡ n) × (a ≡ b)
one_end taken visits number p q = one-laying p q
