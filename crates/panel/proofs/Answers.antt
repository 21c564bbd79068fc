-- The answers of `show`, one after the other, and that two results it allows are equal. Assumes nothing.
use Prim.Native.Nat.{ℕ, ◌<◌, ◌≤◌}
use mathlib.Core.Path.{◌≡◌, sym, ◌∙◌}
use mathlib.Core.Bool.{true, false}
use mathlib.Core.List.{List}
use native.Mathlib.Nat.{zero-add}
use native.Mathlib.Omega.{arith}
use lib.ListN.{length}
use borrow.Author.Tests.{eq-eqb, ne_eqb, lt-ltb, le-ltb}
use Rattle.rulebook.specs.Step.{refused_state}
use Rattle.text.specs.Puts.{PutAt}
use Rattle.panel.specs.Printed.{operator, panel, answer}
use Rattle.panel.specs.Promises.{ShowsIn}

module _ (o : ℕ) (t s ws out : List ℕ) where
  -- a refusal with a number other than 0: nothing is laid
  refused : (k : ℕ) → answer o t s ws (length out) ≡ k → (k ≡ 0 → ⊥) → ShowsIn o t s ws out k 0 out
  refused k e n = let other = ne_eqb _ 0 (λ (z : answer o t s ws (length out) ≡ 0). n (sym e ∙ z)) in
      record { answer = sym e; count = rw other; bytes = rw other; inside = omega arith }

  pub not-operator : operator o ≡ false → ShowsIn o t s ws out 9 0 out
  unfolding answer
  not-operator h = refused 9 (rw h) (λ z. omega arith)

  module _ (is : operator o ≡ true) where
    pub unfit : (k : ℕ) → k ≡ refused_state t s → (k ≡ 0 → ⊥) → ShowsIn o t s ws out k 0 out
    unfolding answer
    unfit k e n = refused k (rw (is, ne_eqb (refused_state t s) 0 (λ z. n (e ∙ z))) (sym e)) n

    module _ (fits : refused_state t s ≡ 0) where
      pub no_room : length out < length (panel o t s ws) → ShowsIn o t s ws out 11 0 out
      unfolding answer
      no_room h = refused 11 (rw (is, eq-eqb (refused_state t s) 0 fits, lt-ltb (length out) (length (panel o t s ws)) h)) (λ z. omega arith)

      pub done : {n : ℕ} {out' : List ℕ} → length (panel o t s ws) ≤ length out → PutAt (panel o t s ws) out 0 n out'
          → ShowsIn o t s ws out 0 n out'
      unfolding answer
      done h p =
          let zero : answer o t s ws (length out) ≡ 0 =
          rw (is, eq-eqb (refused_state t s) 0 fits, le-ltb (length out) (length (panel o t s ws)) h) in
          let laid = eq-eqb _ 0 zero in
          record { answer = sym zero; count = rw laid (p.place ∙ zero-add _); bytes = rw laid p.bytes; inside = omega (arith, p.place) }

  -- and the other way round: what a call gives where nothing refuses it
  pub laid-panel : {k n : ℕ} {out' : List ℕ} → operator o ≡ true → refused_state t s ≡ 0 → length (panel o t s ws) ≤ length out
      → ShowsIn o t s ws out k n out'
      → PutAt (panel o t s ws) out 0 n out'
  unfolding answer
  laid-panel is fits room h =
      let zero : answer o t s ws (length out) ≡ 0 =
      rw (is, eq-eqb (refused_state t s) 0 fits, le-ltb (length out) (length (panel o t s ws)) room) in
      record { place = rw zero at h.count ∙ sym (zero-add _); bytes = rw zero at h.bytes }

-- two results that the promise allows are equal
pub one-panel : {o : ℕ} {t s ws out : List ℕ} {k₁ n₁ : ℕ} {out₁ : List ℕ} {k₂ n₂ : ℕ} {out₂ : List ℕ} → ShowsIn o t s ws out k₁ n₁ out₁
    → ShowsIn o t s ws out k₂ n₂ out₂
    → (k₁ ≡ k₂) × (n₁ ≡ n₂) × (out₁ ≡ out₂)
one-panel p q = (p.answer ∙ sym q.answer, p.count ∙ sym q.count, p.bytes ∙ sym q.bytes)
