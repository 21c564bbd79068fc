-- The state check: its exits, and that two answers it allows are the same. Assumes nothing.
use Rattle.std.proofs.Common.{◌≡◌, ℕ, true, false, List, sym, refl, ◌∙◌, arith, Result, Ok, Err}
use Rattle.rulebook.specs.Reasons.{accepted}
use Rattle.rulebook.specs.State.{fits}
use Rattle.rulebook.specs.Step.{refused_state}
use Rattle.states.specs.declared.NotAdmitted.{NotAdmitted}
use Rattle.states.specs.declared.NotAdmitted.TheVariants.{BadTable, UnfitState}
use Rattle.manager.specs.Answers.{state_number}

module _ (t s : List ℕ) where
  pub bad-table : accepted t ≡ false → state_number (Err BadTable) ≡ refused_state t s
  unfolding refused_state
  bad-table h = rw h

  pub unfit : accepted t ≡ true → fits t s ≡ false → state_number (Err UnfitState) ≡ refused_state t s
  unfolding refused_state
  unfit h k = rw (h, k)

  pub fit : accepted t ≡ true → fits t s ≡ true → state_number (Ok tt) ≡ refused_state t s
  unfolding refused_state
  fit h k = rw (h, k)

pub one_number : (a b : Result (Unit {0}) NotAdmitted) → state_number a ≡ state_number b → a ≡ b
one_number (Ok a) (Ok b) e = refl
one_number (Ok a) (Err BadTable) e = absurd (omega arith)
one_number (Ok a) (Err UnfitState) e = absurd (omega arith)
one_number (Err BadTable) (Ok b) e = absurd (omega arith)
one_number (Err BadTable) (Err BadTable) e = refl
one_number (Err BadTable) (Err UnfitState) e = absurd (omega arith)
one_number (Err UnfitState) (Ok b) e = absurd (omega arith)
one_number (Err UnfitState) (Err BadTable) e = absurd (omega arith)
one_number (Err UnfitState) (Err UnfitState) e = refl

-- two answers that the promise allows are equal
pub one_answer : (t s : List ℕ) (a b : Result (Unit {0}) NotAdmitted) → state_number a ≡ refused_state t s → state_number b ≡ refused_state t s → a ≡ b
one_answer t s a b x y = one_number a b (x ∙ sym y)

-- a refusal is not answer 0
pub unfit-number : (e : NotAdmitted) → state_number (Err e) ≡ 0 → ⊥
unfit-number BadTable z = omega arith
unfit-number UnfitState z = omega arith
