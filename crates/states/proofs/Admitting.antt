-- Table and state checked together: the exits, what each answer says, and that two answers allowed are the same. Assumes nothing.
use Prim.Native.Nat.{ℕ}
use mathlib.Core.Path.{◌≡◌, refl, sym, ap, ◌∙◌}
use mathlib.Core.Bool.{true, false}
use mathlib.Core.List.{List}
use native.Mathlib.Omega.{arith}
use Rattle.std.specs.Prelude.{Result, Ok, Err}
use Rattle.rulebook.specs.Reasons.{accepted, bound}
use Rattle.rulebook.specs.State.{fits}
use Rattle.rulebook.specs.Step.{refused_state}
use Rattle.tables.specs.declared.Fault.{Fault}
use Rattle.tables.specs.Finding.{Finding, finding, promised}
use Rattle.states.specs.declared.NotAdmitted.{NotAdmitted}
use Rattle.states.specs.declared.NotAdmitted.TheVariants.{BadTable, UnfitState}
use Rattle.states.specs.Admission.{number_of, bound_of, Admits}

-- B, as the table check's answer tells it
pub finding-bound : (t : List ℕ) (b : ℕ) (r : Result ℕ Fault) → r ≡ Ok b → finding r ≡ promised t → accepted t ≡ true → b ≡ bound t
unfolding promised
finding-bound t b r e h a = ap (λ (x : Result ℕ Fault). (finding x).bound) (sym e) ∙ ap (λ (x : Finding). x.bound) h ∙ rw a

-- The exits.

module _ (t s : List ℕ) where
  pub bad-table : accepted t ≡ false → Admits t s (Err BadTable)
  unfolding refused_state
  bad-table h = record { number = rw h; bound = rw h }

  pub unfit : accepted t ≡ true → fits t s ≡ false → Admits t s (Err UnfitState)
  unfolding refused_state
  unfit h k = record { number = rw (h, k); bound = rw (h, k) }

  pub stands : (b : ℕ) → b ≡ bound t → accepted t ≡ true → fits t s ≡ true → Admits t s (Ok b)
  unfolding refused_state
  stands b is h k = record { number = rw (h, k); bound = rw (h, k) is }

-- an answer that is not `Ok` tells 1 or 2

pub not-standing : (r : Result ℕ NotAdmitted) → ((b : ℕ) → r ≡ Ok b → ⊥) → number_of r ≡ 0 → ⊥
not-standing (Ok b) f z = f b refl
not-standing (Err BadTable) f z = omega arith
not-standing (Err UnfitState) f z = omega arith

-- what an answer `Ok` says
module _ {t s : List ℕ} {r : Result ℕ NotAdmitted} {b : ℕ} (is : r ≡ Ok b) (h : Admits t s r) where
  pub standing : refused_state t s ≡ 0
  standing = sym h.number ∙ ap number_of is

  pub standing-bound : b ≡ bound t
  standing-bound = ap bound_of (sym is) ∙ h.bound ∙ rw standing

-- Two answers are the same.

one_number : (a b : Result ℕ NotAdmitted) → number_of a ≡ number_of b → bound_of a ≡ bound_of b → a ≡ b
one_number (Ok x) (Ok y) e h = ap Ok h
one_number (Ok x) (Err BadTable) e h = absurd (omega arith)
one_number (Ok x) (Err UnfitState) e h = absurd (omega arith)
one_number (Err BadTable) (Ok y) e h = absurd (omega arith)
one_number (Err BadTable) (Err BadTable) e h = refl
one_number (Err BadTable) (Err UnfitState) e h = absurd (omega arith)
one_number (Err UnfitState) (Ok y) e h = absurd (omega arith)
one_number (Err UnfitState) (Err BadTable) e h = absurd (omega arith)
one_number (Err UnfitState) (Err UnfitState) e h = refl

pub one-admission : {t s : List ℕ} {a b : Result ℕ NotAdmitted} → Admits t s a → Admits t s b → a ≡ b
one-admission {a = a} {b} x y = one_number a b (x.number ∙ sym y.number) (x.bound ∙ sym y.bound)
