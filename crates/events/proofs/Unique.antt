-- Two answers, states and traces that a promise allows are equal. Assumes nothing.
use Prim.Native.Nat.{ℕ}
use mathlib.Core.Path.{◌≡◌, refl, sym, ◌∙◌}
use mathlib.Core.Bool.{cond}
use mathlib.Core.List.{List}
use lib.Dec.{eqb}
use Rattle.std.specs.Prelude.{Ok, Err}
use Rattle.rulebook.specs.Step as rulebook
use Rattle.events.specs.declared.Refusal.{Refusal}
use Rattle.events.specs.declared.Refusal.TheVariants.{BadTable, UnfitState, ShortTrace, Malformed, NoSuchThing, NotItsOwner, BadOutcome}
use Rattle.events.specs.Answers.{Answered, number_of, count_of, visits_of, Reports}

-- the answer that a number, a count and visits stand for
abbrev refusing : ℕ → Refusal
refusing k =
    cond (eqb k 1) BadTable
    (cond (eqb k 2) UnfitState
    (cond (eqb k 3) ShortTrace
    (cond (eqb k 4) Malformed
    (cond (eqb k 5) NoSuchThing
    (cond (eqb k 6) NotItsOwner
    BadOutcome)))))

abbrev answering : ℕ → ℕ → ℕ → Answered
answering k n v = cond (eqb k 0) (Ok (record { count = n; visits = v })) (Err (refusing k))

back : (r : Answered) → answering (number_of r) (count_of r) (visits_of r) ≡ r
back (Ok report) = refl
back (Err BadTable) = refl
back (Err UnfitState) = refl
back (Err ShortTrace) = refl
back (Err Malformed) = refl
back (Err NoSuchThing) = refl
back (Err NotItsOwner) = refl
back (Err BadOutcome) = refl

pub one_answer : (x : rulebook.Result) (trace : List ℕ) (r₁ r₂ : Answered) (s₁ s₂ w₁ w₂ : List ℕ) → Reports x trace r₁ s₁ w₁ → Reports x trace r₂ s₂ w₂
    → (r₁ ≡ r₂) × (s₁ ≡ s₂) × (w₁ ≡ w₂)
one_answer x trace r₁ r₂ s₁ s₂ w₁ w₂ a b = (
  sym (back r₁) ∙ rw (a.answer ∙ sym b.answer, a.count ∙ sym b.count, a.visits ∙ sym b.visits) (back r₂),
  a.state ∙ sym b.state,
  a.words ∙ sym b.words,
)
