-- The number of the answer that an event gets is the rulebook's; what comes after the checks of table, state and room, by that
-- answer. Assumes nothing.
use Prim.Native.Nat.{ℕ}
use Rattle.std.specs.Prelude.{Result}
use mathlib.Core.Path.{◌≡◌, ap, sym, ◌∙◌}
use mathlib.Core.Bool.{true, false}
use mathlib.Core.List.{List}
use lib.Dec.{eqb}
use Rattle.rulebook.specs.Step.{well_formed, outcomes_known, known, sent_by_owner, refused_event, refusal, conclude, handle}
use Rattle.laws.proofs.Tests.{split}
use Rattle.laws.proofs.Steps.{done}
use Rattle.refusals.specs.Answers.{answer_of, event_checked}
use Rattle.refusals.specs.declared.Unheeded.{Unheeded}

module _ (t os : List ℕ) (e : ℕ) where
  pub checked-answer : answer_of (event_checked t os e) ≡ refused_event t os e
  unfolding event_checked refused_event
  checked-answer =
      split (well_formed e)
      (λ a.
      split (outcomes_known os)
      (λ b. split (known t e) (λ c. split (sent_by_owner t e) (λ d. rw (a, b, c, d)) (λ d. rw (a, b, c, d))) (λ c. rw (a, b, c)))
      (λ b. rw (a, b)))
      (λ a. rw a)

  -- the answer r is that of the check
  module _ (s : List ℕ) (r : Result (Unit {0}) Unheeded) (h : r ≡ event_checked t os e) where
    number : refused_event t os e ≡ answer_of r
    number = sym checked-answer ∙ ap answer_of (sym h)

    pub handle-taken : eqb (answer_of r) 0 ≡ true → handle t s os e ≡ done t os e s
    unfolding handle conclude
    handle-taken z = rw (number, z)

    pub handle-refused : eqb (answer_of r) 0 ≡ false → handle t s os e ≡ refusal (answer_of r) s
    unfolding handle conclude
    handle-refused z = rw (number, z)
