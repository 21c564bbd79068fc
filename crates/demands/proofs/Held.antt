-- What is concluded of an event held against a supplier's recording follows from what the call promises. Assumes nothing.
use Prim.Native.Nat.{ℕ}
use mathlib.Core.Path.{◌≡◌, sym, ap, ◌∙◌}
use mathlib.Core.List.{List}
use lib.ListN.{length, take, drop}
use lib.Seq.{take-append_seam}
use Rattle.rulebook.specs.Step.{Result, step, first_fault}
use Rattle.rulebook.specs.Hold.{Held, held_against, held_by}
use Rattle.manager.specs.Promises.{TakesEventIn}
use Rattle.hold.specs.Promises.{HoldsIn, HoldsForC, part_of}
use Rattle.hold.specs.Cases.{Case}
use Rattle.hold.proofs.Exactly.{case-found, exactly, yes-exactly}
use Rattle.hold.proofs.Unique.{part_held}
use Rattle.demands.specs.Conclusions.{OfHold}
use Rattle.demands.proofs.Demand1.{event-answered, stepped, hold-answered}
use Rattle.demands.proofs.Conclusions.{of-event}

module _ (t s trace os : List ℕ) (e : ℕ) (theirs their_state : List ℕ) (v k n m : ℕ) (s' trace' : List ℕ)
    (h : HoldsIn t s trace os e theirs their_state v k n m s' trace') where
  abbrev r : Result
  r = step t s (length trace) os e

  call : TakesEventIn t s trace os e r.answer n m s' trace'
  call = stepped t s trace os e theirs their_state v k n m s' trace' h

  fault : r.answer ≡ first_fault t s (length trace) os e
  fault = (event-answered t s trace os e r.answer n m s' trace' call).number

  -- the verdict, its number and its part are the definition's

  is-verdict : (held_by r theirs their_state).verdict ≡ v
  unfolding held_against
  is-verdict = sym h.tells.verdict

  is_number : (held_by r theirs their_state).number ≡ k
  unfolding held_against
  is_number = sym h.tells.number

  is-part : (held_by r theirs their_state).part ≡ part_of v k n trace' theirs
  unfolding held_against
  is-part = sym (part_held h)

  our-words : r.words ≡ take n trace'
  our-words = sym (rw (h.words, h.count) (take-append_seam r.words (drop (length r.words) trace)))

  only-case : (v₂ k₂ : ℕ) (p : List ℕ) → Case r theirs their_state v₂ k₂ p → (v₂ ≡ v) × (k₂ ≡ k) × (p ≡ part_of v k n trace' theirs)
  only-case v₂ k₂ p c =
      let same = (exactly r theirs their_state v₂ k₂ p).told-where c in (
        sym (ap (λ (x : Held). x.verdict) same) ∙ is-verdict,
        sym (ap (λ (x : Held). x.number) same) ∙ is_number,
        sym (ap (λ (x : Held). x.part) same) ∙ is-part,
      )

  pub of-hold : OfHold t s trace os e theirs their_state v k n m s' trace'
  of-hold =
      let exact = yes-exactly r theirs their_state in
      record {
        answered = hold-answered t s trace os e theirs their_state v k n m s' trace' h;
        event = of-event t s trace os e r.answer n m s' trace' call;
        verdict = rw (is-verdict, is_number, is-part) at (case-found r theirs their_state);
        only = only-case;
        yes = (
          λ z. let y = exact.only-where (is-verdict ∙ z) in (sym fault ∙ y.0, y.1 ∙ our-words, y.2 ∙ sym h.state),
          λ y. sym is-verdict ∙ exact.said-where (fault ∙ y.0, y.1 ∙ sym our-words, y.2 ∙ h.state),
        );
      }

-- the same as C has it, with the part's length
pub of-hold-c : (t s trace os : List ℕ) (e : ℕ) (theirs their_state : List ℕ) (v k left n m : ℕ) (s' trace' : List ℕ)
    → HoldsForC t s trace os e theirs their_state v k left n m s' trace'
    → OfHold t s trace os e theirs their_state v k n m s' trace' × (left ≡ length (part_of v k n trace' theirs))
of-hold-c t s trace os e theirs their_state v k left n m s' trace' h = (
  of-hold t s trace os e theirs their_state v k n m s' trace' h.holds,
  h.rest ∙ ap (λ (p : List ℕ). length p) (sym (part_held h.holds)),
)
