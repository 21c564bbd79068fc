-- The part that `part` hands back is the verdict's own; two results that `hold` allows are equal; and whatever our own step writes is accepted.
-- Assumes nothing.
use Prim.Native.Nat.{ℕ}
use mathlib.Core.Path.{◌≡◌, refl, sym, ap, ◌∙◌}
use mathlib.Core.List.{List, []}
use lib.ListN.{length, take, drop}
use lib.Seq.{take-length, take-append_seam}
use Rattle.rulebook.specs.Step.{Result, step}
use Rattle.rulebook.specs.Hold.{held_against, told, as_ordered}
use Rattle.manager.specs.Promises.{TakesEventIn}
use Rattle.hold.specs.Promises.{HoldsIn, HoldsForC, part_of}
use Rattle.hold.specs.Cases.{Case, refuses, traces, theirs-stop, ours-stop, states, yes}
use Rattle.hold.proofs.Exactly.{case-found, exactly}

module _ (r : Result) (theirs their_state : List ℕ) (n : ℕ) (trace : List ℕ) (ours : take n trace ≡ r.words) where
  part-case : (v k : ℕ) (p : List ℕ) → Case r theirs their_state v k p → part_of v k n trace theirs ≡ p
  part-case v k p (refuses z) = refl
  part-case v k p (traces z q) = refl
  part-case v k p (theirs-stop z q) = ap (λ (ws : List ℕ). drop k ws) ours
  part-case v k p (ours-stop z q) = refl
  part-case v k p (states z e q) = refl
  part-case v k p (yes z e f) = refl

module _ {t s trace os : List ℕ} {e : ℕ} {theirs their_state : List ℕ} where
  -- which slice, from where: what `part` gives for a verdict of `hold` is document 02's part
  pub part_held : {v k n m : ℕ} {s' trace' : List ℕ} → HoldsIn t s trace os e theirs their_state v k n m s' trace'
      → part_of v k n trace' theirs ≡ (held_against t s (length trace) os e theirs their_state).part
  unfolding held_against
  part_held {n = n} {trace' = trace'} h =
      let r = step t s (length trace) os e in
      let ours : take n trace' ≡ r.words = rw (h.words, h.count) (take-append_seam r.words (drop (length r.words) trace)) in
      rw (h.tells.verdict, h.tells.number) (part-case r theirs their_state n trace' ours _ _ _ (case-found r theirs their_state))

  pub one-hold : {v₁ k₁ n₁ m₁ v₂ k₂ n₂ m₂ : ℕ} {s₁ trace₁ s₂ trace₂ : List ℕ} → HoldsIn t s trace os e theirs their_state v₁ k₁ n₁ m₁ s₁ trace₁
      → HoldsIn t s trace os e theirs their_state v₂ k₂ n₂ m₂ s₂ trace₂
      → (v₁ ≡ v₂) × (k₁ ≡ k₂) × (n₁ ≡ n₂) × (m₁ ≡ m₂) × (s₁ ≡ s₂) × (trace₁ ≡ trace₂)
  one-hold h k = (
    h.tells.verdict ∙ sym k.tells.verdict,
    h.tells.number ∙ sym k.tells.number,
    h.count ∙ sym k.count,
    h.visits ∙ sym k.visits,
    h.state ∙ sym k.state,
    h.words ∙ sym k.words,
  )

-- As C has it: the part by its length.
module _ {t s trace os : List ℕ} {e : ℕ} {theirs their_state : List ℕ} where
  pub for-c : {v₀ k₀ v k n m : ℕ} {p s' trace' : List ℕ} → HoldsIn t s trace os e theirs their_state v₀ k₀ n m s' trace' → v ≡ v₀ → k ≡ k₀
      → p ≡ part_of v₀ k₀ n trace' theirs → HoldsForC t s trace os e theirs their_state v k (length p) n m s' trace'
  for-c h ev ek ep = record {
    holds = record {
      tells = record { verdict = ev ∙ h.tells.verdict; number = ek ∙ h.tells.number };
      count = h.count;
      visits = h.visits;
      state = h.state;
      words = h.words;
    };
    rest = ap (λ (ws : List ℕ). length ws) (ep ∙ part_held h);
  }

  -- so many of the supplier's words, or of the trace's, from that number on are the part
  pub c-part : {v k left n m : ℕ} {s' trace' : List ℕ} → HoldsForC t s trace os e theirs their_state v k left n m s' trace'
      → take left (part_of v k n trace' theirs) ≡ (held_against t s (length trace) os e theirs their_state).part
  c-part h = rw (h.rest, part_held h.holds) (take-length (held_against t s (length trace) os e theirs their_state).part)

  pub one-c : {v₁ k₁ l₁ n₁ m₁ v₂ k₂ l₂ n₂ m₂ : ℕ} {s₁ trace₁ s₂ trace₂ : List ℕ} → HoldsForC t s trace os e theirs their_state v₁ k₁ l₁ n₁ m₁ s₁ trace₁
      → HoldsForC t s trace os e theirs their_state v₂ k₂ l₂ n₂ m₂ s₂ trace₂
      → (l₁ ≡ l₂) × ((v₁ ≡ v₂) × (k₁ ≡ k₂) × (n₁ ≡ n₂) × (m₁ ≡ m₂) × (s₁ ≡ s₂) × (trace₁ ≡ trace₂))
  one-c h k = (h.rest ∙ sym k.rest, one-hold h.holds k.holds)

-- "Whatever our own step writes is accepted, with an empty part": held against what an event call left in the trace and the state lent to it
pub own-accepted : (t s trace os : List ℕ) (e : ℕ) {n m : ℕ} {s' trace' : List ℕ} → TakesEventIn t s trace os e 0 n m s' trace'
    → held_against t s (length trace) os e (take n trace') s' ≡ told as_ordered 0 []
unfolding held_against
own-accepted t s trace os e {n = n} {trace' = trace'} h =
    let r = step t s (length trace) os e in
    let ours : take n trace' ≡ r.words = rw (h.words, h.count) (take-append_seam r.words (drop (length r.words) trace)) in
    (exactly r _ _ as_ordered 0 []).told-where (yes (sym h.answer) ours h.state)
