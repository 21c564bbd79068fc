-- Two results that a promise in numbers allows are equal, entry by entry; of a play `manager` says so (`one-play`), of a bus log `buslog` (`one-reading`).
-- Assumes nothing.
use Prim.Native.Nat.{ℕ}
use mathlib.Core.Path.{◌≡◌, sym, ◌∙◌}
use mathlib.Core.List.{List}
use Rattle.manager.specs.Promises.{ChecksTableIn, MakesFreshIn, TakesEventIn}

pub one-check : (t : List ℕ) (r r' p p' b b' : ℕ) → ChecksTableIn t r p b → ChecksTableIn t r' p' b' → (r ≡ r') × (p ≡ p') × (b ≡ b')
one-check t r r' p p' b b' h k = (h.0 ∙ sym k.0, h.1 ∙ sym k.1, h.2 ∙ sym k.2)

pub one-fresh : (t s : List ℕ) (r r' : ℕ) (a a' : List ℕ) → MakesFreshIn t s r a → MakesFreshIn t s r' a' → (r ≡ r') × (a ≡ a')
one-fresh t s r r' a a' h k = (h.answer ∙ sym k.answer, h.state ∙ sym k.state)

pub one-event : (t s trace os : List ℕ) (e r r' n n' v v' : ℕ) (a a' w w' : List ℕ) → TakesEventIn t s trace os e r n v a w
    → TakesEventIn t s trace os e r' n' v' a' w' → (r ≡ r') × (n ≡ n') × (v ≡ v') × (a ≡ a') × (w ≡ w')
one-event t s trace os e r r' n n' v v' a a' w w' h k = (
  h.answer ∙ sym k.answer,
  h.count ∙ sym k.count,
  h.visits ∙ sym k.visits,
  h.state ∙ sym k.state,
  h.words ∙ sym k.words,
)
