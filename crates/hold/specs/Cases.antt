-- The cases of Q-7 without a word of how they are looked for: a verdict is given exactly when its case holds, and the part that goes with it is
-- the case's, word for word.
use Rattle.std.specs.Prelude.{ℕ, ◌<◌, ◌≡◌, ◌⊎◌, List, [], length, get_or, take, drop}
use Rattle.rulebook.specs.Step.{Result}
use Rattle.rulebook.specs.Hold.{held_by, told, as_ordered, refused, traces_part, theirs_stops, ours_stops, states_part}

-- two recordings part at word k: the same before it, both have it, and it differs
pub record PartAt (a b : List ℕ) (k : ℕ) : Type 0 where
  pub same : take k a ≡ take k b
  pub here : k < length a
  pub there : k < length b
  pub differ : get_or a k 0 ≡ get_or b k 0 → ⊥

-- a merely stops early, at its length k
pub record StopsAt (a b : List ℕ) (k : ℕ) : Type 0 where
  pub all : k ≡ length a
  pub same : take k b ≡ a
  pub more : k < length b

-- "the first differing state word (or the shorter length)"
abbrev pub Apart : List ℕ → List ℕ → ℕ → Type 0
Apart a b k = PartAt a b k ⊎ StopsAt a b k ⊎ StopsAt b a k

-- our result r, the supplier's trace and state; the verdict's number, the number that it gives, and the part
pub data Case (r : Result) (theirs their_state : List ℕ) : ℕ → ℕ → List ℕ → Type 0 where
  refuses : (r.answer ≡ 0 → ⊥) → Case r theirs their_state refused r.answer []
  traces : {k : ℕ} → r.answer ≡ 0 → PartAt r.words theirs k → Case r theirs their_state traces_part k (drop k theirs)
  theirs-stop : {k : ℕ} → r.answer ≡ 0 → StopsAt theirs r.words k → Case r theirs their_state theirs_stops k (drop k r.words)
  ours-stop : {k : ℕ} → r.answer ≡ 0 → StopsAt r.words theirs k → Case r theirs their_state ours_stops k (drop k theirs)
  states : {k : ℕ} → r.answer ≡ 0 → theirs ≡ r.words → Apart r.state their_state k → Case r theirs their_state states_part k []
  yes : r.answer ≡ 0 → theirs ≡ r.words → their_state ≡ r.state → Case r theirs their_state as_ordered 0 []

-- "Each other verdict exactly when its case holds"
pub record Exactly (r : Result) (theirs their_state : List ℕ) (v k : ℕ) (p : List ℕ) : Type 0 where
  pub told-where : Case r theirs their_state v k p → held_by r theirs their_state ≡ told v k p
  pub only-there : held_by r theirs their_state ≡ told v k p → Case r theirs their_state v k p

-- "Yes exactly if our step is done and the supplier's trace and state are its words and its state, whoever wrote them"
pub record Yes (r : Result) (theirs their_state : List ℕ) : Type 0 where
  pub said-where : (r.answer ≡ 0) × (theirs ≡ r.words) × (their_state ≡ r.state) → (held_by r theirs their_state).verdict ≡ as_ordered
  pub only-where : (held_by r theirs their_state).verdict ≡ as_ordered → (r.answer ≡ 0) × (theirs ≡ r.words) × (their_state ≡ r.state)
