-- THE STRANGERS' THEOREM. For every o (the owners are 0 to 15): a stranger's entry is unseen by o; two logs whose events agree once the
-- strangers' are struck out, and whose calls of o and of the platform meet the same outcomes as far as both go, show o the same after each
-- kept entry: every state word and every trace word of o and of the platform. Assumes nothing.
use mathlib.Core.Path.{◌≡◌, refl, sym, ◌∙◌, ap, ap₂}
use mathlib.Core.Bool.{true, false, cond}
use mathlib.Core.List.{List, [], ◌∷◌, ◌++◌}
use Prim.Native.Nat.{ℕ, ◌+◌}
use native.Mathlib.Nat.{zero-add}
use native.Mathlib.Omega.{arith}
use borrow.Author.Tests.{eqb-true}
use Rattle.rulebook.specs.Reasons.{accepted}
use Rattle.rulebook.specs.Events.{happen}
use Rattle.rulebook.specs.Step.{heeded}
use Rattle.laws.proofs.Tests.{split, clash}
use Rattle.laws.proofs.Facts.{facts}
use Rattle.laws.proofs.Happen.{tick-owner}
use Rattle.stranger.specs.Logs.{Entry, Follows, Log, strangers_entry, struck_out}
use Rattle.stranger.specs.Demand.{ticks, Moment, moments}
use Rattle.stranger.specs.View.{SameView, own_words, Unseen, seen_of, seen}
use Rattle.stranger.specs.Outcomes.{met_by, met_in, Agree, AgreeEach, ButStrangers}
use Rattle.stranger.proofs.Logs.{taken}
use Rattle.stranger.proofs.View.{same-view-sym, same-view-trans, same-visible}
use Rattle.stranger.proofs.Owners.{platform-known}
use Rattle.stranger.proofs.Events.{happen-confined}

-- what o sees of two entries is the same
pub record SameSeen (t : List ℕ) (o : ℕ) (x y : Entry) : Type 0 where
  pub event : x.event ≡ y.event
  pub state : SameView t o x.state y.state
  pub words : own_words o x.words ≡ own_words o y.words

pub empty : {e : ℕ} {es : List ℕ} → ◌≡◌ {A = List ℕ} [] (e ∷ es) → ⊥
empty z = let y : ◌≡◌ {A = ℕ} 0 1 = cc in omega arith

module _ (t : List ℕ) (h : accepted t ≡ true) (o : ℕ) where
  -- One entry: a stranger's, and any other from two states that o cannot tell apart.

  pub strangers-unseen : (s : List ℕ) (x : Entry) → Follows t s x → strangers_entry o x ≡ true → Unseen t o s x
  unfolding strangers_entry own_words
  strangers-unseen s x f k =
      let alike = (happen-confined t (facts t h) o x.event (taken f)).hidden k (heeded t x.outcomes) s in
      record { state = rw f.state alike.view; words = rw f.words (sym alike.own) }

  -- it is no tick
  pub strangers-tick : (s : List ℕ) (x : Entry) → Follows t s x → strangers_entry o x ≡ true → ticks x ≡ false
  unfolding strangers_entry ticks
  strangers-tick s x f k =
      split (ticks x)
      (λ e. clash (rw (tick-owner t x.event (taken f) (eqb-true _ _ (unfold ticks in e))) at k) (platform-known o))
      (λ e. e)

  pub kept_same : (s₁ s₂ : List ℕ) (x y : Entry) → Follows t s₁ x → Follows t s₂ y → x.event ≡ y.event → strangers_entry o x ≡ false → SameView t o s₁ s₂
      → Agree (met_by t o x) (met_by t o y) → SameSeen t o x y
  unfolding strangers_entry
  kept_same s₁ s₂ x y f g e k v agree =
      let lent-x = heeded t x.outcomes in let lent-y = heeded t y.outcomes in
      let to : y.state ≡ (happen t x.event lent-y s₂).state = g.state ∙ ap (λ (i : ℕ). (happen t i lent-y s₂).state) (sym e) in
      let ws : y.words ≡ (happen t x.event lent-y s₂).words = g.words ∙ ap (λ (i : ℕ). (happen t i lent-y s₂).words) (sym e) in
      let alike = (happen-confined t (facts t h) o x.event (taken f)).alike k lent-x lent-y s₁ s₂ v (rw (f.words, ws) at agree) in
      record { event = e; state = rw (f.state, to) alike.view; words = rw (f.words, ws) alike.own }

  -- Two logs side by side: what holds of two empty ones, and goes on past a stranger's entry on either side and past a kept entry on
  -- both, holds of any two that differ in strangers' events alone.
  module _ (P : List ℕ → List Entry → List ℕ → List Entry → Type 0)
      (none : (s₁ s₂ : List ℕ) → P s₁ [] s₂ [])
      (left : (s₁ s₂ : List ℕ) (x : Entry) (xs ys : List Entry) → Follows t s₁ x → strangers_entry o x ≡ true → P x.state xs s₂ ys → P s₁ (x ∷ xs) s₂ ys)
      (right : (s₁ s₂ : List ℕ) (y : Entry) (xs ys : List Entry) → Follows t s₂ y → strangers_entry o y ≡ true → P s₁ xs y.state ys → P s₁ xs s₂ (y ∷ ys))
      (both : (s₁ s₂ : List ℕ) (x y : Entry)
      (xs ys : List Entry) → Follows t s₁ x → Follows t s₂ y → strangers_entry o x ≡ false → strangers_entry o y ≡ false → SameView t o s₁ s₂ → SameSeen t o x y → P x.state xs y.state ys → P s₁ (x ∷ xs) s₂ (y ∷ ys)) where
    beside-by : (s₁ s₂ : List ℕ) (xs ys : List Entry) → Log t s₁ xs → Log t s₂ ys → SameView t o s₁ s₂ → struck_out o xs ≡ struck_out o ys
        → AgreeEach (met_in t o xs) (met_in t o ys) → P s₁ xs s₂ ys
    unfolding struck_out met_in
    beside-by s₁ s₂ [] [] l m v e a = none s₁ s₂
    beside-by s₁ s₂ [] (y ∷ ys) l m v e a =
        split (strangers_entry o y)
        (λ k. right s₁ s₂ y [] ys m.0 k
        (beside-by s₁ y.state [] ys l m.1 (same-view-trans t o v (strangers-unseen s₂ y m.0 k).state) (rw (k, struck_out) at e) tt))
        (λ k. absurd (empty (rw (k, struck_out) at e)))
    beside-by s₁ s₂ (x ∷ xs) [] l m v e a =
        split (strangers_entry o x)
        (λ k. left s₁ s₂ x xs [] l.0 k
        (beside-by x.state s₂ xs [] l.1 m (same-view-trans t o (same-view-sym t o (strangers-unseen s₁ x l.0 k).state) v)
        (rw (k, struck_out) at e) (rw (k, met_in) at a)))
        (λ k. absurd (empty (sym (rw (k, struck_out) at e))))
    beside-by s₁ s₂ (x ∷ xs) (y ∷ ys) l m v e a =
        split (strangers_entry o x)
        (λ k. left s₁ s₂ x xs (y ∷ ys) l.0 k
        (beside-by x.state s₂ xs (y ∷ ys) l.1 m (same-view-trans t o (same-view-sym t o (strangers-unseen s₁ x l.0 k).state) v)
        (rw (k, struck_out) at e) (rw (k, met_in) at a)))
        (λ k. split (strangers_entry o y)
        (λ j. right s₁ s₂ y (x ∷ xs) ys m.0 j
        (beside-by s₁ y.state (x ∷ xs) ys l m.1 (same-view-trans t o v (strangers-unseen s₂ y m.0 j).state)
        (rw (j, struck_out) at e) (rw (j, met_in) at a)))
        (λ j. let heads : x.event ∷ struck_out o xs ≡ y.event ∷ struck_out o ys = rw (k, j, struck_out) at e in
        let agree : Agree (met_by t o x) (met_by t o y) × AgreeEach (met_in t o xs) (met_in t o ys) = rw (k, j, met_in) at a in
        let same = kept_same s₁ s₂ x y l.0 m.0 (cc) k v agree.0 in
        both s₁ s₂ x y xs ys l.0 m.0 k j v same (beside-by x.state y.state xs ys l.1 m.1 same.state (cc) agree.1)))

    pub beside : (s₁ s₂ : List ℕ) (xs ys : List Entry) → Log t s₁ xs → Log t s₂ ys → SameView t o s₁ s₂ → ButStrangers t o xs ys → P s₁ xs s₂ ys
    beside s₁ s₂ xs ys l m v d = beside-by s₁ s₂ xs ys l m v d.events d.outcomes

  -- o sees the same

  same_seen : {x y : Entry} → SameSeen t o x y → seen_of t o x ≡ seen_of t o y
  unfolding seen_of
  same_seen e i = record { state = same-visible t o e.state i; words = e.words i }

  pub seen-beside : (s₁ s₂ : List ℕ) (xs ys : List Entry) → Log t s₁ xs → Log t s₂ ys → SameView t o s₁ s₂ → ButStrangers t o xs ys
      → seen t o xs ≡ seen t o ys
  unfolding seen
  seen-beside =
      beside (λ s₁ xs s₂ ys. seen t o xs ≡ seen t o ys) (λ s₁ s₂. refl)
      (λ s₁ s₂ x xs ys f k ih. rw (k, seen) ih) (λ s₁ s₂ y xs ys f k ih. rw (k, seen) ih)
      (λ s₁ s₂ x y xs ys f g k j v same ih. rw (k, j, seen) (ap₂ ◌∷◌ (same_seen same) ih))

  -- Moments fall at the same ticks, if a stranger's entry brings none and o's and the platform's bring the same.
  module _ (bring : ℕ → List ℕ → Entry → List Moment)
      (quiet : (j : ℕ) (s : List ℕ) (x : Entry) → Follows t s x → strangers_entry o x ≡ true → bring j s x ≡ [])
      (alike : (j : ℕ) (s₁ s₂ : List ℕ)
      (x y : Entry) → Follows t s₁ x → Follows t s₂ y → SameView t o s₁ s₂ → SameSeen t o x y → bring j s₁ x ≡ bring j s₂ y) where
    strange : (j : ℕ) (s : List ℕ) (x : Entry) (xs : List Entry) → Follows t s x → strangers_entry o x ≡ true
        → moments bring j s (x ∷ xs) ≡ moments bring j x.state xs
    unfolding moments
    strange j s x xs f k = rw (strangers-tick s x f k, zero-add j, quiet j s x f k)

    same-ticks : (x y : Entry) → x.event ≡ y.event → ticks x ≡ ticks y
    unfolding ticks
    same-ticks x y e = rw e

    pub moments-beside : (s₁ s₂ : List ℕ) (xs ys : List Entry) → Log t s₁ xs → Log t s₂ ys → SameView t o s₁ s₂ → ButStrangers t o xs ys → (j : ℕ)
        → moments bring j s₁ xs ≡ moments bring j s₂ ys
    unfolding moments
    moments-beside =
        beside (λ s₁ xs s₂ ys. (j : ℕ) → moments bring j s₁ xs ≡ moments bring j s₂ ys) (λ s₁ s₂ j. refl)
        (λ s₁ s₂ x xs ys f k ih j. strange j s₁ x xs f k ∙ ih j)
        (λ s₁ s₂ y xs ys f k ih j. ih j ∙ sym (strange j s₂ y ys f k))
        (λ s₁ s₂ x y xs ys f g k z v same ih j.
        rw (same-ticks x y same.event) (ap₂ ◌++◌ (alike (cond (ticks y) 1 0 + j) s₁ s₂ x y f g v same) (ih (cond (ticks y) 1 0 + j))))
