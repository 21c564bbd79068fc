-- The verdicts, one after the other, and the words that go with them. Assumes nothing.
use Prim.Native.Nat.{ℕ, ◌<◌, ◌≤◌, min}
use mathlib.Core.Path.{◌≡◌, refl, sym, ap, ◌∙◌}
use mathlib.Core.List.{List}
use native.Mathlib.Omega.{arith}
use lib.ListN.{length, take, drop, length-append}
use lib.Seq.{take-append_seam}
use borrow.Author.Tests.{eq-eqb, ne_eqb, lt-ltb, le-ltb}
use Rattle.std.proofs.lemmas.List.{take_min, drop_min}
use Rattle.rulebook.specs.Step.{step}
use Rattle.rulebook.specs.Hold.{parting, held_states, held_traces, beside, held_by, held_against}
use Rattle.rulebook.specs.Hold.{as_ordered, refused, traces_part, theirs_stops, ours_stops, states_part}
use Rattle.manager.specs.Promises.{TakesEventIn}
use Rattle.hold.specs.Promises.{TellsVerdictIn, HoldsIn}

-- what a recording does not have is left out; to go when `telling` cites the library's two

pub front-least : (ws : List ℕ) (n : ℕ) → take (min n (length ws)) ws ≡ take n ws
front-least ws n = take_min n ws

pub tail-least : (ws : List ℕ) (n : ℕ) → drop (min n (length ws)) ws ≡ drop n ws
tail-least ws n = drop_min n ws

module _ (ours theirs : List ℕ) (k : ℕ) (is : k ≡ parting ours theirs) where
  pub states-ours : k < length ours → TellsVerdictIn (held_states (parting ours theirs) ours theirs) states_part k
  unfolding held_states
  states-ours h = rw (← is, lt-ltb k (length ours) h) (record { verdict = refl; number = refl })

  module _ (past : length ours ≤ k) where
    pub states-theirs : k < length theirs → TellsVerdictIn (held_states (parting ours theirs) ours theirs) states_part k
    unfolding held_states
    states-theirs h = rw (← is, le-ltb k (length ours) past, lt-ltb k (length theirs) h) (record { verdict = refl; number = refl })

    pub states-same : length theirs ≤ k → TellsVerdictIn (held_states (parting ours theirs) ours theirs) as_ordered 0
    unfolding held_states
    states-same h = rw (← is, le-ltb k (length ours) past, le-ltb k (length theirs) h) (record { verdict = refl; number = refl })

module _ (ours state theirs their_state : List ℕ) (k : ℕ) (is : k ≡ parting ours theirs) where
  pub traces-part : k < length ours → k < length theirs → TellsVerdictIn (beside ours state theirs their_state) traces_part k
  unfolding beside held_traces
  traces-part a b = rw (← is, lt-ltb k (length ours) a, lt-ltb k (length theirs) b) (record { verdict = refl; number = refl })

  pub theirs-stop : k < length ours → length theirs ≤ k → TellsVerdictIn (beside ours state theirs their_state) theirs_stops k
  unfolding beside held_traces
  theirs-stop a b = rw (← is, lt-ltb k (length ours) a, le-ltb k (length theirs) b) (record { verdict = refl; number = refl })

  pub ours-stop : length ours ≤ k → k < length theirs → TellsVerdictIn (beside ours state theirs their_state) ours_stops k
  unfolding beside held_traces
  ours-stop a b = rw (← is, le-ltb k (length ours) a, lt-ltb k (length theirs) b) (record { verdict = refl; number = refl })

  pub then-states : {v j : ℕ} → length ours ≤ k → length theirs ≤ k → TellsVerdictIn (held_states (parting state their_state) state their_state) v j
      → TellsVerdictIn (beside ours state theirs their_state) v j
  unfolding beside held_traces
  then-states a b h = rw (← is, le-ltb k (length ours) a, le-ltb k (length theirs) b) h

-- our step taken, refused or done, as the three numbers that are read off its answer tell
module _ (t s trace os : List ℕ) (e : ℕ) {k₀ n₀ m₀ : ℕ} {s' trace' : List ℕ}
    (h : TakesEventIn t s trace os e k₀ n₀ m₀ s' trace') {n m : ℕ} (counted : n ≡ n₀) (visited : m ≡ m₀) where
  abbrev words : List ℕ
  words = (step t s (length trace) os e).words

  pub count-inside : n ≤ length trace'
  count-inside = omega (arith, counted, h.count, ap length h.words, length-append words (drop (length words) trace))

  our-words : take n trace' ≡ words
  our-words = rw (h.words, counted, h.count) (take-append_seam words (drop (length words) trace))

  module _ (theirs their_state : List ℕ) where
    pub step-refused : {k : ℕ} → k ≡ k₀ → (k₀ ≡ 0 → ⊥) → HoldsIn t s trace os e theirs their_state refused k n m s' trace'
    unfolding held_against held_by
    step-refused numbered not =
        let other = ne_eqb (step t s (length trace) os e).answer 0 (λ z. not (h.answer ∙ z)) in
        record {
          tells = rw other (record { verdict = refl; number = numbered ∙ h.answer });
          count = counted ∙ h.count;
          visits = visited ∙ h.visits;
          state = h.state;
          words = h.words;
        }

    pub step-done : {v j : ℕ} → k₀ ≡ 0 → TellsVerdictIn (beside (take n trace') s' theirs their_state) v j
        → HoldsIn t s trace os e theirs their_state v j n m s' trace'
    unfolding held_against held_by
    step-done z told =
        record {
          tells = rw (eq-eqb (step t s (length trace) os e).answer 0 (sym h.answer ∙ z)) (rw (our-words, h.state) at told);
          count = counted ∙ h.count;
          visits = visited ∙ h.visits;
          state = h.state;
          words = h.words;
        }
