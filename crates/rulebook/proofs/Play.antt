-- One-step laws of a play: when it is full, what a refused event leaves, where the next event's words stand. Assumes nothing.
use Prim.Native.Nat.{ℕ, ◌+◌, ◌-◌, ◌<◌}
use mathlib.Core.Path.{◌≡◌}
use mathlib.Core.Bool.{true}
use mathlib.Core.List.{List, [], ◌∷◌, ◌++◌}
use lib.ListN.{length}
use borrow.Author.Tests.{ne_eqb, lt-ltb}
use Rattle.rulebook.specs.Reasons.{accepted, bound}
use Rattle.rulebook.specs.State.{fits}
use Rattle.rulebook.specs.Step.{refused_state, first_fault, conclude, step}
use Rattle.rulebook.specs.Play.{ending, onto, goes_on, play_on, play}

module _ (t : List ℕ) (e : ℕ) (es s : List ℕ) (room : ℕ) where
  -- "when fewer than B trace words are free", whatever the event's word is
  pub full-below : accepted t ≡ true → fits t s ≡ true → room < bound t → play t s room (e ∷ es) ≡ ending 3 s
  unfolding play play_on goes_on step conclude first_fault refused_state
  full-below ok fit h = rw (ok, fit, lt-ltb room (bound t) h)

  -- "A refused event ends the play": it is not counted
  pub refused-ends : ((step t s room [] e).answer ≡ 0 → ⊥) → play_on t (e ∷ es) s room ≡ ending (step t s room [] e).answer (step t s room [] e).state
  unfolding play_on goes_on
  refused-ends n = rw (ne_eqb _ 0 n)

  -- "the joined trace": the words of what follows stand behind this event's, in the room that it left
  pub taken-goes-on : (step t s room [] e).answer ≡ 0
      → play_on t (e ∷ es) s room ≡ onto 1 (step t s room [] e).words (step t s room [] e).visits
      (play_on t es (step t s room [] e).state (room - length (step t s room [] e).words))
  unfolding play_on goes_on
  taken-goes-on z = rw z

  pub words-behind : (step t s room [] e).answer ≡ 0
      → (play_on t (e ∷ es) s room).words
      ≡ (step t s room [] e).words ++ (play_on t es (step t s room [] e).state (room - length (step t s room [] e).words)).words
  unfolding play_on goes_on
  words-behind z = rw z

  -- Q-10: the visits are added up
  pub visits-behind : (step t s room [] e).answer ≡ 0
      → (play_on t (e ∷ es) s room).visits
      ≡ (step t s room [] e).visits + (play_on t es (step t s room [] e).state (room - length (step t s room [] e).words)).visits
  unfolding play_on goes_on
  visits-behind z = rw z
