-- What is kept of one event that was held against the supplier's recording of it.
use Rattle.std.specs.Prelude.{◌≡◌, ℕ, Bool, true, false, cond, not, ◌&&◌, List, length, take, ◌==◌, ◌≢◌, nat_le}
use Rattle.rulebook.specs.Step.{refused_state}
use Rattle.rulebook.specs.Hold.{as_ordered}
use Rattle.session.specs.Printed.{taken}
use Rattle.telling.specs.Told.{held_event}
use Rattle.audit.specs.declared.Told.{Told}

-- the supplier's answer and words are what our step of event e orders, so that nothing is told
abbrev pub ordered : List ℕ → List ℕ → ℕ → ℕ → List ℕ → Bool
ordered t s e said ws = (held_event (taken t s e) said ws).verdict == as_ordered

-- the supplier's state, the first of its words, fits the table
abbrev pub fitting : List ℕ → List ℕ → List ℕ → Bool
fitting t s ws = nat_le (length s) (length ws) && refused_state t (take (length s) ws) == 0

-- from there it goes on, else from ours
abbrev pub on_from : List ℕ → List ℕ → List ℕ → List ℕ
on_from t s ws = cond (fitting t s ws) (take (length s) ws) s

-- `follow` of what is told of an event, nothing where it is as ordered: the event parted where something is told and could be written, and only then,
-- and only with `all`, it goes on from the supplier's state
pub record Followed (t s ws lines : List ℕ) (all : Bool) (r : Told) (s' : List ℕ) : Type 0 where
  pub state : s' ≡ cond (r.parted && all) (on_from t s ws) s
  pub parts : r.parted ≡ true → length lines ≢ 0
  pub told : r.going ≡ true → r.parted ≡ not (length lines == 0)
  pub stops : r.parted ≡ true → all ≡ false → r.going ≡ false

-- Event e taken from state s and held against the supplier's answer and words. An event parted where something is told of it and could be
-- written. Behind it stands our step's state; the supplier's where `all` are held, the event parted and the supplier's state fits.
pub record HeldOne (t : List ℕ) (e : ℕ) (s : List ℕ) (said : ℕ) (ws : List ℕ) (all : Bool) (r : Told) (s' : List ℕ) : Type 0 where
  pub state : s' ≡ cond (r.parted && (all && fitting t s ws)) (take (length s) ws) (taken t s e).state
  pub parts : r.parted ≡ true → ordered t s e said ws ≡ false
  -- where it goes on it is known whether the event parted, and it goes on behind one that did only with `all`
  pub told : r.going ≡ true → r.parted ≡ not (ordered t s e said ws)
  pub stops : r.parted ≡ true → all ≡ false → r.going ≡ false
