-- Every run has one without strangers' events that goes together with it: the shared events are sent again with B trace words, a taken one with outcomes
-- that have the calls of o and of the platform meet what they met. Assumes nothing.
use mathlib.Core.Path.{◌≡◌, refl, ap, ◌∙◌}
use mathlib.Core.Bool.{true}
use mathlib.Core.List.{List, [], ◌∷◌}
use Prim.Native.Nat.{ℕ}
use native.Mathlib.Omega.{arith}
use lib.Dec.{eqb}
use borrow.Author.Tests.{eqb-true, eqb-false}
use Rattle.rulebook.specs.Words.{all}
use Rattle.rulebook.specs.Table.{platform}
use Rattle.rulebook.specs.Reasons.{accepted, bound}
use Rattle.rulebook.specs.State.{fresh}
use Rattle.rulebook.specs.Step.{Result, outcomes_known, refused_event, step}
use Rattle.laws.proofs.Tests.{split}
use Rattle.laws.proofs.FitKept.{Fits}
use Rattle.laws.proofs.Play.{step-refused, step-done}
use Rattle.laws.proofs.Steps.{fresh-fits, step_fits}
use Rattle.stranger.specs.Logs.{Entry}
use Rattle.stranger.specs.Outcomes.{met, met_by, Agree}
use Rattle.stranger.specs.Nothing.{Sending, is_shared, shared, events_of, met_by_each, Lends, sending, Ran, StruckOut, NothingOfStrangers}
use Rattle.stranger.specs.Nothing as runs
use Rattle.stranger.proofs.Partner.{again, entry_from, taken-known}
use Rattle.stranger.proofs.Owners.{platform-known}
use Rattle.stranger.proofs.Nothing.{itself-known, same-own, kept-own, shared-not, shared-too, two_runs, after-each}

module _ (t : List ℕ) (h : accepted t ≡ true) (o : ℕ) where
  -- a shared event sent again from s₂: with which outcomes, and that they are known
  record Resent (s₂ : List ℕ) (x : Entry) : Type 0 where
    outcomes : List ℕ
    known : outcomes_known outcomes ≡ true
    agrees : Agree (met_by t o x) (met_by t o (sending t s₂ (bound t) outcomes x.event).entry)

  taken-again : (s₂ : List ℕ) → Fits t s₂ → (x : Entry) → refused_event t x.outcomes x.event ≡ 0 → Resent s₂ x
  unfolding sending
  taken-again s₂ fit x z =
      let a = again t o s₂ x z in
      let is = step-done t s₂ (bound t) a.outcomes x.event h fit (omega arith) a.taken in
      let words : (step t s₂ (bound t) a.outcomes x.event).words ≡ (entry_from t s₂ x.event a.outcomes).words = ap (λ (r : Result). r.words) is in
      record {
        outcomes = a.outcomes;
        known = taken-known t a.outcomes x.event a.taken;
        agrees = rw words a.agrees;
      }

  -- a refused one wrote nothing, so that its calls met nothing
  refused-again : (s₂ : List ℕ) (x : Entry) → x.words ≡ [] → Resent s₂ x
  unfolding met outcomes_known all
  refused-again s₂ x none = record { outcomes = []; known = refl; agrees = rw none tt }

  resent : (s₁ s₂ : List ℕ) (room : ℕ) (os : List ℕ) (e : ℕ) → Fits t s₁ → Fits t s₂ → Lends t room os → Resent s₂ (sending t s₁ room os e).entry
  unfolding sending
  resent s₁ s₂ room os e fit₁ fit₂ lends =
      split (eqb (refused_event t os e) 0)
      (λ a. taken-again s₂ fit₂ (sending t s₁ room os e).entry (eqb-true _ _ a))
      (λ a. refused-again s₂ (sending t s₁ room os e).entry
      (ap (λ (r : Result). r.words) (step-refused t s₁ room os e h fit₁ lends.enough (eqb-false _ _ a))))

  pub struck-out : (s₁ s₂ : List ℕ) (xs : List Sending) → Fits t s₁ → Fits t s₂ → Ran t o s₁ xs → StruckOut t o (Ran t o s₂) xs
  unfolding shared events_of met_by_each sending
  struck-out s₁ s₂ xs fit₁ fit₂ runs.none = record { run = []; went = runs.none; own = refl; meets = record { events = refl; outcomes = λ two. tt } }
  struck-out s₁ s₂ xs fit₁ fit₂ (runs.sent room os e {xs = later} lends r) =
      let x = sending t s₁ room os e in
      let next = step_fits t s₁ room os e h fit₁ in
      split (is_shared o e)
      (λ k. let a = resent s₁ s₂ room os e fit₁ fit₂ (lends k) in
      let y = sending t s₂ (bound t) a.outcomes e in
      let p = struck-out x.entry.state y.entry.state later next (step_fits t s₂ (bound t) a.outcomes e h fit₂) r in
      record {
        run = y ∷ p.run;
        went = runs.sent (bound t) a.outcomes e (λ _. record { enough = omega arith; known = a.known }) p.went;
        own = shared-too o y p.run k ∙ ap (λ (ys : List Sending). y ∷ ys) p.own;
        meets = record {
          events = rw (shared-too o x later k, shared-too o y p.run k) (ap (λ (es : List ℕ). e ∷ es) p.meets.events);
          outcomes = λ two. rw (shared-too o x later k, shared-too o y p.run k) (a.agrees, p.meets.outcomes two);
        };
      })
      (λ k. let p = struck-out x.entry.state s₂ later next fit₂ r in
      record {
        run = p.run;
        went = p.went;
        own = p.own;
        meets = record {
          events = rw (shared-not o x later k) p.meets.events;
          outcomes = λ two. rw (shared-not o x later k) (p.meets.outcomes two);
        };
      })

-- Q-14 holds of every accepted table, from its fresh state, of the rulebook's runs, and of whatever is shown to be the same.
module _ (t : List ℕ) (h : accepted t ≡ true) (Went : ℕ → List Sending → Type 0) (ran : (o : ℕ) (xs : List Sending) → Went o xs → Ran t o (fresh t) xs)
    (went : (o : ℕ) (xs : List Sending) → Ran t o (fresh t) xs → Went o xs) where
  struck : (o : ℕ) (xs : List Sending) → Went o xs → StruckOut t o (Went o) xs
  struck o xs w =
      let p = struck-out t h o (fresh t) (fresh t) xs (fresh-fits t h) (fresh-fits t h) (ran o xs w) in
      record { run = p.run; went = went o p.run p.went; own = p.own; meets = p.meets }

  pub nothing-of-strangers : NothingOfStrangers t (fresh t) Went
  nothing-of-strangers =
      record {
        own = λ o. after-each t h Went ran o (λ x y. kept-own t o o (itself-known o));
        platforms = λ o. after-each t h Went ran o (λ x y. kept-own t o platform (platform-known o));
        ends = λ o xs ys w u but. let b = two_runs t h Went ran o xs ys w u but in same-own t o o (itself-known o) b.view b.words;
        struck = struck;
      }
