-- What the demands conclude of one call follows from what its entry promises. Assumes nothing.
use mathlib.Core.Path.{◌≡◌, sym, ◌∙◌}
use mathlib.Core.Bool.{true, false}
use mathlib.Core.List.{List, append-nil}
use Prim.Native.Nat.{ℕ}
use native.Mathlib.Omega.{arith}
use lib.ListN.{length}
use lib.Dec.{ltb}
use Rattle.rulebook.specs.Reasons.{accepted, bound}
use Rattle.rulebook.specs.State.{fits}
use Rattle.rulebook.specs.Step.{refused_state, well_formed, outcomes_known, first_fault}
use Rattle.rulebook.proofs.Outcomes.{first_step, above-one}
use Rattle.laws.proofs.Tests.{split, clash}
use Rattle.laws.proofs.Visits.{step-counted, step-within, step-most}
use Rattle.laws.proofs.Facts.{facts-of}
use Rattle.laws.proofs.Levels.{levels}
use Rattle.laws.proofs.MoreLevels.{more-levels}
use Rattle.laws.proofs.Started.{lists-started, unreached-refused}
use Rattle.tables.specs.Finding.{promised}
use Rattle.manager.specs.Promises.{ChecksTableIn, MakesFreshIn, TakesEventIn, PlaysIn}
use Rattle.demands.specs.Calls as calls
use Rattle.demands.specs.Conclusions.{OfTable, OfFresh, OfEvent, OfPlay}
use Rattle.demands.proofs.Demand1.{table-answered, fresh-answered, event-answered}
use Rattle.demands.proofs.Demand2.{steps, lists, evaluated, accepts}
use Rattle.demands.proofs.Requests.{clears, heards}
use Rattle.demands.proofs.Demand3.{demand-3}
use Rattle.demands.proofs.Nothing.{nothing, sent-appended, one-call, one-play}
use Rattle.demands.proofs.Calls.{appended}
use Rattle.demands.proofs.Plays.{play-answered, play-log, play-state, play-words}
use Rattle.demands.proofs.Resumed.{play-goes}

pub of-table : (t : List ℕ) (reason place b : ℕ) → ChecksTableIn t reason place b → OfTable t reason place b
unfolding promised
of-table t reason place b p =
    record {
      answered = table-answered t reason place b p;
      accepts = accepts t reason place b p;
      levels = λ z. levels t ((accepts t reason place b p).0 z);
      more_levels = λ z. more-levels t (facts-of t ((accepts t reason place b p).0 z));
      started = rw (p.0, p.1) (lists-started t);
    }

pub of-fresh : (t s : List ℕ) (k : ℕ) (s' : List ℕ) → MakesFreshIn t s k s' → OfFresh t s k s'
of-fresh t s k s' p = record { answered = fresh-answered t s k s' p; waits = λ z. demand-3 t s k s' p z; nothing = λ z. nothing t s k s' p z }

-- a table with a reason is met before all else
bad-table : (t s : List ℕ) (room : ℕ) (os : List ℕ) (e k : ℕ) → k ≡ first_fault t s room os e → accepted t ≡ false → k ≡ 1
unfolding first_fault
bad-table t s room os e k is a = is ∙ rw a

-- a call answered 0 was lent no outcome above 1
unknown-refused : (t s : List ℕ) (room : ℕ) (os : List ℕ) (e k : ℕ) → k ≡ first_fault t s room os e → k ≡ 0 → outcomes_known os ≡ true
unfolding first_fault
unknown-refused t s room os e k is z =
    split (outcomes_known os) (λ d. d)
    (λ d. absurd
    (split (accepted t)
    (λ a. split (fits t s)
    (λ b. split (ltb room (bound t)) (λ c. let y : 3 ≡ 0 = rw (a, b, c) at (sym is ∙ z) in omega arith)
    (λ c. split (well_formed e) (λ f. let y : 8 ≡ 0 = rw (a, b, c, f, d) at (sym is ∙ z) in omega arith)
    (λ f. let y : 4 ≡ 0 = rw (a, b, c, f) at (sym is ∙ z) in omega arith)))
    (λ b. let y : 2 ≡ 0 = rw (a, b) at (sym is ∙ z) in omega arith))
    (λ a. let y : 1 ≡ 0 = rw a at (sym is ∙ z) in omega arith)))

pub of-event : (t s trace os : List ℕ) (e k n v : ℕ) (s' trace' : List ℕ) → TakesEventIn t s trace os e k n v s' trace'
    → OfEvent t s trace os e k n v s' trace'
of-event t s trace os e k n v s' trace' p =
    record {
      answered = event-answered t s trace os e k n v s' trace' p;
      steps = λ z. steps t s trace os e k n v s' trace' p z;
      lists = λ z. lists t s trace os e k n v s' trace' p z;
      clears = λ z. clears t s trace os e k n v s' trace' p z;
      heard = λ z. heards t s trace os e k n v s' trace' p z;
      unreached = λ l un. bad-table t s (length trace) os e k (event-answered t s trace os e k n v s' trace' p).number (unreached-refused t l un);
      first = λ one known. rw (← first_step t one s (length trace) os e known) p;
      above = λ j b more z. clash (unknown-refused t s (length trace) os e k (event-answered t s trace os e k n v s' trace' p).number z)
          (above-one os j b more);
      visits = record {
        evaluations = λ z. evaluated t s trace os e k n v s' trace' p z;
        written = rw (p.visits, p.count) (step-counted t s (length trace) os e);
        within = rw p.visits (step-within t s (length trace) os e);
        most = rw p.visits (step-most t s (length trace) os e);
      };
      taken = λ z s₀ xs q is. appended s q is (calls.taken os e p z calls.none);
      sent = λ o lends s₀ xs q is. sent-appended t o s q is (one-call t o os e p lends);
    }

bad-play : (t s : List ℕ) (k : ℕ) {A : Type 0} → ((refused_state t s ≡ 0 → ⊥) → (k ≡ refused_state t s) × A) → accepted t ≡ false → k ≡ 1
unfolding refused_state
bad-play t s k f a = rw a at (f (λ z. let y : 1 ≡ 0 = rw a at z in omega arith)).0

pub of-play : (t s trace es : List ℕ) (k n m v : ℕ) (s' trace' : List ℕ) → PlaysIn t s trace es k n m v s' trace' → OfPlay t s trace es k n m v s' trace'
of-play t s trace es k n m v s' trace' p =
    record {
      answered = play-answered t s trace es k n m v s' trace' p;
      goes = play-goes t s trace es k n m v s' trace' p;
      log = play-log t s trace es k n m v s' trace' p;
      state = play-state t s trace es k n m v s' trace' p;
      words = play-words t s trace es k n m v s' trace' p;
      unreached = λ l un. bad-play t s k (play-answered t s trace es k n m v s' trace' p).unstood (unreached-refused t l un);
      taken = λ s₀ xs q is. appended s q is (rw append-nil at (calls.played es p calls.none));
      sent = λ o s₀ xs q is. sent-appended t o s q is (one-play t o es p);
    }
