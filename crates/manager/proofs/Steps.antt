-- The event call: its exits, and what its run needs. Assumes nothing.
use Rattle.std.proofs.Common.{◌≡◌, ℕ, ◌<◌, ◌≤◌, true, List, length, refl, ◌∙◌, arith, le-ltb, Err}
use Rattle.rulebook.specs.Reasons.{bound, accepted}
use Rattle.rulebook.specs.Events.{happen}
use Rattle.rulebook.specs.Step.{refused_state, first_fault, refused_event, conclude, heeded, step, handle}
use Rattle.laws.proofs.Facts.{facts}
use Rattle.laws.proofs.Steps.{happen-paid}
use Rattle.laws.proofs.Play.{stood-table, stood-state, step-unadmitted, step-full}
use Rattle.laws.proofs.Visits.{happen-most}
use Rattle.lists.specs.Runs.{Safe}
use Rattle.arbitration.specs.Asked.{Bounded}
use Rattle.events.specs.declared.Refusal.{Refusal}
use Rattle.events.specs.declared.Refusal.TheVariants as refusals
use Rattle.events.specs.Answers.{Answered, unadmitted, refusal_number, number_of, count_of, visits_of, Reports}
use Rattle.states.specs.declared.NotAdmitted.{NotAdmitted}
use Rattle.states.specs.declared.NotAdmitted.TheVariants.{BadTable, UnfitState}
use Rattle.states.specs.Admission.{Admits, number_of as admission_number}
use Rattle.manager.specs.Promises.{Admitted}

-- table or state does not stand
pub reports-unadmitted : (t s trace os : List ℕ) (e : ℕ) (r : Answered) → (refused_state t s ≡ 0 → ⊥) → number_of r ≡ refused_state t s → count_of r ≡ 0
    → visits_of r ≡ 0 → Reports (step t s (length trace) os e) trace r s trace
reports-unadmitted t s trace os e r n is none unvisited =
    rw (step-unadmitted t s n (length trace) os e) (record { answer = is; count = none; visits = unvisited; state = refl; words = refl })

-- a refusal is not answer 0
pub refuses : (why : Refusal) → refusal_number why ≡ 0 → ⊥
refuses refusals.BadTable z = omega arith
refuses refusals.UnfitState z = omega arith
refuses refusals.ShortTrace z = omega arith
refuses refusals.Malformed z = omega arith
refuses refusals.NoSuchThing z = omega arith
refuses refusals.NotItsOwner z = omega arith
refuses refusals.BadOutcome z = omega arith

-- what a refused admission tells
module _ {t s : List ℕ} (why : NotAdmitted) (told : Admits t s (Err why)) where
  pub unadmitted-number : number_of (Err (unadmitted why)) ≡ refused_state t s
  unadmitted-number = same why ∙ told.number
    where
      same : (e : NotAdmitted) → number_of (Err (unadmitted e)) ≡ admission_number (Err e)
      same BadTable = refl
      same UnfitState = refl

  pub unadmitted-refused : refused_state t s ≡ 0 → ⊥
  unadmitted-refused z = refuses (unadmitted why) (unadmitted-number ∙ z)

-- what the run needs: its words fit the trace, and its visits are few
pub safe : (t s trace os : List ℕ) (e : ℕ) → accepted t ≡ true → bound t ≤ length trace → Safe (happen t e os s) trace
safe t s trace os e h enough =
    record {
      room = let paid = happen-paid t (facts t h) e os s in omega arith;
      few = let most = happen-most t (facts t h) e os s in omega arith;
    }

pub bounded-by : (t : List ℕ) → accepted t ≡ true → Bounded t
bounded-by t ok = let f = facts t ok in record { nested = λ l b. (f.list l b).nested; few = omega (arith, f.counts.rules) }

-- Behind the check of table and state, which gave b.

module _ {t s : List ℕ} {b : ℕ} (ok : Admitted t s b) (trace os : List ℕ) (e : ℕ) where
  table-stands : accepted t ≡ true
  table-stands = stood-table t s ok.stands

  pub short-trace : length trace < b → Reports (step t s (length trace) os e) trace (Err refusals.ShortTrace) s trace
  short-trace less =
      let is = ok.bound in
      rw (step-full t s (length trace) os e table-stands (stood-state t s ok.stands) (omega arith))
      (record { answer = refl; count = refl; visits = refl; state = refl; words = refl })

  enough : b ≤ length trace → bound t ≤ length trace
  enough r = let is = ok.bound in omega arith

  pub goes_on : b ≤ length trace → step t s (length trace) os e ≡ handle t s os e
  unfolding step handle conclude first_fault refused_event
  goes_on r = rw (table-stands, stood-state t s ok.stands, le-ltb (length trace) (bound t) (enough r))

  -- what the run asks for
  pub bounded : Bounded t
  bounded = bounded-by t table-stands

  pub run-safe : b ≤ length trace → Safe (happen t e (heeded t os) s) trace
  run-safe r = safe t s trace (heeded t os) e table-stands (enough r)
