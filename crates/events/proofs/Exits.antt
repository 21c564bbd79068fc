-- The exits of one event. Assumes nothing.
use Prim.Native.Nat.{ℕ}
use Rattle.std.specs.Prelude.{Result, Ok, Err}
use mathlib.Core.Path.{◌≡◌, refl, sym, ◌∙◌}
use mathlib.Core.Bool.{Bool, true, false}
use mathlib.Core.List.{List}
use lib.Dec.{eqb}
use borrow.Author.Tests.{ne_eqb}
use Rattle.rulebook.specs.Lists.{start}
use Rattle.rulebook.specs.Arbitration.{arbitrate}
use Rattle.rulebook.specs.Events.{event_kind, event_index, event_value, only, request, tick, changed, happen}
use Rattle.rulebook.specs.Step.{heeded, handle}
use Rattle.lists.specs.declared.Written.{Written}
use Rattle.lists.specs.Runs.{Ran}
use Rattle.things.specs.Requests.{Requested}
use Rattle.things.proofs.Requests.{request-goes}
use Rattle.refusals.specs.Answers.{answer_of, event_checked, number_of as unheeded_number}
use Rattle.refusals.proofs.Answers.{handle-taken, handle-refused}
use Rattle.refusals.specs.declared.Unheeded.{Unheeded}
use Rattle.refusals.specs.declared.Unheeded.TheVariants.{Malformed, BadOutcome, NoSuchThing, NotItsOwner}
use Rattle.events.specs.Answers.{Answered, refusal_of, refusal_number, number_of, count_of, visits_of, Reports}

-- Requests.

module _ (t : List ℕ) (p value : ℕ) (os s after : List ℕ) (immediate : Bool) (r : Requested t p value s after immediate) where
  pub request-now : immediate ≡ true → request t p value os s ≡ arbitrate t (only p) os after
  request-now e = request-goes t p value os s after immediate r ∙ rw e

  pub request-late : immediate ≡ false → request t p value os s ≡ start os after
  request-late e = request-goes t p value os s after immediate r ∙ rw e

-- The dispatch.

module _ (t : List ℕ) (e k : ℕ) (os s : List ℕ) (is : k ≡ event_kind e) where
  pub happens-tick : k ≡ 0 → happen t e os s ≡ tick t os s
  unfolding happen
  happens-tick z = rw (sym is ∙ z)

  pub happens-mode : (i v : ℕ) → i ≡ event_index e → v ≡ event_value e → k ≡ 1 → happen t e os s ≡ request t i v os s
  unfolding happen
  happens-mode i v hi hv z = rw (sym is ∙ z, hi, hv)

  pub happens-request : (i : ℕ) → i ≡ event_index e → k ≡ 2 → happen t e os s ≡ request t i 1 os s
  unfolding happen
  happens-request i hi z = rw (sym is ∙ z, hi)

  pub happens-change : (i : ℕ) → i ≡ event_index e → (k ≡ 0 → ⊥) → (k ≡ 1 → ⊥) → (k ≡ 2 → ⊥) → happen t e os s ≡ start os (changed t k i s)
  unfolding happen
  happens-change i hi a b c = rw (hi, ← is, ne_eqb _ _ a, ne_eqb _ _ b, ne_eqb _ _ c)

-- The answers.

module _ (t s trace os : List ℕ) (e : ℕ) (h : Result (Unit {0}) Unheeded) (is : h ≡ event_checked t os e) where
  pub reports-refused : (r : Answered) → eqb (answer_of h) 0 ≡ false → number_of r ≡ answer_of h → count_of r ≡ 0 → visits_of r ≡ 0
      → Reports (handle t s os e) trace r s trace
  reports-refused r z a c v = rw (handle-refused t os e s h is z) (record { answer = a; count = c; visits = v; state = refl; words = refl })

  pub reports-done : (w : Written) (s' trace' : List ℕ) → eqb (answer_of h) 0 ≡ true → Ran (heeded t os) (happen t e (heeded t os) s) s' trace trace' w
      → Reports (handle t s os e) trace (Ok (record { count = w.count; visits = w.visits })) s' trace'
  reports-done w s' trace' z r =
      rw (handle-taken t os e s h is z) (record { answer = refl; count = r.count; visits = r.visits; state = r.state; words = r.words })

-- the answer of an event that is not taken
pub same_number : (why : Unheeded) → refusal_number (refusal_of why) ≡ unheeded_number why
same_number Malformed = refl
same_number BadOutcome = refl
same_number NoSuchThing = refl
same_number NotItsOwner = refl

pub not_done : (why : Unheeded) → eqb (unheeded_number why) 0 ≡ false
not_done Malformed = refl
not_done BadOutcome = refl
not_done NoSuchThing = refl
not_done NotItsOwner = refl

-- a check's answer that is not `Ok` refuses, and one that is does not

pub not_taken : (h : Result (Unit {0}) Unheeded) → ((u : Unit {0}) → h ≡ Ok u → ⊥) → eqb (answer_of h) 0 ≡ false
not_taken (Ok u) f = absurd (f u refl)
not_taken (Err why) f = not_done why

pub is-taken : (h : Result (Unit {0}) Unheeded) {u : Unit {0}} → h ≡ Ok u → eqb (answer_of h) 0 ≡ true
is-taken h e = rw e
