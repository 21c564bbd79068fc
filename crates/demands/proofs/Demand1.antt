-- Demand 1 holds of whatever the promises of the public entries allow. Assumes nothing.
use mathlib.Core.Path.{◌≡◌, refl, sym, ◌∙◌, ap}
use mathlib.Core.List.{List, [], ◌++◌}
use Prim.Native.Nat.{ℕ}
use native.Mathlib.Omega.{arith}
use lib.ListN.{length, drop}
use borrow.Author.Tests.{eq-eqb, ne_eqb}
use Rattle.rulebook.specs.Reasons.{check}
use Rattle.rulebook.specs.State.{state_length, fresh_answer, fresh_state}
use Rattle.rulebook.specs.Step.{Result, refused_state, step}
use Rattle.rulebook.specs.Hold.{held_against, held_by, refused}
use Rattle.laws.proofs.Acceptance.{reason-given, no_place_lem}
use Rattle.laws.proofs.Steps.{fault-is, answer-small, refusal-changes-nothing}
use Rattle.tables.specs.Finding.{promised}
use Rattle.manager.specs.Promises.{ChecksTableIn, MakesFreshIn, ChecksStateIn, TakesEventIn}
use Rattle.hold.specs.Promises.{HoldsIn}
use Rattle.hold.specs.Cases.{Case, refuses, traces, theirs-stop, ours-stop, states, yes}
use Rattle.hold.proofs.Exactly.{case-found}
use Rattle.demands.proofs.Panel.{panel-answered}
use Rattle.demands.proofs.Plays.{play-answered}
use Rattle.demands.proofs.Listed.{list-answered, read-answered}
use Rattle.demands.proofs.BusLogs.{log-answered}
use Rattle.demands.specs.Demand1.{TableAnswered, FreshAnswered, StateAnswered, EventAnswered, HoldAnswered, Demand1}

-- The table check.

pub table-answered : (t : List ℕ) (reason place b : ℕ) → ChecksTableIn t reason place b → TableAnswered t reason place b
unfolding promised
table-answered t reason place b p =
    let is : reason ≡ (check t).reason = p.0 in
    record {
      first = λ n. rw (is, p.1) (reason-given t (λ z. n (is ∙ z)));
      no_place = λ z. p.1 ∙ no_place_lem t (sym is ∙ z);
      bound = λ z. p.2 ∙ rw (eq-eqb _ 0 (sym is ∙ z));
      no_bound = λ n. p.2 ∙ rw (ne_eqb (check t).reason 0 (λ z. n (is ∙ z)));
    }

-- Making a fresh state.

pub fresh-answered : (t s : List ℕ) (k : ℕ) (s' : List ℕ) → MakesFreshIn t s k s' → FreshAnswered t s k s'
unfolding fresh_answer fresh_state
fresh-answered t s k s' p =
    record {
      bad_table = λ a. p.answer ∙ rw a;
      wrong_length = λ a l. p.answer ∙ rw (a, ne_eqb (length s) (state_length t) l);
      done = λ a l. p.answer ∙ rw (a, eq-eqb (length s) (state_length t) l);
      made = λ z. p.state ∙ rw (sym p.answer ∙ z);
      state_kept = λ n. p.state ∙ rw (ne_eqb (fresh_answer t s) 0 (λ z. n (p.answer ∙ z)));
    }

-- The state check.

pub state-answered : (t s : List ℕ) (k : ℕ) → ChecksStateIn t s k → StateAnswered t s k
unfolding refused_state
state-answered t s k p = record { bad_table = λ a. p ∙ rw a; unfit = λ a f. p ∙ rw (a, f); done = λ a f. p ∙ rw (a, f) }

-- The event call.

pub event-answered : (t s trace os : List ℕ) (e k n v : ℕ) (s' trace' : List ℕ) → TakesEventIn t s trace os e k n v s' trace'
    → EventAnswered t s trace os e k n v s' trace'
event-answered t s trace os e k n v s' trace' p =
    record {
      number = p.answer ∙ fault-is t s (length trace) os e;
      numbers = rw p.answer (answer-small t s (length trace) os e);
      state_kept = λ r. p.state ∙ (same r).0;
      trace_kept = λ r. p.words ∙ ap (λ (ws : List ℕ). ws ++ drop (length ws) trace) (same r).1;
      no_count = λ r. p.count ∙ ap (λ (ws : List ℕ). length ws) (same r).1;
      no_visits = λ r. p.visits ∙ (same r).2;
    }
  where
    same : (k ≡ 0 → ⊥) → ((step t s (length trace) os e).state ≡ s) × ((step t s (length trace) os e).words ≡ []) × ((step t s (length trace) os e).visits ≡ 0)
    same r = refusal-changes-nothing t s (length trace) os e (λ z. r (p.answer ∙ z))

-- An event held against a supplier's recording: the step is an event call.

refused-case : (r : Result) (theirs their_state : List ℕ) (v k : ℕ) (p : List ℕ) → Case r theirs their_state v k p → v ≡ refused → r.answer ≡ 0 → ⊥
refused-case r theirs their_state v k p (refuses n) e z = n z
refused-case r theirs their_state v k p (traces y q) e z = omega (arith, e)
refused-case r theirs their_state v k p (theirs-stop y q) e z = omega (arith, e)
refused-case r theirs their_state v k p (ours-stop y q) e z = omega (arith, e)
refused-case r theirs their_state v k p (states y f q) e z = omega (arith, e)
refused-case r theirs their_state v k p (yes y f g) e z = omega (arith, e)

module _ (t s trace os : List ℕ) (e : ℕ) (theirs their_state : List ℕ) (v k n m : ℕ) (s' trace' : List ℕ)
    (h : HoldsIn t s trace os e theirs their_state v k n m s' trace') where
  abbrev r : Result
  r = step t s (length trace) os e

  pub stepped : TakesEventIn t s trace os e r.answer n m s' trace'
  stepped = record { answer = refl; count = h.count; visits = h.visits; state = h.state; words = h.words }

  answered : EventAnswered t s trace os e r.answer n m s' trace'
  answered = event-answered t s trace os e r.answer n m s' trace' stepped

  refuses-it : v ≡ refused → r.answer ≡ 0 → ⊥
  unfolding held_against
  refuses-it one = refused-case r theirs their_state _ _ _ (case-found r theirs their_state) (sym h.tells.verdict ∙ one)

  pub hold-answered : HoldAnswered t s trace os e v k n m s' trace'
  unfolding held_against held_by
  hold-answered =
      record {
        refused = λ f.
            let other = ne_eqb r.answer 0 (λ z. f (sym answered.number ∙ z)) in
            (h.tells.verdict ∙ rw other, h.tells.number ∙ rw other answered.number);
        done = λ z one. refuses-it one (answered.number ∙ z);
        state_kept = λ one. answered.state_kept (refuses-it one);
        trace_kept = λ one. answered.trace_kept (refuses-it one);
        no_count = λ one. answered.no_count (refuses-it one);
        no_visits = λ one. answered.no_visits (refuses-it one);
      }

pub demand-1 : Demand1
demand-1 =
    record {
      check_table = table-answered;
      make_fresh = fresh-answered;
      check_state = state-answered;
      take_event = event-answered;
      panel = panel-answered;
      play = play-answered;
      hold = hold-answered;
      list = list-answered;
      read = read-answered;
      read_log = log-answered;
    }
