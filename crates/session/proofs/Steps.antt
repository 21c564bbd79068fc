-- An event that answers 1 to 3 do not refuse: what its call needs, how much it prints, and that the next one is not refused by them
-- either. Assumes nothing.
use Prim.Native.Nat.{ℕ, ◌+◌, ◌*◌, ◌<◌, ◌≤◌}
use mathlib.Core.Path.{◌≡◌, sym, ◌∙◌}
use mathlib.Core.Bool.{true, false}
use mathlib.Core.List.{List, []}
use native.Mathlib.Omega.{arith}
use lib.ListN.{length, take, length-append, length-drop}
use lib.Seq.{take-append_seam}
use lib.Dec.{eqb, leb}
use borrow.Author.Tests.{le-ltb, lt-ltb, leb-false, leb-true, eqb-true}
use Rattle.rulebook.specs.Reasons.{bound, accepted}
use Rattle.rulebook.specs.State.{fits}
use Rattle.rulebook.specs.Events.{happen}
use Rattle.rulebook.specs.Step.{refused_state, refused_call, first_fault, refused_event, conclude, step, handle}
use Rattle.laws.specs.Callable.{Callable}
use Rattle.laws.proofs.Tests.{split}
use Rattle.laws.proofs.Facts.{facts}
use Rattle.laws.proofs.Fit.{fits-length}
use Rattle.laws.proofs.Steps.{small-answer, words-within, step_fits, callable}
use Rattle.lists.specs.Runs.{Safe}
use Rattle.std.specs.Prelude.{Result}
use Rattle.events.specs.declared.Report.{Report}
use Rattle.events.specs.declared.Refusal.{Refusal}
use Rattle.events.specs.Answers.{number_of, count_of, Reports}
use Rattle.laws.proofs.Play.{stood-table, stood-state}
use Rattle.manager.proofs.Steps.{safe}
use Rattle.session.specs.Printed.{lines, taken, event_lines, most}
use Rattle.text.specs.Puts.{PutAt}
use Rattle.session.specs.Promises.{Ready, traced_by, TookOne}
use Rattle.session.proofs.Lines.{lines_long}
use Rattle.session.proofs.Checks.{state-small}

-- Answers 1 to 3 refuse nothing exactly if table, state and room are in order.

pub ready-from : (t s : List ℕ) (room : ℕ) → eqb (refused_call t s room) 0 ≡ true → Callable t s room
ready-from t s room h = callable t s room (eqb-true _ _ h)

pub ready-is : (t s trace : List ℕ) → Ready t s trace → eqb (refused_call t s (length trace)) 0 ≡ true
unfolding refused_call refused_state
ready-is t s trace ready = rw (ready.table, ready.state, le-ltb (length trace) (bound t) ready.enough)

module _ (t s : List ℕ) (room : ℕ) where
  pub not-admitted : (refused_state t s ≡ 0 → ⊥) → false ≡ eqb (refused_call t s room) 0
  unfolding refused_call refused_state
  not-admitted n =
      split (accepted t)
      (λ a. split (fits t s) (λ b. absurd (n (rw (a, b)))) (λ b. rw (a, b)))
      (λ a. rw a)

  pub room-decides : refused_state t s ≡ 0 → leb (bound t) room ≡ eqb (refused_call t s room) 0
  unfolding refused_call refused_state
  room-decides z =
      let h = stood-table t s z in let k = stood-state t s z in
      split (leb (bound t) room)
      (λ e. let b = leb-true (bound t) room e in rw (e, h, k, le-ltb room (bound t) b))
      (λ e. let b = leb-false (bound t) room e in rw (e, h, k, lt-ltb room (bound t) b))

module _ (t s trace : List ℕ) (e : ℕ) (ready : Ready t s trace) where
  pub taken_is : taken t s e ≡ handle t s [] e
  unfolding step handle conclude first_fault refused_event
  taken_is = rw (ready.table, ready.state, le-ltb (bound t) (bound t) (omega arith))

  pub run-safe : (os : List ℕ) → Safe (happen t e os s) trace
  run-safe os = safe t s trace os e ready.table ready.enough

  pub answer-small : (taken t s e).answer < 10
  answer-small = omega (arith, small-answer t s (bound t) e)

  pub words-few : length (taken t s e).words ≤ bound t
  words-few = words-within t s (bound t) [] e ready.table

  next_fits : fits t (taken t s e).state ≡ true
  next_fits = step_fits t s (bound t) [] e ready.table ready.state

  pub next-long : length (taken t s e).state ≡ length s
  next-long = fits-length t _ next_fits ∙ sym (fits-length t s ready.state)

  pub traced-long : length (traced_by t s e trace) ≡ length trace
  traced-long =
      let few = words-few in let room = ready.enough in
      simp (length-append, length-drop) (omega arith)

  pub next-ready : Ready t (taken t s e).state (traced_by t s e trace)
  next-ready = record { table = ready.table; state = next_fits; enough = let l = traced-long in let r = ready.enough in omega arith }

  -- an event prints at most `most` bytes
  pub event-long : length (event_lines t s e) ≤ most
  unfolding event_lines
  event-long =
      let l : length (event_lines t s e) ≡ 2 + 9 * (length (taken t s e).state + length (taken t s e).words) =
      lines_long (taken t s e).answer (taken t s e).state (taken t s e).words answer-small in
      let st : length (taken t s e).state ≤ 360 = (let a = fits-length t _ next_fits in let b = state-small t ready.table in omega arith) in
      let ws = words-few in
      let b = (facts t ready.table).cost in
      omega arith

  -- what the call reports: its number n and its count m
  module _ (r : Result Report Refusal) (s' trace' : List ℕ) (told : Reports (taken t s e) trace r s' trace') (n m : ℕ)
      (hn : n ≡ number_of r) (hm : m ≡ count_of r) where
    pub number_small : n < 10
    number_small = rw (hn ∙ told.answer) answer-small

    pub count-few : m ≤ length trace'
    count-few = let l = traced-long in let w = words-few in let b = ready.enough in let c = hm ∙ told.count in rw told.words (omega arith)

    pub room-enough : (at end : ℕ) → at + most ≤ end → at + (2 + 9 * (length s' + m)) ≤ end
    unfolding event_lines
    room-enough at end h =
        let l : length (event_lines t s e) ≡ 2 + 9 * (length (taken t s e).state + length (taken t s e).words) =
        lines_long (taken t s e).answer (taken t s e).state (taken t s e).words answer-small in
        let b = event-long in
        rw (told.state, hm ∙ told.count) (omega arith)

    pub took : (at next : ℕ) (out out' : List ℕ) → PutAt (lines n s' (take m trace')) out at next out' → TookOne t e s trace out at next s' trace' out'
    unfolding event_lines
    took at next out out' p =
        let front : take m trace' ≡ (taken t s e).words = rw (hm ∙ told.count, told.words) (take-append_seam (taken t s e).words _) in
        record { state = told.state; words = told.words; lines = rw (front, hn ∙ told.answer, told.state) at p }
