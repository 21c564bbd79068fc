-- A run of events, one after the other: what stands after each. Assumes nothing.
use Prim.Native.Nat.{ℕ, ◌+◌, ◌-◌, ◌<◌, ◌≤◌}
use mathlib.Core.Path.{◌≡◌, refl, sym, ap, ◌∙◌}
use mathlib.Core.Bool.{true, false}
use mathlib.Core.List.{List, [], ◌∷◌, ◌++◌, append_assoc, append-nil}
use native.Mathlib.Numerals.{add-one}
use native.Mathlib.Omega.{arith}
use lib.ListN.{length, get_or, take, drop, length-drop}
use lib.Seq.{take-suc, get_or-drop}
use lib.Dec.{eqb}
use borrow.Author.Count.{below_more}
use Rattle.rulebook.specs.Step.{refused_call}
use Rattle.laws.proofs.Tests.{split}
use Rattle.text.specs.Words.{words_of, word_at}
use Rattle.text.specs.Puts.{PutAt}
use Rattle.text.proofs.Lay.{lay-none}
use Rattle.text.proofs.Puts.{put-more, put-length}
use Rattle.session.specs.declared.Taken.{Taken}
use Rattle.session.specs.Printed.{taken, event_lines, run_lines, state_after, most}
use Rattle.session.specs.Promises.{Ready, traced_by, trace_after, TookOne, offered, TookEvents}
use Rattle.session.proofs.Steps.{next-long, traced-long, next-ready, event-long}

-- A run of xs and then ys.

pub lines-append : (t s xs ys : List ℕ) → run_lines t s (xs ++ ys) ≡ run_lines t s xs ++ run_lines t (state_after t s xs) ys
unfolding run_lines state_after
lines-append t s [] ys = refl
lines-append t s (x ∷ xs) ys =
    rw (lines-append t (taken t s x).state xs ys) (sym (append_assoc (event_lines t s x) (run_lines t (taken t s x).state xs) _))

pub state-append : (t s xs ys : List ℕ) → state_after t s (xs ++ ys) ≡ state_after t (state_after t s xs) ys
unfolding state_after
state-append t s [] ys = refl
state-append t s (x ∷ xs) ys = state-append t (taken t s x).state xs ys

trace-append : (t s xs ys trace : List ℕ) → trace_after t s (xs ++ ys) trace ≡ trace_after t (state_after t s xs) ys (trace_after t s xs trace)
unfolding trace_after state_after
trace-append t s [] ys trace = refl
trace-append t s (x ∷ xs) ys trace = trace-append t (taken t s x).state xs ys (traced_by t s x trace)

-- A run with one event more.

module _ (t s xs : List ℕ) (e : ℕ) where
  lines-last : run_lines t s (xs ++ e ∷ []) ≡ run_lines t s xs ++ event_lines t (state_after t s xs) e
  unfolding run_lines
  lines-last = lines-append t s xs (e ∷ []) ∙ ap (λ (l : List ℕ). run_lines t s xs ++ l) (append-nil (event_lines t (state_after t s xs) e))

  pub state-last : state_after t s (xs ++ e ∷ []) ≡ (taken t (state_after t s xs) e).state
  unfolding state_after
  state-last = state-append t s xs (e ∷ [])

  pub trace-last : (trace : List ℕ) → trace_after t s (xs ++ e ∷ []) trace ≡ traced_by t (state_after t s xs) e (trace_after t s xs trace)
  unfolding trace_after
  trace-last trace = trace-append t s xs (e ∷ []) trace

-- The loop: i events of es are taken, their lines end at `at`; s', trace' and out' are what they left.
pub record Along (t s trace es out : List ℕ) (i at : ℕ) (s' trace' out' : List ℕ) : Type 0 where
  pub within : i ≤ length es
  pub free : (k : ℕ) → k < i → length (run_lines t s (take k es)) + most ≤ length out
  pub lines : PutAt (run_lines t s (take i es)) out 0 at out'
  pub state : s' ≡ state_after t s (take i es)
  pub words : trace' ≡ trace_after t s (take i es) trace
  pub ready : Ready t s' trace'
  pub state_long : length s' ≡ length s
  pub trace_long : length trace' ≡ length trace
  pub out_long : length out' ≡ length out
  pub inside : at ≤ length out

module _ (t s trace es out : List ℕ) where
  pub begin : Ready t s trace → Along t s trace es out 0 0 s trace out
  unfolding run_lines state_after trace_after
  begin ready =
      record {
        within = omega arith;
        free = λ k h. absurd (omega arith);
        lines = record { place = refl; bytes = sym (lay-none out 0) };
        state = refl;
        words = refl;
        ready = ready;
        state_long = refl;
        trace_long = refl;
        out_long = refl;
        inside = omega arith;
      }

  module _ (i at : ℕ) (s' trace' out' : List ℕ) (a : Along t s trace es out i at s' trace' out') where
    pub next : (e next : ℕ) (s'' trace'' out'' : List ℕ) → i < length es → most ≤ length out - at → e ≡ get_or es i 0
        → TookOne t e s' trace' out' at next s'' trace'' out'' → Along t s trace es out (i + 1) next s'' trace'' out''
    next e n s'' trace'' out'' h room is one =
        let more : take (i + 1) es ≡ take i es ++ e ∷ [] = rw (is, add-one, take-suc es i 0 h) in
        let here : at ≡ length (run_lines t s (take i es)) = a.lines.place ∙ omega arith in
        let long = event-long t s' trace' e a.ready in
        let put : PutAt (event_lines t (state_after t s (take i es)) e) out' at n out'' = rw (← a.state) one.lines in
        let all = put-more (let z = here in omega arith) a.lines put in
        let fits : at + length (event_lines t s' e) ≤ length out' = (let o = a.out_long in omega arith) in
        record {
          within = omega arith;
          free = below_more _ _ a.free (let z = here in omega arith);
          lines = rw (more, lines-last t s (take i es) e) all;
          state = rw (more, state-last t s (take i es) e, ← a.state) one.state;
          words = rw (more, trace-last t s (take i es) e trace, ← a.state, ← a.words) one.words;
          ready = rw (one.state, one.words) (next-ready t s' trace' e a.ready);
          state_long = rw one.state (next-long t s' trace' e a.ready ∙ a.state_long);
          trace_long = rw one.words (traced-long t s' trace' e a.ready ∙ a.trace_long);
          out_long = put-length fits one.lines ∙ a.out_long;
          inside = omega (arith, one.lines.place, a.out_long);
        }

    pub end : (r : Taken) → r.events ≡ i → r.bytes ≡ at → (i < length es → length out - at < most) → TookEvents t s trace es out r s' trace' out'
    end r ri rb stop =
        let here : at ≡ length (run_lines t s (take i es)) = a.lines.place ∙ omega arith in
        rw (ri, rb)
        record {
          within = a.within;
          free = a.free;
          full = λ h. let z = stop h in let y = here in let x = a.inside in omega arith;
          bytes = here;
          state = a.state;
          words = a.words;
          lines = a.lines.bytes;
          inside = a.inside;
        }

-- The events on offer.
module _ (t s trace bytes : List ℕ) (from : ℕ) where
  pub none-offered : (out : List ℕ) → eqb (refused_call t s (length trace)) 0 ≡ false
      → TookEvents t s trace (offered t s (length trace) bytes from) out (record { events = 0; bytes = 0 }) s trace out
  unfolding offered run_lines state_after trace_after
  none-offered out h =
      rw h
      record {
        within = omega arith;
        free = λ k z. absurd (omega arith);
        full = λ z. absurd (omega arith);
        bytes = refl;
        state = refl;
        words = refl;
        lines = sym (lay-none out 0);
        inside = omega arith;
      }

  -- never more than there are
  pub offered-within : length (offered t s (length trace) bytes from) ≤ length (words_of bytes) - from
  unfolding offered
  offered-within =
      split (eqb (refused_call t s (length trace)) 0) (λ h. rw h (let l = length-drop from (words_of bytes) in omega arith)) (λ h. rw h (omega arith))

  module _ (h : eqb (refused_call t s (length trace)) 0 ≡ true) where
    all-offered : offered t s (length trace) bytes from ≡ drop from (words_of bytes)
    unfolding offered
    all-offered = rw h

    pub offered-long : length (offered t s (length trace) bytes from) ≡ length (words_of bytes) - from
    offered-long = rw all-offered (length-drop from (words_of bytes))

    pub offered-at : (i e : ℕ) → e ≡ word_at bytes (from + i) → e ≡ get_or (offered t s (length trace) bytes from) i 0
    offered-at i e is = rw all-offered (is ∙ sym (get_or-drop from (words_of bytes) i 0))
