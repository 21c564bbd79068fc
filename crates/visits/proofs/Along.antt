-- Events taken one after the other: their results, their lines and the largest counts, and what stands after each. Assumes nothing.
use Prim.Native.Nat.{ℕ, ◌+◌, ◌-◌, ◌<◌, ◌≤◌}
use mathlib.Core.Path.{◌≡◌, refl, sym, ap, ◌∙◌}
use mathlib.Core.Bool.{false}
use mathlib.Core.List.{List, [], ◌∷◌, ◌++◌, append_assoc, append-nil}
use native.Mathlib.Nat.{add-zero}
use native.Mathlib.Numerals.{add-one}
use native.Mathlib.Omega.{arith}
use lib.ListN.{length, get_or, take, length-append}
use lib.Seq.{take-suc, length-take-le}
use lib.Dec.{eqb}
use borrow.Author.Count.{below_more}
use Rattle.std.specs.Prelude as std
use Rattle.rulebook.specs.Step.{Result, refused_call}
use Rattle.events.specs.declared.Report.{Report}
use Rattle.events.specs.declared.Refusal.{Refusal}
use Rattle.events.specs.Answers.{number_of, count_of, visits_of, Reports}
use Rattle.text.specs.Puts.{PutAt}
use Rattle.text.proofs.Lay.{lay-none}
use Rattle.text.proofs.Puts.{put-more, put-length}
use Rattle.session.specs.Printed.{taken, state_after}
use Rattle.session.specs.Promises.{Ready, trace_after, offered}
use Rattle.session.proofs.Steps.{next-long, traced-long, next-ready}
use Rattle.session.proofs.Along.{state-last, trace-last}
use Rattle.visits.specs.declared.Cost.{Cost}
use Rattle.visits.specs.declared.Most.{Most}
use Rattle.visits.specs.declared.Taken.{Taken}
use Rattle.visits.specs.Printed.{results, trace_count, visit_count, cost_line, cost_lines, counted, most_after}
use Rattle.visits.specs.Promises.{most_line, PutFew, TookOne, TookEvents}

-- Events xs and then ys.

pub results-append : (t s xs ys : List ℕ) → results t s (xs ++ ys) ≡ results t s xs ++ results t (state_after t s xs) ys
unfolding results state_after
results-append t s [] ys = refl
results-append t s (x ∷ xs) ys = ap (λ (rs : List Result). taken t s x ∷ rs) (results-append t (taken t s x).state xs ys)

pub results-long : (t s es : List ℕ) → length (results t s es) ≡ length es
unfolding results
results-long t s [] = refl
results-long t s (e ∷ es) = let i = results-long t (taken t s e).state es in omega arith

pub costs-append : (i : ℕ) (rs qs : List Result) → cost_lines i (rs ++ qs) ≡ cost_lines i rs ++ cost_lines (i + length rs) qs
unfolding cost_lines
costs-append i [] qs = rw add-zero
costs-append i (r ∷ rs) qs =
    let q : i + 1 + length rs ≡ i + length (r ∷ rs) = omega arith in
    rw (costs-append (i + 1) rs qs, q)
    (sym (append_assoc (cost_line i r.answer (trace_count r) (visit_count r)) (cost_lines (i + 1) rs) (cost_lines (i + length (r ∷ rs)) qs)))

pub most-append : (m : Most) (rs qs : List Result) → most_after m (rs ++ qs) ≡ most_after (most_after m rs) qs
unfolding most_after
most-append m [] qs = refl
most-append m (r ∷ rs) qs = most-append (counted m (trace_count r) (visit_count r)) rs qs

pub most-events : (m : Most) (rs : List Result) → (most_after m rs).events ≡ m.events + length rs
unfolding most_after counted
most-events m [] = sym (add-zero m.events)
most-events m (r ∷ rs) = let i = most-events (counted m (trace_count r) (visit_count r)) rs in omega arith

next-number : (m m' : Most) (n v : ℕ) → m' ≡ counted m n v → m'.events ≡ m.events + 1
unfolding counted
next-number m m' n v is = ap (λ (x : Most). x.events) is

-- One event more.

module _ (t s xs : List ℕ) (e : ℕ) where
  abbrev last : Result
  last = taken t (state_after t s xs) e

  results-last : results t s (xs ++ e ∷ []) ≡ results t s xs ++ last ∷ []
  unfolding results
  results-last = results-append t s xs (e ∷ [])

  costs-last : (i : ℕ) → cost_lines i (results t s (xs ++ e ∷ []))
      ≡ cost_lines i (results t s xs) ++ cost_line (i + length xs) last.answer (trace_count last) (visit_count last)
  unfolding cost_lines
  costs-last i =
      rw (results-last, costs-append i (results t s xs) (last ∷ []), results-long t s xs)
      (ap (λ (l : List ℕ). cost_lines i (results t s xs) ++ l) (append-nil (cost_line (i + length xs) last.answer (trace_count last) (visit_count last))))

  most-last : (m : Most) → most_after m (results t s (xs ++ e ∷ [])) ≡ counted (most_after m (results t s xs)) (trace_count last) (visit_count last)
  unfolding most_after
  most-last m = rw results-last (most-append m (results t s xs) (last ∷ []))

-- an event's call: its number k, its count n and its visits v stand in the line of event i
module _ (t s trace : List ℕ) (e : ℕ) (r : std.Result Report Refusal) (s' trace' : List ℕ) (told : Reports (taken t s e) trace r s' trace') (i k n v : ℕ)
    (hk : k ≡ number_of r) (hn : n ≡ count_of r) (hv : v ≡ visits_of r) where
  pub took : (at next : ℕ) (out out' : List ℕ) → PutFew most_line (cost_line i k n v) out at next out'
      → TookOne t e i s trace out at (record { trace = n; visits = v; next = next }) s' trace' out'
  took at next out out' p =
      let a = hk ∙ told.answer in
      let b = hn ∙ told.count in
      let d = hv ∙ told.visits in
      record { written = b; visited = d; state = told.state; words = told.words; line = rw (a, b, d) at p }

-- The loop: i events of es are taken from m on, their lines end at `at`; m', s', trace' and out' are what they left.
pub record Along (t s trace es : List ℕ) (m : Most) (out : List ℕ) (i at : ℕ) (m' : Most) (s' trace' out' : List ℕ) : Type 0 where
  pub within : i ≤ length es
  pub free : (k : ℕ) → k < i → length (cost_lines m.events (results t s (take k es))) + most_line ≤ length out
  pub lines : PutAt (cost_lines m.events (results t s (take i es))) out 0 at out'
  pub most : m' ≡ most_after m (results t s (take i es))
  pub number : m'.events ≡ m.events + i
  pub state : s' ≡ state_after t s (take i es)
  pub words : trace' ≡ trace_after t s (take i es) trace
  pub ready : Ready t s' trace'
  pub state_long : length s' ≡ length s
  pub trace_long : length trace' ≡ length trace
  pub out_long : length out' ≡ length out
  pub inside : at ≤ length out

module _ (t s trace es : List ℕ) (m : Most) (out : List ℕ) where
  pub begin : Ready t s trace → Along t s trace es m out 0 0 m s trace out
  unfolding results cost_lines most_after state_after trace_after
  begin ready =
      record {
        within = omega arith;
        free = λ k h. absurd (omega arith);
        lines = record { place = refl; bytes = sym (lay-none out 0) };
        most = refl;
        number = omega arith;
        state = refl;
        words = refl;
        ready = ready;
        state_long = refl;
        trace_long = refl;
        out_long = refl;
        inside = omega arith;
      }

  module _ (i at : ℕ) (m' : Most) (s' trace' out' : List ℕ) (a : Along t s trace es m out i at m' s' trace' out') where
    pub next : (e : ℕ) (c : Cost) (m'' : Most) (s'' trace'' out'' : List ℕ) → i < length es → most_line ≤ length out - at → e ≡ get_or es i 0
        → TookOne t e m'.events s' trace' out' at c s'' trace'' out'' → m'' ≡ counted m' c.trace c.visits
        → Along t s trace es m out (i + 1) c.next m'' s'' trace'' out''
    next e c m'' s'' trace'' out'' h room is one also =
        let more : take (i + 1) es ≡ take i es ++ e ∷ [] = rw (is, add-one, take-suc es i 0 h) in
        let many : length (take i es) ≡ i = length-take-le i es (omega arith) in
        let here : at ≡ length (cost_lines m.events (results t s (take i es))) = a.lines.place ∙ omega arith in
        let wide = a.out_long in
        let few = one.line.few in
        let line = one.line.put in
        let size = line.place in
        let said = rw (a.number, a.state) at line in
        let r = taken t s' e in
        let fits : at + length (cost_line m'.events r.answer (trace_count r) (visit_count r)) ≤ length out' = omega arith in
        record {
          within = omega arith;
          free = below_more _ _ a.free (let z = here in omega arith);
          lines = rw (more, costs-last t s (take i es) e m.events, many) (put-more (let z = here in omega arith) a.lines said);
          most = rw (more, most-last t s (take i es) e m, ← a.state, ← a.most) (rw (one.written, one.visited) at also);
          number = next-number m' m'' c.trace c.visits also ∙ omega (arith, a.number);
          state = rw (more, state-last t s (take i es) e, ← a.state) one.state;
          words = rw (more, trace-last t s (take i es) e trace, ← a.state, ← a.words) one.words;
          ready = rw (one.state, one.words) (next-ready t s' trace' e a.ready);
          state_long = rw one.state (next-long t s' trace' e a.ready ∙ a.state_long);
          trace_long = rw one.words (traced-long t s' trace' e a.ready ∙ a.trace_long);
          out_long = put-length fits line ∙ a.out_long;
          inside = omega arith;
        }

    pub end : (r : Taken) → r.events ≡ i → r.bytes ≡ at → r.most ≡ m' → (i < length es → length out - at < most_line)
        → TookEvents t s trace es m out r s' trace' out'
    end r ri rb rm stop =
        let here : at ≡ length (cost_lines m.events (results t s (take i es))) = a.lines.place ∙ omega arith in
        rw (ri, rb)
        record {
          within = a.within;
          free = a.free;
          full = λ h. let z = stop h in let y = here in let x = a.inside in omega arith;
          bytes = here;
          most = rm ∙ a.most;
          state = a.state;
          words = a.words;
          lines = a.lines.bytes;
          inside = a.inside;
        }

-- where answers 1 to 3 refuse, none is on offer
pub none-taken : (t s trace bytes : List ℕ) (from : ℕ) (m : Most) (out : List ℕ) → eqb (refused_call t s (length trace)) 0 ≡ false
    → TookEvents t s trace (offered t s (length trace) bytes from) m out (record { events = 0; bytes = 0; most = m }) s trace out
unfolding offered results cost_lines most_after state_after trace_after
none-taken t s trace bytes from m out h =
    rw h
    record {
      within = omega arith;
      free = λ k z. absurd (omega arith);
      full = λ z. absurd (omega arith);
      bytes = refl;
      most = refl;
      state = refl;
      words = refl;
      lines = sym (lay-none out 0);
      inside = omega arith;
    }
