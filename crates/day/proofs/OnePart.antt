-- One part: a play in the front of the lent trace, and the lines of the words that it wrote there. Assumes nothing.
use Prim.Native.Nat.{ℕ, ◌*◌, ◌≤◌}
use mathlib.Core.Path.{◌≡◌, sym, ap, ◌∙◌}
use mathlib.Core.List.{List, ◌++◌, append_assoc}
use native.Mathlib.Nat.{zero-add}
use native.Mathlib.Omega.{arith}
use lib.ListN.{length, take, drop, length-append, take-append-drop}
use lib.Seq.{length-take-le, take_at, drop-append-le}
use Rattle.rulebook.specs.Play.{Play, play}
use Rattle.manager.specs.Promises.{PlaysIn}
use Rattle.text.specs.Puts.{PutAt}
use Rattle.day.specs.Printed.{trace_lines, in64}
use Rattle.day.specs.Promises.{room_of, PlaysPart}
use Rattle.day.proofs.Lines.{traces-long}
use Rattle.day.proofs.Playing.{words-in-room}

-- the front of the trace has as many words as it was cut to
pub room-is : (trace out : List ℕ) (room : ℕ) → room ≡ room_of trace out → room ≡ length (take room trace)
room-is trace out room is = sym (length-take-le room trace (omega arith))

module _ (t s trace es out : List ℕ) (room : ℕ) (is : room ≡ room_of trace out) (k n m v : ℕ) (s' front : List ℕ)
    (told : PlaysIn t s (take room trace) es k n m v s' front) where
  abbrev whole : Play
  whole = play t s (room_of trace out) es

  same : play t s (length (take room trace)) es ≡ whole
  same = ap (λ (n : ℕ). play t s n es) (sym (room-is trace out room is) ∙ is)

  few : length whole.words ≤ room
  few = let w = words-in-room t s (room_of trace out) es in omega arith

  count-is : m ≡ length whole.words
  count-is = told.count ∙ ap (λ (p : Play). length p.words) same

  -- the words at the front of the whole trace, whose others are as they were
  pub trace-after : front ++ drop room trace ≡ whole.words ++ drop (length whole.words) trace
  trace-after =
      let ws = whole.words in
      let long = room-is trace out room is in
      let small = few in
      let front-is : front ≡ ws ++ drop (length ws) (take room trace) = rw same at told.words in
      rw (front-is, append_assoc, ← drop-append-le (length ws) (take room trace) (drop room trace) (omega arith), take-append-drop)

  pub count-few : m ≤ length (front ++ drop room trace)
  count-few = rw trace-after (let c = count-is in let l = length-append whole.words (drop (length whole.words) trace) in omega arith)

  pub lines_fit : 15 * m ≤ length out
  lines_fit = let c = count-is in let f = few in omega arith

  pub tells : (bytes : ℕ) (out' : List ℕ) → PutAt (trace_lines (take m (front ++ drop room trace))) out 0 bytes out'
      → PlaysPart t s trace es out (record { taken = n; visits = v; bytes = bytes; number = k }) s' (front ++ drop room trace) out'
  tells bytes out' put =
      let these : take m (front ++ drop room trace) ≡ whole.words = rw trace-after (take_at whole.words _ m (sym count-is)) in
      let laid = rw these at put in
      let fit = lines_fit in
      let count = count-is in
      record {
        taken = told.taken ∙ ap (λ (p : Play). p.taken) same;
        visits = told.visits ∙ ap (λ (p : Play). in64 p.visits) same;
        number = told.answer ∙ ap (λ (p : Play). p.answer) same;
        bytes = laid.place ∙ zero-add _;
        state = told.state ∙ ap (λ (p : Play). p.state) same;
        words = trace-after;
        lines = laid.bytes;
        inside = omega (arith, laid.place, traces-long whole.words);
      }
