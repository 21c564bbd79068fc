-- What a line gives, laid into an output: all of it, or the ticks that fit. Assumes nothing.
use Prim.Native.Nat.{ℕ, zero, suc, ◌+◌, ◌-◌, ◌<◌, ◌≤◌, min}
use mathlib.Core.Path.{◌≡◌, refl, sym, ap, subst, ◌∙◌}
use mathlib.Core.Bool.{Bool, true, false, cond}
use mathlib.Core.List.{List, [], ◌∷◌, ◌++◌, append_assoc, append-nil}
use native.Mathlib.Omega.{arith}
use native.Mathlib.Numerals.{add-one}
use borrow.Author.Tests.{le-leb, lt-leb}
use lib.ListN.{length, take, drop, set, replicate, length-append, length-replicate, length-set}
use lib.Seq.{take-append-le, take-suc-set, drop-set-lt, drop-drop}
use Rattle.rulebook.specs.BusLog.{Cursor, ticks_due, line_read, more_given, tick_word, bus_off_word}
use Rattle.buslog.specs.declared.lines.Line.{Line}
use Rattle.buslog.specs.declared.reading.Step.{Step}
use Rattle.buslog.specs.Promises.{cursor_as, end_number}
use Rattle.buslog.specs.Inside.{GivesTicks, events_of, fits, Gives}

pub take-ticks : (k n : ℕ) → k ≤ n → take k (replicate n tick_word) ≡ replicate k tick_word
take-ticks zero n h = refl
take-ticks (suc k) zero h = absurd (omega arith)
take-ticks (suc k) (suc n) h = ap (λ (xs : List ℕ). tick_word ∷ xs) (take-ticks k n (omega arith))

module _ (t : List ℕ) (network at : ℕ) (line : Line) (c : Cursor) (out : List ℕ) (n : ℕ) (h : n ≤ length out) (due e : ℕ) (out' : List ℕ)
    (d : due ≡ ticks_due c line.time) (g : GivesTicks out n due e out') where
  abbrev gives : List ℕ
  gives = events_of t network line c

  abbrev left : ℕ
  left = length out - n

  pub inside : e ≤ length out
  inside = omega (arith, g.count)

  pub since : n ≤ e
  since = omega (arith, g.count)

  told : (off : Bool) → line.bus_off ≡ off → gives ≡ replicate due tick_word ++ cond off (bus_off_word t network ∷ []) []
  unfolding events_of
  told off o = rw (o, d)

  long : (off : Bool) → line.bus_off ≡ off → length gives ≡ due + length (cond off (bus_off_word t network ∷ []) [])
  long off o = ap length (told off o) ∙ length-append (replicate due tick_word) _ ∙ rw (length-replicate due tick_word)

  -- no room: the ticks that fit are all that is kept
  module _ (r : Step) (answer : end_number r.end ≡ 11) (cursor : cursor_as r.cursor ≡ more_given c (e - n)) (events : r.events ≡ e) (bytes : r.bytes ≡ at)
    where
      short : left < length gives → left ≤ due → Gives t network at line c out n r out'
      unfolding fits events_of
      short more some =
          let no : fits t network line c left ≡ false = lt-leb (length gives) left more in
          let q : e - n ≡ left = omega (arith, g.count) in
          let m : min due left ≡ left = omega arith in
          let kept : take left gives ≡ replicate left tick_word =
          rw (← d) (take-append-le left (replicate due tick_word) _ (rw length-replicate (omega arith)) ∙ take-ticks left due some) in
          record {
            answer = answer ∙ rw no;
            cursor = cursor ∙ rw (no, q);
            events = rw (events, no) (g.words ∙ rw (m, kept));
            bytes = bytes ∙ rw no;
            grown = omega (arith, events, g.count);
            kept = rw events g.kept;
            long = g.long;
            words = omega (arith, events, inside);
          }

      pub few-ticks : (off : Bool) → line.bus_off ≡ off → e - n < due → Gives t network at line c out n r out'
      few-ticks off o less = short (omega (arith, long off o, g.count)) (omega (arith, g.count))

      pub no-bus-off : line.bus_off ≡ true → due ≤ e - n → e ≡ length out → Gives t network at line c out n r out'
      no-bus-off o all full = short (omega (arith, long true o, g.count)) (omega (arith, g.count))

  module _ (all : due ≤ e - n) where
    q : min due left ≡ due
    q = omega (arith, g.count)

    -- ticks and no bus-off
    pub ticks-alone : line.bus_off ≡ false → (r : Step) → end_number r.end ≡ 0 → cursor_as r.cursor ≡ line_read c line.time → r.events ≡ e
        → r.bytes ≡ line.next → Gives t network at line c out n r out'
    unfolding fits
    ticks-alone o r answer cursor events bytes =
        let fit : fits t network line c left ≡ true = le-leb (length gives) left (omega (arith, long false o, g.count)) in
        record {
          answer = answer ∙ rw fit;
          cursor = cursor ∙ rw fit;
          events = rw (events, fit) (g.words ∙ rw q (sym (ap (λ (xs : List ℕ). take n out ++ xs) (told false o ∙ append-nil (replicate due tick_word)))));
          bytes = bytes ∙ rw fit;
          grown = omega (arith, events, g.count);
          kept = rw events g.kept;
          long = g.long;
          words = omega (arith, events, inside);
        }

    -- ticks and a bus-off
    pub ticks-and-off : line.bus_off ≡ true → e < length out → (w : ℕ) → w ≡ bus_off_word t network → (r : Step) → end_number r.end ≡ 0
        → cursor_as r.cursor ≡ line_read c line.time → r.events ≡ e + 1 → r.bytes ≡ line.next → Gives t network at line c out n r (set out' e w)
    unfolding fits
    ticks-and-off o more w is r answer cursor events bytes =
        let fit : fits t network line c left ≡ true = le-leb (length gives) left (omega (arith, long true o, g.count)) in
        let there : e < length out' = rw g.long more in
        let laid : take (e + 1) (set out' e w) ≡ take n out ++ gives =
        rw (add-one, take-suc-set out' e w there, g.words, q, told true o, is) (append_assoc (take n out) (replicate due tick_word) (bus_off_word t network ∷ [])) in
        record {
          answer = answer ∙ rw fit;
          cursor = cursor ∙ rw fit;
          events = rw (events, fit) laid;
          bytes = bytes ∙ rw fit;
          grown = omega (arith, events, g.count);
          kept =
              rw events
              (drop-set-lt (e + 1) out' e w (omega arith) ∙ sym (drop-drop 1 e out') ∙ ap (λ (xs : List ℕ). drop 1 xs) g.kept ∙ drop-drop 1 e out);
          long = length-set out' e w ∙ g.long;
          words = omega (arith, events);
        }

-- the same of an output that is equal
pub gives_as : (t : List ℕ) (network at : ℕ) (line : Line) (c : Cursor) (out : List ℕ) (n : ℕ) (r : Step) (o o' : List ℕ) → o' ≡ o
    → Gives t network at line c out n r o → Gives t network at line c out n r o'
gives_as t network at line c out n r o o' e g = subst (λ (x : List ℕ). Gives t network at line c out n r x) (sym e) g
