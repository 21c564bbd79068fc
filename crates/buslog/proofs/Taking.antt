-- A line read from where reading stands, and lines one after the other. Assumes nothing.
use Prim.Native.Nat.{ℕ, zero, suc, ◌+◌, ◌-◌, ◌<◌, ◌≤◌}
use mathlib.Core.Path.{◌≡◌, refl, sym, ap, subst, ◌∙◌}
use mathlib.Core.Bool.{Bool, true, false, or-true}
use mathlib.Core.List.{List}
use native.Mathlib.Omega.{arith}
use borrow.Author.Tests.{eq-eqb, ne_eqb, eqb-true, eqb-false}
use Rattle.std.specs.Prelude.{Result, Ok, Err}
use Rattle.std.specs.Result.{is_err}
use lib.ListN.{length, drop, length-drop}
use lib.Seq.{length-take-le, drop-drop}
use lib.Dec.{eqb, leb}
use Rattle.laws.proofs.Tests.{split, clash}
use Rattle.rulebook.specs.Table.{networks}
use Rattle.rulebook.specs.BusLog.{Cursor, Reading, spelt, time, goes_back, network_of, number_of, fault, line_events, room, read_line}
use Rattle.rulebook.specs.BusLog.{read_lines, unread, lines_behind, behind, Piece, bytes_of, at_pairs, pairs}
use Rattle.rulebook.specs.BusLog.{opening, seconds, micros, gap, name, identifier, at_seconds, at_micros, at_gap, at_name, at_identifier, listed_name, same}
use Rattle.buslog.specs.declared.lines.Line.{Line}
use Rattle.buslog.specs.declared.reading.Cursor.{Cursor as CursorRead}
use Rattle.buslog.specs.declared.reading.Halt.{Halt}
use Rattle.buslog.specs.declared.reading.Halt.TheVariants.{BadTable, BadNames, Misspelt, GoesBack, Unlisted, NoRoom}
use Rattle.buslog.specs.declared.reading.Step.{Step}
use Rattle.buslog.specs.Promises.{cursor_as, end_number}
use Rattle.buslog.specs.Inside.{Says, Stops, events_of, fits, Gives, reading, reading_of, ReadsTo}

-- what refuses a line, in the document's order

module _ (t names : List ℕ) (c : Cursor) (line : List ℕ) where
  pub fault-spelt : spelt line ≡ false → fault t names c line ≡ 12
  unfolding fault
  fault-spelt e = rw e

  module _ (s : spelt line ≡ true) where
    pub fault-back : goes_back c (time line) ≡ true → fault t names c line ≡ 14
    unfolding fault
    fault-back e = rw (s, e)

    module _ (b : goes_back c (time line) ≡ false) where
      pub fault-name : network_of t names line ≡ networks t → fault t names c line ≡ 15
      unfolding fault
      fault-name e = rw (s, b, eq-eqb _ _ e)

      pub no-fault : (network_of t names line ≡ networks t → ⊥) → fault t names c line ≡ 0
      unfolding fault
      no-fault e = rw (s, b, ne_eqb _ _ e)

-- the network of the interface that the line names
pub same-network : (t names log line : List ℕ) (l : Line) (count r : ℕ) → Says log line l → count ≡ networks t
    → r ≡ number_of l.name.now count names → r ≡ network_of t names line
unfolding network_of
same-network t names log line l count r says n e = e ∙ rw (says.name, n)

-- a number sought among k names is k or less

network-few : (called : List ℕ) (k : ℕ) (names : List ℕ) → number_of called k names ≤ k
unfolding number_of
network-few called zero names = omega arith
network-few called (suc k) names =
    let later = network-few called k (behind listed_name names) in
    split (same called (bytes_of listed_name names)) (λ e. rw (e, number_of) (omega arith)) (λ e. rw (e, number_of) (omega arith))

pub few-networks : (called : List ℕ) (k : ℕ) (names : List ℕ) (r : ℕ) → r ≡ number_of called k names → k < 256 → r < 256
few-networks called k names r e h = omega (arith, e, network-few called k names)

pub back_as : (c : Cursor) (log line : List ℕ) (l : Line) (b : Bool) → Says log line l → b ≡ goes_back c l.time → goes_back c (time line) ≡ b
back_as c log line l b says e = sym (e ∙ rw says.time)

-- one line, from where reading stands

module _ (t names log : List ℕ) (at : ℕ) (c : CursorRead) (out : List ℕ) (n : ℕ) (in-log : at ≤ length log) (in-out : n ≤ length out) where
  abbrev before : Reading
  before = reading 0 (cursor_as c) out n log at

  abbrev line : List ℕ
  line = drop at log

  pub stops : (k : ℕ) (end : Result (Unit {0}) Halt) → fault t names (cursor_as c) line ≡ k → (k ≡ 0 → ⊥) → end_number end ≡ k → (r : Step) → Stops end c n at r
      → ReadsTo (read_line t names (length out) before) log out n r out
  unfolding read_line
  stops k end e some is r s =
      record {
        reading = rw (s.end, s.cursor, s.events, s.bytes, is, e, ne_eqb k 0 some);
        grown = omega (arith, s.events);
        kept = refl;
        long = refl;
        words = omega (arith, s.events);
        inside = omega (arith, s.bytes);
      }

  room-left : room (length out) before ≡ length out - n
  unfolding room
  room-left = rw (length-take-le n out in-out)

  -- what the line gives, by what it says

  module _ (l : Line) (network : ℕ) (says : Says log line l) (is : network ≡ network_of t names line) where
    same-events : line_events t names (cursor_as c) line ≡ events_of t network l (cursor_as c)
    unfolding line_events events_of
    same-events = rw (is, says.time, says.told)

    fit-as : (b : Bool) → fits t network l (cursor_as c) (length out - n) ≡ b
        → leb (length (line_events t names (cursor_as c) line)) (room (length out) before) ≡ b
    unfolding fits
    fit-as b e = rw (same-events, room-left) e

    read_whole : fits t network l (cursor_as c) (length out - n) ≡ true → fault t names (cursor_as c) line ≡ 0 → (r : Step) (out' : List ℕ)
        → Gives t network at l (cursor_as c) out n r out' → reading_of r out' log ≡ read_line t names (length out) before
    unfolding read_line
    read_whole y e r out' g =
        rw (e, fit-as true y, g.answer, g.cursor, g.events, g.bytes, y, same-events, says.time, says.next)

    read-part : fits t network l (cursor_as c) (length out - n) ≡ false → fault t names (cursor_as c) line ≡ 0 → (r : Step) (out' : List ℕ)
        → Gives t network at l (cursor_as c) out n r out' → reading_of r out' log ≡ read_line t names (length out) before
    unfolding read_line
    read-part y e r out' g =
        rw (e, fit-as false y, g.answer, g.cursor, g.events, g.bytes, y, same-events, room-left)

    pub gave : fault t names (cursor_as c) line ≡ 0 → l.next ≤ length log → (r : Step) (out' : List ℕ) → Gives t network at l (cursor_as c) out n r out'
        → ReadsTo (read_line t names (length out) before) log out n r out'
    gave e within r out' g =
        split (fits t network l (cursor_as c) (length out - n))
        (λ y.
        record {
          reading = read_whole y e r out' g;
          grown = g.grown;
          kept = g.kept;
          long = g.long;
          words = g.words;
          inside = let q : r.bytes ≡ l.next = g.bytes ∙ rw y in omega (arith, q);
        })
        (λ y.
        record {
          reading = read-part y e r out' g;
          grown = g.grown;
          kept = g.kept;
          long = g.long;
          words = g.words;
          inside = let q : r.bytes ≡ at = g.bytes ∙ rw y in omega (arith, q);
        })

-- lines one after the other

pub more-than-none : (n : ℕ) → (n ≡ 0 → ⊥) → 0 < n
more-than-none zero some = absurd (some refl)
more-than-none (suc n) some = omega arith

shorter : (p : Piece) (xs : List ℕ) → length (behind p xs) ≤ length xs
unfolding behind
shorter p xs = omega (arith, length-drop (length (bytes_of p xs) + 1) xs)

pub lines-shorter : (xs : List ℕ) → 0 < length xs → length (lines_behind xs) < length xs
unfolding lines_behind behind
lines-shorter xs h =
    let first : length (at_seconds xs) < length xs = omega (arith, length-drop (length (bytes_of opening xs) + 1) xs) in
    omega (
      arith,
      first,
      shorter seconds (at_seconds xs),
      shorter micros (at_micros xs),
      shorter gap (at_gap xs),
      shorter name (at_name xs),
      shorter identifier (at_identifier xs),
      shorter pairs (at_pairs xs),
    )

module _ (t names : List ℕ) (words : ℕ) where
  -- a line that is read leaves less to read
  pub less-left : (r : Reading) → 0 < length r.rest → (read_line t names words r).answer ≡ 0 → length (read_line t names words r).rest < length r.rest
  unfolding read_line
  less-left r h e =
      split (eqb (fault t names r.cursor r.rest) 0)
      (λ y. split (leb (length (line_events t names r.cursor r.rest)) (room words r))
      (λ z. rw (y, z) (lines-shorter r.rest h))
      (λ z. let wrong : 11 ≡ 0 = rw (y, z) at e in absurd (omega (arith, wrong))))
      (λ y. let wrong : fault t names r.cursor r.rest ≡ 0 = rw y at e in absurd (eqb-false _ _ y wrong))

  pub refused-stays : (turns : ℕ) (r : Reading) → (r.answer ≡ 0 → ⊥) → read_lines turns t names words r ≡ r
  unfolding read_lines
  refused-stays zero r some = refl
  refused-stays (suc turns) r some = rw (ne_eqb r.answer 0 some, or-true)

  pub read_stays : (turns : ℕ) (r : Reading) → length r.rest ≡ 0 → read_lines turns t names words r ≡ r
  unfolding read_lines
  read_stays zero r none = refl
  read_stays (suc turns) r none = rw (eq-eqb (length r.rest) 0 none)

  pub turn : (turns : ℕ) (r : Reading) → 0 < length r.rest → r.answer ≡ 0
      → read_lines (suc turns) t names words r ≡ read_lines turns t names words (read_line t names words r)
  unfolding read_lines
  turn turns r some good = rw (ne_eqb (length r.rest) 0 (λ (z : length r.rest ≡ 0). omega arith), good)

  -- as many turns as there are bytes are enough
  pub enough : (a b : ℕ) (r : Reading) → length r.rest ≤ a → length r.rest ≤ b → read_lines a t names words r ≡ read_lines b t names words r
  enough zero b r h l = read_stays 0 r (omega arith) ∙ sym (read_stays b r (omega arith))
  enough (suc a) zero r h l = read_stays (suc a) r (omega arith) ∙ sym (read_stays 0 r (omega arith))
  enough (suc a) (suc b) r h l =
      split (eqb r.answer 0)
      (λ y. split (eqb (length r.rest) 0)
      (λ z. read_stays (suc a) r (eqb-true _ _ z) ∙ sym (read_stays (suc b) r (eqb-true _ _ z)))
      (λ z.
      let some : 0 < length r.rest = more-than-none _ (eqb-false _ _ z) in
      let good = eqb-true r.answer 0 y in
      let next = read_line t names words r in
      turn a r some good
      ∙ split (eqb next.answer 0)
      (λ w.
      let less = less-left r some (eqb-true _ _ w) in
      enough a b next (omega arith) (omega arith))
      (λ w. refused-stays a next (eqb-false _ _ w) ∙ sym (refused-stays b next (eqb-false _ _ w)))
      ∙ sym (turn b r some good)))
      (λ y. refused-stays (suc a) r (eqb-false _ _ y) ∙ sym (refused-stays (suc b) r (eqb-false _ _ y)))

-- a step that is refused has another number than 0

pub no-error : (end : Result (Unit {0}) Halt) → is_err end ≡ false → end_number end ≡ 0
no-error (Ok u) e = refl
no-error (Err h) e = clash refl e

pub an-error : (end : Result (Unit {0}) Halt) → is_err end ≡ true → end_number end ≡ 0 → ⊥
an-error (Ok u) e z = clash e refl
an-error (Err BadTable) e z = omega arith
an-error (Err BadNames) e z = omega arith
an-error (Err Misspelt) e z = omega arith
an-error (Err GoesBack) e z = omega arith
an-error (Err Unlisted) e z = omega arith
an-error (Err NoRoom) e z = omega arith

-- the same of an ending that is not `Ok`
pub not-read : (r : Result (Unit {0}) Halt) → (r ≡ Ok tt → ⊥) → end_number r ≡ 0 → ⊥
not-read (Ok tt) f z = f refl
not-read (Err h) f z = an-error (Err h) refl z

-- reading stands at a place of the log, n events being written, and what is to come makes the whole

module _ (t names log : List ℕ) (from : Cursor) (out₀ : List ℕ) where
  abbrev whole : Reading
  whole = read_lines (length log) t names (length out₀) (unread from log)

  pub record ReadTo (c : Cursor) (out : List ℕ) (n at : ℕ) : Type 0 where
    pub inside : at ≤ length log
    pub words : n ≤ length out
    pub long : length out ≡ length out₀
    pub kept : drop n out ≡ drop n out₀
    pub left : read_lines (length (drop at log)) t names (length out₀) (reading 0 c out n log at) ≡ whole

  pub read-begin : ReadTo from out₀ 0 0
  read-begin = record { inside = omega arith; words = omega arith; long = refl; kept = refl; left = refl }

  module _ (c : CursorRead) (out : List ℕ) (n at : ℕ) (so : ReadTo (cursor_as c) out n at) where
    pub read-end : length log ≤ at → (r : Step) → Stops (Ok tt) c n at r → ReadsTo whole log out₀ 0 r out
    read-end h r s =
        record {
          reading = rw (s.end, s.cursor, s.events, s.bytes)
              (sym (read_stays t names (length out₀) (length (drop at log)) (reading 0 (cursor_as c) out n log at) (rw length-drop (omega arith))) ∙ so.left);
          grown = omega arith;
          kept = rw s.events so.kept;
          long = so.long;
          words = omega (arith, s.events, so.words, so.long);
          inside = omega (arith, s.bytes, so.inside);
        }

    module _ (h : at < length log) (r : Step) (out' : List ℕ) (took : ReadsTo (read_line t names (length out) (reading 0 (cursor_as c) out n log at)) log out n r out')
      where
        abbrev before-it : Reading
        before-it = reading 0 (cursor_as c) out n log at

        some_left : 0 < length (drop at log)
        some_left = rw length-drop (omega arith)

        is-next : reading_of r out' log ≡ read_line t names (length out₀) before-it
        is-next = took.reading ∙ ap (λ (k : ℕ). read_line t names k before-it) so.long

        one-turn : whole ≡ read_lines (length (drop at log) - 1) t names (length out₀) (reading_of r out' log)
        one-turn =
            let q : length (drop at log) ≡ suc (length (drop at log) - 1) = omega (arith, some_left) in
            sym so.left ∙ ap (λ (k : ℕ). read_lines k t names (length out₀) before-it) q
            ∙ turn t names (length out₀) (length (drop at log) - 1) before-it some_left refl
            ∙ ap (λ (x : Reading). read_lines (length (drop at log) - 1) t names (length out₀) x) (sym is-next)

        kept_on : drop r.events out' ≡ drop r.events out₀
        kept_on =
            let q : n + (r.events - n) ≡ r.events = omega (arith, took.grown) in
            took.kept
            ∙ rw (← q) (sym (drop-drop (r.events - n) n out) ∙ ap (λ (xs : List ℕ). drop (r.events - n) xs) so.kept ∙ drop-drop (r.events - n) n out₀)

        pub read-refused : (end_number r.end ≡ 0 → ⊥) → ReadsTo whole log out₀ 0 r out'
        read-refused some =
            record {
              reading = sym (one-turn ∙ refused-stays t names (length out₀) (length (drop at log) - 1) (reading_of r out' log) some);
              grown = omega arith;
              kept = kept_on;
              long = took.long ∙ so.long;
              words = omega (arith, took.words, so.long);
              inside = took.inside;
            }

        line-less : end_number r.end ≡ 0 → length (drop r.bytes log) < length (drop at log)
        line-less good =
            subst (λ (x : Reading). length x.rest < length (drop at log)) (sym is-next)
            (less-left t names (length out₀) before-it some_left (ap (λ (x : Reading). x.answer) (sym is-next) ∙ good))

        pub line_on : end_number r.end ≡ 0 → length log - r.bytes < length log - at
        line_on good = let less = line-less good in omega (arith, less, length-drop r.bytes log, length-drop at log)

        pub read-on : end_number r.end ≡ 0 → ReadTo (cursor_as r.cursor) out' r.events r.bytes
        read-on good =
            let less = line-less good in
            record {
              inside = took.inside;
              words = omega (arith, took.words, took.long);
              long = took.long ∙ so.long;
              kept = kept_on;
              left =
                  ap (λ (k : ℕ). read_lines (length (drop r.bytes log)) t names (length out₀) (reading k (cursor_as r.cursor) out' r.events log r.bytes)) (sym good)
                  ∙ enough t names (length out₀) (length (drop r.bytes log)) (length (drop at log) - 1) (reading_of r out' log) (omega arith) (omega arith)
                  ∙ sym one-turn;
            }
