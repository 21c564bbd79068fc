-- A log read in parts, each of which ends behind a line, comes to what the whole log comes to. Assumes nothing.
use Prim.Native.Nat.{ℕ, zero, suc, ◌+◌, ◌-◌, ◌<◌, ◌≤◌}
use mathlib.Core.Path.{◌≡◌, refl, sym, ap, ◌∙◌}
use mathlib.Core.Bool.{Bool, true, ◌&&◌}
use mathlib.Core.List.{List, [], ◌∷◌, ◌++◌, append-nil}
use native.Mathlib.Omega.{arith}
use borrow.Author.Tests.{eqb-true, eqb-false, ltb-true, ltb-false}
use lib.ListN.{length, get_or, length-append, get_or-append, get_or-eq_default}
use lib.Seq.{drop-append-le}
use lib.Dec.{eqb, ltb, leb}
use Rattle.laws.proofs.Tests.{split, and_left, and_right}
use Rattle.rulebook.specs.Table.{networks}
use Rattle.rulebook.specs.Reasons.{accepted}
use Rattle.rulebook.specs.BusLog.{Piece, run, bytes_of, stands, behind, opening, seconds, micros, gap, name, identifier, pairs}
use Rattle.rulebook.specs.BusLog.{at_seconds, at_micros, at_gap, at_name, at_identifier, at_pairs, lines_behind, spelt, time, interface, is_bus_off}
use Rattle.rulebook.specs.BusLog.{Cursor, Reading, unread, network_of, line_events, fault, room, read_line, read_lines, read_log, names_stand}
use Rattle.buslog.specs.Promises.{behind_these}
use Rattle.buslog.proofs.Taking.{refused-stays, read_stays, turn, enough, less-left, more-than-none}
use Rattle.buslog.proofs.Resuming.{no-turn, lines-behind, lines-fill}
use Rattle.buslog.proofs.Ended.{lines-all}

module _ (ys : List ℕ) where
  -- a run that ends inside a text is not longer where more follows
  run-local : (has : ℕ → Bool) (xs : List ℕ) → length (run has xs) < length xs → run has (xs ++ ys) ≡ run has xs
  unfolding run
  run-local has [] h = absurd (omega arith)
  run-local has (b ∷ bs) h =
      split (has b)
      (λ e. let less = rw (e, run) at h in rw (e, run) (ap (λ (zs : List ℕ). b ∷ zs) (run-local has bs (omega (arith, less)))))
      (λ e. rw (e, run))

  module _ (p : Piece) (xs : List ℕ) (ends : p.end ≡ 0 → ⊥) (e : stands p xs ≡ true) where
    abbrev n : ℕ
    n = length (bytes_of p xs)

    ended : n < length xs
    unfolding stands
    ended =
        let byte = eqb-true (get_or xs n 0) p.end (and_right (p.size n) (eqb (get_or xs n 0) p.end) e) in
        split (ltb n (length xs)) (λ f. ltb-true n (length xs) f)
        (λ f. absurd (ends (sym byte ∙ get_or-eq_default xs 0 (ltb-false n (length xs) f))))

    same_bytes : bytes_of p (xs ++ ys) ≡ bytes_of p xs
    same_bytes = run-local p.has xs ended

    stands-too : stands p (xs ++ ys) ≡ true
    unfolding stands
    stands-too = rw (same_bytes, get_or-append xs ys 0 n ended) e

    same-behind : behind p (xs ++ ys) ≡ behind p xs ++ ys
    unfolding behind
    same-behind = rw same_bytes (drop-append-le (n + 1) xs ys (omega (arith, ended)))

  -- what a line says, with more behind it
  module _ (xs : List ℕ) (e : spelt xs ≡ true) where
    conj : stands opening xs && stands seconds (at_seconds xs) && stands micros (at_micros xs) && stands gap (at_gap xs) && stands name (at_name xs)
        && stands identifier (at_identifier xs) && stands pairs (at_pairs xs) ≡ true
    unfolding spelt
    conj = e

    upto6 : stands opening xs && stands seconds (at_seconds xs) && stands micros (at_micros xs) && stands gap (at_gap xs) && stands name (at_name xs)
        && stands identifier (at_identifier xs) ≡ true
    upto6 = and_left _ (stands pairs (at_pairs xs)) conj

    upto5 : stands opening xs && stands seconds (at_seconds xs) && stands micros (at_micros xs) && stands gap (at_gap xs) && stands name (at_name xs) ≡ true
    upto5 = and_left _ (stands identifier (at_identifier xs)) upto6

    upto4 : stands opening xs && stands seconds (at_seconds xs) && stands micros (at_micros xs) && stands gap (at_gap xs) ≡ true
    upto4 = and_left _ (stands name (at_name xs)) upto5

    upto3 : stands opening xs && stands seconds (at_seconds xs) && stands micros (at_micros xs) ≡ true
    upto3 = and_left _ (stands gap (at_gap xs)) upto4

    upto2 : stands opening xs && stands seconds (at_seconds xs) ≡ true
    upto2 = and_left _ (stands micros (at_micros xs)) upto3

    s1 : stands opening xs ≡ true
    s1 = and_left _ (stands seconds (at_seconds xs)) upto2

    s2 : stands seconds (at_seconds xs) ≡ true
    s2 = and_right (stands opening xs) _ upto2

    s3 : stands micros (at_micros xs) ≡ true
    s3 = and_right (stands opening xs && stands seconds (at_seconds xs)) _ upto3

    s4 : stands gap (at_gap xs) ≡ true
    s4 = and_right (stands opening xs && stands seconds (at_seconds xs) && stands micros (at_micros xs)) _ upto4

    s5 : stands name (at_name xs) ≡ true
    s5 = and_right (stands opening xs && stands seconds (at_seconds xs) && stands micros (at_micros xs) && stands gap (at_gap xs)) _ upto5

    s6 : stands identifier (at_identifier xs) ≡ true
    s6 =
        and_right (stands opening xs && stands seconds (at_seconds xs) && stands micros (at_micros xs) && stands gap (at_gap xs) && stands name (at_name xs)) _ upto6

    s7 : stands pairs (at_pairs xs) ≡ true
    s7 =
        and_right
        (stands opening xs && stands seconds (at_seconds xs) && stands micros (at_micros xs) && stands gap (at_gap xs) && stands name (at_name xs)
        && stands identifier (at_identifier xs))
        _ conj

    b1 : at_seconds (xs ++ ys) ≡ at_seconds xs ++ ys
    b1 = same-behind opening xs (λ (z : 40 ≡ 0). omega (arith, z)) s1

    b2 : at_micros (xs ++ ys) ≡ at_micros xs ++ ys
    b2 = ap (λ (zs : List ℕ). behind seconds zs) b1 ∙ same-behind seconds (at_seconds xs) (λ (z : 46 ≡ 0). omega (arith, z)) s2

    b3 : at_gap (xs ++ ys) ≡ at_gap xs ++ ys
    b3 = ap (λ (zs : List ℕ). behind micros zs) b2 ∙ same-behind micros (at_micros xs) (λ (z : 41 ≡ 0). omega (arith, z)) s3

    b4 : at_name (xs ++ ys) ≡ at_name xs ++ ys
    b4 = ap (λ (zs : List ℕ). behind gap zs) b3 ∙ same-behind gap (at_gap xs) (λ (z : 32 ≡ 0). omega (arith, z)) s4

    b5 : at_identifier (xs ++ ys) ≡ at_identifier xs ++ ys
    b5 = ap (λ (zs : List ℕ). behind name zs) b4 ∙ same-behind name (at_name xs) (λ (z : 32 ≡ 0). omega (arith, z)) s5

    b6 : at_pairs (xs ++ ys) ≡ at_pairs xs ++ ys
    b6 = ap (λ (zs : List ℕ). behind identifier zs) b5 ∙ same-behind identifier (at_identifier xs) (λ (z : 35 ≡ 0). omega (arith, z)) s6

    pub line-behind-it : lines_behind (xs ++ ys) ≡ lines_behind xs ++ ys
    unfolding lines_behind
    line-behind-it = ap (λ (zs : List ℕ). behind pairs zs) b6 ∙ same-behind pairs (at_pairs xs) (λ (z : 10 ≡ 0). omega (arith, z)) s7

    pub spelt-too : spelt (xs ++ ys) ≡ true
    unfolding spelt
    spelt-too =
        rw (
          b6,
          b5,
          b4,
          b3,
          b2,
          b1,
          stands-too opening xs (λ (z : 40 ≡ 0). omega (arith, z)) s1,
          stands-too seconds (at_seconds xs) (λ (z : 46 ≡ 0). omega (arith, z)) s2,
          stands-too micros (at_micros xs) (λ (z : 41 ≡ 0). omega (arith, z)) s3,
          stands-too gap (at_gap xs) (λ (z : 32 ≡ 0). omega (arith, z)) s4,
          stands-too name (at_name xs) (λ (z : 32 ≡ 0). omega (arith, z)) s5,
          stands-too identifier (at_identifier xs) (λ (z : 35 ≡ 0). omega (arith, z)) s6,
          stands-too pairs (at_pairs xs) (λ (z : 10 ≡ 0). omega (arith, z)) s7,
        )

    pub same-time : time (xs ++ ys) ≡ time xs
    unfolding time
    same-time =
        rw (
          b2,
          b1,
          same_bytes seconds (at_seconds xs) (λ (z : 46 ≡ 0). omega (arith, z)) s2,
          same_bytes micros (at_micros xs) (λ (z : 41 ≡ 0). omega (arith, z)) s3,
        )

    pub same-interface : interface (xs ++ ys) ≡ interface xs
    unfolding interface
    same-interface = rw (b4, same_bytes name (at_name xs) (λ (z : 32 ≡ 0). omega (arith, z)) s5)

    pub same-bus-off : is_bus_off (xs ++ ys) ≡ is_bus_off xs
    unfolding is_bus_off
    same-bus-off = rw (b5, same_bytes identifier (at_identifier xs) (λ (z : 35 ≡ 0). omega (arith, z)) s6)

  -- reading with more behind

  abbrev extended : Reading → Reading
  extended r = record { answer = r.answer; cursor = r.cursor; events = r.events; rest = r.rest ++ ys }

  module _ (t names : List ℕ) where
    spelt-if-good : (c : Cursor) (line : List ℕ) → fault t names c line ≡ 0 → spelt line ≡ true
    unfolding fault
    spelt-if-good c line e = split (spelt line) (λ f. f) (λ f. let wrong : 12 ≡ 0 = rw f at e in absurd (omega (arith, wrong)))

    same-network : (line : List ℕ) → spelt line ≡ true → network_of t names (line ++ ys) ≡ network_of t names line
    unfolding network_of
    same-network line e = rw (same-interface line e)

    same-fault : (c : Cursor) (line : List ℕ) → spelt line ≡ true → fault t names c (line ++ ys) ≡ fault t names c line
    unfolding fault
    same-fault c line e = rw (spelt-too line e, same-time line e, same-network line e, e)

    same-events : (c : Cursor) (line : List ℕ) → spelt line ≡ true → line_events t names c (line ++ ys) ≡ line_events t names c line
    unfolding line_events
    same-events c line e = rw (same-time line e, same-network line e, same-bus-off line e)

    module _ (words : ℕ) where
      line-extends : (r : Reading) → (read_line t names words r).answer ≡ 0 → read_line t names words (extended r) ≡ extended (read_line t names words r)
      unfolding read_line room
      line-extends r good =
          split (eqb (fault t names r.cursor r.rest) 0)
          (λ e.
          let s = spelt-if-good r.cursor r.rest (eqb-true _ _ e) in
          split (leb (length (line_events t names r.cursor r.rest)) (words - length r.events))
          (λ f. rw (same-fault r.cursor r.rest s, same-events r.cursor r.rest s, e, f, same-time r.rest s, line-behind-it r.rest s))
          (λ f. let wrong : 11 ≡ 0 = rw (e, f) at good in absurd (omega (arith, wrong))))
          (λ e. let wrong : fault t names r.cursor r.rest ≡ 0 = rw e at good in absurd (eqb-false _ _ e wrong))

      lines-extend : (turns last : ℕ) (r : Reading) → r.answer ≡ 0 → length (r.rest ++ ys) ≤ last → (read_lines turns t names words r).answer ≡ 0
          → read_lines last t names words (extended r) ≡ read_lines last t names words (extended (read_lines turns t names words r))
      lines-extend zero last r ok h good = ap (λ (x : Reading). read_lines last t names words (extended x)) (sym (no-turn t names words r))
      lines-extend (suc turns) last r ok h good =
          split (eqb (length r.rest) 0)
          (λ e. ap (λ (x : Reading). read_lines last t names words (extended x)) (sym (read_stays t names words (suc turns) r (eqb-true _ _ e))))
          (λ e.
          let some : 0 < length r.rest = more-than-none (length r.rest) (eqb-false _ _ e) in
          let long = length-append r.rest ys in
          let went = turn t names words turns r some ok in
          let next = read_line t names words r in
          let good-then : (read_lines turns t names words next).answer ≡ 0 = ap (λ (x : Reading). x.answer) (sym went) ∙ good in
          split (eqb next.answer 0)
          (λ f.
          let read = eqb-true next.answer 0 f in
          let less = less-left t names words r some read in
          let q : last ≡ suc (last - 1) = omega (arith, h, long) in
          let long-then = length-append next.rest ys in
          ap (λ (k : ℕ). read_lines k t names words (extended r)) q
          ∙ turn t names words (last - 1) (extended r) (omega (arith, long)) ok
          ∙ ap (λ (x : Reading). read_lines (last - 1) t names words x) (line-extends r read)
          ∙ enough t names words (last - 1) last (extended next) (omega (arith, h, long, long-then)) (omega (arith, h, long, long-then))
          ∙ lines-extend turns last next read (omega (arith, h, long, long-then)) good-then
          ∙ ap (λ (x : Reading). read_lines last t names words (extended x)) (sym went))
          (λ f.
          absurd
          (eqb-false _ _ f (sym (ap (λ (x : Reading). x.answer) (refused-stays t names words turns next (eqb-false _ _ f))) ∙ good-then))))

-- of whole logs: the part in front is read, and behind its events stands what the part behind it comes to
none_in : (xs : List ℕ) → length xs ≡ 0 → xs ≡ []
none_in [] e = refl
none_in (x ∷ xs) e = absurd (omega (arith, e))

module _ (t names xs ys : List ℕ) (c : Cursor) (words : ℕ) where
  abbrev front : Reading
  front = read_lines (length xs) t names words (unread c xs)

  lines-part : front.answer ≡ 0 → read_lines (length (xs ++ ys)) t names words (unread c (xs ++ ys))
      ≡ behind_these front.events (read_lines (length ys) t names (words - length front.events) (unread front.cursor ys))
  lines-part good =
      let es = front.events in
      let last = length (xs ++ ys) in
      let empty : front.rest ≡ [] = none_in front.rest (lines-all t names words (length xs) (unread c xs) (omega arith) refl good) in
      let there = unread front.cursor ys in
      let same : extended ys front ≡ behind_these es there =
      ap (λ (k : ℕ). record { answer = k; cursor = front.cursor; events = es; rest = front.rest ++ ys }) good
      ∙ ap (λ (zs : List ℕ). record { answer = 0; cursor = front.cursor; events = es; rest = zs ++ ys }) empty
      ∙ ap (λ (zs : List ℕ). record { answer = 0; cursor = front.cursor; events = zs; rest = ys }) (sym (append-nil es)) in
      let within = lines-fill t names words (length xs) (unread c xs) (omega arith) in
      let q : words ≡ length es + (words - length es) = omega (arith, within) in
      lines-extend ys t names words (length xs) last (unread c xs) refl (omega arith) good
      ∙ ap (λ (r : Reading). read_lines last t names words r) same
      ∙ ap (λ (k : ℕ). read_lines last t names k (behind_these es there)) q
      ∙ lines-behind t names es (words - length es) last there
      ∙ ap (λ (r : Reading). behind_these es r)
      (enough t names (words - length es) last (length ys) there (omega (arith, length-append xs ys)) (omega arith))

  pub in_parts : (read_log t names xs c words).answer ≡ 0
      → read_log t names (xs ++ ys) c words
      ≡ behind_these (read_log t names xs c words).events
      (read_log t names ys (read_log t names xs c words).cursor (words - length (read_log t names xs c words).events))
  unfolding read_log
  in_parts good =
      split (accepted t)
      (λ a. split (names_stand (networks t) names)
      (λ n. rw (a, n) (lines-part (rw (a, n) at good)))
      (λ n. let wrong : 13 ≡ 0 = rw (a, n) at good in absurd (omega (arith, wrong))))
      (λ a. let wrong : 1 ≡ 0 = rw a at good in absurd (omega (arith, wrong)))
