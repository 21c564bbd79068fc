-- Reading that stopped for want of room, taken up again in another output, comes to what one call with room for both comes to. Assumes nothing.
use Prim.Native.Nat.{ℕ, zero, suc, ◌+◌, ◌-◌, ◌<◌, ◌≤◌}
use mathlib.Core.Path.{◌≡◌, refl, sym, ap, ◌∙◌}
use mathlib.Core.Bool.{true, false, cond}
use mathlib.Core.List.{List, [], ◌∷◌, ◌++◌, append_assoc, append-nil}
use native.Mathlib.Omega.{arith}
use borrow.Author.Tests.{eqb-true, eqb-false, le-leb, lt-leb, leb-true, leb-false}
use lib.ListN.{length, take, replicate, length-append, length-replicate, replicate-append-replicate}
use lib.Seq.{take-append-add, take_at, length-take-le}
use lib.Dec.{eqb, leb}
use Rattle.laws.proofs.Tests.{split}
use Rattle.rulebook.specs.Table.{networks}
use Rattle.rulebook.specs.Reasons.{accepted}
use Rattle.rulebook.specs.BusLog.{Cursor, Reading, answered, unread, spelt, time, zero_time, ticks_due, goes_back, more_given, line_read, is_bus_off, network_of, next_line}
use Rattle.rulebook.specs.BusLog.{tick_word, bus_off_word, line_events, fault, room, read_line, read_lines, read_log, names_stand}
use Rattle.buslog.specs.Promises.{behind_these}
use Rattle.buslog.proofs.Taking.{refused-stays, read_stays, turn, enough, less-left, lines-shorter, more-than-none}

pub no-turn : (t names : List ℕ) (words : ℕ) (r : Reading) → read_lines 0 t names words r ≡ r
unfolding read_lines
no-turn t names words r = refl

module _ (t names : List ℕ) where
  -- events that stand before change nothing but that they stand there

  module _ (es : List ℕ) (words : ℕ) where
    same-room : (r : Reading) → room (length es + words) (behind_these es r) ≡ room words r
    unfolding room
    same-room r = rw (length-append es r.events) (omega arith)

    line-behind : (r : Reading) → read_line t names (length es + words) (behind_these es r) ≡ behind_these es (read_line t names words r)
    unfolding read_line
    line-behind r =
        split (eqb (fault t names r.cursor r.rest) 0)
        (λ e. split (leb (length (line_events t names r.cursor r.rest)) (room words r))
        (λ f. rw (e, same-room r, f, append_assoc es r.events (line_events t names r.cursor r.rest)))
        (λ f. rw (e, same-room r, f, append_assoc es r.events (take (room words r) (line_events t names r.cursor r.rest)))))
        (λ e. rw e)

    pub lines-behind : (turns : ℕ) (r : Reading)
        → read_lines turns t names (length es + words) (behind_these es r) ≡ behind_these es (read_lines turns t names words r)
    unfolding read_lines
    lines-behind zero r = refl
    lines-behind (suc turns) r =
        split (eqb (length r.rest) 0)
        (λ e. rw e)
        (λ e. split (eqb r.answer 0) (λ f. rw (e, f, line-behind r) (lines-behind turns (read_line t names words r))) (λ f. rw (e, f)))

  refused-line-answer : (words : ℕ) (s : Reading) → eqb (fault t names s.cursor s.rest) 0 ≡ false
      → (read_line t names words s).answer ≡ fault t names s.cursor s.rest
  unfolding read_line
  refused-line-answer words s e = rw e

  refused-line : (words : ℕ) (s : Reading) → eqb (fault t names s.cursor s.rest) 0 ≡ false
      → read_line t names words s ≡ answered (fault t names s.cursor s.rest) s
  unfolding read_line
  refused-line words s e = rw e

  without-room : (words : ℕ) (s : Reading) → fault t names s.cursor s.rest ≡ 0
      → leb (length (line_events t names s.cursor s.rest)) (room words s) ≡ false → (read_line t names words s).answer ≡ 11
  unfolding read_line
  without-room words s good short = rw (good, short)

  -- a line without room, and the same line again behind the ticks that fitted

  pub fault-not : (c : Cursor) (line : List ℕ) (k : ℕ) → (k ≡ 0 → ⊥) → (k ≡ 12 → ⊥) → (k ≡ 14 → ⊥) → (k ≡ 15 → ⊥) → fault t names c line ≡ k → ⊥
  unfolding fault
  fault-not c line k a b d f e =
      split (spelt line)
      (λ g. split (goes_back c (time line))
      (λ h. let z : 14 ≡ k = rw (g, h) at e in d (sym z))
      (λ h. split (eqb (network_of t names line) (networks t))
      (λ i. let z : 15 ≡ k = rw (g, h, i) at e in f (sym z)) (λ i. let z : 0 ≡ k = rw (g, h, i) at e in a (sym z))))
      (λ g. let z : 12 ≡ k = rw g at e in b (sym z))

  fault-not-room : (c : Cursor) (line : List ℕ) → fault t names c line ≡ 11 → ⊥
  fault-not-room c line =
      fault-not c line 11 (λ (z : 11 ≡ 0). omega (arith, z)) (λ (z : 11 ≡ 12). omega (arith, z)) (λ (z : 11 ≡ 14). omega (arith, z))
      (λ (z : 11 ≡ 15). omega (arith, z))

  module _ (c : Cursor) (line : List ℕ) (x : ℕ) where
    same-fault : fault t names (more_given c x) line ≡ fault t names c line
    unfolding fault goes_back more_given
    same-fault = refl

    due-less : ticks_due (more_given c x) (time line) ≡ ticks_due c (time line) - x
    unfolding ticks_due more_given zero_time
    due-less = omega arith

    module _ (h : x ≤ ticks_due c (time line)) where
      events-left : line_events t names c line ≡ replicate x tick_word ++ line_events t names (more_given c x) line
      unfolding line_events
      events-left =
          let q : x + (ticks_due c (time line) - x) ≡ ticks_due c (time line) = omega arith in
          rw due-less
          (ap (λ (k : ℕ). replicate k tick_word ++ cond (is_bus_off line) (bus_off_word t (network_of t names line) ∷ []) []) (sym q)
          ∙ ap (λ (xs : List ℕ). xs ++ cond (is_bus_off line) (bus_off_word t (network_of t names line) ∷ []) [])
          (sym (replicate-append-replicate x (ticks_due c (time line) - x) tick_word))
          ∙ append_assoc (replicate x tick_word) (replicate (ticks_due c (time line) - x) tick_word) _)

      read_same : line_read (more_given c x) (time line) ≡ line_read c (time line)
      unfolding line_read more_given zero_time
      read_same =
          let q : c.given + x + ticks_due (more_given c x) (time line) ≡ c.given + ticks_due c (time line) = omega (arith, due-less) in
          ap
          (λ (g : ℕ). record { lines = next_line c.lines; first = zero_time c (time line); last = time line; given = g })
          q

  -- room for fewer words than the line gives: all that fit are ticks
  few-are-ticks : (c : Cursor) (line : List ℕ) (x : ℕ) → x < length (line_events t names c line) → x ≤ ticks_due c (time line)
  unfolding line_events
  few-are-ticks c line x h =
      split (is_bus_off line)
      (λ e. let long = rw e at h in omega (arith, rw (length-append, length-replicate) at long))
      (λ e. let long = rw e at h in omega (arith, rw (length-append, length-replicate) at long))

  module _ (a b : ℕ) (more : a ≤ b) (s : Reading) (in-room : length s.events ≤ a) (good : fault t names s.cursor s.rest ≡ 0)
      (short : leb (length (line_events t names s.cursor s.rest)) (room a s) ≡ false) where
    abbrev x : ℕ
    x = room a s

    abbrev again : Reading
    again = answered 0 (read_line t names a s)

    ticks-fit : x ≤ ticks_due s.cursor (time s.rest)
    ticks-fit = few-are-ticks s.cursor s.rest x (leb-false (length (line_events t names s.cursor s.rest)) x short)

    abbrev line : List ℕ
    line = s.rest

    abbrev gives : List ℕ
    gives = line_events t names s.cursor line

    abbrev gives_then : List ℕ
    gives_then = line_events t names (more_given s.cursor x) line

    abbrev ticks : List ℕ
    ticks = replicate x tick_word

    parted : gives ≡ ticks ++ gives_then
    parted = events-left s.cursor line x ticks-fit

    kept-ticks : take x gives ≡ ticks
    kept-ticks = ap (λ (xs : List ℕ). take x xs) parted ∙ take_at ticks gives_then x (length-replicate x tick_word)

    abbrev resumed : Reading
    resumed = record { answer = 0; cursor = more_given s.cursor x; events = s.events ++ ticks; rest = line }

    is-again : again ≡ resumed
    unfolding read_line
    is-again = rw (good, short, kept-ticks)

    long : length gives ≡ x + length gives_then
    long = ap length parted ∙ length-append ticks gives_then ∙ rw (length-replicate x tick_word)

    room-then : room b resumed ≡ room b s - x
    unfolding room
    room-then = rw (length-append s.events ticks, length-replicate x tick_word) (omega arith)

    larger : x ≤ room b s
    unfolding room
    larger = omega arith

    given-on : more_given (more_given s.cursor x) (room b s - x) ≡ more_given s.cursor (room b s)
    unfolding more_given
    given-on =
        let q : s.cursor.given + x + (room b s - x) ≡ s.cursor.given + room b s = omega (arith, larger) in
        ap (λ (g : ℕ). record { lines = s.cursor.lines; first = s.cursor.first; last = s.cursor.last; given = g }) q

    part-on : ticks ++ take (room b s - x) gives_then ≡ take (room b s) gives
    part-on =
        let q : length ticks + (room b s - x) ≡ room b s = rw (length-replicate x tick_word) (omega (arith, larger)) in
        sym (take-append-add ticks gives_then (room b s - x)) ∙ rw q (ap (λ (xs : List ℕ). take (room b s) xs) (sym parted))

    line-again : read_line t names b resumed ≡ read_line t names b s
    unfolding read_line
    line-again =
        split (leb (length gives) (room b s))
        (λ e.
        let then : leb (length gives_then) (room b s - x) ≡ true = le-leb (length gives_then) (room b s - x) (omega (arith, leb-true (length gives) (room b s) e, long)) in
        rw (same-fault s.cursor line x, good, room-then, then, e, read_same s.cursor line x ticks-fit, append_assoc s.events ticks gives_then, ← parted))
        (λ e.
        let then : leb (length gives_then) (room b s - x) ≡ false = lt-leb (length gives_then) (room b s - x) (omega (arith, leb-false (length gives) (room b s) e, long, larger)) in
        rw
        (same-fault s.cursor line x, good, room-then, then, e, given-on, append_assoc s.events ticks (take (room b s - x) gives_then), part-on))

    -- the line stops reading, and reading taken up again meets it again
    stops : (read_line t names a s).answer ≡ 11
    unfolding read_line
    stops = rw (good, short)

    taken-up : (turns : ℕ) → 0 < length line → s.answer ≡ 0 → read_lines (suc turns) t names b again ≡ read_lines (suc turns) t names b s
    taken-up turns some ok =
        ap (λ (r : Reading). read_lines (suc turns) t names b r) is-again
        ∙ turn t names b turns resumed some refl
        ∙ ap (λ (r : Reading). read_lines turns t names b r) line-again
        ∙ sym (turn t names b turns s some ok)

  -- a line that is read in less room is read alike in more
  module _ (a b : ℕ) (more : a ≤ b) (s : Reading) (good : fault t names s.cursor s.rest ≡ 0)
      (fit : leb (length (line_events t names s.cursor s.rest)) (room a s) ≡ true) where
    fits_more : leb (length (line_events t names s.cursor s.rest)) (room b s) ≡ true
    unfolding room
    fits_more =
        le-leb (length (line_events t names s.cursor s.rest)) (b - length s.events)
        (omega (arith, leb-true (length (line_events t names s.cursor s.rest)) (a - length s.events) fit))

    alike : read_line t names a s ≡ read_line t names b s
    unfolding read_line
    alike = rw (good, fit, fits_more)

    read : (read_line t names a s).answer ≡ 0
    unfolding read_line
    read = rw (good, fit)

    in-room : length s.events ≤ a → length (read_line t names a s).events ≤ a
    unfolding read_line room
    in-room h =
        rw (good, fit, length-append s.events (line_events t names s.cursor s.rest))
        (omega (arith, leb-true (length (line_events t names s.cursor s.rest)) (a - length s.events) fit))

  module _ (a b : ℕ) (more : a ≤ b) where
    -- the first line: refused, without room, or read, behind which the same holds
    first-line : (turns last : ℕ) (s : Reading) → s.answer ≡ 0 → length s.events ≤ a → length s.rest ≤ last → 0 < length s.rest
        → ((r : Reading) → r.answer ≡ 0 → length r.events ≤ a → length r.rest ≤ last → (read_lines turns t names a r).answer ≡ 11
        → read_lines last t names b (answered 0 (read_lines turns t names a r)) ≡ read_lines last t names b r)
        → (read_lines turns t names a (read_line t names a s)).answer ≡ 11
        → read_lines last t names b (answered 0 (read_lines turns t names a (read_line t names a s))) ≡ read_lines last t names b s
    first-line turns last s ok in-a enough_turns some later full =
        let q : suc (last - 1) ≡ last = omega arith in
        split (eqb (fault t names s.cursor s.rest) 0)
        (λ e.
        let good = eqb-true (fault t names s.cursor s.rest) 0 e in
        split (leb (length (line_events t names s.cursor s.rest)) (room a s))
        (λ f.
        let next = read_line t names a s in
        let less = less-left t names a s some (read a b more s good f) in
        later next (read a b more s good f) (in-room a b more s good f in-a) (omega arith) full
        ∙ enough t names b last (last - 1) next (omega arith) (omega arith)
        ∙ ap (λ (r : Reading). read_lines (last - 1) t names b r) (alike a b more s good f)
        ∙ sym (turn t names b (last - 1) s some ok)
        ∙ ap (λ (k : ℕ). read_lines k t names b s) q)
        (λ f.
        let stays = refused-stays t names a turns (read_line t names a s) (λ (z : (read_line t names a s).answer ≡ 0). omega (arith, stops a b more s in-a good f)) in
        ap (λ (r : Reading). read_lines last t names b (answered 0 r)) stays
        ∙ ap (λ (k : ℕ). read_lines k t names b (answered 0 (read_line t names a s))) (sym q)
        ∙ taken-up a b more s in-a good f (last - 1) some ok
        ∙ ap (λ (k : ℕ). read_lines k t names b s) q))
        (λ e.
        let bad = eqb-false (fault t names s.cursor s.rest) 0 e in
        let is = refused-line-answer a s e in
        let stays = refused-stays t names a turns (read_line t names a s) (λ (z : (read_line t names a s).answer ≡ 0). bad (sym is ∙ z)) in
        absurd (fault-not-room s.cursor s.rest (sym is ∙ sym (ap (λ (r : Reading). r.answer) stays) ∙ full)))

    pub resume : (turns last : ℕ) (s : Reading) → s.answer ≡ 0 → length s.events ≤ a → length s.rest ≤ last
        → (read_lines turns t names a s).answer ≡ 11
        → read_lines last t names b (answered 0 (read_lines turns t names a s)) ≡ read_lines last t names b s
    resume zero last s ok in-a enough_turns full = absurd (omega (arith, sym (ap (λ (r : Reading). r.answer) (no-turn t names a s)) ∙ full, ok))
    resume (suc turns) last s ok in-a enough_turns full =
        split (eqb (length s.rest) 0)
        (λ e.
        let stays = read_stays t names a (suc turns) s (eqb-true _ _ e) in
        absurd (omega (arith, sym (ap (λ (r : Reading). r.answer) stays) ∙ full, ok)))
        (λ e.
        let some : 0 < length s.rest = more-than-none (length s.rest) (eqb-false _ _ e) in
        let went = turn t names a turns s some ok in
        ap (λ (r : Reading). read_lines last t names b (answered 0 r)) went
        ∙ first-line turns last s ok in-a enough_turns some (resume turns last) (ap (λ (r : Reading). r.answer) (sym went) ∙ full))

-- where room was not wanting, more of it changes nothing
module _ (t names : List ℕ) (a b : ℕ) (more : a ≤ b) where
  line-roomier : (s : Reading) → ((read_line t names a s).answer ≡ 11 → ⊥) → read_line t names a s ≡ read_line t names b s
  line-roomier s room-left =
      split (eqb (fault t names s.cursor s.rest) 0)
      (λ e.
      let good = eqb-true (fault t names s.cursor s.rest) 0 e in
      split (leb (length (line_events t names s.cursor s.rest)) (room a s)) (λ f. alike t names a b more s good f)
      (λ f. absurd (room-left (without-room t names a s good f))))
      (λ e. refused-line t names a s e ∙ sym (refused-line t names b s e))

  stays-full : (turns : ℕ) (s : Reading) → s.answer ≡ 11 → (read_lines turns t names a s).answer ≡ 11
  stays-full turns s full =
      ap (λ (x : Reading). x.answer) (refused-stays t names a turns s (λ (z : s.answer ≡ 0). omega (arith, full))) ∙ full

  lines-roomier : (turns : ℕ) (s : Reading) → s.answer ≡ 0 → ((read_lines turns t names a s).answer ≡ 11 → ⊥)
      → read_lines turns t names a s ≡ read_lines turns t names b s
  lines-roomier zero s ok room-left = no-turn t names a s ∙ sym (no-turn t names b s)
  lines-roomier (suc turns) s ok room-left =
      split (eqb (length s.rest) 0)
      (λ e. read_stays t names a (suc turns) s (eqb-true _ _ e) ∙ sym (read_stays t names b (suc turns) s (eqb-true _ _ e)))
      (λ e.
      let some : 0 < length s.rest = more-than-none (length s.rest) (eqb-false _ _ e) in
      let went = turn t names a turns s some ok in
      let next = read_line t names a s in
      let left-then : (read_lines turns t names a next).answer ≡ 11 → ⊥ =
      λ (z : (read_lines turns t names a next).answer ≡ 11). room-left (ap (λ (x : Reading). x.answer) went ∙ z) in
      let same : next ≡ read_line t names b s = line-roomier s (λ (z : next.answer ≡ 11). left-then (stays-full turns next z)) in
      went
      ∙ split (eqb next.answer 0)
      (λ f. lines-roomier turns next (eqb-true _ _ f) left-then)
      (λ f. refused-stays t names a turns next (eqb-false _ _ f) ∙ sym (refused-stays t names b turns next (eqb-false _ _ f)))
      ∙ ap (λ (r : Reading). read_lines turns t names b r) same
      ∙ sym (turn t names b turns s some ok))

pub log-roomier : (t names log : List ℕ) (c : Cursor) (a b : ℕ) → a ≤ b → ((read_log t names log c a).answer ≡ 11 → ⊥) → read_log t names log c a ≡ read_log t names log c b
unfolding read_log
log-roomier t names log c a b more room-left =
    split (accepted t)
    (λ e. split (names_stand (networks t) names)
    (λ n. rw (e, n) (lines-roomier t names a b more (length log) (unread c log) refl (rw (e, n) at room-left))) (λ n. rw (e, n)))
    (λ e. rw e)

-- what no line can lengthen, and an output without room is full

module _ (t names : List ℕ) (words : ℕ) where
  line-shrinks : (r : Reading) → 0 < length r.rest → length (read_line t names words r).rest ≤ length r.rest
  unfolding read_line
  line-shrinks r h =
      split (eqb (fault t names r.cursor r.rest) 0)
      (λ y. split (leb (length (line_events t names r.cursor r.rest)) (room words r))
      (λ z. rw (y, z) (omega (arith, lines-shorter r.rest h))) (λ z. rw (y, z) (omega arith)))
      (λ y. rw y (omega arith))

  line-fills : (r : Reading) → length r.events ≤ words → length (read_line t names words r).events ≤ words
  unfolding read_line room
  line-fills r h =
      split (eqb (fault t names r.cursor r.rest) 0)
      (λ y. split (leb (length (line_events t names r.cursor r.rest)) (words - length r.events))
      (λ z. rw (y, z, length-append r.events (line_events t names r.cursor r.rest)) (omega (arith, leb-true (length (line_events t names r.cursor r.rest)) (words - length r.events) z)))
      (λ z.
      let less = leb-false (length (line_events t names r.cursor r.rest)) (words - length r.events) z in
      rw (
        y,
        z,
        length-append r.events (take (words - length r.events) (line_events t names r.cursor r.rest)),
        length-take-le (words - length r.events) (line_events t names r.cursor r.rest) (omega arith),
      )
      (omega arith)))
      (λ y. rw y h)

  line-full : (r : Reading) → length r.events ≤ words → (read_line t names words r).answer ≡ 11 → length (read_line t names words r).events ≡ words
  unfolding read_line room
  line-full r h full =
      split (eqb (fault t names r.cursor r.rest) 0)
      (λ y. split (leb (length (line_events t names r.cursor r.rest)) (words - length r.events))
      (λ z. let wrong : 0 ≡ 11 = rw (y, z) at full in absurd (omega (arith, wrong)))
      (λ z.
      let less = leb-false (length (line_events t names r.cursor r.rest)) (words - length r.events) z in
      rw (
        y,
        z,
        length-append r.events (take (words - length r.events) (line_events t names r.cursor r.rest)),
        length-take-le (words - length r.events) (line_events t names r.cursor r.rest) (omega arith),
      )
      (omega arith)))
      (λ y. absurd (fault-not-room t names r.cursor r.rest (rw y at full)))

  shrinks : (turns : ℕ) (r : Reading) → length (read_lines turns t names words r).rest ≤ length r.rest
  shrinks zero r = rw (no-turn t names words r) (omega arith)
  shrinks (suc turns) r =
      split (eqb (length r.rest) 0)
      (λ e. rw (read_stays t names words (suc turns) r (eqb-true _ _ e)) (omega arith))
      (λ e. split (eqb r.answer 0)
      (λ f.
      let some : 0 < length r.rest = more-than-none (length r.rest) (eqb-false _ _ e) in
      rw (turn t names words turns r some (eqb-true _ _ f))
      (omega (arith, shrinks turns (read_line t names words r), line-shrinks r some)))
      (λ f. rw (refused-stays t names words (suc turns) r (eqb-false _ _ f)) (omega arith)))

  -- no more is written than there is room for
  pub lines-fill : (turns : ℕ) (r : Reading) → length r.events ≤ words → length (read_lines turns t names words r).events ≤ words
  lines-fill zero r h = rw (no-turn t names words r) h
  lines-fill (suc turns) r h =
      split (eqb (length r.rest) 0)
      (λ e. rw (read_stays t names words (suc turns) r (eqb-true _ _ e)) h)
      (λ e. split (eqb r.answer 0)
      (λ f.
      rw (turn t names words turns r (more-than-none (length r.rest) (eqb-false _ _ e)) (eqb-true _ _ f))
      (lines-fill turns (read_line t names words r) (line-fills r h)))
      (λ f. rw (refused-stays t names words (suc turns) r (eqb-false _ _ f)) h))

  pub full-up : (turns : ℕ) (r : Reading) → r.answer ≡ 0 → length r.events ≤ words → (read_lines turns t names words r).answer ≡ 11
      → length (read_lines turns t names words r).events ≡ words
  full-up zero r ok h full = absurd (omega (arith, sym (ap (λ (x : Reading). x.answer) (no-turn t names words r)) ∙ full, ok))
  full-up (suc turns) r ok h full =
      split (eqb (length r.rest) 0)
      (λ e.
      let stays = read_stays t names words (suc turns) r (eqb-true _ _ e) in
      absurd (omega (arith, sym (ap (λ (x : Reading). x.answer) stays) ∙ full, ok)))
      (λ e.
      let some : 0 < length r.rest = more-than-none (length r.rest) (eqb-false _ _ e) in
      let next = read_line t names words r in
      let went = turn t names words turns r some ok in
      let full-then : (read_lines turns t names words next).answer ≡ 11 = ap (λ (x : Reading). x.answer) (sym went) ∙ full in
      ap (λ (x : Reading). length x.events) went
      ∙ split (eqb next.answer 0)
      (λ f. full-up turns next (eqb-true _ _ f) (line-fills r h) full-then)
      (λ f.
      let stays = refused-stays t names words turns next (eqb-false _ _ f) in
      ap (λ (x : Reading). length x.events) stays ∙ line-full r h (sym (ap (λ (x : Reading). x.answer) stays) ∙ full-then)))

-- of whole logs: with so much more room reading would have come to what stands here, and behind it to what the rest comes to
module _ (t names log : List ℕ) (c : Cursor) (words more : ℕ) where
  abbrev came-to : Reading
  came-to = read_lines (length log) t names words (unread c log)

  lines-go-on : came-to.answer ≡ 11 → read_lines (length log) t names (words + more) (unread c log)
      ≡ behind_these came-to.events (read_lines (length came-to.rest) t names more (unread came-to.cursor came-to.rest))
  lines-go-on full =
      let es = came-to.events in
      let q : length es ≡ words = full-up t names words (length log) (unread c log) refl (omega arith) full in
      let there = unread came-to.cursor came-to.rest in
      let same : answered 0 came-to ≡ behind_these es there =
      ap (λ (xs : List ℕ). record { answer = 0; cursor = came-to.cursor; events = xs; rest = came-to.rest }) (sym (append-nil es)) in
      sym (resume t names words (words + more) (omega arith) (length log) (length log) (unread c log) refl (omega arith) (omega arith) full)
      ∙ ap (λ (r : Reading). read_lines (length log) t names (words + more) r) same
      ∙ ap (λ (k : ℕ). read_lines (length log) t names (k + more) (behind_these es there)) (sym q)
      ∙ lines-behind t names es more (length log) there
      ∙ ap (λ (r : Reading). behind_these es r)
      (enough t names more (length log) (length came-to.rest) there (shrinks t names words (length log) (unread c log)) (omega arith))

  pub goes_on : (read_log t names log c words).answer ≡ 11
      → read_log t names log c (words + more)
      ≡ behind_these (read_log t names log c words).events (read_log t names (read_log t names log c words).rest (read_log t names log c words).cursor more)
  unfolding read_log
  goes_on full =
      split (accepted t)
      (λ a. split (names_stand (networks t) names)
      (λ n. rw (a, n) (lines-go-on (rw (a, n) at full)))
      (λ n. let wrong : 13 ≡ 11 = rw (a, n) at full in absurd (omega (arith, wrong))))
      (λ a. let wrong : 1 ≡ 11 = rw a at full in absurd (omega (arith, wrong)))
