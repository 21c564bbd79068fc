-- What is concluded of a bus log read follows from what the calls promise. Assumes nothing.
use Prim.Native.Nat.{ℕ, ◌+◌, ◌-◌, ◌≤◌}
use mathlib.Core.Path.{◌≡◌, refl, sym, ap, ◌∙◌}
use mathlib.Core.Bool.{true, false, ◌&&◌}
use mathlib.Core.List.{List, [], ◌∷◌, ◌++◌}
use native.Mathlib.Omega.{arith}
use borrow.Author.Tests.{ne_eqb}
use lib.ListN.{length, take, drop}
use lib.Seq.{take_at, drop_at}
use Rattle.laws.proofs.Tests.{split, clash}
use Rattle.rulebook.specs.Table.{networks}
use Rattle.rulebook.specs.Reasons.{accepted}
use Rattle.rulebook.specs.BusLog.{Cursor, Reading, answered, unread, names_stand, next_line, read_log, refused_line}
use Rattle.buslog.specs.Promises.{ReadsLogIn, behind_these, WholeTicks}
use Rattle.buslog.proofs.Logs.{same_rest}
use Rattle.buslog.proofs.Resuming.{fault-not, goes_on, log-roomier}
use Rattle.buslog.proofs.Parting.{in_parts}
use Rattle.buslog.proofs.Exact.{log-exact}
use Rattle.buslog.proofs.Ended.{log-full, log-faulty, log-read}
use Rattle.demands.specs.Demand1.{LogAnswered}
use Rattle.demands.specs.Conclusions.{Came, OfLog}

none_in : (xs : List ℕ) → length xs ≡ 0 → xs ≡ []
none_in [] e = refl
none_in (x ∷ xs) e = absurd (omega (arith, e))

module _ (t names log : List ℕ) (c : Cursor) (words : ℕ) where
  abbrev came : Reading
  came = read_log t names log c words

  -- line 0: nothing is read
  at_zero : (accepted t && names_stand (networks t) names) ≡ false → (refused_line came ≡ 0) × (came ≡ answered came.answer (unread c log))
  unfolding read_log refused_line
  at_zero e =
      split (accepted t)
      (λ a. split (names_stand (networks t) names)
      (λ n. let wrong : true ≡ false = rw (a, n) at e in clash refl wrong) (λ n. (rw (a, n), rw (a, n))))
      (λ a. (rw a, rw a))

  -- no other answer is given of a line
  other : accepted t ≡ true → names_stand (networks t) names ≡ true → (k : ℕ) → came.answer ≡ k → (k ≡ 0 → ⊥) → (k ≡ 11 → ⊥) → (k ≡ 12 → ⊥) → (k ≡ 14 → ⊥)
      → (k ≡ 15 → ⊥) → ⊥
  other a n k e none full spelling back name =
      fault-not t names came.cursor came.rest k none spelling back name
      (log-faulty t names log c words a n (λ (z : came.answer ≡ 0). none (sym e ∙ z)) (λ (z : came.answer ≡ 11). full (sym e ∙ z)) ∙ e)

  -- a line: its number is that behind those read
  at-line : (accepted t ≡ true) → (names_stand (networks t) names ≡ true) → (came.answer ≡ 0 → ⊥) → refused_line came ≡ next_line came.cursor.lines
  unfolding refused_line
  at-line a n some =
      let not-one : came.answer ≡ 1 → ⊥ = λ (z : came.answer ≡ 1). other a n 1 z (λ (y : 1 ≡ 0). omega (arith, y)) (λ (y : 1 ≡ 11). omega (arith, y))
      (λ (y : 1 ≡ 12). omega (arith, y)) (λ (y : 1 ≡ 14). omega (arith, y)) (λ (y : 1 ≡ 15). omega (arith, y)) in
      let not-list : came.answer ≡ 13 → ⊥ = λ (z : came.answer ≡ 13). other a n 13 z (λ (y : 13 ≡ 0). omega (arith, y)) (λ (y : 13 ≡ 11). omega (arith, y))
      (λ (y : 13 ≡ 12). omega (arith, y)) (λ (y : 13 ≡ 14). omega (arith, y)) (λ (y : 13 ≡ 15). omega (arith, y)) in
      rw (ne_eqb came.answer 0 some, ne_eqb came.answer 1 not-one, ne_eqb came.answer 13 not-list)

module _ (t names log : List ℕ) (c : Cursor) (out : List ℕ) (k l n m : ℕ) (c' : Cursor) (out' : List ℕ) (p : ReadsLogIn t names log c out k l n m c' out') where
  abbrev whole : Reading
  whole = read_log t names log c (length out)

  front : take n out' ≡ whole.events
  front = ap (λ (xs : List ℕ). take n xs) p.words ∙ take_at whole.events (drop n out) n (sym p.count)

  behind : drop n out' ≡ drop n out
  behind = ap (λ (xs : List ℕ). drop n xs) p.words ∙ drop_at whole.events (drop n out) n (sym p.count)

  zero-line : (accepted t && names_stand (networks t) names) ≡ false → (l ≡ 0) × (n ≡ 0) × (m ≡ 0) × (c' ≡ c) × (out' ≡ out)
  zero-line e =
      let none = at_zero t names log c (length out) e in
      let is = none.1 in
      let no-events : n ≡ 0 = p.count ∙ ap (λ (r : Reading). length r.events) is in (
        p.line ∙ none.0,
        no-events,
        same_rest log m 0 p.bytes (omega arith) (p.rest ∙ ap (λ (r : Reading). r.rest) is),
        p.cursor ∙ ap (λ (r : Reading). r.cursor) is,
        p.words ∙ ap (λ (r : Reading). r.events ++ drop n out) is ∙ ap (λ (i : ℕ). drop i out) no-events,
      )

  pub log-answered : LogAnswered t names log c out k l n m c' out'
  unfolding read_log refused_line
  log-answered =
      record {
        no_table = λ e. p.answer ∙ rw e;
        no_names = λ a e. p.answer ∙ rw (a, e);
        line_zero = zero-line;
        read = λ a e z.
            (p.line ∙ rw (sym p.answer ∙ z), p.rest ∙ none_in whole.rest (log-read t names log c (length out) a e (sym p.answer ∙ z)));
        refused = λ a e some. p.line ∙ at-line t names log c (length out) a e (λ (z : whole.answer ≡ 0). some (p.answer ∙ z)) ∙ rw p.cursor;
        faulty = λ a e some other.
            rw (p.cursor, p.rest)
            (log-faulty t names log c (length out) a e (λ (z : whole.answer ≡ 0). some (p.answer ∙ z)) (λ (z : whole.answer ≡ 11). other (p.answer ∙ z))
            ∙ sym p.answer);
        no_room = λ z. p.count ∙ log-full t names log c (length out) (sym p.answer ∙ z);
        words_kept = behind;
      }

  on : k ≡ 11 → (out₂ : List ℕ) (k₂ l₂ n₂ m₂ : ℕ) (c₂ : Cursor) (out₂' : List ℕ) → ReadsLogIn t names (drop m log) c' out₂ k₂ l₂ n₂ m₂ c₂ out₂'
      → Came (read_log t names log c (length out + length out₂)) k₂ l₂ c₂ (take n out' ++ take n₂ out₂') (drop m₂ (drop m log))
  unfolding refused_line
  on full out₂ k₂ l₂ n₂ m₂ c₂ out₂' q =
      let joined = goes_on t names log c (length out) (length out₂) (sym p.answer ∙ full) in
      let there : read_log t names (drop m log) c' (length out₂) ≡ read_log t names whole.rest whole.cursor (length out₂) = rw (p.rest, p.cursor) in
      let second : take n₂ out₂' ≡ (read_log t names (drop m log) c' (length out₂)).events =
      ap (λ (xs : List ℕ). take n₂ xs) q.words ∙ take_at (read_log t names (drop m log) c' (length out₂)).events (drop n₂ out₂) n₂ (sym q.count) in
      record {
        answer = q.answer ∙ rw (there, joined);
        line = q.line ∙ rw (there, joined);
        cursor = q.cursor ∙ rw (there, joined);
        written = rw (front, second, there, joined);
        unread = q.rest ∙ rw (there, joined);
      }

  parts : k ≡ 0 → (more out₂ : List ℕ) (k₂ l₂ n₂ m₂ : ℕ) (c₂ : Cursor) (out₂' : List ℕ) → length out ≤ n + length out₂
      → ReadsLogIn t names more c' out₂ k₂ l₂ n₂ m₂ c₂ out₂'
      → Came (read_log t names (log ++ more) c (n + length out₂)) k₂ l₂ c₂ (take n out' ++ take n₂ out₂') (drop m₂ more)
  unfolding refused_line
  parts good more out₂ k₂ l₂ n₂ m₂ c₂ out₂' room q =
      let done : whole.answer ≡ 0 = sym p.answer ∙ good in
      let same : whole ≡ read_log t names log c (n + length out₂) =
      log-roomier t names log c (length out) (n + length out₂) room (λ (z : whole.answer ≡ 11). omega (arith, done, z)) in
      let joined = in_parts t names log more c (n + length out₂) (ap (λ (r : Reading). r.answer) (sym same) ∙ done) in
      let left : n + length out₂ - length whole.events ≡ length out₂ = omega (arith, p.count) in
      let there : read_log t names (log ++ more) c (n + length out₂) ≡ behind_these whole.events (read_log t names more c' (length out₂)) =
      joined ∙ rw (← same, left, ← p.cursor) in
      let second : take n₂ out₂' ≡ (read_log t names more c' (length out₂)).events =
      ap (λ (xs : List ℕ). take n₂ xs) q.words ∙ take_at (read_log t names more c' (length out₂)).events (drop n₂ out₂) n₂ (sym q.count) in
      record {
        answer = q.answer ∙ rw there;
        line = q.line ∙ rw there;
        cursor = q.cursor ∙ rw there;
        written = rw (front, second, there);
        unread = q.rest ∙ rw there;
      }

  exact : (k ≡ 11 → ⊥) → WholeTicks c → WholeTicks c'
  exact roomy so = rw p.cursor (log-exact t names log c (length out) (λ (z : whole.answer ≡ 11). roomy (p.answer ∙ z)) so)

  pub of-log : OfLog t names log c out k l n m c' out'
  of-log = record { answered = log-answered; events = front; on = on; parts = parts; exact = exact }
