-- The source's countdown: pending with remaining T - j after the j-th tick, repeated wakeups included, expired at exactly the T-th,
-- unless its own operator validates or clears it before. Assumes nothing.
use mathlib.Core.Path.{◌≡◌, refl, sym, ◌∙◌, ap}
use mathlib.Core.Bool.{Bool, true, false, cond, ◌&&◌, ◌||◌, not, and-false}
use mathlib.Core.List.{List, [], ◌∷◌, ◌++◌, append-nil}
use Prim.Native.Nat.{ℕ, suc, ◌+◌, ◌-◌, ◌≤◌, ◌<◌}
use native.Mathlib.Omega.{arith}
use native.Mathlib.Nat.{zero-add, add-zero, mod-eq_of_lt}
use lib.Dec.{eqb}
use borrow.Author.Tests.{leb-true, le-leb, lt-leb, eqb-true, eq-eqb, ne_eqb, not-true}
use Rattle.rulebook.specs.Words.{word}
use Rattle.rulebook.specs.Table.{sources, source_owner, timeout}
use Rattle.rulebook.specs.Reasons.{accepted}
use Rattle.rulebook.specs.State.{source_index, remaining_of, status_of, status_none, status_pending, status_validated, status_expired, pack_source, fresh}
use Rattle.rulebook.specs.Events.{event_kind, event_owner, event_index, event_tick, event_wakeup, event_valid, event_clear, status_in}
use Rattle.laws.specs.Facts.{Facts}
use Rattle.laws.proofs.Tests.{split, clash, part_of, and_left, and_right, or_elim}
use Rattle.laws.proofs.Fields.{digit-small, source-status, source-remaining}
use Rattle.laws.proofs.Facts.{facts}
use Rattle.laws.proofs.FitKept.{Fits}
use Rattle.laws.proofs.Happen.{of-wakeup, of-ending}
use Rattle.laws.proofs.Steps.{fresh-fits}
use Rattle.stranger.specs.Logs.{Entry, Follows, Log, state_after}
use Rattle.stranger.specs.Demand.{ticks, tick_count, shows_status, becomes_pending, ended, not_ended, Waiting, end_status, status_to_show}
use Rattle.stranger.proofs.Logs.{taken, after-append, log-parts, entry-fits, log-fits}
use Rattle.stranger.proofs.Moves.{next_source, ticked_source, woken_source, valid_source, source-moves}
use Rattle.stranger.proofs.Shows.{source-shows}

is-tick : (x : Entry) → ticks x ≡ true → event_kind x.event ≡ event_tick
unfolding ticks
is-tick x h = eqb-true _ _ h

-- still pending after j ticks of T, of the source's word alone
record PendingAt (T j w : ℕ) : Type 0 where
  status : status_of w ≡ status_pending
  remaining : remaining_of w ≡ T - j

module _ (t : List ℕ) (h : accepted t ≡ true) (k : ℕ) (b : k < sources t) where
  abbrev f : Facts t
  f = facts t h

  abbrev T : ℕ
  T = timeout t k

  pending-packed : (r j : ℕ) → r ≡ T - j → PendingAt T j (pack_source status_pending r)
  pending-packed r j e =
      let cap : T < 65536 = digit-small _ 65536 _ (omega arith) in
      record { status = source-status status_pending r; remaining = source-remaining status_pending r ∙ mod-eq_of_lt (omega arith) ∙ e }

  -- one tick more
  ticked-on : (j w : ℕ) → suc j < T → PendingAt T j w → PendingAt T (suc j) (ticked_source t f k b w)
  unfolding ticked_source
  ticked-on j w lt p =
      let r = p.remaining in
      rw (eq-eqb (status_of w) status_pending p.status, lt-leb (remaining_of w) 1 (omega arith)) (pending-packed (remaining_of w - 1) (suc j) (omega arith))

  ticked-out : (j w : ℕ) → suc j ≡ T → PendingAt T j w → ticked_source t f k b w ≡ pack_source status_expired 0
  unfolding ticked_source
  ticked-out j w e p = let r = p.remaining in rw (eq-eqb (status_of w) status_pending p.status, le-leb (remaining_of w) 1 (omega arith))

  -- what the event makes of a pending source that it does not end
  next-tick : (e : ℕ) (s : List ℕ) → event_kind e ≡ event_tick → next_source t f k b e s ≡ ticked_source t f k b (word s (source_index t k))
  unfolding next_source
  next-tick e s z = rw z

  next-same : (x : Entry) (s : List ℕ) (j : ℕ) → ticks x ≡ false → ended k x ≡ false → PendingAt T j (word s (source_index t k))
      → next_source t f k b x.event s ≡ word s (source_index t k)
  unfolding next_source woken_source ticks ended
  next-same x s j nt ne p =
      let e = x.event in
      split (eqb (event_index e) k)
      (λ i. let neither : (eqb (event_kind e) event_valid || eqb (event_kind e) event_clear) ≡ false = rw-and
      (eqb (event_kind e) event_valid || eqb (event_kind e) event_clear) (rw i at ne) in
      split (eqb (event_kind e) event_valid) (λ v. clash (rw v) neither)
      (λ v. let c : eqb (event_kind e) event_clear ≡ false = rw v at neither in
      split (eqb (event_kind e) event_wakeup) (λ w. rw (nt, w, i, p.status)) (λ w. rw (nt, w, v, c))))
      (λ i. simp (nt, i, and-false))
    where
      rw-and : (x : Bool) → (x && true) ≡ false → x ≡ false
      rw-and true z = z
      rw-and false z = refl

  -- One entry.

  abbrev Own : List ℕ → ℕ
  Own s = word s (source_index t k)

  pub next-own : (s : List ℕ) (x : Entry) → Follows t s x → Fits t s → Own x.state ≡ next_source t f k b x.event s
  next-own s x l fit = ap (λ (y : List ℕ). word y (source_index t k)) l.state ∙ (source-moves t f k b x.event _ s (taken l) fit).own

  entry-pending : (j : ℕ) (s : List ℕ) (x : Entry) → Follows t s x → Fits t s → ended k x ≡ false → cond (ticks x) 1 0 + j < T → PendingAt T j (Own s)
      → PendingAt T (cond (ticks x) 1 0 + j) (Own x.state)
  entry-pending j s x l fit n lt p =
      split (ticks x)
      (λ d. let one : 1 + j ≡ suc j = omega arith in
      let below : 1 + j < T = rw d at lt in
      rw (d, one, next-own s x l fit, next-tick x.event s (is-tick x d)) (ticked-on j (Own s) (omega arith) p))
      (λ d. rw (d, zero-add j, next-own s x l fit, next-same x s j d n p) p)

  log-pending : (xs : List Entry) (j : ℕ) (s : List ℕ) → Log t s xs → Fits t s → not_ended k xs ≡ true → tick_count xs + j < T → PendingAt T j (Own s)
      → PendingAt T (tick_count xs + j) (Own (state_after s xs))
  unfolding not_ended tick_count state_after
  log-pending [] j s l fit n lt p = rw (zero-add j) p
  log-pending (x ∷ xs) j s l fit n lt p =
      let i : ℕ = cond (ticks x) 1 0 in
      let sum : i + tick_count xs + j ≡ tick_count xs + (i + j) = omega arith in
      let one = not-true _ (and_left _ (not_ended k xs) n) in
      rw sum (log-pending xs (i + j) x.state l.1 (entry-fits t h s x l.0 fit) (and_right (not (ended k x)) _ n) (omega arith)
      (entry-pending j s x l.0 fit one (omega arith) p))

-- The wakeup that starts it.

record StartsPending (t : List ℕ) (k : ℕ) (s : List ℕ) (x : Entry) : Type 0 where
  kind : event_kind x.event ≡ event_wakeup
  index : event_index x.event ≡ k
  idle : (eqb (status_in t k s) status_none || eqb (status_in t k s) status_expired) ≡ true
  some : 1 ≤ timeout t k

starts-pending : (t : List ℕ) (k : ℕ) (s : List ℕ) (x : Entry) → becomes_pending t k s x ≡ true → StartsPending t k s x
unfolding becomes_pending
starts-pending t k s x h =
    record {
      kind = eqb-true _ _ (part_of _ (λ e. rw e at h));
      index = eqb-true _ _ (part_of _ (λ e. rw (e, and-false) at h));
      idle = part_of _ (λ e. rw (e, and-false) at h);
      some = leb-true _ _ (part_of _ (λ e. rw (e, and-false) at h));
    }

source-there : (t : List ℕ) (k : ℕ) (s : List ℕ) (x : Entry) → Follows t s x → becomes_pending t k s x ≡ true → k < sources t
source-there t k s x l h = let st = starts-pending t k s x h in rw st.index at (of-wakeup t x.event (taken l) st.kind).there

start-pending : (t : List ℕ) (h : accepted t ≡ true) (k : ℕ) (s : List ℕ) (fit : Fits t s) (x : Entry) → Follows t s x → becomes_pending t k s x ≡ true
    → PendingAt (timeout t k) 0 (word x.state (source_index t k))
unfolding next_source woken_source
start-pending t h k s fit x l woken =
    let st = starts-pending t k s x woken in
    let there = source-there t k s x l woken in
    let one = st.some in
    rw (next-own t h k there s x l fit, st.kind, st.index, eq-eqb k k refl, st.idle, ne_eqb (timeout t k) 0 (λ z. omega arith))
    (pending-packed t h k there (timeout t k) 0 (omega arith))

-- The theorem: from fresh, whatever went before, a wakeup makes k pending, and entries follow that do not end it.

module _ (t : List ℕ) (h : accepted t ≡ true) (k : ℕ) (before : List Entry) (x : Entry)
    (woken : becomes_pending t k (state_after (fresh t) before) x ≡ true) where
  abbrev s₀ : List ℕ
  s₀ = state_after (fresh t) before

  module _ (xs : List Entry) (log : Log t (fresh t) (before ++ x ∷ xs)) where
    fit₀ : Fits t s₀
    fit₀ = log-fits t h (fresh t) before (log-parts t (fresh t) before (x ∷ xs) log).0 (fresh-fits t h)

    here : Follows t s₀ x
    here = (log-parts t (fresh t) before (x ∷ xs) log).1.0

    rest : Log t x.state xs
    rest = (log-parts t (fresh t) before (x ∷ xs) log).1.1

    k-there : k < sources t
    k-there = source-there t k s₀ x here woken

    run : (ys zs : List Entry) → xs ≡ ys ++ zs → not_ended k ys ≡ true → tick_count ys < timeout t k
        → PendingAt (timeout t k) (tick_count ys) (word (state_after x.state ys) (source_index t k))
    run ys zs parts unended early =
        rw add-zero at (log-pending t h k k-there ys 0 x.state (log-parts t x.state ys zs (rw parts at rest)).0
        (entry-fits t h s₀ x here fit₀) unended (rw add-zero early) (start-pending t h k s₀ fit₀ x here woken))

    -- what k shows at the end
    shown-last : shows_status t k (state_after x.state xs) ≡ status_in t k (state_after x.state xs)
    unfolding state_after status_to_show
    shown-last = rw (after-append (fresh t) before (x ∷ xs)) at (source-shows t h k k-there (before ++ x ∷ xs) log).value

  -- before the T-th tick
  pub source-between : (xs : List Entry) → Log t (fresh t) (before ++ x ∷ xs) → not_ended k xs ≡ true → tick_count xs < timeout t k
      → Waiting t k (tick_count xs) (state_after x.state xs)
  source-between xs log unended early =
      let r = run xs log xs [] (sym (append-nil xs)) unended early in
      record { pending = λ z. (r.status, r.remaining, shown-last xs log ∙ r.status); expired = λ z. absurd (omega arith) }

  -- and after the next tick: pending still, or expired if it is the T-th
  pub source-at-tick : (xs : List Entry) (d : Entry) → Log t (fresh t) (before ++ x ∷ (xs ++ d ∷ [])) → not_ended k xs ≡ true → tick_count xs < timeout t k
      → ticks d ≡ true → Waiting t k (suc (tick_count xs)) d.state
  unfolding state_after
  source-at-tick xs d log unended early is =
      let ys = xs ++ d ∷ [] in
      let there = k-there ys log in
      let r = run ys log xs (d ∷ []) refl unended early in
      let parts = log-parts t x.state xs (d ∷ []) (rest ys log) in
      let last : Follows t (state_after x.state xs) d = parts.1.0 in
      let fit₂ = log-fits t h x.state xs parts.0 (entry-fits t h s₀ x (here ys log) (fit₀ ys log)) in
      let v : shows_status t k d.state ≡ status_in t k d.state = rw (after-append x.state xs (d ∷ [])) at (shown-last ys log) in
      let own : word d.state (source_index t k) ≡ ticked_source t (facts t h) k there (word (state_after x.state xs) (source_index t k)) =
      next-own t h k there (state_after x.state xs) d last fit₂ ∙ next-tick t h k there d.event (state_after x.state xs) (is-tick d is) in
      record {
        pending = λ lt. let p = ticked-on t h k there (tick_count xs) _ lt r in
            (ap (λ (w : ℕ). status_of w) own ∙ p.status, ap (λ (w : ℕ). remaining_of w) own ∙ p.remaining, v ∙ ap (λ (w : ℕ). status_of w) own ∙ p.status);
        expired = λ eq. let p = ap (λ (w : ℕ). status_of w) (own ∙ ticked-out t h k there (tick_count xs) _ eq r) ∙ source-status status_expired 0 in (p, v ∙ p);
      }

-- What ends it: a valid or clear that is taken carries the owner's number, not even the platform's, and leaves a pending source
-- validated or none.

module _ (t : List ℕ) (h : accepted t ≡ true) (k : ℕ) (s : List ℕ) (x : Entry) (l : Follows t s x) (over : ended k x ≡ true) where
  abbrev e : ℕ
  e = x.event

  ending : (eqb (event_kind e) event_valid || eqb (event_kind e) event_clear) ≡ true
  unfolding ended
  ending = and_left (eqb (event_kind e) event_valid || eqb (event_kind e) event_clear) _ over

  index : event_index e ≡ k
  unfolding ended
  index = eqb-true _ _ (and_right (eqb (event_kind e) event_valid || eqb (event_kind e) event_clear) _ over)

  pub ended-by-owner : event_owner e ≡ source_owner t k
  ended-by-owner = (of-ending t e (taken l) ending).owner ∙ ap (source_owner t) index

  pub ended-there : k < sources t
  ended-there = rw index at (of-ending t e (taken l) ending).there

  pub ended-status : Fits t s → status_in t k s ≡ status_pending → status_in t k x.state ≡ end_status x
  unfolding next_source valid_source
  ended-status fit pending =
      ap (λ (w : ℕ). status_of w) (next-own t h k ended-there s x l fit)
      ∙ split (eqb (event_kind e) event_valid)
      (λ v. rw (eqb-true (event_kind e) event_valid v, index, eq-eqb k k refl, pending) (source-status status_validated 0))
      (λ v. let c : eqb (event_kind e) event_clear ≡ true = or_elim (eqb (event_kind e) event_valid) _ ending v in
      rw (eqb-true (event_kind e) event_clear c, index, eq-eqb k k refl) (source-status status_none 0))
