-- The network's countdown: after a bus-off taken while full is asked, it shows full again at exactly its L-th following tick and is
-- settled E ticks later, or at the tick after it is first heard in between, if left alone until then. Assumes nothing.
use mathlib.Core.Path.{◌≡◌, refl, sym, ◌∙◌, ap}
use mathlib.Core.Bool.{true, false, cond, ◌&&◌, ◌||◌, not, and-false}
use mathlib.Core.List.{List, [], ◌∷◌, ◌++◌, append-nil}
use Prim.Native.Nat.{ℕ, suc, ◌+◌, ◌-◌, ◌≤◌, ◌<◌, min}
use native.Mathlib.Omega.{arith}
use native.Mathlib.Nat.{zero-add, add-zero}
use lib.Dec.{leb, eqb}
use borrow.Author.Tests.{leb-true, leb-false, le-leb, lt-leb, eqb-true, eq-eqb, ne_eqb, not-true}
use Rattle.rulebook.specs.Table.{networks, threshold, e_ticks}
use Rattle.rulebook.specs.Reasons.{accepted}
use Rattle.rulebook.specs.State.{Network, asked_none, asked_full, state_check, state_full, state_recover, fresh}
use Rattle.rulebook.specs.Lists.{network_in, asking}
use Rattle.rulebook.specs.Events.{event_kind, event_index, event_tick, event_bus_off, event_heard, shown, moved, takes, counter_plus_one, wait, off_bus}
use Rattle.rulebook.specs.Events.{listens, hearing, counted_network, ticked_network, happen}
use Rattle.laws.proofs.Tests.{split, part_of, and_left, and_right, or-intro}
use Rattle.laws.proofs.Facts.{facts}
use Rattle.laws.proofs.FitKept.{Fits}
use Rattle.laws.proofs.Happen.{Taken, of-bus-off}
use Rattle.laws.proofs.Steps.{fresh-fits}
use Rattle.stranger.specs.Logs.{Entry, Follows, Log, state_after, ran}
use Rattle.stranger.specs.Demand.{ticks, tick_count, shows, bus_off_taken, loaded, asks_other, any_word, asks_another, last_asked_in, left_alone, Phase}
use Rattle.stranger.specs.Demand.{hears, heard_from, settles_at, nothing_heard, mode_to_show}
use Rattle.stranger.proofs.Logs.{taken, after-append, log-parts, entry-fits, log-fits}
use Rattle.stranger.proofs.Moves.{next_network, network-moves}
use Rattle.stranger.proofs.Shows.{network-shows}
use Rattle.stranger.proofs.Asked.{full-last}
use Rattle.stranger.proofs.AskedAfter.{asked-after, asked-from-fresh}

-- The tick at which it is settled, D so far, entry by entry.

sooner : ℕ → ℕ → ℕ → ℕ → Entry → ℕ
sooner n L D k x = cond (heard_from n L k x) (min (suc k) D) D

settled-already : (n L D k : ℕ) (xs : List Entry) → D ≤ suc k → settles_at n L D k xs ≡ D
unfolding settles_at
settled-already n L D k [] h = refl
settled-already n L D k (x ∷ xs) h =
    split (heard_from n L k x) (λ e. rw e (omega arith)) (λ e. rw e (settled-already n L D (cond (ticks x) 1 0 + k) xs (omega arith)))

settles_on : (n L D k : ℕ) (x : Entry) (xs : List Entry) → settles_at n L D k (x ∷ xs) ≡ settles_at n L (sooner n L D k x) (cond (ticks x) 1 0 + k) xs
unfolding settles_at sooner
settles_on n L D k x xs =
    split (heard_from n L k x) (λ e. rw e (sym (settled-already n L (min (suc k) D) (cond (ticks x) 1 0 + k) xs (omega arith)))) (λ e. rw e)

settles-at-most : (n L D k : ℕ) (xs : List Entry) → settles_at n L D k xs ≤ D
unfolding settles_at
settles-at-most n L D k [] = omega arith
settles-at-most n L D k (x ∷ xs) =
    split (heard_from n L k x) (λ e. rw e (omega arith)) (λ e. rw e (settles-at-most n L D (cond (ticks x) 1 0 + k) xs))

unheard-settles : (n L D k : ℕ) (xs : List Entry) → nothing_heard n L k xs ≡ true → settles_at n L D k xs ≡ D
unfolding settles_at nothing_heard
unheard-settles n L D k [] h = refl
unheard-settles n L D k (x ∷ xs) h =
    rw (not-true (heard_from n L k x) (and_left (not (heard_from n L k x)) _ h))
    (unheard-settles n L D (cond (ticks x) 1 0 + k) xs (and_right (not (heard_from n L k x)) _ h))

-- The phase, of the network's fields alone: recovering, in check with nothing heard, in check and heard, settled.
data PhaseOf (L E D k : ℕ) (c : Network) : Type 0 where
  recovering : k < L → D ≡ L + E → c.state ≡ state_recover → c.remaining ≡ L - k → PhaseOf L E D k c
  checking : L ≤ k → k < D → D ≡ L + E → (c.heard ≡ 1 → ⊥) → c.state ≡ state_check → c.remaining ≡ L + E - k → PhaseOf L E D k c
  heard : L ≤ k → D ≡ suc k → c.heard ≡ 1 → c.state ≡ state_check → c.remaining ≡ L + E - k → PhaseOf L E D k c
  settled : L < D → D ≤ k → c.state ≡ state_full → PhaseOf L E D k c

phase-here : (L E D k : ℕ) (a b : Network) → asking 0 a ≡ asking 0 b → PhaseOf L E D k b → PhaseOf L E D k a
phase-here L E D k a b e p = go p
  where
    state : a.state ≡ b.state
    state = ap (λ (u : Network). u.state) e

    remaining : a.remaining ≡ b.remaining
    remaining = ap (λ (u : Network). u.remaining) e

    told : a.heard ≡ b.heard
    told = ap (λ (u : Network). u.heard) e

    go : PhaseOf L E D k b → PhaseOf L E D k a
    go (recovering lt d s r) = recovering lt d (state ∙ s) (remaining ∙ r)
    go (checking ge lt d q s r) = checking ge lt d (λ z. q (sym told ∙ z)) (state ∙ s) (remaining ∙ r)
    go (heard ge d q s r) = heard ge d (told ∙ q) (state ∙ s) (remaining ∙ r)
    go (settled l past s) = settled l past (state ∙ s)

-- a network that is asked full, counting

counts-in : (t : List ℕ) (n : ℕ) (c : Network) (st : ℕ) → c.asked ≡ asked_full → c.state ≡ st → 2 ≤ st → ticked_network t n c ≡ counted_network t n c
unfolding ticked_network
counts-in t n c st a e two = rw (a, e, ne_eqb st 0 (λ z. omega arith), ne_eqb st 1 (λ z. omega arith))

recover-last : (t : List ℕ) (n : ℕ) (c : Network) → c.state ≡ state_recover → c.remaining ≤ 1
    → counted_network t n c ≡ moved state_check c.counter (e_ticks t n) c
unfolding counted_network
recover-last t n c e r = rw (e, le-leb c.remaining 1 r)

recover-on : (t : List ℕ) (n : ℕ) (c : Network) → c.state ≡ state_recover → 1 < c.remaining
    → counted_network t n c ≡ moved state_recover c.counter (c.remaining - 1) c
unfolding counted_network
recover-on t n c e r = rw (e, lt-leb c.remaining 1 r)

check-last : (t : List ℕ) (n : ℕ) (c : Network) → c.state ≡ state_check → (eqb c.heard 1 || leb c.remaining 1) ≡ true
    → counted_network t n c ≡ moved state_full 0 0 c
unfolding counted_network
check-last t n c e r = rw (e, r)

check-on : (t : List ℕ) (n : ℕ) (c : Network) → c.state ≡ state_check → (c.heard ≡ 1 → ⊥) → 1 < c.remaining
    → counted_network t n c ≡ moved state_check c.counter (c.remaining - 1) c
unfolding counted_network
check-on t n c e q r = rw (e, ne_eqb c.heard 1 q, lt-leb c.remaining 1 r)

full-stays : (t : List ℕ) (n : ℕ) (c : Network) → c.state ≡ state_full → counted_network t n c ≡ c
unfolding counted_network
full-stays t n c e = rw e

-- One tick, by the phase before it.
module _ (t : List ℕ) (n L D k : ℕ) (c : Network) (one : 1 ≤ e_ticks t n) (asked : c.asked ≡ asked_full) where
  abbrev E : ℕ
  E = e_ticks t n

  -- what the tick makes of it
  counted-as : (st : ℕ) (x : Network) → c.state ≡ st → 2 ≤ st → counted_network t n c ≡ x → PhaseOf L E D (suc k) x
      → PhaseOf L E D (suc k) (ticked_network t n c)
  counted-as st x e two is q = phase-here L E D (suc k) _ x (ap (asking 0) (counts-in t n c st asked e two ∙ is)) q

  phase-tick : PhaseOf L E D k c → PhaseOf L E D (suc k) (ticked_network t n c)
  phase-tick (recovering lt d s r) =
      split (leb c.remaining 1)
      (λ y. let le : c.remaining ≤ 1 = leb-true _ _ y in
      counted-as state_recover _ s (omega arith) (recover-last t n c s le) (checking (omega arith) (omega arith) d (λ z. omega arith) refl (omega arith)))
      (λ y. let gt : 1 < c.remaining = leb-false _ _ y in
      counted-as state_recover _ s (omega arith) (recover-on t n c s gt) (recovering (omega arith) d refl (omega arith)))
  phase-tick (checking ge lt d q s r) =
      split (leb c.remaining 1)
      (λ y. let le : c.remaining ≤ 1 = leb-true _ _ y in
      counted-as state_check _ s (omega arith) (check-last t n c s (or-intro (eqb c.heard 1) _ (λ z. y))) (settled (omega arith) (omega arith) refl))
      (λ y. let gt : 1 < c.remaining = leb-false _ _ y in
      counted-as state_check _ s (omega arith) (check-on t n c s q gt) (checking (omega arith) (omega arith) d (λ z. omega arith) refl (omega arith)))
  phase-tick (heard ge d q s r) = counted-as state_check _ s (omega arith) (check-last t n c s (rw q)) (settled (omega arith) (omega arith) refl)
  phase-tick (settled l past s) = counted-as state_full _ s (omega arith) (full-stays t n c s) (settled l (omega arith) s)

-- A heard: in check it settles at the next tick, in recover and full nothing changes.

listens-in : (c : Network) (st : ℕ) → c.state ≡ st → listens c ≡ eqb st state_check
unfolding listens
listens-in c st e = rw e

heard-phase : (L E D k : ℕ) (c : Network) → PhaseOf L E D k c → PhaseOf L E (cond (leb L k) (min (suc k) D) D) k (cond (listens c) (hearing c) c)
heard-phase L E D k c (recovering lt d s r) = rw (lt-leb L k lt, listens-in c state_recover s) (recovering lt d s r)
heard-phase L E D k c (checking ge lt d q s r) =
    let now : min (suc k) D ≡ suc k = omega arith in rw (le-leb L k ge, now, listens-in c state_check s) (heard ge refl refl s r)
heard-phase L E D k c (heard ge d q s r) =
    let now : min (suc k) D ≡ suc k = omega arith in rw (le-leb L k ge, now, listens-in c state_check s) (heard ge refl refl s r)
heard-phase L E D k c (settled l past s) =
    let same : min (suc k) D ≡ D = omega arith in rw (le-leb L k (omega arith), same, listens-in c state_full s) (settled l past s)

-- One entry.

module _ (t : List ℕ) (h : accepted t ≡ true) (n : ℕ) (b : n < networks t) (L : ℕ) where
  abbrev At : ℕ → ℕ → List ℕ → Type 0
  At D k s = PhaseOf L (e_ticks t n) D k (network_in t n s)

  -- what an event makes of n
  next-is : (e : ℕ) (os s : List ℕ) (D k : ℕ) → Taken t e → Fits t s → PhaseOf L (e_ticks t n) D k (next_network t (facts t h) n b e s)
      → At D k (happen t e os s).state
  next-is e os s D k w fit p = phase-here L _ D k _ _ (network-moves t (facts t h) n b e os s w fit).own p

  next-tick : (e : ℕ) (s : List ℕ) → event_kind e ≡ event_tick → next_network t (facts t h) n b e s ≡ ticked_network t n (network_in t n s)
  unfolding next_network
  next-tick e s k = rw k

  tick-done : (D k : ℕ) (os s : List ℕ) (e : ℕ) → event_kind e ≡ event_tick → Taken t e → Fits t s → (network_in t n s).asked ≡ asked_full → At D k s
      → At D (suc k) (happen t e os s).state
  tick-done D k os s e is w fit a p =
      next-is e os s D (suc k) w fit (rw (next-tick e s is) (phase-tick t n L D k (network_in t n s) ((facts t h).waits n b).eticks a p))

  -- no tick and no bus-off that is taken: heard, or nothing
  other-done : (D k : ℕ) (s : List ℕ) (x : Entry) → eqb (event_kind x.event) event_tick ≡ false → bus_off_taken t n s x ≡ false → At D k s
      → PhaseOf L (e_ticks t n) (sooner n L D k x) k (next_network t (facts t h) n b x.event s)
  unfolding next_network bus_off_taken sooner heard_from hears
  other-done D k s x d quiet p =
      split (eqb (event_kind x.event) event_heard && eqb (event_index x.event) n)
      (λ z. rw (d, quiet, z) (heard-phase L (e_ticks t n) D k (network_in t n s) p)) (λ z. rw (d, quiet, z) p)

  -- a tick is no heard
  tick-silent : (D k : ℕ) (x : Entry) → event_kind x.event ≡ event_tick → sooner n L D k x ≡ D
  unfolding sooner heard_from hears
  tick-silent D k x is = rw is

  entry-phase : (D k : ℕ) (s : List ℕ) (x : Entry) → Follows t s x → Fits t s → (network_in t n s).asked ≡ asked_full → bus_off_taken t n s x ≡ false → At D k s
      → At (sooner n L D k x) (cond (ticks x) 1 0 + k) x.state
  unfolding ticks
  entry-phase D k s x f fit a quiet p =
      phase-here L _ _ _ (network_in t n x.state) (network_in t n (ran t s x).state) (ap (λ (u : List ℕ). asking 0 (network_in t n u)) f.state)
      (split (eqb (event_kind x.event) event_tick)
      (λ d. let one : 1 + k ≡ suc k = omega arith in let is = eqb-true _ _ d in
      rw (d, one, tick-silent D k x is) (tick-done D k _ s x.event is (taken f) fit a p))
      (λ d. rw (d, zero-add k) (next-is x.event _ s _ k (taken f) fit (other-done D k s x d quiet p))))

  entry-asked : (s : List ℕ) (x : Entry) → Follows t s x → Fits t s → (network_in t n s).asked ≡ asked_full → asks_another n x ≡ false
      → (network_in t n x.state).asked ≡ asked_full
  unfolding asks_another
  entry-asked s x f fit a quiet =
      ap (λ (y : List ℕ). (network_in t n y).asked) f.state
      ∙ asked-after t (facts t h) n b x.event _ s (taken f) fit
      ∙ rw a (full-last n (ran t s x).words (rw f.words at quiet))

  -- a log that leaves n alone
  log-phase : (xs : List Entry) (D k : ℕ) (s : List ℕ) → Log t s xs → Fits t s → (network_in t n s).asked ≡ asked_full → left_alone t n s xs ≡ true → At D k s
      → At (settles_at n L D k xs) (tick_count xs + k) (state_after s xs) × ((network_in t n (state_after s xs)).asked ≡ asked_full)
  unfolding left_alone tick_count state_after
  log-phase [] D k s l fit a alone p = (unfold settles_at in rw (zero-add k) p, a)
  log-phase (x ∷ xs) D k s l fit a alone p =
      let s₁ = x.state in
      let q : bus_off_taken t n s x ≡ false = not-true _ (and_left _ (not (asks_another n x)) (and_left _ (left_alone t n s₁ xs) alone)) in
      let m : asks_another n x ≡ false = not-true _ (and_right (not (bus_off_taken t n s x)) _ (and_left _ (left_alone t n s₁ xs) alone)) in
      let rest : left_alone t n s₁ xs ≡ true = and_right (not (bus_off_taken t n s x) && not (asks_another n x)) _ alone in
      let j : ℕ = cond (ticks x) 1 0 in
      let r = log-phase xs (sooner n L D k x) (j + k) s₁ l.1 (entry-fits t h s x l.0 fit) (entry-asked s x l.0 fit a m) rest
      (entry-phase D k s x l.0 fit a q p) in
      let sum : j + tick_count xs + k ≡ tick_count xs + (j + k) = omega arith in
      (rw (sum, settles_on n L D k x xs) r.0, r.1)

-- The bus-off that starts it.

record Starts (t : List ℕ) (n : ℕ) (s : List ℕ) (x : Entry) : Type 0 where
  kind : event_kind x.event ≡ event_bus_off
  index : event_index x.event ≡ n
  took : takes (network_in t n s) ≡ true

starts : (t : List ℕ) (n : ℕ) (s : List ℕ) (x : Entry) → bus_off_taken t n s x ≡ true → Starts t n s x
unfolding bus_off_taken
starts t n s x h =
    record {
      kind = eqb-true _ _ (part_of _ (λ e. rw e at h));
      index = eqb-true _ _ (part_of _ (λ e. rw (e, and-false) at h));
      took = and_right (eqb (event_kind x.event) event_bus_off && eqb (event_index x.event) n) _ h;
    }

no_words : (t os s : List ℕ) (e : ℕ) → event_kind e ≡ event_bus_off → (happen t e os s).words ≡ []
unfolding happen
no_words t os s e k = rw k

module _ (t : List ℕ) (h : accepted t ≡ true) (n : ℕ) (s : List ℕ) (fit : Fits t s) (x : Entry) (f : Follows t s x) (off : bus_off_taken t n s x ≡ true) where
  there : n < networks t
  there = let st = starts t n s x off in rw st.index at (of-bus-off t x.event (taken f) st.kind).there

  wait-some : 1 ≤ loaded t n s
  unfolding wait
  wait-some = let w = (facts t h).waits n there in split (leb (counter_plus_one (network_in t n s)) (threshold t n)) (λ e. rw e w.l1) (λ e. rw e w.l2)

  next-off : next_network t (facts t h) n there x.event s ≡ off_bus t n (counter_plus_one (network_in t n s)) (network_in t n s)
  unfolding next_network
  next-off = let st = starts t n s x off in rw (st.kind, st.index, eq-eqb n n refl, st.took)

  start-phase : PhaseOf (loaded t n s) (e_ticks t n) (loaded t n s + e_ticks t n) 0 (network_in t n x.state)
  unfolding off_bus
  start-phase =
      rw f.state (next-is t h n there (loaded t n s) x.event _ s _ 0 (taken f) fit (rw next-off (recovering wait-some refl refl (omega arith))))

  start-asked : (network_in t n s).asked ≡ asked_full → (network_in t n x.state).asked ≡ asked_full
  unfolding asks_another any_word
  start-asked a =
      entry-asked t h n there (loaded t n s) s x f fit a (ap (any_word (asks_other n)) (f.words ∙ no_words t _ s x.event (starts t n s x off).kind))

-- The theorem.

phase-shown : (t : List ℕ) (n L D k : ℕ) (s : List ℕ) → 1 ≤ e_ticks t n → shows t n s ≡ mode_to_show t n s → PhaseOf L (e_ticks t n) D k (network_in t n s)
    → Phase t n L D k s
unfolding mode_to_show shown
phase-shown t n L D k s one v (recovering lt d e r) =
    record { recovering = λ z. (e, r, v ∙ rw e); checking = λ z y. absurd (omega arith); settled = λ z. absurd (omega arith) }
phase-shown t n L D k s one v (checking ge lt d q e r) =
    record { recovering = λ z. absurd (omega arith); checking = λ z y. (e, r, v ∙ rw e); settled = λ z. absurd (omega arith) }
phase-shown t n L D k s one v (heard ge d q e r) =
    record { recovering = λ z. absurd (omega arith); checking = λ z y. (e, r, v ∙ rw e); settled = λ z. absurd (omega arith) }
phase-shown t n L D k s one v (settled l past e) =
    record { recovering = λ z. absurd (omega arith); checking = λ z y. absurd (omega arith); settled = λ z. (e, v ∙ rw e) }

-- from fresh, whatever went before: a bus-off of n is taken while full is what it was last asked for
module _ (t : List ℕ) (h : accepted t ≡ true) (n : ℕ) (before : List Entry) (x : Entry)
    (off : bus_off_taken t n (state_after (fresh t) before) x ≡ true) (full : last_asked_in n asked_none before ≡ asked_full) where
  abbrev s₀ : List ℕ
  s₀ = state_after (fresh t) before

  -- when it is settled, by what is heard in these entries
  abbrev settles : List Entry → ℕ
  settles ys = settles_at n (loaded t n s₀) (loaded t n s₀ + e_ticks t n) 0 ys

  module _ (xs : List Entry) (log : Log t (fresh t) (before ++ x ∷ xs)) where
    fit₀ : Fits t s₀
    fit₀ = log-fits t h (fresh t) before (log-parts t (fresh t) before (x ∷ xs) log).0 (fresh-fits t h)

    here : Follows t s₀ x
    here = (log-parts t (fresh t) before (x ∷ xs) log).1.0

    rest : Log t x.state xs
    rest = (log-parts t (fresh t) before (x ∷ xs) log).1.1

    n-there : n < networks t
    n-there = there t h n s₀ fit₀ x here off

    asked₁ : (network_in t n x.state).asked ≡ asked_full
    asked₁ = start-asked t h n s₀ fit₀ x here off (asked-from-fresh t h n n-there before (log-parts t (fresh t) before (x ∷ xs) log).0 ∙ full)

    run : (ys zs : List Entry) → xs ≡ ys ++ zs → left_alone t n x.state ys ≡ true
        → PhaseOf (loaded t n s₀) (e_ticks t n) (settles ys) (tick_count ys) (network_in t n (state_after x.state ys)) ×
        ((network_in t n (state_after x.state ys)).asked ≡ asked_full)
    run ys zs parts alone =
        let l = (log-parts t x.state ys zs (rw parts at rest)).0 in
        let r = log-phase t h n n-there (loaded t n s₀) ys _ 0 x.state l (entry-fits t h s₀ x here fit₀) asked₁ alone
        (start-phase t h n s₀ fit₀ x here off) in
        (rw add-zero at r.0, r.1)

    some-ticks : 1 ≤ e_ticks t n
    some-ticks = ((facts t h).waits n n-there).eticks

    -- what n shows at the end
    shown-last : shows t n (state_after x.state xs) ≡ mode_to_show t n (state_after x.state xs)
    unfolding state_after
    shown-last = rw (after-append (fresh t) before (x ∷ xs)) at (network-shows t h n n-there (before ++ x ∷ xs) log).value

  -- after entries that leave it alone: between ticks nothing of it changes
  pub network-between : (xs : List Entry) → Log t (fresh t) (before ++ x ∷ xs) → left_alone t n x.state xs ≡ true
      → Phase t n (loaded t n s₀) (settles xs) (tick_count xs) (state_after x.state xs)
  network-between xs log alone = phase-shown t n _ _ _ _ (some-ticks xs log) (shown-last xs log) (run xs log xs [] (sym (append-nil xs)) alone).0

  -- and after the next tick, whatever that tick's own lists ask for
  pub network-at-tick : (xs : List Entry) (d : Entry) → Log t (fresh t) (before ++ x ∷ (xs ++ d ∷ [])) → left_alone t n x.state xs ≡ true → ticks d ≡ true
      → Phase t n (loaded t n s₀) (settles xs) (suc (tick_count xs)) d.state
  unfolding ticks state_after
  network-at-tick xs d log alone is =
      let r = run (xs ++ d ∷ []) log xs (d ∷ []) refl alone in
      let parts = log-parts t x.state xs (d ∷ []) (rest (xs ++ d ∷ []) log) in
      let last : Follows t (state_after x.state xs) d = parts.1.0 in
      let fit₂ = log-fits t h x.state xs parts.0 (entry-fits t h s₀ x (here (xs ++ d ∷ []) log) (fit₀ (xs ++ d ∷ []) log)) in
      phase-shown t n _ _ _ d.state (some-ticks (xs ++ d ∷ []) log) (rw (after-append x.state xs (d ∷ [])) at (shown-last (xs ++ d ∷ []) log))
      (rw last.state (tick-done t h n (n-there (xs ++ d ∷ []) log) (loaded t n s₀) _ (tick_count xs) _ (state_after x.state xs) d.event (eqb-true _ _ is)
      (taken last) fit₂ r.1 r.0))

  -- the two sentences of Q-8
  pub network-at-most : (xs : List Entry) (d : Entry) → Log t (fresh t) (before ++ x ∷ (xs ++ d ∷ [])) → left_alone t n x.state xs ≡ true → ticks d ≡ true
      → loaded t n s₀ + e_ticks t n ≤ suc (tick_count xs) → (network_in t n d.state).state ≡ state_full
  network-at-most xs d log alone is late =
      let soon = settles-at-most n (loaded t n s₀) (loaded t n s₀ + e_ticks t n) 0 xs in ((network-at-tick xs d log alone is).settled (omega arith)).0

  pub network-exactly : (xs : List Entry) (d : Entry) → Log t (fresh t) (before ++ x ∷ (xs ++ d ∷ [])) → left_alone t n x.state xs ≡ true → ticks d ≡ true
      → nothing_heard n (loaded t n s₀) 0 xs ≡ true → Phase t n (loaded t n s₀) (loaded t n s₀ + e_ticks t n) (suc (tick_count xs)) d.state
  network-exactly xs d log alone is unheard = rw (unheard-settles n (loaded t n s₀) _ 0 xs unheard) at (network-at-tick xs d log alone is)
