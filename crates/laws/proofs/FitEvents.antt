-- States stay fit: each event keeps the fit, and the fresh state fits. Assumes nothing.
use mathlib.Core.Path.{◌≡◌, refl}
use mathlib.Core.Bool.{true, cond, ◌&&◌, ◌||◌, not, and-false}
use mathlib.Core.List.{List}
use Prim.Native.Nat.{ℕ, ◌-◌, ◌≤◌, ◌<◌, max}
use native.Mathlib.Omega.{arith}
use lib.Dec.{leb, eqb}
use borrow.Author.Tests.{ltb-true, leb-false, eqb-true, eqb-false}
use Rattle.rulebook.specs.Words.{word}
use Rattle.rulebook.specs.Table.{ports, networks, sources, port_kind, port_mode, port_event, port_timer, deferred, has_initial, network_port, source_port, threshold}
use Rattle.rulebook.specs.Table.{l1, l2, e_ticks, timeout}
use Rattle.rulebook.specs.Reasons.{may_show}
use Rattle.rulebook.specs.State.{source_index, value_of, timer_started, timer_expired, Network, asked_none, asked_silent, asked_full, state_none, state_silent}
use Rattle.rulebook.specs.State.{state_check, state_full, state_recover, status_none, status_pending, status_validated, status_expired}
use Rattle.rulebook.specs.Lists.{Run, start, set_port, network_in}
use Rattle.rulebook.specs.Arbitration.{arbitrate}
use Rattle.rulebook.specs.Events.{event_index, event_value, only, request, status_in, set_source, move_source, wake, validate, clear, shown, moved, move_network}
use Rattle.rulebook.specs.Events.{takes, wait, off_bus, bus_off, listens, hearing, hear, counted_network, ticked_network, tick_network, remaining_in}
use Rattle.rulebook.specs.Events.{tick_source, tick_timer, tick_things, arbitrate_marked, tick, happen}
use Rattle.laws.specs.Facts.{Facts}
use Rattle.laws.proofs.Tests.{split, part_of, and_left, and_right, or-none}
use Rattle.laws.proofs.Walks.{each_keeps}
use Rattle.laws.proofs.Fields.{digit-small}
use Rattle.laws.proofs.Fit.{NetworkOk, SourceOk}
use Rattle.laws.proofs.FitKept.{Fits, port-in, network-in, source_in, port-put, network-put, source-put, timer-deferred, plain_ok, timer-ok}
use Rattle.laws.proofs.FitKept.{arbitrate-fits}
use Rattle.laws.proofs.Happen.{Taken, OnSource, a_wakeup, a_valid, a_clear, OnNetwork, a_bus_off, a_heard}
use Rattle.laws.proofs.Happen.{Event, a_tick, a_mode, a_request, of_source, of_network, event}

-- The port of a network or a source.

pub record MayShow (t : List ℕ) (p : ℕ) : Type 0 where
  pub there : p < ports t
  pub mode : port_kind t p ≡ port_mode
  pub late : deferred t p ≡ 1
  pub bare : has_initial t p ≡ 0

pub may-show : (t : List ℕ) (p : ℕ) → may_show t p ≡ true → MayShow t p
unfolding may_show
may-show t p h =
    record {
      there = ltb-true _ _ (part_of _ (λ e. rw (may_show, e) at h));
      mode = eqb-true _ _ (part_of _ (λ e. rw (may_show, e, and-false) at h));
      late = eqb-true _ _ (part_of _ (λ e. rw (may_show, e, and-false) at h));
      bare = eqb-true _ _ (part_of _ (λ e. rw (may_show, e, and-false) at h));
    }

show-fits : (t s : List ℕ) (p v : ℕ) → may_show t p ≡ true → v < 256 → Fits t s → Fits t (set_port p 1 v 0 s)
unfolding set_port
show-fits t s p v m v₈ h =
    let w = may-show t p m in
    port-put t s h p 1 1 v 0 w.there
    (plain_ok t p 1 v (λ e. let k : port_kind t p ≡ port_mode = w.mode in omega arith) (omega arith)
    (λ k e. let d : deferred t p ≡ 1 = w.late in absurd (omega arith)) v₈ (λ e. let k : port_kind t p ≡ port_mode = w.mode in absurd (omega arith)))

module _ (t : List ℕ) (f : Facts t) where
  -- Sources.

  pub move-source-fits : (k status r : ℕ) (s : List ℕ) → k < sources t → SourceOk t k status r → Fits t s → Fits t (move_source t k status r s)
  unfolding move_source set_source
  move-source-fits k status r s b o h =
      split (eqb status (status_in t k s)) (λ e. rw e (source-put t s h k status r o))
      (λ e. rw e (show-fits t _ (source_port t k) status (f.source k b).may (let c : status < 4 = o.status₂ in omega arith) (source-put t s h k status r o)))

  pub idle-ok : (k status : ℕ) → status < 4 → (status ≡ status_pending → ⊥) → SourceOk t k status 0
  idle-ok k status b n = record { status₂ = b; remaining₁₆ = omega arith; pending = λ e. absurd (n e); rest = λ e. refl }

  pub woken-ok : (k : ℕ) → SourceOk t k (cond (eqb (timeout t k) 0) status_validated status_pending) (timeout t k)
  woken-ok k =
      let cap : timeout t k < 65536 = digit-small _ 65536 _ (omega arith) in
      split (eqb (timeout t k) 0)
      (λ e. let z : timeout t k ≡ 0 = eqb-true _ _ e in rw e
      (record { status₂ = omega arith; remaining₁₆ = cap; pending = λ a. absurd (omega arith); rest = λ a. z }))
      (λ e. let z : (timeout t k ≡ 0 → ⊥) = eqb-false _ _ e in rw e
      (record { status₂ = omega arith; remaining₁₆ = cap; pending = λ a. (omega arith, omega arith); rest = λ a. absurd (a refl) }))

  pub tick-source-fits : (k : ℕ) (s : List ℕ) → k < sources t → Fits t s → Fits t (tick_source t k s)
  unfolding tick_source
  tick-source-fits k s b h =
      let o = source_in t s h k b in
      split (eqb (status_in t k s) status_pending)
      (λ e. let p = o.pending (eqb-true _ _ e) in let r₁₆ = o.remaining₁₆ in
      split (leb (remaining_in s (source_index t k)) 1)
      (λ d. rw (e, d) (move-source-fits k _ _ s b (idle-ok k status_expired (omega arith) (λ z. omega arith)) h))
      (λ d. let m : 1 < remaining_in s (source_index t k) = leb-false _ _ d in
      rw (e, d) (move-source-fits k _ _ s b
      (record { status₂ = omega arith; remaining₁₆ = omega arith; pending = λ z. (omega arith, omega arith); rest = λ z. absurd (z refl) }) h)))
      (λ e. rw e h)

  -- Networks.

  pub shown-small : (state : ℕ) → shown state < 256
  unfolding shown
  shown-small state =
      split (eqb state state_none) (λ a. rw a (omega arith))
      (λ a. split (eqb state state_silent) (λ b. rw (a, b) (omega arith))
      (λ b. split (eqb state state_recover) (λ c. rw (a, b, c) (omega arith)) (λ c. rw (a, b, c) (omega arith))))

  pub move-network-fits : (n : ℕ) (c : Network) (s : List ℕ) → n < networks t → NetworkOk t n c → Fits t s → Fits t (move_network t n c s)
  unfolding move_network
  move-network-fits n c s b o h =
      split (eqb (shown c.state) (shown (network_in t n s).state)) (λ e. rw e (network-put t s h n c b o))
      (λ e. rw e (show-fits t _ (network_port t n) (shown c.state) (f.network n b).may (shown-small c.state) (network-put t s h n c b o)))

  -- at rest in none, silent or full
  resting-ok : (n st : ℕ) (c : Network) → NetworkOk t n c → st ≤ state_recover → (st ≡ state_check → ⊥) → (st ≡ state_recover → ⊥) → NetworkOk t n (moved st 0 0 c)
  resting-ok n st c o b x y =
      record {
        counter₈ = omega arith;
        remaining₁₆ = omega arith;
        modes = o.modes;
        states = b;
        check = λ e. absurd (x e);
        recover = λ e. absurd (y e);
        rest = λ a d. (refl, refl);
        counted = λ e. absurd (y e);
        heard₁ = omega arith;
        listens = λ e. absurd (omega arith);
      }

  checking-ok : (n k r : ℕ) (c : Network) → NetworkOk t n c → k < 256 → 1 ≤ r → r ≤ e_ticks t n → NetworkOk t n (moved state_check k r c)
  checking-ok n k r c o b x y =
      let cap : e_ticks t n < 65536 = digit-small _ 65536 _ (omega arith) in
      record {
        counter₈ = b;
        remaining₁₆ = omega arith;
        modes = o.modes;
        states = omega arith;
        check = λ e. (x, y);
        recover = λ e. absurd (omega arith);
        rest = λ a d. absurd (a refl);
        counted = λ e. absurd (omega arith);
        heard₁ = omega arith;
        listens = λ e. absurd (omega arith);
      }

  recovering-ok : (n k r : ℕ) (c : Network) → NetworkOk t n c → k < 256 → 1 ≤ k → 1 ≤ r → r ≤ max (l1 t n) (l2 t n) → NetworkOk t n (moved state_recover k r c)
  recovering-ok n k r c o b z x y =
      let short : l1 t n < 256 = digit-small _ 256 _ (omega arith) in
      let long : l2 t n < 256 = digit-small _ 256 _ (omega arith) in
      record {
        counter₈ = b;
        remaining₁₆ = omega arith;
        modes = o.modes;
        states = omega arith;
        check = λ e. absurd (omega arith);
        recover = λ e. (x, y);
        rest = λ a d. absurd (d refl);
        counted = λ e. z;
        heard₁ = omega arith;
        listens = λ e. absurd (omega arith);
      }

  pub off-bus-ok : (n k : ℕ) (c : Network) → n < networks t → NetworkOk t n c → k < 256 → 1 ≤ k → NetworkOk t n (off_bus t n k c)
  unfolding off_bus wait
  off-bus-ok n k c b o x y =
      let w = f.waits n b in let s₁ = w.l1 in let l₁ = w.l2 in
      split (leb k (threshold t n)) (λ e. rw e (recovering-ok n k (l1 t n) c o x y (omega arith) (omega arith)))
      (λ e. rw e (recovering-ok n k (l2 t n) c o x y (omega arith) (omega arith)))

  pub hearing-ok : (n : ℕ) (c : Network) → NetworkOk t n c → listens c ≡ true → NetworkOk t n (hearing c)
  unfolding listens
  hearing-ok n c o e =
      record {
        counter₈ = o.counter₈;
        remaining₁₆ = o.remaining₁₆;
        modes = o.modes;
        states = o.states;
        check = o.check;
        recover = o.recover;
        rest = o.rest;
        counted = o.counted;
        heard₁ = omega arith;
        listens = λ z. eqb-true _ _ e;
      }

  counted-ok : (n : ℕ) (c : Network) → n < networks t → NetworkOk t n c → NetworkOk t n (counted_network t n c)
  unfolding counted_network
  counted-ok n c b o =
      let e₁ = (f.waits n b).eticks in let k₈ = o.counter₈ in
      split (eqb c.state state_recover)
      (λ e. let p = o.recover (eqb-true _ _ e) in let k₁ = o.counted (eqb-true _ _ e) in
      split (leb c.remaining 1) (λ d. rw (e, d) (checking-ok n c.counter (e_ticks t n) c o o.counter₈ (omega arith) (omega arith)))
      (λ d. let m : 1 < c.remaining = leb-false _ _ d in rw (e, d)
      (recovering-ok n c.counter (c.remaining - 1) c o o.counter₈ (omega arith) (omega arith) (omega arith))))
      (λ e. split (eqb c.state state_check)
      (λ g. let p = o.check (eqb-true _ _ g) in
      split (eqb c.heard 1 || leb c.remaining 1)
      (λ d. rw (e, g, d) (resting-ok n state_full c o (omega arith) (λ z. omega arith) (λ z. omega arith)))
      (λ d. let m : 1 < c.remaining = leb-false _ _ (or-none (eqb c.heard 1) _ d).1 in rw (e, g, d)
      (checking-ok n c.counter (c.remaining - 1) c o o.counter₈ (omega arith) (omega arith))))
      (λ g. rw (e, g) o))

  pub ticked-ok : (n : ℕ) (c : Network) → n < networks t → NetworkOk t n c → NetworkOk t n (ticked_network t n c)
  unfolding ticked_network
  ticked-ok n c b o =
      let e₁ = (f.waits n b).eticks in
      split (eqb c.asked asked_none) (λ x. rw x (resting-ok n state_none c o (omega arith) (λ z. omega arith) (λ z. omega arith)))
      (λ x. split (eqb c.asked asked_silent && not (eqb c.state state_none))
      (λ y. rw (x, y) (resting-ok n state_silent c o (omega arith) (λ z. omega arith) (λ z. omega arith)))
      (λ y. split (eqb c.asked asked_full && (eqb c.state state_none || eqb c.state state_silent))
      (λ z. rw (x, y, z) (checking-ok n 0 (e_ticks t n) c o (omega arith) (omega arith) (omega arith)))
      (λ z. rw (x, y, z) (counted-ok n c b o))))

  pub tick-network-fits : (n : ℕ) (s : List ℕ) → n < networks t → Fits t s → Fits t (tick_network t n s)
  unfolding tick_network
  tick-network-fits n s b h = move-network-fits n _ s b (ticked-ok n _ b (network-in t s h n b)) h

  -- Timers, the tick, requests.

  tick-timer-fits : (p : ℕ) (s : List ℕ) → p < ports t → Fits t s → Fits t (tick_timer t p s)
  unfolding tick_timer set_port
  tick-timer-fits p s b h =
      let o = port-in t s h p b in
      split (eqb (port_kind t p) port_timer && eqb (value_of (word s p)) timer_started)
      (λ e. let k = eqb-true _ _ (and_left _ (eqb (value_of (word s p)) timer_started) e) in
      let v = eqb-true _ _ (and_right (eqb (port_kind t p) port_timer) _ e) in
      let r = o.started k v in let d₁ = timer-deferred t p (f.port p b) k in
      split (leb (remaining_in s p) 1)
      (λ d. rw (e, d) (port-put t s h p 1 1 timer_expired 0 b
      (timer-ok t p 1 timer_expired 0 k d₁ (omega arith) (omega arith) (omega arith) (λ z. absurd (omega arith)) (λ z. refl))))
      (λ d. let m : 1 < remaining_in s p = leb-false _ _ d in
      rw (e, d) (port-put t s h p 1 _ timer_started _ b
      (timer-ok t p _ timer_started _ k d₁ o.marked₂ (omega arith) (omega arith) (λ z. omega arith) (λ z. absurd (z refl))))))
      (λ e. rw e h)

  pub things-fit : (s : List ℕ) → Fits t s → Fits t (tick_things t s)
  unfolding tick_things
  things-fit s h =
      each_keeps (Fits t) (tick_timer t) 0 (ports t) _ (λ p x a b. tick-timer-fits p x (omega arith))
      (each_keeps (Fits t) (tick_source t) 0 (sources t) _ (λ k x a b. tick-source-fits k x (omega arith))
      (each_keeps (Fits t) (tick_network t) 0 (networks t) s (λ n x a b. tick-network-fits n x (omega arith)) h))

  -- the port of a request, written
  pub requested-fits : (p m v : ℕ) (s : List ℕ) → p < ports t → (port_kind t p ≡ port_timer → ⊥) → v < 256 → (port_kind t p ≡ port_event → v ≤ 1) → m < 2
      → (port_kind t p ≡ port_mode → deferred t p ≡ 0 → m ≡ 0) → Fits t s → Fits t (set_port p m v 0 s)
  unfolding set_port
  requested-fits p m v s b nt v₈ ev m₂ imm h = port-put t s h p 1 m v 0 b (plain_ok t p m v nt m₂ imm v₈ ev)

  -- a request, deferred or immediate
  pub request-cases : (P : Run → Type 0) (p v : ℕ) (os s : List ℕ) → p < ports t → (port_kind t p ≡ port_timer → ⊥) → v < 256 → (port_kind t p ≡ port_event → v ≤ 1)
      → Fits t s
      → (Fits t (set_port p 1 v 0 s) → P (start os (set_port p 1 v 0 s)))
      → (Fits t (set_port p 0 v 0 s) → P (arbitrate t (only p) os (set_port p 0 v 0 s)))
      → P (request t p v os s)
  unfolding request
  request-cases P p v os s b nt v₈ ev h late now =
      split (eqb (deferred t p) 1)
      (λ e. let d : deferred t p ≡ 1 = eqb-true _ _ e in rw e (late (requested-fits p 1 v s b nt v₈ ev (omega arith) (λ z y. absurd (omega arith)) h)))
      (λ e. rw e (now (requested-fits p 0 v s b nt v₈ ev (omega arith) (λ z y. refl) h)))

  request-fits : (p v : ℕ) (os s : List ℕ) → p < ports t → (port_kind t p ≡ port_timer → ⊥) → v < 256 → (port_kind t p ≡ port_event → v ≤ 1) → Fits t s
      → Fits t (request t p v os s).state
  request-fits p v os s b nt v₈ ev h =
      request-cases (λ x. Fits t x.state) p v os s b nt v₈ ev h (λ fit. fit) (λ fit. arbitrate-fits t f (only p) os _ fit)

  -- Kinds 3 to 7, once for all: a source moves to what fits it, a network to what fits it and asked as before, or the state stays.
  -- What holds of every such move, and of the state, holds of what the event leaves.

  pub source-to : (P : List ℕ → Type 0) (e : ℕ) (s : List ℕ) (g : List ℕ → List ℕ) → OnSource t e g
      → ((status r : ℕ) → SourceOk t (event_index e) status r → P (move_source t (event_index e) status r s)) → P s → P (g s)
  unfolding wake validate clear
  source-to P e s g (a_wakeup k) moves stays =
      split (eqb (status_in t (event_index e) s) status_none || eqb (status_in t (event_index e) s) status_expired)
      (λ a. rw a (moves _ _ (woken-ok (event_index e)))) (λ a. rw a stays)
  source-to P e s g (a_valid k) moves stays =
      split (eqb (status_in t (event_index e) s) status_pending)
      (λ a. rw a (moves _ _ (idle-ok (event_index e) status_validated (omega arith) (λ z. omega arith)))) (λ a. rw a stays)
  source-to P e s g (a_clear k) moves stays = moves _ _ (idle-ok (event_index e) status_none (omega arith) (λ z. omega arith))

  pub network-to : (P : List ℕ → Type 0) (e : ℕ) (s : List ℕ) (g : List ℕ → List ℕ) → OnNetwork t e g → event_index e < networks t → Fits t s
      → ((c : Network) → NetworkOk t (event_index e) c → c.asked ≡ (network_in t (event_index e) s).asked → P (move_network t (event_index e) c s)) → P s → P (g s)
  unfolding bus_off off_bus hear
  network-to P e s g (a_bus_off k) b h moves stays =
      split (takes (network_in t (event_index e) s))
      (λ a. rw a (moves _ (off-bus-ok _ _ _ b (network-in t s h _ b) (omega arith) (omega arith)) refl)) (λ a. rw a stays)
  network-to P e s g (a_heard k) b h moves stays =
      split (listens (network_in t (event_index e) s)) (λ a. rw a (moves _ (hearing-ok _ _ (network-in t s h _ b) a) refl)) (λ a. rw a stays)

  pub happen-fits : (e : ℕ) (os s : List ℕ) → Taken t e → Fits t s → Fits t (happen t e os s).state
  happen-fits e os s w h = go (happen t e) (event t e w)
    where
      go : (g : List ℕ → List ℕ → Run) → Event t e g → Fits t (g os s).state
      go g (a_tick k o) = unfold tick arbitrate_marked in arbitrate-fits t f _ os _ (things-fit s h)
      go g (a_mode k p m u) =
          request-fits (event_index e) (event_value e) os s p.there (λ z. omega arith) (digit-small _ 256 _ (omega arith)) (λ z. absurd (omega arith)) h
      go g (a_request k p m) = request-fits (event_index e) 1 os s p.there (λ z. omega arith) (omega arith) (λ z. omega arith) h
      go g (of_source k n of u c) = source-to (Fits t) e s u c (λ status r o. move-source-fits (event_index e) status r s of.there o h) h
      go g (of_network k of u c) = network-to (Fits t) e s u c of.there h (λ x o same. move-network-fits (event_index e) x s of.there o h) h
