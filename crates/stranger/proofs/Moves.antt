-- What one event does to a network or a source and to its port: each moves only by the tick and by events of its own. Said first
-- of any thing that holds an index i and a port p, of whose word `core` is what arbitration leaves alone, and which shows `show` of
-- it. Assumes nothing.
use mathlib.Core.Path.{◌≡◌, refl, sym, ◌∙◌, ap}
use mathlib.Core.Bool.{Bool, true, false, cond, ◌&&◌, ◌||◌}
use mathlib.Core.List.{List}
use Prim.Native.Nat.{ℕ, suc, ◌+◌, ◌-◌, ◌≤◌, ◌<◌}
use native.Mathlib.Omega.{arith}
use native.Mathlib.Nat.{mod-eq_of_lt}
use lib.ListN.{length, set}
use lib.Seq.{get_or-set_same, get_or-set_other, lt-length-set}
use lib.Dec.{leb, eqb}
use borrow.Author.Tests.{eqb-true, eqb-false, eq-eqb, ne_eqb}
use Rattle.rulebook.specs.Words.{word, each}
use Rattle.rulebook.specs.Table.{ports, networks, sources, port_kind, port_mode, port_event, port_timer, network_port, source_port, timeout}
use Rattle.rulebook.specs.State.{network_index, source_index, defined_of, value_of, remaining_of, Network, network_of, status_of, status_none, status_pending}
use Rattle.rulebook.specs.State.{status_validated, status_expired, pack_port, pack_network, pack_source}
use Rattle.rulebook.specs.Reasons.{held}
use Rattle.rulebook.specs.Lists.{Run, set_port, network_in, asking, set_network}
use Rattle.rulebook.specs.Arbitration.{arbitrate}
use Rattle.rulebook.specs.Events.{event_kind, event_index, event_value, event_tick, event_wakeup, event_valid, event_bus_off, event_clear, event_heard, only, request}
use Rattle.rulebook.specs.Events.{status_in, set_source, move_source, wake, validate, clear, shown, move_network, takes, counter_plus_one, off_bus, bus_off, listens}
use Rattle.rulebook.specs.Events.{hearing, hear, ticked_network, tick_network, remaining_in, tick_source, tick_things, arbitrate_marked, tick, happen}
use Rattle.laws.specs.Facts.{Facts}
use Rattle.laws.proofs.Tests.{split, or-none}
use Rattle.laws.proofs.Walks.{each_keeps, each_at}
use Rattle.laws.proofs.Fields.{digit-small, port-defined, port-value, source-status}
use Rattle.laws.proofs.Fit.{NetworkOk, network-again, network-small, fits-length}
use Rattle.laws.proofs.FitKept.{Fits, network-in}
use Rattle.laws.proofs.FitEvents.{MayShow, things-fit, ticked-ok, off-bus-ok, hearing-ok, shown-small, woken-ok, tick-network-fits, tick-source-fits}
use Rattle.laws.proofs.FitEvents.{request-cases, source-to, network-to}
use Rattle.laws.proofs.Happen.{Taken, OfPort, of_networks, OnSource, a_wakeup, a_valid, a_clear, OnNetwork, a_bus_off, a_heard}
use Rattle.laws.proofs.Happen.{Event, a_tick, a_mode, a_request, of_source, of_network, event}
use Rattle.stranger.proofs.Holders.{Holder, network-holder, source-holder, Cells, cells-refl, cells-write, other-network, other-source}
use Rattle.stranger.proofs.Holders.{other-tick-network, other-tick-source, timers-keep}
use Rattle.stranger.proofs.Arbitrated.{port-still, source-still, Core, network-still}

-- A port that shows `old` comes to show `new`: written, and defined, exactly if the two differ.
pub record PortMoves (p old new : ℕ) (s s' : List ℕ) : Type 0 where
  pub value : value_of (word s p) ≡ old → value_of (word s' p) ≡ new
  pub defined : defined_of (word s' p) ≡ cond (eqb new old) (defined_of (word s p)) 1

pub port-stays : (p v : ℕ) (s s' : List ℕ) → word s' p ≡ word s p → PortMoves p v v s s'
port-stays p v s s' e = record { value = λ h. ap (λ (x : ℕ). value_of x) e ∙ h; defined = rw (eq-eqb v v refl) (ap (λ (x : ℕ). defined_of x) e) }

-- the port is written, or not, by the test that moves it
port-written : (t s s₁ : List ℕ) (p old new : ℕ) → p < length s₁ → new < 256 → word s₁ p ≡ word s p
    → PortMoves p old new s (cond (eqb new old) s₁ (set_port p 1 new 0 s₁))
unfolding set_port
port-written t s s₁ p old new b small e =
    split (eqb new old)
    (λ h. rw h (record { value = λ v. ap (λ (x : ℕ). value_of x) e ∙ v ∙ sym (eqb-true _ _ h); defined = rw h (ap (λ (x : ℕ). defined_of x) e) }))
    (λ h. let is : word (set s₁ p (pack_port 1 1 new 0)) p ≡ pack_port 1 1 new 0 = get_or-set_same s₁ p _ 0 b in
    rw h (record {
      value = λ v. ap (λ (x : ℕ). value_of x) is ∙ port-value 1 1 new 0 ∙ mod-eq_of_lt small;
      defined = rw h (ap (λ (x : ℕ). defined_of x) is ∙ port-defined 1 1 new 0);
    }))

-- arbitration leaves it so
pub port-then-still : (t : List ℕ) → Facts t → (p old new : ℕ) → MayShow t p → (q : ℕ → Bool) (os s s₁ : List ℕ) → Fits t s₁ → PortMoves p old new s s₁
    → PortMoves p old new s (arbitrate t q os s₁).state
port-then-still t f p old new m q os s s₁ fit h =
    let k = port-still t f p _ _ m q os s₁ fit (record { value = refl; defined = refl }) in
    record { value = λ v. k.value ∙ h.value v; defined = k.defined ∙ h.defined }

-- A thing.

pub record Moves {X : Type 0} (i p : ℕ) (core : ℕ → X) (show : X → ℕ) (x : X) (s s' : List ℕ) : Type 0 where
  pub own : core (word s' i) ≡ x
  pub port : PortMoves p (show (core (word s i))) (show x) s s'

-- The thing at index i with port p: what it holds, and that arbitration leaves its core alone.
pub record LeftAlone (t : List ℕ) {X : Type 0} (i p : ℕ) (core : ℕ → X) : Type 0 where
  pub holder : Holder t i p
  pub still : (q : ℕ → Bool) (os s : List ℕ) → Fits t s → core (word (arbitrate t q os s).state i) ≡ core (word s i)

module _ (t : List ℕ) (f : Facts t) {X : Type 0} (i p : ℕ) (core : ℕ → X) (show : X → ℕ) (h : LeftAlone t i p core) where
  abbrev now : List ℕ → X
  now s = core (word s i)

  pub stays : (s s' : List ℕ) → Cells i p s s' → Moves i p core show (now s) s s'
  stays s s' c = record { own = ap core c.own; port = port-stays p _ s s' c.port }

  pub then-still : (x : X) (q : ℕ → Bool) (os s s₁ : List ℕ) → Fits t s₁ → Moves i p core show x s s₁
      → Moves i p core show x s (arbitrate t q os s₁).state
  then-still x q os s s₁ fit m =
      record { own = h.still q os s₁ fit ∙ m.own; port = port-then-still t f p _ _ h.holder.may q os s s₁ fit m.port }

  pub carried : (x : X) (s s₁ s₂ : List ℕ) → Moves i p core show x s s₁ → Cells i p s₁ s₂ → Moves i p core show x s s₂
  carried x s s₁ s₂ m k =
      record {
        own = ap core k.own ∙ m.own;
        port = record {
          value = λ v. ap (λ (w : ℕ). value_of w) k.port ∙ m.port.value v;
          defined = ap (λ (w : ℕ). defined_of w) k.port ∙ m.port.defined;
        };
      }

  -- events of others, and requests, leave it alone

  pub by-network : (m : ℕ) (c : Network) (s : List ℕ) → m < networks t → (network_index t m ≡ i → ⊥) → Moves i p core show (now s) s (move_network t m c s)
  by-network m c s b d = stays s _ (other-network t f i p h.holder s m c s b d (cells-refl i p s))

  pub by-source : (m status r : ℕ) (s : List ℕ) → m < sources t → (source_index t m ≡ i → ⊥) → Moves i p core show (now s) s (move_source t m status r s)
  by-source m status r s b d = stays s _ (other-source t f i p h.holder s m status r s b d (cells-refl i p s))

  by-port : (q v : ℕ) (os s : List ℕ) → q < ports t → (q ≡ p → ⊥) → (port_kind t q ≡ port_timer → ⊥) → v < 256 → (port_kind t q ≡ port_event → v ≤ 1) → Fits t s
      → Moves i p core show (now s) s (request t q v os s).state
  unfolding set_port
  by-port q v os s c apart nt v₈ ev fit =
      let above : ports t ≤ i = h.holder.above in
      let cells : (w : ℕ) → Cells i p s (set s q w) = λ w. cells-write i p q w s s (λ z. omega arith) (λ z. apart (sym z)) (cells-refl i p s) in
      request-cases t f (λ x. Moves i p core show (now s) s x.state) q v os s c nt v₈ ev fit
      (λ fit₁. stays s _ (cells _)) (λ fit₁. then-still _ (only q) os s _ fit₁ (stays s _ (cells _)))

  pub by-mode-request : (e : ℕ) (os s : List ℕ) → OfPort t e → port_kind t (event_index e) ≡ port_mode → held t (event_index e) (networks t) (sources t) ≡ false
      → Fits t s → Moves i p core show (now s) s (request t (event_index e) (event_value e) os s).state
  by-mode-request e os s of m free fit =
      by-port (event_index e) (event_value e) os s of.there (h.holder.requests (event_index e) free) (λ z. omega arith) (digit-small _ 256 _ (omega arith))
      (λ z. absurd (omega arith)) fit

  pub by-event-request : (e : ℕ) (os s : List ℕ) → OfPort t e → port_kind t (event_index e) ≡ port_event → Fits t s
      → Moves i p core show (now s) s (request t (event_index e) 1 os s).state
  by-event-request e os s of m fit =
      let mode : port_kind t p ≡ port_mode = h.holder.may.mode in
      by-port (event_index e) 1 os s of.there (λ z. let same : port_kind t (event_index e) ≡ port_kind t p = ap (λ (u : ℕ). port_kind t u) z in omega arith)
      (λ z. omega arith) (omega arith) (λ z. omega arith) fit

  pub by-nothing : (s : List ℕ) → Moves i p core show (now s) s s
  by-nothing s = stays s s (cells-refl i p s)

  -- the walks of a tick over other things

  pub past-networks : (s₀ s : List ℕ) (j m : ℕ) → j + m ≤ networks t → ((a : ℕ) → j ≤ a → a < j + m → network_index t a ≡ i → ⊥) → Cells i p s₀ s
      → Cells i p s₀ (each j m (tick_network t) s)
  past-networks s₀ s j m b d c =
      each_keeps (Cells i p s₀) (tick_network t) j m s (λ a x u v. other-tick-network t f i p h.holder s₀ a x (omega arith) (d a u v)) c

  pub past-sources : (s₀ s : List ℕ) (j m : ℕ) → j + m ≤ sources t → ((a : ℕ) → j ≤ a → a < j + m → source_index t a ≡ i → ⊥) → Cells i p s₀ s
      → Cells i p s₀ (each j m (tick_source t) s)
  past-sources s₀ s j m b d c =
      each_keeps (Cells i p s₀) (tick_source t) j m s (λ a x u v. other-tick-source t f i p h.holder s₀ a x (omega arith) (d a u v)) c

-- Network n. Its core is all but what it is asked.

abbrev pub core_of : ℕ → Network
core_of w = asking 0 (network_of w)

abbrev pub shown_by : Network → ℕ
shown_by c = shown c.state

core-path : (a b : Network) → Core a b → asking 0 a ≡ asking 0 b
core-path a b k j = record { asked = 0; state = k.state j; counter = k.counter j; heard = k.heard j; remaining = k.remaining j }

pub network-held : (t : List ℕ) → Facts t → (n : ℕ) → n < networks t → LeftAlone t (network_index t n) (network_port t n) core_of
network-held t f n b =
    record {
      holder = network-holder t f n b;
      still = λ q os s fit. core-path _ _
          (network-still t f n (network_in t n s) b q os s fit (record { state = refl; counter = refl; heard = refl; remaining = refl }));
    }

-- the network's word, whether or not its port is written after it
kept-own : (i p w v : ℕ) (s : List ℕ) (x : Bool) → i < length s → (i ≡ p → ⊥) → word (cond x (set s i w) (set_port p 1 v 0 (set s i w))) i ≡ w
unfolding set_port
kept-own i p w v s true b d = get_or-set_same s i w 0 b
kept-own i p w v s false b d = get_or-set_other (set s i w) p i _ 0 d ∙ get_or-set_same s i w 0 b

module _ (t : List ℕ) (f : Facts t) (n : ℕ) (b : n < networks t) where
  abbrev NetworkMoves : Network → List ℕ → List ℕ → Type 0
  NetworkMoves c s s' = Moves (network_index t n) (network_port t n) core_of shown_by (asking 0 c) s s'

  held-network : LeftAlone t (network_index t n) (network_port t n) core_of
  held-network = network-held t f n b

  -- n itself is moved
  network-moved : (c : Network) (s s₁ : List ℕ) → Fits t s₁ → NetworkOk t n c → Cells (network_index t n) (network_port t n) s s₁
      → NetworkMoves c s (move_network t n c s₁)
  unfolding move_network set_network
  network-moved c s s₁ fit ok cells =
      let len = fits-length t s₁ fit in let there : network_port t n < ports t = held-network.holder.may.there in
      let same : shown (network_in t n s₁).state ≡ shown (network_in t n s).state = ap (λ (w : ℕ). shown (network_of w).state) cells.own in
      record {
        own = ap core_of (kept-own (network_index t n) (network_port t n) (pack_network c) _ s₁ (eqb (shown c.state) (shown (network_in t n s₁).state))
            (omega arith) (λ z. omega arith)) ∙ ap (asking 0) (network-again c (network-small t n c ok));
        port = rw same (port-written t s (set s₁ (network_index t n) (pack_network c)) (network_port t n) _ (shown c.state)
            (lt-length-set s₁ _ _ (omega arith)) (shown-small t f c.state)
            (get_or-set_other s₁ (network_index t n) (network_port t n) _ 0 (λ z. omega arith) ∙ cells.port));
      }

  ticked-here : (s : List ℕ) → Fits t s → NetworkMoves (ticked_network t n (network_in t n s)) s (tick_network t n (each 0 n (tick_network t) s))
  unfolding tick_network
  ticked-here s fit =
      let s₁ = each 0 n (tick_network t) s in
      let fit₁ : Fits t s₁ = each_keeps (Fits t) (tick_network t) 0 n s (λ m x a c. tick-network-fits t f m x (omega arith)) fit in
      let cells = past-networks t f (network_index t n) (network_port t n) core_of shown_by held-network s s 0 n (omega arith) (λ a u v z. omega arith)
      (cells-refl _ _ s) in
      rw (ap network_of cells.own) (network-moved (ticked_network t n (network_in t n s)) s s₁ fit₁ (ticked-ok t f n _ b (network-in t s fit n b)) cells)

  things-move : (s : List ℕ) → Fits t s → NetworkMoves (ticked_network t n (network_in t n s)) s (tick_things t s)
  unfolding tick_things
  things-move s fit =
      let m = networks t - suc n in
      let whole : networks t ≡ n + suc m = omega arith in
      let s₂ = tick_network t n (each 0 n (tick_network t) s) in
      carried t f (network_index t n) (network_port t n) core_of shown_by held-network _ s s₂ _ (ticked-here s fit)
      (timers-keep t f _ _ held-network.holder s₂ _
      (past-sources t f _ _ core_of shown_by held-network s₂ _ 0 (sources t) (omega arith) (λ a u v z. omega arith)
      (rw (whole, each_at (tick_network t) n m s)
      (past-networks t f _ _ core_of shown_by held-network s₂ s₂ (suc n) m (omega arith) (λ a u v z. omega arith) (cells-refl _ _ s₂)))))

  -- what the event makes of n
  unfoldable pub next_network : ℕ → List ℕ → Network
  next_network e s =
      cond (eqb (event_kind e) event_tick) (ticked_network t n (network_in t n s))
      (cond (eqb (event_kind e) event_bus_off && eqb (event_index e) n && takes (network_in t n s))
      (off_bus t n (counter_plus_one (network_in t n s)) (network_in t n s))
      (cond (eqb (event_kind e) event_heard && eqb (event_index e) n && listens (network_in t n s)) (hearing (network_in t n s))
      (network_in t n s)))

  quiet : (e : ℕ) (s s' : List ℕ) → (event_kind e ≡ event_tick → ⊥) → of_networks e ≡ false → NetworkMoves (network_in t n s) s s'
      → NetworkMoves (next_network e s) s s'
  unfolding next_network
  quiet e s s' a c m =
      let others = or-none (eqb (event_kind e) event_bus_off) (eqb (event_kind e) event_heard) c in rw (ne_eqb _ _ a, others.0, others.1) m

  network-by-source : (k status r : ℕ) (s : List ℕ) → k < sources t → NetworkMoves (network_in t n s) s (move_source t k status r s)
  network-by-source k status r s c = by-source t f _ _ core_of shown_by held-network k status r s c (λ z. omega arith)

  network-by-nothing : (s : List ℕ) → NetworkMoves (network_in t n s) s s
  network-by-nothing s = by-nothing t f _ _ core_of shown_by held-network s

  -- an event of network m moves it where a test says so
  network-by-own : (test : Network → Bool) (next : ℕ → Network → Network) (m : ℕ) (s : List ℕ) → m < networks t → Fits t s
      → (test (network_in t n s) ≡ true → NetworkOk t n (next n (network_in t n s)))
      → NetworkMoves (cond (eqb m n && test (network_in t n s)) (next n (network_in t n s)) (network_in t n s)) s
      (cond (test (network_in t m s)) (move_network t m (next m (network_in t m s)) s) s)
  network-by-own test next m s c fit ok =
      split (eqb m n)
      (λ a. rw (eqb-true m n a, eq-eqb n n refl)
      (split (test (network_in t n s)) (λ d. rw d (network-moved _ s s fit (ok d) (cells-refl _ _ s))) (λ d. rw d (network-by-nothing s))))
      (λ a. rw a (split (test (network_in t m s))
      (λ d. let differ = eqb-false m n a in rw d (by-network t f _ _ core_of shown_by held-network m _ s c (λ z. differ (omega arith))))
      (λ d. rw d (network-by-nothing s))))

  network-by-network : (e : ℕ) (s : List ℕ) → event_index e < networks t → Fits t s → (g : List ℕ → List ℕ) → OnNetwork t e g
      → NetworkMoves (next_network e s) s (g s)
  unfolding next_network bus_off hear
  network-by-network e s c fit g (a_bus_off k) =
      rw k (network-by-own takes (λ m x. off_bus t m (counter_plus_one x) x) (event_index e) s c fit
      (λ d. off-bus-ok t f n _ _ b (network-in t s fit n b) (omega arith) (omega arith)))
  network-by-network e s c fit g (a_heard k) =
      rw k (network-by-own listens (λ m x. hearing x) (event_index e) s c fit (λ d. hearing-ok t f n _ (network-in t s fit n b) d))

  pub network-moves : (e : ℕ) (os s : List ℕ) → Taken t e → Fits t s → NetworkMoves (next_network e s) s (happen t e os s).state
  network-moves e os s w fit = go (happen t e) (event t e w)
    where
      go : (g : List ℕ → List ℕ → Run) → Event t e g → NetworkMoves (next_network e s) s (g os s).state
      go g (a_tick k o) =
          unfold next_network tick arbitrate_marked in
          rw k (then-still t f _ _ core_of shown_by held-network _ _ os s _ (things-fit t f s fit) (things-move s fit))
      go g (a_mode k of m free) = quiet e s _ (λ z. omega arith) (rw k) (by-mode-request t f _ _ core_of shown_by held-network e os s of m free fit)
      go g (a_request k of m) = quiet e s _ (λ z. omega arith) (rw k) (by-event-request t f _ _ core_of shown_by held-network e os s of m fit)
      go g (of_source k free of u c) =
          quiet e s _ (λ z. omega arith) free (source-to t f (NetworkMoves (network_in t n s) s) e s u c
          (λ status r ok. network-by-source (event_index e) status r s of.there) (network-by-nothing s))
      go g (of_network k of u c) = network-by-network e s of.there fit u c

-- Source k. Arbitration leaves its word alone.

abbrev pub word_of : ℕ → ℕ
word_of w = w

pub source-held : (t : List ℕ) → Facts t → (k : ℕ) → k < sources t → LeftAlone t (source_index t k) (source_port t k) word_of
source-held t f k b = record { holder = source-holder t f k b; still = λ q os s fit. source-still t f k (word s (source_index t k)) b q os s fit refl }

module _ (t : List ℕ) (f : Facts t) (k : ℕ) (b : k < sources t) where
  abbrev SourceMoves : ℕ → List ℕ → List ℕ → Type 0
  SourceMoves w s s' = Moves (source_index t k) (source_port t k) word_of (λ x. status_of x) w s s'

  held-source : LeftAlone t (source_index t k) (source_port t k) word_of
  held-source = source-held t f k b

  source-by-nothing : (s : List ℕ) → SourceMoves (word s (source_index t k)) s s
  source-by-nothing s = by-nothing t f _ _ word_of _ held-source s

  -- k itself is moved
  source-moved : (status r : ℕ) (s s₁ : List ℕ) → Fits t s₁ → status < 4 → Cells (source_index t k) (source_port t k) s s₁
      → SourceMoves (pack_source status r) s (move_source t k status r s₁)
  unfolding move_source set_source
  source-moved status r s s₁ fit small cells =
      let len = fits-length t s₁ fit in let there : source_port t k < ports t = held-source.holder.may.there in
      let same : status_in t k s₁ ≡ status_in t k s = ap (λ (w : ℕ). status_of w) cells.own in
      let is : status_of (pack_source status r) ≡ status = source-status status r ∙ mod-eq_of_lt small in
      record {
        own = kept-own (source_index t k) (source_port t k) (pack_source status r) status s₁ (eqb status (status_in t k s₁)) (omega arith) (λ z. omega arith);
        port = rw (is, same)
            (port-written t s (set s₁ (source_index t k) (pack_source status r)) (source_port t k) _ status (lt-length-set s₁ _ _ (omega arith)) (omega arith)
            (get_or-set_other s₁ (source_index t k) (source_port t k) _ 0 (λ z. omega arith) ∙ cells.port));
      }

  -- what a tick makes of its word
  unfoldable pub ticked_source : ℕ → ℕ
  ticked_source w =
      cond (eqb (status_of w) status_pending) (cond (leb (remaining_of w) 1) (pack_source status_expired 0) (pack_source status_pending (remaining_of w - 1))) w

  ticked-source-here : (s s₁ : List ℕ) → Fits t s₁ → Cells (source_index t k) (source_port t k) s s₁
      → SourceMoves (ticked_source (word s (source_index t k))) s (tick_source t k s₁)
  unfolding tick_source ticked_source
  ticked-source-here s s₁ fit cells =
      rw (← cells.own)
      (split (eqb (status_in t k s₁) status_pending)
      (λ e. split (leb (remaining_in s₁ (source_index t k)) 1) (λ d. rw (e, d) (source-moved status_expired 0 s s₁ fit (omega arith) cells))
      (λ d. rw (e, d) (source-moved status_pending _ s s₁ fit (omega arith) cells)))
      (λ e. rw e (rw cells.own (stays t f _ _ word_of _ held-source s s₁ cells))))

  source-things-move : (s : List ℕ) → Fits t s → SourceMoves (ticked_source (word s (source_index t k))) s (tick_things t s)
  unfolding tick_things
  source-things-move s fit =
      let m = sources t - suc k in
      let whole : sources t ≡ k + suc m = omega arith in
      let s₁ = each 0 (networks t) (tick_network t) s in
      let fit₁ : Fits t s₁ = each_keeps (Fits t) (tick_network t) 0 (networks t) s (λ a x u v. tick-network-fits t f a x (omega arith)) fit in
      let cells₁ = past-networks t f _ _ word_of (λ x. status_of x) held-source s s 0 (networks t) (omega arith) (λ a u v z. omega arith) (cells-refl _ _ s) in
      let s₂ = each 0 k (tick_source t) s₁ in
      let fit₂ : Fits t s₂ = each_keeps (Fits t) (tick_source t) 0 k s₁ (λ a x u v. tick-source-fits t f a x (omega arith)) fit₁ in
      let cells₂ = past-sources t f _ _ word_of (λ x. status_of x) held-source s s₁ 0 k (omega arith) (λ a u v z. omega arith) cells₁ in
      let s₃ = tick_source t k s₂ in
      carried t f _ _ word_of _ held-source _ s s₃ _ (ticked-source-here s s₂ fit₂ cells₂)
      (timers-keep t f _ _ held-source.holder s₃ _
      (rw (whole, each_at (tick_source t) k m s₁)
      (past-sources t f _ _ word_of (λ x. status_of x) held-source s₃ s₃ (suc k) m (omega arith) (λ a u v z. omega arith) (cells-refl _ _ s₃))))

  -- what an event of the source's own makes of its word
  unfoldable pub woken_source : ℕ → ℕ
  woken_source w =
      cond (eqb (status_of w) status_none || eqb (status_of w) status_expired)
      (pack_source (cond (eqb (timeout t k) 0) status_validated status_pending) (timeout t k)) w

  unfoldable pub valid_source : ℕ → ℕ
  valid_source w = cond (eqb (status_of w) status_pending) (pack_source status_validated 0) w

  unfoldable pub next_source : ℕ → List ℕ → ℕ
  next_source e s =
      cond (eqb (event_kind e) event_tick) (ticked_source (word s (source_index t k)))
      (cond (eqb (event_kind e) event_wakeup && eqb (event_index e) k) (woken_source (word s (source_index t k)))
      (cond (eqb (event_kind e) event_valid && eqb (event_index e) k) (valid_source (word s (source_index t k)))
      (cond (eqb (event_kind e) event_clear && eqb (event_index e) k) (pack_source status_none 0)
      (word s (source_index t k)))))

  -- another source's event
  other-index : (m : ℕ) → (m ≡ k → ⊥) → source_index t m ≡ source_index t k → ⊥
  other-index m d z = d (omega arith)

  -- an event of source m moves it where a test says so
  source-by-own : (test : ℕ → Bool) (status r : ℕ → ℕ) (m : ℕ) (s : List ℕ) → m < sources t → Fits t s → status k < 4
      → SourceMoves (cond (eqb m k) (cond (test (word s (source_index t k))) (pack_source (status k) (r k)) (word s (source_index t k)))
      (word s (source_index t k))) s
      (cond (test (word s (source_index t m))) (move_source t m (status m) (r m) s) s)
  source-by-own test status r m s c fit small =
      split (eqb m k)
      (λ a. rw (eqb-true m k a, eq-eqb k k refl)
      (split (test (word s (source_index t k))) (λ d. rw d (source-moved _ _ s s fit small (cells-refl _ _ s))) (λ d. rw d (source-by-nothing s))))
      (λ a. rw a (split (test (word s (source_index t m)))
      (λ d. rw d (by-source t f _ _ word_of _ held-source m _ _ s c (other-index m (eqb-false _ _ a)))) (λ d. rw d (source-by-nothing s))))

  source-by-source : (e : ℕ) (s : List ℕ) → event_index e < sources t → Fits t s → (g : List ℕ → List ℕ) → OnSource t e g
      → SourceMoves (next_source e s) s (g s)
  unfolding next_source wake woken_source validate valid_source clear
  source-by-source e s c fit g (a_wakeup z) =
      rw z (source-by-own (λ w. eqb (status_of w) status_none || eqb (status_of w) status_expired)
      (λ m. cond (eqb (timeout t m) 0) status_validated status_pending) (timeout t) (event_index e) s c fit (woken-ok t f k).status₂)
  source-by-source e s c fit g (a_valid z) =
      rw z (source-by-own (λ w. eqb (status_of w) status_pending) (λ m. status_validated) (λ m. 0) (event_index e) s c fit (omega arith))
  source-by-source e s c fit g (a_clear z) = rw z (source-by-own (λ w. true) (λ m. status_none) (λ m. 0) (event_index e) s c fit (omega arith))

  -- an event of a network is none of the source's
  next-still : (e : ℕ) (s : List ℕ) (g : List ℕ → List ℕ) → OnNetwork t e g → next_source e s ≡ word s (source_index t k)
  unfolding next_source
  next-still e s g (a_bus_off z) = rw z
  next-still e s g (a_heard z) = rw z

  pub source-moves : (e : ℕ) (os s : List ℕ) → Taken t e → Fits t s → SourceMoves (next_source e s) s (happen t e os s).state
  source-moves e os s w fit = go (happen t e) (event t e w)
    where
      go : (g : List ℕ → List ℕ → Run) → Event t e g → SourceMoves (next_source e s) s (g os s).state
      go g (a_tick z o) =
          unfold next_source tick arbitrate_marked in
          rw z (then-still t f _ _ word_of _ held-source _ _ os s _ (things-fit t f s fit) (source-things-move s fit))
      go g (a_mode z of m free) = unfold next_source in rw z (by-mode-request t f _ _ word_of _ held-source e os s of m free fit)
      go g (a_request z of m) = unfold next_source in rw z (by-event-request t f _ _ word_of _ held-source e os s of m fit)
      go g (of_source z free of u c) = source-by-source e s of.there fit u c
      go g (of_network z of u c) =
          rw (next-still e s u c) (network-to t f (SourceMoves (word s (source_index t k)) s) e s u c of.there fit
          (λ x ok same. by-network t f _ _ word_of _ held-source (event_index e) x s of.there (λ y. omega arith)) (source-by-nothing s))
