-- A network or a source holds an index of the state and a port that no other thing writes: what the others do leaves both alone.
-- Assumes nothing.
use mathlib.Core.Path.{◌≡◌, refl, sym, ◌∙◌, ap}
use mathlib.Core.Bool.{false, ◌&&◌}
use mathlib.Core.List.{List}
use Prim.Native.Nat.{ℕ, ◌+◌, ◌≤◌, ◌<◌}
use native.Mathlib.Omega.{arith}
use lib.ListN.{set}
use lib.Seq.{get_or-set_other}
use lib.Dec.{leb, ltb, eqb}
use borrow.Author.Tests.{ltb-true, eqb-true, eq-eqb, ltb-false}
use Rattle.rulebook.specs.Words.{word, any, each}
use Rattle.rulebook.specs.Table.{ports, networks, sources, rules, port_kind, port_mode, port_timer, network_port, source_port}
use Rattle.rulebook.specs.Reasons.{network_has, source_has, held}
use Rattle.rulebook.specs.State.{network_index, source_index, value_of, timer_started, Network}
use Rattle.rulebook.specs.Lists.{set_port, network_in, set_network}
use Rattle.rulebook.specs.Events.{status_in, set_source, move_source, shown, move_network, tick_network, tick_source, remaining_in, tick_timer}
use Rattle.laws.specs.Facts.{Facts}
use Rattle.laws.proofs.Tests.{split, clash, or-none, and_left}
use Rattle.laws.proofs.Walks.{any_at, each_keeps}
use Rattle.laws.proofs.FitEvents.{MayShow, may-show}

-- Ports are not shared.

module _ (t : List ℕ) (f : Facts t) where
  not-held : (p n k : ℕ) → held t p n k ≡ false → ((m : ℕ) → m < n → network_port t m ≡ p → ⊥) × ((m : ℕ) → m < k → source_port t m ≡ p → ⊥)
  unfolding held network_has source_has
  not-held p n k h =
      let o = or-none (any 0 n (network_has t p)) (any 0 k (source_has t p)) h in (
        λ m b e. clash (eq-eqb _ _ e) (any_at (network_has t p) 0 n m o.0 (omega arith) (omega arith)),
        λ m b e. clash (eq-eqb _ _ e) (any_at (source_has t p) 0 k m o.1 (omega arith) (omega arith)),
      )

  order-cases {ℓ} : {A : Type ℓ} (m n : ℕ) → (m ≡ n → ⊥) → (m < n → A) → (n < m → A) → A
  order-cases m n d a b = split (ltb m n) (λ e. a (ltb-true _ _ e)) (λ e. b (let g : n ≤ m = ltb-false _ _ e in omega arith))

  networks-apart : (m n : ℕ) → m < networks t → n < networks t → (m ≡ n → ⊥) → network_port t m ≡ network_port t n → ⊥
  networks-apart m n a b d e =
      order-cases m n d (λ lt. (not-held (network_port t n) n 0 (f.network n b).alone).0 m lt e)
      (λ lt. (not-held (network_port t m) m 0 (f.network m a).alone).0 n lt (sym e))

  network-source-apart : (n k : ℕ) → n < networks t → k < sources t → network_port t n ≡ source_port t k → ⊥
  network-source-apart n k a b e = (not-held (source_port t k) (networks t) k (f.source k b).alone).0 n a e

  sources-apart : (m k : ℕ) → m < sources t → k < sources t → (m ≡ k → ⊥) → source_port t m ≡ source_port t k → ⊥
  sources-apart m k a b d e =
      order-cases m k d (λ lt. (not-held (source_port t k) (networks t) k (f.source k b).alone).1 m lt e)
      (λ lt. (not-held (source_port t m) (networks t) m (f.source m a).alone).1 k lt (sym e))

-- A thing at index i whose port is p.
pub record Holder (t : List ℕ) (i p : ℕ) : Type 0 where
  pub above : ports t ≤ i
  pub may : MayShow t p
  pub other_networks : (m : ℕ) → m < networks t → (network_index t m ≡ i → ⊥) → network_port t m ≡ p → ⊥
  pub other_sources : (m : ℕ) → m < sources t → (source_index t m ≡ i → ⊥) → source_port t m ≡ p → ⊥
  pub requests : (q : ℕ) → held t q (networks t) (sources t) ≡ false → q ≡ p → ⊥

pub network-holder : (t : List ℕ) → Facts t → (n : ℕ) → n < networks t → Holder t (network_index t n) (network_port t n)
network-holder t f n b =
    record {
      above = omega arith;
      may = may-show t (network_port t n) (f.network n b).may;
      other_networks = λ m a d. networks-apart t f m n a b (λ z. d (ap (λ (x : ℕ). ports t + rules t + x) z));
      other_sources = λ m a d e. network-source-apart t f n m b a (sym e);
      requests = λ q h e. (not-held t f q (networks t) (sources t) h).0 n b (sym e);
    }

pub source-holder : (t : List ℕ) → Facts t → (k : ℕ) → k < sources t → Holder t (source_index t k) (source_port t k)
source-holder t f k b =
    record {
      above = omega arith;
      may = may-show t (source_port t k) (f.source k b).may;
      other_networks = λ m a d. network-source-apart t f m k a b;
      other_sources = λ m a d. sources-apart t f m k a b (λ z. d (ap (λ (x : ℕ). ports t + rules t + networks t + x) z));
      requests = λ q h e. (not-held t f q (networks t) (sources t) h).1 k b (sym e);
    }

-- The two words that a thing holds are as they were in s₀.
pub record Cells (i p : ℕ) (s₀ s : List ℕ) : Type 0 where
  pub own : word s i ≡ word s₀ i
  pub port : word s p ≡ word s₀ p

pub cells-refl : (i p : ℕ) (s : List ℕ) → Cells i p s s
cells-refl i p s = record { own = refl; port = refl }

pub cells-write : (i p j w : ℕ) (s₀ s : List ℕ) → (i ≡ j → ⊥) → (p ≡ j → ⊥) → Cells i p s₀ s → Cells i p s₀ (set s j w)
cells-write i p j w s₀ s a b c = record { own = get_or-set_other s j i w 0 a ∙ c.own; port = get_or-set_other s j p w 0 b ∙ c.port }

module _ (t : List ℕ) (f : Facts t) (i p : ℕ) (h : Holder t i p) (s₀ : List ℕ) where
  port-keeps : (q m v r : ℕ) (s : List ℕ) → q < ports t → (q ≡ p → ⊥) → Cells i p s₀ s → Cells i p s₀ (set_port q m v r s)
  unfolding set_port
  port-keeps q m v r s b n c = cells-write i p q _ s₀ s (λ z. let a : ports t ≤ i = h.above in omega arith) (λ z. n (sym z)) c

  pub other-network : (m : ℕ) (c : Network) (s : List ℕ) → m < networks t → (network_index t m ≡ i → ⊥) → Cells i p s₀ s → Cells i p s₀ (move_network t m c s)
  unfolding move_network set_network
  other-network m c s b n k =
      let there = h.may.there in
      let one : Cells i p s₀ (set_network t m c s) = cells-write i p (network_index t m) _ s₀ s (λ z. n (sym z)) (λ z. omega arith) k in
      split (eqb (shown c.state) (shown (network_in t m s).state)) (λ e. rw e one)
      (λ e. rw e (port-keeps (network_port t m) 1 _ 0 _ (may-show t (network_port t m) (f.network m b).may).there (h.other_networks m b n) one))

  pub other-source : (m status r : ℕ) (s : List ℕ) → m < sources t → (source_index t m ≡ i → ⊥) → Cells i p s₀ s → Cells i p s₀ (move_source t m status r s)
  unfolding move_source set_source
  other-source m status r s b n k =
      let there = h.may.there in
      let one : Cells i p s₀ (set_source t m status r s) = cells-write i p (source_index t m) _ s₀ s (λ z. n (sym z)) (λ z. omega arith) k in
      split (eqb status (status_in t m s)) (λ e. rw e one)
      (λ e. rw e (port-keeps (source_port t m) 1 _ 0 _ (may-show t (source_port t m) (f.source m b).may).there (h.other_sources m b n) one))

  pub other-tick-network : (m : ℕ) (s : List ℕ) → m < networks t → (network_index t m ≡ i → ⊥) → Cells i p s₀ s → Cells i p s₀ (tick_network t m s)
  unfolding tick_network
  other-tick-network m s b n k = other-network m _ s b n k

  pub other-tick-source : (m : ℕ) (s : List ℕ) → m < sources t → (source_index t m ≡ i → ⊥) → Cells i p s₀ s → Cells i p s₀ (tick_source t m s)
  unfolding tick_source
  other-tick-source m s b n k =
      split (eqb (status_in t m s) 1)
      (λ e. split (leb (remaining_in s (source_index t m)) 1) (λ d. rw (e, d) (other-source m _ _ s b n k)) (λ d. rw (e, d) (other-source m _ _ s b n k)))
      (λ e. rw e k)

  pub other-timer : (q : ℕ) (s : List ℕ) → q < ports t → Cells i p s₀ s → Cells i p s₀ (tick_timer t q s)
  unfolding tick_timer
  other-timer q s b k =
      split (eqb (port_kind t q) port_timer && eqb (value_of (word s q)) timer_started)
      (λ e. let kind : port_kind t q ≡ port_timer = eqb-true _ _ (and_left _ (eqb (value_of (word s q)) timer_started) e) in
      let apart : (q ≡ p → ⊥) = λ z. let mode : port_kind t p ≡ port_mode = h.may.mode in let same : port_kind t q ≡ port_kind t p = ap
      (λ (x : ℕ). port_kind t x) z in omega arith in
      split (leb (remaining_in s q) 1) (λ d. rw (e, d) (port-keeps q 1 _ 0 s b apart k)) (λ d. rw (e, d) (port-keeps q _ _ _ s b apart k)))
      (λ e. rw e k)

  pub timers-keep : (s : List ℕ) → Cells i p s₀ s → Cells i p s₀ (each 0 (ports t) (tick_timer t) s)
  timers-keep s k = each_keeps (Cells i p s₀) (tick_timer t) 0 (ports t) s (λ q x a b. other-timer q x (omega arith)) k
