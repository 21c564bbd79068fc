-- A port's mark under each write. No item, and no network, source or timer that moves, takes a mark away. Assumes nothing.
use mathlib.Core.Path.{◌≡◌, refl, ap, ◌∙◌}
use mathlib.Core.Bool.{Bool, true, false, ◌&&◌, and-false}
use mathlib.Core.Logic.{◌⊎◌, inl, inr, ⊎_elim}
use mathlib.Core.List.{List}
use Prim.Native.Nat.{ℕ, suc, ◌+◌, ◌-◌, ◌<◌}
use native.Mathlib.Omega.{arith}
use native.Mathlib.Nat.{mod-eq_of_lt}
use lib.ListN.{length, set, length-set}
use lib.Seq.{get_or-set_same, get_or-set_other}
use lib.Dec.{leb, eqb}
use borrow.Author.Tests.{lt-ltb, eqb-true, eqb-false, eq-eqb}
use Rattle.rulebook.specs.Words.{word, each}
use Rattle.rulebook.specs.Table.{ports, networks, sources, rules, port_kind, port_timer, network_port, source_port, item_a}
use Rattle.rulebook.specs.State.{rule_index, network_index, source_index, marked_of, value_of, timer_started, Network, status_pending, pack_port, pack_source}
use Rattle.rulebook.specs.Lists.{set_port, network_in, set_network, effect, set_result}
use Rattle.rulebook.specs.Arbitration.{unmark_port, unmark_ports, evaluated, store_result, store_results}
use Rattle.rulebook.specs.Events.{status_in, set_source, move_source, shown, move_network, tick_network, remaining_in, tick_source, tick_timer, tick_things, marked_in}
use Rattle.laws.proofs.Tests.{split, clash, and_both}
use Rattle.laws.proofs.Walks.{each_keeps, each_at}
use Rattle.laws.proofs.Fields.{digit-small, port-marked}
use Rattle.laws.proofs.Cases.{effect-cases}

-- port p has its word, and in it the mark m
pub record Mark (p m : ℕ) (s : List ℕ) : Type 0 where
  pub there : p < length s
  pub mark : marked_of (word s p) ≡ m

abbrev pub Marked : ℕ → List ℕ → Type 0
Marked p s = Mark p 1 s

abbrev pub Unmarked : ℕ → List ℕ → Type 0
Unmarked p s = Mark p 0 s

module _ (p : ℕ) (s : List ℕ) where
  pub elsewhere : {m : ℕ} (j w : ℕ) → (p ≡ j → ⊥) → Mark p m s → Mark p m (set s j w)
  elsewhere j w n h =
      record { there = rw (length-set s j w) h.there; mark = ap (λ (x : ℕ). marked_of x) (get_or-set_other s j p w 0 n) ∙ h.mark }

  pub port-elsewhere : {m : ℕ} (q c v r : ℕ) → (p ≡ q → ⊥) → Mark p m s → Mark p m (set_port q c v r s)
  unfolding set_port
  port-elsewhere q c v r n h = elsewhere q _ n h

  pub word-packed : (d m v r : ℕ) → m < 2 → p < length s → Mark p m (set s p (pack_port d m v r))
  word-packed d m v r small b =
      record {
        there = rw (length-set s p _) b;
        mark = ap (λ (x : ℕ). marked_of x) (get_or-set_same s p _ 0 b) ∙ port-marked d m v r ∙ mod-eq_of_lt small;
      }

  pub port-written : (m v r : ℕ) → m < 2 → p < length s → Mark p m (set_port p m v r s)
  unfolding set_port
  port-written m v r small b = word-packed 1 m v r small b

  pub port-marked-again : (q m v r : ℕ) → (p ≡ q → m ≡ 1) → Marked p s → Marked p (set_port q m v r s)
  port-marked-again q m v r is h =
      split (eqb p q)
      (λ e. let same = eqb-true p q e in rw (← same, is same) (port-written 1 v r (omega arith) h.there))
      (λ e. port-elsewhere q m v r (eqb-false p q e) h)

pub effect-length : (t : List ℕ) (i : ℕ) (s : List ℕ) → length (effect t i s) ≡ length s
unfolding set_port set_network
effect-length t i s =
    effect-cases (λ s'. length s' ≡ length s) t i s (λ k. length-set s _ _) (λ k. length-set s _ _) (λ k. length-set s _ _) (λ k. length-set s _ _)
    (λ k. refl)

module _ (t : List ℕ) (p : ℕ) (b : p < ports t) where
  -- the test for a mark, and the mark

  pub shows : {s : List ℕ} → Marked p s → marked_in t s p ≡ true
  unfolding marked_in
  shows h = and_both _ _ (lt-ltb _ _ b) (eq-eqb _ _ h.mark)

  pub hides : {s : List ℕ} → Unmarked p s → marked_in t s p ≡ false
  unfolding marked_in
  hides h = rw (h.mark, and-false)

  pub marked-or-not : (s : List ℕ) → p < length s → Marked p s ⊎ Unmarked p s
  marked-or-not s h =
      let small : marked_of (word s p) < 2 = digit-small _ 2 _ (omega arith) in
      split (eqb (marked_of (word s p)) 1) (λ e. inl (record { there = h; mark = eqb-true _ _ e }))
      (λ e. let n = eqb-false (marked_of (word s p)) 1 e in inr (record { there = h; mark = omega arith }))

  pub shown-marked : (s : List ℕ) → p < length s → marked_in t s p ≡ true → Marked p s
  shown-marked s h m = ⊎_elim (λ k. k) (λ u. clash m (hides u)) (marked-or-not s h)

  pub hidden-unmarked : (s : List ℕ) → p < length s → marked_in t s p ≡ false → Unmarked p s
  hidden-unmarked s h m = ⊎_elim (λ k. clash (shows k) m) (λ u. u) (marked-or-not s h)

  pub network-elsewhere : {m : ℕ} (n : ℕ) (c : Network) (s : List ℕ) → Mark p m s → Mark p m (set_network t n c s)
  unfolding set_network
  network-elsewhere n c s h = elsewhere p s (network_index t n) _ (λ e. omega arith) h

  pub result-elsewhere : {m : ℕ} (r result : ℕ) (s : List ℕ) → Mark p m s → Mark p m (set_result t r result s)
  unfolding set_result
  result-elsewhere r result s h = elsewhere p s (rule_index t r) _ (λ e. omega arith) h

  -- an item of kind 0 to 4
  pub effect-marks : (i : ℕ) (s : List ℕ) → Marked p s → Marked p (effect t i s)
  effect-marks i s h =
      effect-cases (Marked p) t i s (λ k. port-marked-again p s (item_a t i) 1 0 0 (λ e. refl) h) (λ k. port-marked-again p s (item_a t i) 1 _ _ (λ e. refl) h)
      (λ k. port-marked-again p s (item_a t i) 1 _ 0 (λ e. refl) h) (λ k. network-elsewhere (item_a t i) _ s h) (λ k. h)

  -- Networks, sources and timers mark the port that they write, or write its mark as it was.

  pub network-marks : (n : ℕ) (c : Network) (s : List ℕ) → Marked p s → Marked p (move_network t n c s)
  unfolding move_network
  network-marks n c s h =
      split (eqb (shown c.state) (shown (network_in t n s).state)) (λ e. rw e (network-elsewhere n c s h))
      (λ e. rw e (port-marked-again p _ (network_port t n) 1 _ 0 (λ z. refl) (network-elsewhere n c s h)))

  pub source-marks : (k status r : ℕ) (s : List ℕ) → Marked p s → Marked p (move_source t k status r s)
  unfolding move_source set_source
  source-marks k status r s h =
      let put = elsewhere p s (source_index t k) (pack_source status r) (λ e. omega arith) h in
      split (eqb status (status_in t k s)) (λ e. rw e put) (λ e. rw e (port-marked-again p _ (source_port t k) 1 _ 0 (λ z. refl) put))

  timer-marks : (q : ℕ) (s : List ℕ) → Marked p s → Marked p (tick_timer t q s)
  unfolding tick_timer
  timer-marks q s h =
      split (eqb (port_kind t q) port_timer && eqb (value_of (word s q)) timer_started)
      (λ e. split (leb (remaining_in s q) 1) (λ d. rw (e, d) (port-marked-again p s q 1 _ 0 (λ z. refl) h))
      (λ d. rw (e, d) (port-marked-again p s q _ _ _ (λ z. rw (← z) h.mark) h)))
      (λ e. rw e h)

  tick-source-marks : (k : ℕ) (s : List ℕ) → Marked p s → Marked p (tick_source t k s)
  unfolding tick_source
  tick-source-marks k s h =
      split (eqb (status_in t k s) status_pending)
      (λ e. split (leb (remaining_in s (source_index t k)) 1) (λ d. rw (e, d) (source-marks k _ _ s h)) (λ d. rw (e, d) (source-marks k _ _ s h)))
      (λ e. rw e h)

  pub things-mark : (s : List ℕ) → Marked p s → Marked p (tick_things t s)
  unfolding tick_things tick_network
  things-mark s h =
      each_keeps (Marked p) (tick_timer t) 0 (ports t) _ (λ q x a e. timer-marks q x)
      (each_keeps (Marked p) (tick_source t) 0 (sources t) _ (λ k x a e. tick-source-marks k x)
      (each_keeps (Marked p) (tick_network t) 0 (networks t) s (λ n x a e. network-marks n _ x) h))

  -- Before any list runs: the arbitrated ports are unmarked, the others left, and the results stored.

  unmark-other : {m : ℕ} (q : ℕ → Bool) (j : ℕ) (x : List ℕ) → (p ≡ j → ⊥) → Mark p m x → Mark p m (unmark_port q j x)
  unfolding unmark_port
  unmark-other q j x n h = split (q j) (λ e. rw e (elsewhere p x j _ n h)) (λ e. rw e h)

  pub unmark-others : {m : ℕ} (q : ℕ → Bool) (s : List ℕ) → q p ≡ false → Mark p m s → Mark p m (unmark_ports t q s)
  unfolding unmark_ports unmark_port
  unmark-others {m} q s n h =
      each_keeps (Mark p m) (unmark_port q) 0 (ports t) s
      (λ j x a e k. split (q j) (λ z. rw z (elsewhere p x j _ (λ same. clash z (rw same at n)) k)) (λ z. rw z k)) h

  pub unmark-it : (q : ℕ → Bool) (s : List ℕ) → q p ≡ true → p < length s → Unmarked p (unmark_ports t q s)
  unfolding unmark_ports unmark_port
  unmark-it q s e h =
      let turn : ports t ≡ p + suc (ports t - (p + 1)) = omega arith in
      rw (turn, each_at (unmark_port q) p (ports t - (p + 1)) s)
      (each_keeps (Unmarked p) (unmark_port q) (suc p) _ _ (λ j x a c. unmark-other q j x (λ z. omega arith)) here)
    where
      before : List ℕ
      before = each 0 p (unmark_port q) s

      long : Mark p (marked_of (word s p)) before
      long =
          each_keeps (Mark p (marked_of (word s p))) (unmark_port q) 0 p s (λ j x a c. unmark-other q j x (λ z. omega arith))
          (record { there = h; mark = refl })

      here : Unmarked p (unmark_port q p before)
      here = rw e (word-packed p before _ 0 _ _ (omega arith) long.there)

  pub store-elsewhere : {m : ℕ} (q : ℕ → Bool) (s : List ℕ) → Mark p m s → Mark p m (store_results t q s)
  unfolding store_results store_result
  store-elsewhere {m} q s h =
      each_keeps (Mark p m) (store_result t q s) 0 (rules t) s
      (λ r x a e k. split (evaluated t q s r) (λ z. rw z (result-elsewhere r _ x k)) (λ z. rw z k)) h
