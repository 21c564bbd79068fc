-- The mark of an event's port goes with its arbitration, and comes by a clear or a deferred request alone. Assumes nothing.
use mathlib.Core.Path.{◌≡◌, sym, ap, ◌∙◌}
use mathlib.Core.Bool.{Bool, true, false, ◌&&◌}
use mathlib.Core.Logic.{◌⊎◌, inl, inr, ⊎_elim}
use mathlib.Core.List.Memᴰ
use mathlib.Core.List.{List, [], ◌∷◌, ◌++◌}
use Prim.Native.Nat.{ℕ, ◌≤◌, ◌<◌}
use native.Mathlib.Omega.{arith}
use lib.ListN.{length, length-set}
use lib.Dec.{eqb}
use borrow.Author.Tests.{eqb-true, eqb-false, eq-eqb, ne_eqb}
use Rattle.rulebook.specs.Table.{ports, networks, sources, items, port_kind, port_mode, port_event, port_timer, deferred, network_port, source_port, list_owner}
use Rattle.rulebook.specs.Table.{item_kind, item_a, item_b, item_clear}
use Rattle.rulebook.specs.State.{source_index, Network, pack_source}
use Rattle.rulebook.specs.Lists.{Run, start, set_port, network_in, effect, act, set_result, judge}
use Rattle.rulebook.specs.Arbitration.{unmark_ports, arbitrate}
use Rattle.rulebook.specs.Events.{event_kind, event_index, event_value, event_tick, event_mode, event_request, event_wakeup, only, request, status_in, set_source}
use Rattle.rulebook.specs.Events.{move_source, shown, move_network, tick_things, arbitrate_marked, tick, happen}
use Rattle.laws.specs.Facts.{Facts}
use Rattle.laws.specs.Chosen.{sets_port}
use Rattle.laws.specs.Cleared.{arbitrates, requests_later, ClearTold}
use Rattle.laws.proofs.Tests.{split, clash, and_left, and_right, and_both, or_some}
use Rattle.laws.proofs.Cases.{effect-cases}
use Rattle.laws.proofs.Items.{clear-alone, start-there, stop-there, kind-is}
use Rattle.laws.proofs.Runs.{Within, item-there, KeptByActs, decide-keeps}
use Rattle.laws.proofs.Fields.{digit-small}
use Rattle.laws.proofs.FitKept.{Fits, port-long}
use Rattle.laws.proofs.FitEvents.{may-show, things-fit, source-to, network-to}
use Rattle.laws.proofs.Happen.{Taken, Event, a_tick, a_mode, a_request, of_source, of_network, event}
use Rattle.laws.proofs.Marks.{Unmarked, shows, marked-or-not, elsewhere, port-elsewhere, network-elsewhere, result-elsewhere, effect-length}
use Rattle.laws.proofs.Marks.{unmark-it, unmark-others, store-elsewhere}

module _ (t : List ℕ) (f : Facts t) (p : ℕ) (b : p < ports t) (is : port_kind t p ≡ port_event) where
  -- Lists write no event's port but by a clear, which the trace tells.

  record Quiet (x : Run) : Type 0 where
    there : p < length x.state
    mark : (ClearTold p x.words → ⊥) → Unmarked p x.state

  fewer : (v : ℕ) (ws : List ℕ) → (ClearTold p (ws ++ (v ∷ [])) → ⊥) → ClearTold p ws → ⊥
  fewer v ws n c = n (record { owner = c.owner; told = Memᴰ.append_left (v ∷ []) c.told })

  of-kind : (q k : ℕ) → port_kind t q ≡ k → (port_event ≡ k → ⊥) → p ≡ q → ⊥
  of-kind q k h n e = n (sym is ∙ ap (λ (x : ℕ). port_kind t x) e ∙ h)

  effect-quiet : (i : ℕ) (s : List ℕ) → i < items t → (item_kind t i ≡ item_clear → item_a t i ≡ p → ⊥) → Unmarked p s → Unmarked p (effect t i s)
  effect-quiet i s h n u =
      let named = (f.item i h).1 in
      effect-cases (Unmarked p) t i s (λ k. port-elsewhere p s (item_a t i) 1 0 0 (λ e. n k (sym e)) u)
      (λ k. port-elsewhere p s (item_a t i) 1 _ _ (of-kind _ port_timer (kind-is t port_timer _ (start-there t i named k)) (λ z. omega arith)) u)
      (λ k. port-elsewhere p s (item_a t i) 1 _ 0 (of-kind _ port_timer (kind-is t port_timer _ (stop-there t i named k)) (λ z. omega arith)) u)
      (λ k. network-elsewhere t p b (item_a t i) _ s u) (λ k. u)

  bare : (l i : ℕ) → Within t l i → item_kind t i ≡ item_clear → item_b t i ≡ 0
  bare l i w k = clear-alone t i (f.item i (item-there t f l i w)).0 k

  quiet-kept : KeptByActs t Quiet
  unfolding act judge set_result
  quiet-kept =
      record {
        list_start = λ l x h q. record { there = q.there; mark = λ n. q.mark (fewer _ x.words n) };
        act = λ l i x w g h q. record {
          there = rw (effect-length t i x.state) q.there;
          mark = λ n. effect-quiet i x.state (item-there t f l i w)
              (λ k a. n (record { owner = list_owner t l; told = Memᴰ.append_right x.words (Memᴰ.head (rw (k, a, bare l i w k))) }))
              (q.mark (fewer _ x.words n));
        };
        undefined = λ l i x w e q. record { there = q.there; mark = λ n. q.mark (fewer _ x.words n) };
        judge = λ l i x w e u q. record {
          there = rw (length-set x.state _ _) q.there;
          mark = λ n. result-elsewhere t p b (item_a t i) _ x.state (q.mark (fewer _ x.words n));
        };
      }

  -- An arbitration that has p, or finds it unmarked.

  arbitrate-quiet : (q : ℕ → Bool) (os s : List ℕ) → p < length s → (q p ≡ true) ⊎ Unmarked p s → Quiet (arbitrate t q os s)
  unfolding arbitrate
  arbitrate-quiet q os s h why =
      let it : q p ≡ true → Unmarked p (unmark_ports t q s) = λ e. unmark-it t p b q s e h in
      let unmarked = ⊎_elim it (λ u. split (q p) it (λ e. unmark-others t p b q s e u)) why in
      let u = store-elsewhere t p b q (unmark_ports t q s) unmarked in
      decide-keeps t f Quiet quiet-kept q os (unmark_ports t q s) (record { there = u.there; mark = λ n. u })

  -- Events: networks and sources write mode ports.

  unmarked-quiet : (os s : List ℕ) → Unmarked p s → Quiet (start os s)
  unmarked-quiet os s u = record { there = u.there; mark = λ n. u }

  network-quiet : (n : ℕ) (c : Network) (s : List ℕ) → n < networks t → Unmarked p s → Unmarked p (move_network t n c s)
  unfolding move_network
  network-quiet n c s h u =
      let put = network-elsewhere t p b n c s u in
      split (eqb (shown c.state) (shown (network_in t n s).state)) (λ e. rw e put)
      (λ e. rw e (port-elsewhere p _ (network_port t n) 1 _ 0 (of-kind _ port_mode (may-show t _ (f.network n h).may).mode (λ z. omega arith)) put))

  source-quiet : (k status r : ℕ) (s : List ℕ) → k < sources t → Unmarked p s → Unmarked p (move_source t k status r s)
  unfolding move_source set_source
  source-quiet k status r s h u =
      let put = elsewhere p s (source_index t k) (pack_source status r) (λ e. omega arith) u in
      split (eqb status (status_in t k s)) (λ e. rw e put)
      (λ e. rw e (port-elsewhere p _ (source_port t k) 1 _ 0 (of-kind _ port_mode (may-show t _ (f.source k h).may).mode (λ z. omega arith)) put))

  request-quiet : (q v : ℕ) (os s : List ℕ) → p < length s → (p ≡ q → deferred t q ≡ 0) → (p ≡ q) ⊎ Unmarked p s → Quiet (request t q v os s)
  unfolding request only set_port
  request-quiet q v os s h now why =
      split (eqb (deferred t q) 1)
      (λ e. let late = eqb-true (deferred t q) 1 e in let other : (p ≡ q → ⊥) = λ z. let n = now z in absurd (omega arith) in
      rw e (unmarked-quiet os _ (⊎_elim (λ z. absurd (other z)) (port-elsewhere p s q 1 v 0 other) why)))
      (λ e. rw e (arbitrate-quiet (only q) os _ (rw (length-set s q _) h)
      (split (eqb p q) (λ z. inl z) (λ z. inr (⊎_elim (λ y. absurd (eqb-false p q z y)) (port-elsewhere p s q 0 v 0 (eqb-false p q z)) why)))))

  -- what e arbitrates, if it is no tick: its own port, an immediate one
  own-port : (e : ℕ) → (event_kind e ≡ event_tick → ⊥) → arbitrates t e p ≡ true → (sets_port e ≡ true) × (p ≡ event_index e)
  own-port e n h =
      ⊎_elim (λ a. absurd (n (eqb-true _ _ a)))
      (λ a. let both = and_left (sets_port e && eqb (event_index e) p) (eqb (deferred t p) 0) a in
      (and_left (sets_port e) _ both, sym (eqb-true _ _ (and_right (sets_port e) _ both))))
      (or_some (eqb (event_kind e) event_tick) _ h)

  -- a request that does not mark its port has it arbitrated
  at_once : (e : ℕ) → sets_port e ≡ true → requests_later t e p ≡ false → p ≡ event_index e → deferred t (event_index e) ≡ 0
  at_once e sets h z =
      let small : deferred t p < 2 = digit-small _ 2 _ (omega arith) in
      let n : (deferred t p ≡ 1 → ⊥) = λ y. clash (and_both (sets_port e && eqb (event_index e) p) _ (and_both _ _ sets (eq-eqb _ _ (sym z))) (eq-eqb _ _ y)) h in
      let now : deferred t p ≡ 0 = omega arith in
      ap (λ (x : ℕ). deferred t x) (sym z) ∙ now

  pub happen-quiet : (e : ℕ) (os s : List ℕ) → Taken t e → Fits t s → (arbitrates t e p ≡ true) ⊎ Unmarked p s → requests_later t e p ≡ false
      → (ClearTold p (happen t e os s).words → ⊥) → Unmarked p (happen t e os s).state
  unfolding tick arbitrate_marked
  happen-quiet e os s w h why late = (go (happen t e) (event t e w)).mark
    where
      -- of an event that sets no port
      still : (event_kind e ≡ event_tick → ⊥) → sets_port e ≡ false → Unmarked p s
      still n k = ⊎_elim (λ a. clash (own-port e n a).0 k) (λ u. u) why

      no-port : event_wakeup ≤ event_kind e → sets_port e ≡ false
      no-port k = rw (ne_eqb (event_kind e) event_mode (λ z. omega arith), ne_eqb (event_kind e) event_request (λ z. omega arith))

      asked : (v : ℕ) → (event_kind e ≡ event_tick → ⊥) → sets_port e ≡ true → Quiet (request t (event_index e) v os s)
      asked v n sets = request-quiet (event_index e) v os s (port-long t s h p b) (at_once e sets late) (⊎_elim (λ a. inl (own-port e n a).1) (λ u. inr u) why)

      go : (g : List ℕ → List ℕ → Run) → Event t e g → Quiet (g os s)
      go g (a_tick k u) = let long = port-long t (tick_things t s) (things-fit t f s h) p b in
          arbitrate-quiet _ os (tick_things t s) long (⊎_elim (λ m. inl (shows t p b m)) (λ m. inr m) (marked-or-not t p b (tick_things t s) long))
      go g (a_mode k u m n) = asked (event_value e) (λ z. omega arith) (rw k)
      go g (a_request k u m) = asked 1 (λ z. omega arith) (rw k)
      go g (of_source k n of u c) = let v = still (λ z. omega arith) (no-port k) in
          unmarked-quiet os _ (source-to t f (Unmarked p) e s u c (λ status r ok. source-quiet _ status r s of.there v) v)
      go g (of_network k of u c) = let v = still (λ z. omega arith) (no-port k) in
          unmarked-quiet os _ (network-to t f (Unmarked p) e s u c of.there h (λ x ok same. network-quiet _ x s of.there v) v)
