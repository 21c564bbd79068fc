-- The dispatch on events, once: a statement of runs holds of what an event does if it holds of each kind's; and what an event that
-- is not refused says of its kind, its index and its owner. Assumes nothing.
use mathlib.Core.Path.{◌≡◌, ◌∙◌, ap}
use mathlib.Core.Bool.{Bool, true, false, cond, ◌&&◌, ◌||◌, not, and-false}
use mathlib.Core.Logic.{⊎_elim}
use mathlib.Core.List.{List}
use Prim.Native.Nat.{ℕ, ◌≤◌, ◌<◌}
use native.Mathlib.Omega.{arith}
use lib.Dec.{eqb}
use borrow.Author.Tests.{ltb-true, leb-true, eqb-true, eqb-false, eq-eqb, ne_eqb, not-true}
use Rattle.rulebook.specs.Table.{ports, networks, sources, port_kind, port_mode, port_event, port_owner, network_owner, source_owner, platform}
use Rattle.rulebook.specs.Reasons.{held}
use Rattle.rulebook.specs.State.{a_port, a_network, a_source, owner_of}
use Rattle.rulebook.specs.Lists.{Run, start}
use Rattle.rulebook.specs.Events.{event_kind, event_owner, event_index, event_value, event_tick, event_mode, event_request, event_wakeup, event_valid, event_bus_off}
use Rattle.rulebook.specs.Events.{event_clear, event_heard, highest_kind, request, wake, validate, clear, bus_off, hear, tick, changed, happen}
use Rattle.rulebook.specs.Step.{well_formed, named, present, suited, known, sent_by_owner, outcomes_known, refused_event}
use Rattle.laws.proofs.Tests.{split, part_of, and_left, and_right, implies-elim, or-none, or_some, or_elim}

no-request : (k : ℕ) → (k ≡ event_tick → ⊥) → (k ≡ event_mode → ⊥) → (k ≡ event_request → ⊥) → event_wakeup ≤ k
no-request k a b c = omega arith

pub happen-cases : (P : Run → Type 0) (t : List ℕ) (e : ℕ) (os s : List ℕ)
    → (event_kind e ≡ event_tick → P (tick t os s))
    → (event_kind e ≡ event_mode → P (request t (event_index e) (event_value e) os s))
    → (event_kind e ≡ event_request → P (request t (event_index e) 1 os s))
    → (event_wakeup ≤ event_kind e → P (start os (changed t (event_kind e) (event_index e) s)))
    → P (happen t e os s)
unfolding happen
happen-cases P t e os s f₀ f₁ f₂ f₃ =
    split (eqb (event_kind e) event_tick) (λ a. rw a (f₀ (eqb-true _ _ a)))
    (λ a. split (eqb (event_kind e) event_mode) (λ b. rw (a, b) (f₁ (eqb-true _ _ b)))
    (λ b. split (eqb (event_kind e) event_request) (λ c. rw (a, b, c) (f₂ (eqb-true _ _ c)))
    (λ c. rw (a, b, c) (f₃ (no-request _ (eqb-false _ _ a) (eqb-false _ _ b) (eqb-false _ _ c))))))

-- An event that is not refused.

pub record Taken (t : List ℕ) (e : ℕ) : Type 0 where
  pub well_formed : well_formed e ≡ true
  pub known : known t e ≡ true
  pub owner : sent_by_owner t e ≡ true

pub taken-event : (t os : List ℕ) (e : ℕ) → refused_event t os e ≡ 0 → Taken t e
unfolding refused_event
taken-event t os e h =
    split (well_formed e)
    (λ a. split (outcomes_known os)
    (λ d. split (known t e)
    (λ b. split (sent_by_owner t e) (λ c. record { well_formed = a; known = b; owner = c })
    (λ c. let z : 6 ≡ 0 = rw (a, d, b, c) at h in absurd (omega arith)))
    (λ b. let z : 5 ≡ 0 = rw (a, d, b) at h in absurd (omega arith)))
    (λ d. let z : 8 ≡ 0 = rw (a, d) at h in absurd (omega arith)))
    (λ a. let z : 4 ≡ 0 = rw a at h in absurd (omega arith))

abbrev pub of_networks : ℕ → Bool
of_networks e = eqb (event_kind e) event_bus_off || eqb (event_kind e) event_heard

module _ (t : List ℕ) (e : ℕ) (w : Taken t e) where
  pub kind-small : event_kind e ≤ highest_kind
  unfolding well_formed
  kind-small = leb-true _ _ (part_of _ (λ x. rw (well_formed, x) at w.well_formed))

  named-there : (event_kind e ≡ event_tick → ⊥) → (present t (named e) && suited t e) ≡ true
  unfolding known
  named-there n = or_elim (eqb (event_kind e) event_tick) _ w.known (ne_eqb _ _ n)

  pub owner-is : (event_kind e ≡ event_tick → ⊥) → event_owner e ≡ owner_of t (named e)
  unfolding sent_by_owner
  owner-is n = eqb-true _ _ (or_elim (eqb (event_kind e) event_tick) _ w.owner (ne_eqb _ _ n))

  named-port : event_kind e ≡ event_mode → named e ≡ a_port (event_index e)
  unfolding named
  named-port k = rw k

  named-event : event_kind e ≡ event_request → named e ≡ a_port (event_index e)
  unfolding named
  named-event k = rw k

  -- of kinds 3 to 7, bus-off and heard name a network, the others a source
  named-thing : event_wakeup ≤ event_kind e → named e ≡ cond (of_networks e) (a_network (event_index e)) (a_source (event_index e))
  unfolding named
  named-thing h = rw (ne_eqb (event_kind e) event_mode (λ z. omega arith), ne_eqb (event_kind e) event_request (λ z. omega arith))

  there : (event_kind e ≡ event_tick → ⊥) → present t (named e) ≡ true
  there n = and_left _ (suited t e) (named-there n)

  fit-for : (event_kind e ≡ event_tick → ⊥) → suited t e ≡ true
  fit-for n = and_right (present t (named e)) _ (named-there n)

  pub mode-index : event_kind e ≡ event_mode → event_index e < ports t
  unfolding present
  mode-index k = ltb-true _ _ (rw (named-port k) at (there (λ z. omega arith)))

  pub mode-kind : event_kind e ≡ event_mode → port_kind t (event_index e) ≡ port_mode
  unfolding suited
  mode-kind k = eqb-true _ _ (implies-elim (eqb (event_kind e) event_mode) _ (part_of _ (λ x. rw (suited, x) at (fit-for (λ z. omega arith)))) (eq-eqb _ _ k))

  pub mode-unheld : event_kind e ≡ event_mode → held t (event_index e) (networks t) (sources t) ≡ false
  unfolding suited
  mode-unheld k =
      not-true _ (implies-elim (eqb (event_kind e) event_mode) (not (held t (event_index e) (networks t) (sources t)))
      (part_of _ (λ x. rw (suited, x, and-false) at (fit-for (λ z. omega arith)))) (eq-eqb _ _ k))

  pub request-index : event_kind e ≡ event_request → event_index e < ports t
  unfolding present
  request-index k = ltb-true _ _ (rw (named-event k) at (there (λ z. omega arith)))

  pub request-kind : event_kind e ≡ event_request → port_kind t (event_index e) ≡ port_event
  unfolding suited
  request-kind k =
      eqb-true _ _ (implies-elim (eqb (event_kind e) event_request) (eqb (port_kind t (event_index e)) port_event)
      (part_of _ (λ x. rw (suited, x, and-false) at (fit-for (λ z. omega arith)))) (eq-eqb _ _ k))

-- The event as a view: a case a kind, what it does, and what is known of its index and its owner. Kinds 3 to 7 leave no trace: they
-- change their source or network.

pub record OfPort (t : List ℕ) (e : ℕ) : Type 0 where
  pub there : event_index e < ports t
  pub owner : event_owner e ≡ port_owner t (event_index e)

pub record OfNetwork (t : List ℕ) (e : ℕ) : Type 0 where
  pub there : event_index e < networks t
  pub owner : event_owner e ≡ network_owner t (event_index e)

pub record OfSource (t : List ℕ) (e : ℕ) : Type 0 where
  pub there : event_index e < sources t
  pub owner : event_owner e ≡ source_owner t (event_index e)

pub data OnSource (t : List ℕ) (e : ℕ) : (List ℕ → List ℕ) → Type 0 where
  a_wakeup : event_kind e ≡ event_wakeup → OnSource t e (λ s. wake t (event_index e) s)
  a_valid : event_kind e ≡ event_valid → OnSource t e (λ s. validate t (event_index e) s)
  a_clear : event_kind e ≡ event_clear → OnSource t e (λ s. clear t (event_index e) s)

pub data OnNetwork (t : List ℕ) (e : ℕ) : (List ℕ → List ℕ) → Type 0 where
  a_bus_off : event_kind e ≡ event_bus_off → OnNetwork t e (λ s. bus_off t (event_index e) s)
  a_heard : event_kind e ≡ event_heard → OnNetwork t e (λ s. hear t (event_index e) s)

pub data Event (t : List ℕ) (e : ℕ) : (List ℕ → List ℕ → Run) → Type 0 where
  a_tick : event_kind e ≡ event_tick → event_owner e ≡ platform → Event t e (λ os s. tick t os s)
  a_mode : event_kind e ≡ event_mode → OfPort t e → port_kind t (event_index e) ≡ port_mode → held t (event_index e) (networks t) (sources t) ≡ false
      → Event t e (λ os s. request t (event_index e) (event_value e) os s)
  a_request : event_kind e ≡ event_request → OfPort t e → port_kind t (event_index e) ≡ port_event → Event t e (λ os s. request t (event_index e) 1 os s)
  of_source : event_wakeup ≤ event_kind e → of_networks e ≡ false → OfSource t e → (g : List ℕ → List ℕ) → OnSource t e g → Event t e (λ os s. start os (g s))
  of_network : event_wakeup ≤ event_kind e → OfNetwork t e → (g : List ℕ → List ℕ) → OnNetwork t e g → Event t e (λ os s. start os (g s))

module _ (t : List ℕ) (e : ℕ) (w : Taken t e) where
  pub tick-owner : event_kind e ≡ event_tick → event_owner e ≡ platform
  unfolding well_formed
  tick-owner k =
      eqb-true _ _ (and_left _ (eqb (event_index e) 0)
      (implies-elim (eqb (event_kind e) event_tick) _ (part_of _ (λ d. rw (well_formed, d, and-false) at w.well_formed)) (eq-eqb _ _ k)))

  of-port : event_index e < ports t → (event_kind e ≡ event_tick → ⊥) → named e ≡ a_port (event_index e) → OfPort t e
  unfolding owner_of
  of-port b n is = record { there = b; owner = owner-is t e w n ∙ ap (owner_of t) is }

  of-network : event_wakeup ≤ event_kind e → of_networks e ≡ true → OfNetwork t e
  unfolding present owner_of
  of-network h n =
      let is : named e ≡ a_network (event_index e) = rw n at (named-thing t e w h) in
      record { there = ltb-true _ _ (rw is at (there t e w (λ z. omega arith))); owner = owner-is t e w (λ z. omega arith) ∙ ap (owner_of t) is }

  of-source : event_wakeup ≤ event_kind e → of_networks e ≡ false → OfSource t e
  unfolding present owner_of
  of-source h n =
      let is : named e ≡ a_source (event_index e) = rw n at (named-thing t e w h) in
      record { there = ltb-true _ _ (rw is at (there t e w (λ z. omega arith))); owner = owner-is t e w (λ z. omega arith) ∙ ap (owner_of t) is }

  pub of-bus-off : event_kind e ≡ event_bus_off → OfNetwork t e
  of-bus-off k = of-network (omega arith) (rw k)

  pub of-heard : event_kind e ≡ event_heard → OfNetwork t e
  of-heard k = of-network (omega arith) (rw k)

  pub of-wakeup : event_kind e ≡ event_wakeup → OfSource t e
  of-wakeup k = of-source (omega arith) (rw k)

  -- of a source's event that ends its waiting
  pub of-ending : (eqb (event_kind e) event_valid || eqb (event_kind e) event_clear) ≡ true → OfSource t e
  of-ending h =
      ⊎_elim (λ d. let k : event_kind e ≡ event_valid = eqb-true _ _ d in of-source (omega arith) (rw k))
      (λ d. let k : event_kind e ≡ event_clear = eqb-true _ _ d in of-source (omega arith) (rw k))
      (or_some (eqb (event_kind e) event_valid) (eqb (event_kind e) event_clear) h)

  a-change : event_wakeup ≤ event_kind e → Event t e (λ os s. start os (changed t (event_kind e) (event_index e) s))
  unfolding changed
  a-change low =
      split (of_networks e)
      (λ n. let of = of-network low n in
      split (eqb (event_kind e) event_bus_off) (λ c. let k = eqb-true (event_kind e) event_bus_off c in rw k (of_network low of _ (a_bus_off k)))
      (λ c. let k = eqb-true (event_kind e) event_heard (or_elim (eqb (event_kind e) event_bus_off) _ n c) in rw k (of_network low of _ (a_heard k))))
      (λ n. let of = of-source low n in let no-bus-off = or-none (eqb (event_kind e) event_bus_off) (eqb (event_kind e) event_heard) n in
      split (eqb (event_kind e) event_wakeup) (λ a. let k = eqb-true (event_kind e) event_wakeup a in rw k (of_source low n of _ (a_wakeup k)))
      (λ a. split (eqb (event_kind e) event_valid) (λ b. let k = eqb-true (event_kind e) event_valid b in rw k (of_source low n of _ (a_valid k)))
      (λ b. let k = only-clear (event_kind e) low (eqb-false _ _ a) (eqb-false _ _ b) (eqb-false _ _ no-bus-off.0) (eqb-false _ _ no-bus-off.1)
      (kind-small t e w) in rw k (of_source low n of _ (a_clear k)))))
    where
      only-clear : (k : ℕ) → 3 ≤ k → (k ≡ 3 → ⊥) → (k ≡ 4 → ⊥) → (k ≡ 5 → ⊥) → (k ≡ 7 → ⊥) → k ≤ 7 → k ≡ 6
      only-clear k low a b c d small = omega arith

  pub event : Event t e (λ os s. happen t e os s)
  unfolding happen
  event =
      split (eqb (event_kind e) event_tick) (λ a. let k = eqb-true (event_kind e) event_tick a in rw a (a_tick k (tick-owner k)))
      (λ a. split (eqb (event_kind e) event_mode)
      (λ b. let k = eqb-true (event_kind e) event_mode b in rw (a, b)
      (a_mode k (of-port (mode-index t e w k) (λ z. omega arith) (named-port t e w k)) (mode-kind t e w k) (mode-unheld t e w k)))
      (λ b. split (eqb (event_kind e) event_request)
      (λ c. let k = eqb-true (event_kind e) event_request c in rw (a, b, c)
      (a_request k (of-port (request-index t e w k) (λ z. omega arith) (named-event t e w k)) (request-kind t e w k)))
      (λ c. let low = no-request _ (eqb-false _ _ a) (eqb-false _ _ b) (eqb-false _ _ c) in rw (a, b, c) (a-change low))))
