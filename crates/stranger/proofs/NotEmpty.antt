-- The demand is not empty: on every accepted table the owner's wakeup of each source and the owner's bus-off and heard of each network
-- are refused by none of answers 4 to 6 and 8. Assumes nothing.
use mathlib.Core.Path.{◌≡◌, refl}
use mathlib.Core.Bool.{true, ◌||◌}
use mathlib.Core.List.{List}
use Prim.Native.Nat.{ℕ, ◌≤◌, ◌<◌}
use native.Mathlib.Omega.{arith}
use lib.Dec.{eqb}
use borrow.Author.Tests.{lt-ltb, le-leb, eq-eqb, ne_eqb}
use Rattle.rulebook.specs.Words.{digit}
use Rattle.rulebook.specs.Table.{networks, network_owner, sources, source_owner}
use Rattle.rulebook.specs.Reasons.{accepted}
use Rattle.rulebook.specs.State.{owner_of}
use Rattle.rulebook.specs.Events.{event_kind, event_owner, event_index, event_value, event_zero, event_tick, event_mode, event_request, event_wakeup, event_bus_off}
use Rattle.rulebook.specs.Events.{event_heard, highest_kind}
use Rattle.rulebook.specs.Step.{outcomes_known, well_formed, named, present, suited, known, sent_by_owner, refused_event}
use Rattle.laws.proofs.Facts.{facts}
use Rattle.laws.proofs.Fields.{digit-small}
use Rattle.stranger.specs.Demand.{owners_event}

module _ (kind o i : ℕ) where
  pub kind-is : kind < 16 → event_kind (owners_event kind o i) ≡ kind
  unfolding digit owners_event
  kind-is b = omega arith

  owner-is : o < 16 → event_owner (owners_event kind o i) ≡ o
  unfolding digit owners_event
  owner-is b = omega arith

  pub index_is : i < 256 → event_index (owners_event kind o i) ≡ i
  unfolding digit owners_event
  index_is b = omega arith

  value-is : event_value (owners_event kind o i) ≡ 0
  unfolding digit owners_event
  value-is = omega arith

  zeros-are : event_zero (owners_event kind o i) ≡ 0
  unfolding digit owners_event
  zeros-are = omega arith

-- with any outcomes that answer 8 does not refuse
module _ (t : List ℕ) (h : accepted t ≡ true) (os : List ℕ) (good : outcomes_known os ≡ true) where
  pub wakeup-known : (k : ℕ) → k < sources t → refused_event t os (owners_event event_wakeup (source_owner t k) k) ≡ 0
  unfolding refused_event well_formed known named present suited sent_by_owner owner_of
  wakeup-known k b =
      let few = (facts t h).counts.sources in let o = source_owner t k in
      rw (
        kind-is event_wakeup o k (omega arith),
        good,
        value-is event_wakeup o k,
        zeros-are event_wakeup o k,
        index_is event_wakeup o k (omega arith),
        lt-ltb k
            (sources t) b,
        owner-is event_wakeup o k (digit-small _ 16 _ (omega arith)),
        eq-eqb o o refl,
      )

  -- an event of a network, its kind one of two
  network-known : (kind : ℕ) → event_wakeup ≤ kind → kind ≤ highest_kind → (eqb kind event_bus_off || eqb kind event_heard) ≡ true → (n : ℕ) → n < networks t
      → refused_event t os (owners_event kind (network_owner t n) n) ≡ 0
  unfolding refused_event well_formed known named present suited sent_by_owner owner_of
  network-known kind low high of n b =
      let few = (facts t h).counts.networks in let o = network_owner t n in
      rw (
        kind-is kind o n (omega arith),
        good,
        le-leb kind highest_kind high,
        ne_eqb kind event_tick (λ z. omega arith),
        ne_eqb kind event_mode (λ z. omega arith),
        ne_eqb kind event_request (λ z. omega arith),
        of,
        value-is kind o n,
        zeros-are kind o n,
        index_is kind o n (omega arith),
        lt-ltb n (networks t) b,
        owner-is kind o n (digit-small _ 16 _ (omega arith)),
        eq-eqb o o refl,
      )

  pub bus-off-known : (n : ℕ) → n < networks t → refused_event t os (owners_event event_bus_off (network_owner t n) n) ≡ 0
  bus-off-known = network-known event_bus_off (omega arith) (omega arith) refl

  pub heard-known : (n : ℕ) → n < networks t → refused_event t os (owners_event event_heard (network_owner t n) n) ≡ 0
  heard-known = network-known event_heard (omega arith) (omega arith) refl
