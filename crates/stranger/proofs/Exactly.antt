-- A bus-off that is taken, and nothing else, makes a network recover; a heard that is taken, and nothing else, is heard; a wakeup on
-- none or expired, and nothing else, makes a source pending. Assumes nothing.
use mathlib.Core.Path.{◌≡◌, refl, sym, ◌∙◌, ap}
use mathlib.Core.Bool.{true, false, ◌&&◌, ◌||◌, not, and-false}
use mathlib.Core.List.{List}
use Prim.Native.Nat.{ℕ, ◌<◌}
use native.Mathlib.Omega.{arith}
use lib.Dec.{eqb}
use borrow.Author.Tests.{eqb-true, eqb-false, eq-eqb, ne_eqb, le-leb, not-true}
use Rattle.rulebook.specs.Words.{word}
use Rattle.rulebook.specs.Table.{networks, sources, timeout}
use Rattle.rulebook.specs.Reasons.{accepted}
use Rattle.rulebook.specs.State.{source_index, Network, state_recover, status_of}
use Rattle.rulebook.specs.State.{status_none, status_pending, status_validated, status_expired}
use Rattle.rulebook.specs.Lists.{network_in}
use Rattle.rulebook.specs.Events.{event_kind, event_index, event_tick, event_wakeup, event_valid, event_bus_off, event_clear, status_in, takes, off_bus}
use Rattle.rulebook.specs.Events.{event_heard, listens, ticked_network}
use Rattle.laws.proofs.Tests.{split, clash, and_left, and_right}
use Rattle.laws.proofs.Facts.{facts}
use Rattle.laws.proofs.Fields.{source-status}
use Rattle.laws.proofs.FitKept.{Fits}
use Rattle.stranger.specs.Logs.{Entry, Follows}
use Rattle.stranger.specs.Demand.{bus_off_taken, hears, heard_taken, becomes_pending}
use Rattle.stranger.specs.Statements.{newly}
use Rattle.stranger.proofs.Logs.{taken}
use Rattle.stranger.proofs.Moves.{next_network, network-moves, next_source, ticked_source, woken_source, valid_source}
use Rattle.stranger.proofs.Ticked.{ticked-cases}
use Rattle.stranger.proofs.Wakeup.{next-own}

newly-same : (v a : ℕ) → newly v a a ≡ false
newly-same v a = split (eqb a v) (λ e. rw e) (λ e. rw e)

-- what was v before has not newly become so, nor what is not v after
newly-was : (v a b : ℕ) → a ≡ v → newly v a b ≡ false
newly-was v a b e = rw (eq-eqb a v e)

newly-not : (v a b : ℕ) → (b ≡ v → ⊥) → newly v a b ≡ false
newly-not v a b d = rw (ne_eqb b v d, and-false)

-- The network.

ticked-recover : (t : List ℕ) (n : ℕ) (c : Network) → (c.state ≡ state_recover → ⊥) → (ticked_network t n c).state ≡ state_recover → ⊥
ticked-recover t n c d = ticked-cases t n c (λ x. x.state ≡ state_recover → ⊥) (λ st k r from z. d (from z)) (λ other. d)

takes-not-recover : (c : Network) → takes c ≡ true → c.state ≡ state_recover → ⊥
unfolding takes
takes-not-recover c h e = clash (rw e at h) refl

pub bus-off-exactly : (t : List ℕ) (h : accepted t ≡ true) (n : ℕ) (b : n < networks t) (s : List ℕ) (x : Entry) → Follows t s x → Fits t s
    → bus_off_taken t n s x ≡ newly state_recover (network_in t n s).state (network_in t n x.state).state
unfolding bus_off_taken next_network off_bus
bus-off-exactly t h n b s x f fit =
    let c = network_in t n s in
    let own : (network_in t n x.state).state ≡ (next_network t (facts t h) n b x.event s).state =
    ap (λ (y : List ℕ). (network_in t n y).state) f.state
    ∙ ap (λ (y : Network). y.state) (network-moves t (facts t h) n b x.event _ s (taken f) fit).own in
    rw own
    (split (eqb (event_kind x.event) event_tick)
    (λ d. rw (eqb-true (event_kind x.event) event_tick d)
    (split (eqb c.state state_recover)
    (λ e. sym (newly-was state_recover c.state (ticked_network t n c).state (eqb-true _ _ e)))
    (λ e. sym (newly-not state_recover c.state (ticked_network t n c).state (ticked-recover t n c (eqb-false _ _ e))))))
    (λ d. split (eqb (event_kind x.event) event_bus_off && eqb (event_index x.event) n && takes c)
    (λ e. let off : c.state ≡ state_recover → ⊥ = takes-not-recover c
    (and_right (eqb (event_kind x.event) event_bus_off && eqb (event_index x.event) n) _ e) in
    rw (d, e, ne_eqb c.state state_recover off))
    (λ e. split (eqb (event_kind x.event) event_heard && eqb (event_index x.event) n && listens c)
    (λ g. rw (d, e, g) (sym (newly-same state_recover c.state))) (λ g. rw (d, e, g) (sym (newly-same state_recover c.state))))))

ticked-unheard : (t : List ℕ) (n : ℕ) (c : Network) → (c.heard ≡ 1 → ⊥) → (ticked_network t n c).heard ≡ 1 → ⊥
ticked-unheard t n c d = ticked-cases t n c (λ x. x.heard ≡ 1 → ⊥) (λ st k r from z. omega arith) (λ other. d)

-- A heard that is taken leaves it heard, and nothing else newly does.

next-heard : (t : List ℕ) (h : accepted t ≡ true) (n : ℕ) (b : n < networks t) (s : List ℕ) (x : Entry) → Follows t s x → Fits t s
    → (network_in t n x.state).heard ≡ (next_network t (facts t h) n b x.event s).heard
next-heard t h n b s x f fit =
    ap (λ (y : List ℕ). (network_in t n y).heard) f.state ∙ ap (λ (y : Network). y.heard) (network-moves t (facts t h) n b x.event _ s (taken f) fit).own

pub heard-kept : (t : List ℕ) (h : accepted t ≡ true) (n : ℕ) (b : n < networks t) (s : List ℕ) (x : Entry) → Follows t s x → Fits t s
    → heard_taken t n s x ≡ true → (network_in t n x.state).heard ≡ 1
unfolding heard_taken hears next_network
heard-kept t h n b s x f fit e =
    let k = eqb-true (event_kind x.event) event_heard (and_left _ (eqb (event_index x.event) n) (and_left _ (listens (network_in t n s)) e)) in
    next-heard t h n b s x f fit ∙ rw (e, k)

pub heard-only : (t : List ℕ) (h : accepted t ≡ true) (n : ℕ) (b : n < networks t) (s : List ℕ) (x : Entry) → Follows t s x → Fits t s
    → newly 1 (network_in t n s).heard (network_in t n x.state).heard ≡ true → heard_taken t n s x ≡ true
unfolding heard_taken hears next_network off_bus
heard-only t h n b s x f fit new =
    let c = network_in t n s in
    let was : c.heard ≡ 1 → ⊥ = eqb-false _ _ (not-true _ (and_left (not (eqb c.heard 1)) _ new)) in
    let is : (next_network t (facts t h) n b x.event s).heard ≡ 1 =
    sym (next-heard t h n b s x f fit) ∙ eqb-true _ _ (and_right (not (eqb c.heard 1)) _ new) in
    split (eqb (event_kind x.event) event_tick)
    (λ d. absurd (ticked-unheard t n c was (rw d at is)))
    (λ d. split (eqb (event_kind x.event) event_bus_off && eqb (event_index x.event) n && takes c)
    (λ e. let z : 0 ≡ 1 = rw (d, e) at is in absurd (omega arith))
    (λ e. split (eqb (event_kind x.event) event_heard && eqb (event_index x.event) n && listens c) (λ g. g)
    (λ g. absurd (was (rw (d, e, g) at is)))))

-- The source.

pub wakeup-exactly : (t : List ℕ) (h : accepted t ≡ true) (k : ℕ) (b : k < sources t) (s : List ℕ) (x : Entry) → Follows t s x → Fits t s
    → becomes_pending t k s x ≡ newly status_pending (status_in t k s) (status_in t k x.state)
unfolding becomes_pending next_source ticked_source woken_source valid_source
wakeup-exactly t h k b s x f fit =
    let e = x.event in
    let w = word s (source_index t k) in
    let own : status_in t k x.state ≡ status_of (next_source t (facts t h) k b e s) = ap (λ (y : ℕ). status_of y) (next-own t h k b s x f fit) in
    rw own
    (split (eqb (event_kind e) event_tick)
    (λ d. rw (eqb-true (event_kind e) event_tick d)
    (split (eqb (status_of w) status_pending)
    (λ g. rw g)
    (λ g. rw (g, g))))
    (λ d. split (eqb (event_kind e) event_wakeup && eqb (event_index e) k)
    (λ g. split (eqb (status_of w) status_none || eqb (status_of w) status_expired)
    (λ i. split (eqb (timeout t k) 0)
    (λ z. rw (d, g, i, z, source-status status_validated (timeout t k), eqb-true (timeout t k) 0 z)
    (sym (newly-not status_pending (status_of w) status_validated (λ y. omega arith))))
    (λ z. let some : timeout t k ≡ 0 → ⊥ = eqb-false (timeout t k) 0 z in
    rw (d, g, i, z, source-status status_pending (timeout t k), le-leb 1 (timeout t k) (omega arith), idle-not-pending (status_of w) i)))
    (λ i. rw (d, g, i) (sym (newly-same status_pending (status_of w)))))
    (λ g. split (eqb (event_kind e) event_valid && eqb (event_index e) k)
    (λ i. split (eqb (status_of w) status_pending)
    (λ z. rw (d, g, i, z))
    (λ z. rw (d, g, i, z, z)))
    (λ i. split (eqb (event_kind e) event_clear && eqb (event_index e) k)
    (λ z. rw (d, g, i, z, source-status status_none 0) (sym (newly-not status_pending (status_of w) status_none (λ y. omega arith))))
    (λ z. rw (d, g, i, z) (sym (newly-same status_pending (status_of w))))))))
  where
    idle-not-pending : (v : ℕ) → (eqb v status_none || eqb v status_expired) ≡ true → eqb v status_pending ≡ false
    idle-not-pending v h = ne_eqb v status_pending (λ z. clash (rw z at h) refl)
