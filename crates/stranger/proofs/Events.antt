-- What an event does stays with its owner: a stranger's event is unseen by o, and any other, from states that o cannot tell apart,
-- ends alike to o if what the calls met agrees. Assumes nothing.
use mathlib.Core.Path.{◌≡◌, refl, ◌∙◌}
use mathlib.Core.Bool.{Bool, true, false, cond, ◌&&◌, ◌||◌}
use mathlib.Core.List.{List}
use Prim.Native.Nat.{ℕ, ◌+◌, ◌-◌, ◌<◌, min}
use native.Mathlib.Omega.{arith}
use lib.ListN.{set}
use lib.Dec.{leb, eqb}
use borrow.Author.Tests.{ltb-true, ne_eqb}
use Rattle.rulebook.specs.Words.{word}
use Rattle.rulebook.specs.Table.{ports, networks, sources, port_kind, port_timer, port_owner, deferred, network_owner, network_port, source_owner, source_port}
use Rattle.rulebook.specs.Table.{timeout, platform, stranger}
use Rattle.rulebook.specs.State.{network_index, source_index, marked_of, value_of, remaining_of, timer_started, timer_expired, Network, network_of, status_of}
use Rattle.rulebook.specs.State.{status_none, status_pending, status_validated, status_expired}
use Rattle.rulebook.specs.Reasons.{may_show}
use Rattle.rulebook.specs.Lists.{Run, start, set_port, set_network}
use Rattle.rulebook.specs.Events.{event_owner, event_index, event_value, only, request, set_source, move_source, wake, validate, clear, shown, move_network, takes}
use Rattle.rulebook.specs.Events.{off_bus, bus_off, listens, hearing, hear, ticked_network, tick_network, tick_source, tick_timer, tick_things}
use Rattle.rulebook.specs.Events.{marked_in, arbitrate_marked, tick, happen}
use Rattle.laws.specs.Facts.{Facts, Shows}
use Rattle.laws.proofs.Tests.{split, clash, part_of}
use Rattle.laws.proofs.Walks.{each-alike}
use Rattle.laws.proofs.Happen.{Taken, OnSource, a_wakeup, a_valid, a_clear, OnNetwork, a_bus_off, a_heard}
use Rattle.laws.proofs.Happen.{Event, a_tick, a_mode, a_request, of_source, of_network, event}
use Rattle.stranger.specs.View.{strangers_word, SameView}
use Rattle.stranger.proofs.More.{pick, pick-both}
use Rattle.stranger.proofs.View.{same-view-refl, same-view-trans, view-around, write-hidden, write-alike, port-word, network-word, source-word}
use Rattle.stranger.proofs.Alike.{Alike, alike-trans, start-alike, AlikeIf}
use Rattle.stranger.proofs.Owners.{platform-known}
use Rattle.stranger.proofs.Arbitration.{arbitrate-alike, arbitrate-hidden}

-- What g does to a state stays with owner w: unseen by o if w is a stranger to o, else alike from states that o cannot tell apart.
pub record Confined (t : List ℕ) (o w : ℕ) (g : List ℕ → List ℕ) : Type 0 where
  pub hidden : stranger o w ≡ true → (s : List ℕ) → SameView t o s (g s)
  pub alike : stranger o w ≡ false → (s₁ s₂ : List ℕ) → SameView t o s₁ s₂ → SameView t o (g s₁) (g s₂)

-- the same of what may write trace words and read outcomes too
pub record ConfinedRun (t : List ℕ) (o w : ℕ) (g : List ℕ → List ℕ → Run) : Type 0 where
  pub hidden : stranger o w ≡ true → (os s : List ℕ) → Alike t o os os (start os s) (g os s)
  pub alike : stranger o w ≡ false → (os₁ os₂ s₁ s₂ : List ℕ) → SameView t o s₁ s₂ → AlikeIf t o os₁ os₂ (g os₁ s₁) (g os₂ s₂)

-- How such changes are made up: nothing, a write of w's word, one after the other, a choice, and a choice by w's word.
module _ {t : List ℕ} {o w : ℕ} where
  stay : Confined t o w (λ s. s)
  stay = record { hidden = λ h s. same-view-refl t o s; alike = λ h s₁ s₂ v. v }

  put : (i v : ℕ) → strangers_word t o i ≡ stranger o w → Confined t o w (λ s. set s i v)
  put i v e = record { hidden = λ h s. write-hidden t o s i v (e ∙ h); alike = λ h s₁ s₂ u. write-alike t o i v v (λ k. refl) u }

  put-port : (p marked value remaining : ℕ) → strangers_word t o p ≡ stranger o w → Confined t o w (λ s. set_port p marked value remaining s)
  unfolding set_port
  put-port p marked value remaining e = put p _ e

  followed : {g g' : List ℕ → List ℕ} → Confined t o w g → Confined t o w g' → Confined t o w (λ s. g' (g s))
  followed c c' =
      record {
        hidden = λ h s. same-view-trans t o (c.hidden h s) (c'.hidden h _);
        alike = λ h s₁ s₂ v. c'.alike h _ _ (c.alike h s₁ s₂ v);
      }

  choose : (b : Bool) {g g' : List ℕ → List ℕ} → Confined t o w g → Confined t o w g' → Confined t o w (λ s. cond b (g s) (g' s))
  choose b c c' =
      record {
        hidden = λ h s. pick (SameView t o s) b (λ e. c.hidden h s) (λ e. c'.hidden h s);
        alike = λ h s₁ s₂ v. pick-both (SameView t o) b (λ e. c.alike h s₁ s₂ v) (λ e. c'.alike h s₁ s₂ v);
      }

  by_word : (i : ℕ) → strangers_word t o i ≡ stranger o w → {g : ℕ → List ℕ → List ℕ} → ((u : ℕ) → Confined t o w (g u)) → Confined t o w (λ s. g (word s i) s)
  by_word i e c =
      record {
        hidden = λ h s. (c (word s i)).hidden h s;
        alike = λ h s₁ s₂ v. rw (v.same i (e ∙ h)) ((c (word s₂ i)).alike h s₁ s₂ v);
      }

  quiet : {g : List ℕ → List ℕ} → Confined t o w g → ConfinedRun t o w (λ os s. start os (g s))
  quiet c = record { hidden = λ h os s. start-alike t o (c.hidden h s); alike = λ h os₁ os₂ s₁ s₂ v g. start-alike t o (c.alike h s₁ s₂ v) }

  either_way : {g : List ℕ → List ℕ} → Confined t o w g → (s₁ s₂ : List ℕ) → SameView t o s₁ s₂ → SameView t o (g s₁) (g s₂)
  either_way c s₁ s₂ v =
      split (stranger o w) (λ h. view-around t o v (c.hidden h s₁) (c.hidden h s₂)) (λ h. c.alike h s₁ s₂ v)

module _ (t : List ℕ) (f : Facts t) (o : ℕ) where
  -- the port on which a network or source is shown has its owner
  shows-word : {p w n k : ℕ} → Shows t p w n k → strangers_word t o p ≡ stranger o w
  unfolding may_show
  shows-word {p} h = port-word t o p (ltb-true _ _ (part_of _ (λ e. rw (may_show, e) at h.may))) ∙ rw h.owned

  module _ (k : ℕ) (b : k < sources t) where
    put-source : (status remaining : ℕ) → Confined t o (source_owner t k) (λ s. set_source t k status remaining s)
    unfolding set_source
    put-source status remaining = put (source_index t k) _ (source-word t o k)

    move-source : (status remaining : ℕ) → Confined t o (source_owner t k) (λ s. move_source t k status remaining s)
    unfolding move_source
    move-source status remaining =
        by_word (source_index t k) (source-word t o k)
        (λ u. choose (eqb status (status_of u)) (put-source status remaining)
        (followed (put-source status remaining) (put-port (source_port t k) 1 status 0 (shows-word (f.source k b)))))

    wake-confined : Confined t o (source_owner t k) (λ s. wake t k s)
    unfolding wake
    wake-confined =
        by_word (source_index t k) (source-word t o k)
        (λ u. choose (eqb (status_of u) status_none || eqb (status_of u) status_expired)
        (move-source (cond (eqb (timeout t k) 0) status_validated status_pending) (timeout t k)) stay)

    validate-confined : Confined t o (source_owner t k) (λ s. validate t k s)
    unfolding validate
    validate-confined = by_word (source_index t k) (source-word t o k) (λ u. choose (eqb (status_of u) status_pending) (move-source status_validated 0) stay)

    clear-confined : Confined t o (source_owner t k) (λ s. clear t k s)
    unfolding clear
    clear-confined = move-source status_none 0

    tick-source : Confined t o (source_owner t k) (λ s. tick_source t k s)
    unfolding tick_source
    tick-source =
        by_word (source_index t k) (source-word t o k)
        (λ u. choose (eqb (status_of u) status_pending)
        (choose (leb (remaining_of u) 1) (move-source status_expired 0) (move-source status_pending (remaining_of u - 1))) stay)

  module _ (n : ℕ) (b : n < networks t) where
    put-network : (c : Network) → Confined t o (network_owner t n) (λ s. set_network t n c s)
    unfolding set_network
    put-network c = put (network_index t n) _ (network-word t o n b)

    move-network : (c : Network) → Confined t o (network_owner t n) (λ s. move_network t n c s)
    unfolding move_network
    move-network c =
        by_word (network_index t n) (network-word t o n b)
        (λ u. choose (eqb (shown c.state) (shown (network_of u).state)) (put-network c)
        (followed (put-network c) (put-port (network_port t n) 1 (shown c.state) 0 (shows-word (f.network n b)))))

    bus-off : Confined t o (network_owner t n) (λ s. bus_off t n s)
    unfolding bus_off
    bus-off =
        by_word (network_index t n) (network-word t o n b)
        (λ u. choose (takes (network_of u)) (move-network (off_bus t n (min 255 ((network_of u).counter + 1)) (network_of u))) stay)

    heard : Confined t o (network_owner t n) (λ s. hear t n s)
    unfolding hear
    heard =
        by_word (network_index t n) (network-word t o n b) (λ u. choose (listens (network_of u)) (move-network (hearing (network_of u))) stay)

    tick-network : Confined t o (network_owner t n) (λ s. tick_network t n s)
    unfolding tick_network
    tick-network = by_word (network_index t n) (network-word t o n b) (λ u. move-network (ticked_network t n (network_of u)))

  on-source : (e : ℕ) → event_index e < sources t → (g : List ℕ → List ℕ) → OnSource t e g → Confined t o (source_owner t (event_index e)) g
  on-source e b g (a_wakeup k) = wake-confined (event_index e) b
  on-source e b g (a_valid k) = validate-confined (event_index e) b
  on-source e b g (a_clear k) = clear-confined (event_index e) b

  on-network : (e : ℕ) → event_index e < networks t → (g : List ℕ → List ℕ) → OnNetwork t e g → Confined t o (network_owner t (event_index e)) g
  on-network e b g (a_bus_off k) = bus-off (event_index e) b
  on-network e b g (a_heard k) = heard (event_index e) b

  module _ (p : ℕ) (b : p < ports t) where
    tick-timer : Confined t o (port_owner t p) (λ s. tick_timer t p s)
    unfolding tick_timer
    tick-timer =
        by_word p (port-word t o p b)
        (λ u. choose (eqb (port_kind t p) port_timer && eqb (value_of u) timer_started)
        (choose (leb (remaining_of u) 1) (put-port p 1 timer_expired 0 (port-word t o p b))
        (put-port p (marked_of u) timer_started (remaining_of u - 1) (port-word t o p b))) stay)

    -- of the ports of o and of the platform, a stranger's is none
    only-hidden : stranger o (port_owner t p) ≡ true → (x : ℕ) → x < ports t → stranger o (port_owner t x) ≡ false → only p x ≡ false
    unfolding only
    only-hidden h x c k = ne_eqb x p (λ e. clash h (rw e at k))

    request-confined : (value : ℕ) → ConfinedRun t o (port_owner t p) (λ os s. request t p value os s)
    unfolding request
    request-confined value =
        let marked : Confined t o (port_owner t p) (λ s. set_port p 1 value 0 s) = put-port p 1 value 0 (port-word t o p b) in
        let now : Confined t o (port_owner t p) (λ s. set_port p 0 value 0 s) = put-port p 0 value 0 (port-word t o p b) in
        record {
          hidden = λ h os s. pick (Alike t o os os (start os s)) (eqb (deferred t p) 1) (λ e. start-alike t o (marked.hidden h s))
              (λ e. alike-trans t o (start-alike t o (now.hidden h s)) (arbitrate-hidden t f o (only p) (only-hidden h) os _));
          alike = λ h os₁ os₂ s₁ s₂ v. pick-both (AlikeIf t o os₁ os₂) (eqb (deferred t p) 1) (λ e g. start-alike t o (marked.alike h s₁ s₂ v))
              (λ e. arbitrate-alike t f o (only p) (only p) (λ x c k. refl) os₁ os₂ (now.alike h s₁ s₂ v));
        }

  -- A tick is the platform's. Networks, sources and timers move, each for itself; then the marked ports are arbitrated.

  things-alike : (s₁ s₂ : List ℕ) → SameView t o s₁ s₂ → SameView t o (tick_things t s₁) (tick_things t s₂)
  unfolding tick_things
  things-alike s₁ s₂ v =
      each-alike (SameView t o) (tick_timer t) (tick_timer t) 0 (ports t) _ _ (λ p x y a b. either_way (tick-timer p (omega arith)) x y)
      (each-alike (SameView t o) (tick_source t) (tick_source t) 0 (sources t) _ _ (λ k x y a b. either_way (tick-source k (omega arith)) x y)
      (each-alike (SameView t o) (tick_network t) (tick_network t) 0 (networks t) _ _ (λ n x y a b. either_way (tick-network n (omega arith)) x y) v))

  marked-alike : (os₁ os₂ s₁ s₂ : List ℕ) → SameView t o s₁ s₂ → AlikeIf t o os₁ os₂ (arbitrate_marked t os₁ s₁) (arbitrate_marked t os₂ s₂)
  unfolding arbitrate_marked marked_in
  marked-alike os₁ os₂ s₁ s₂ v =
      arbitrate-alike t f o (marked_in t s₁) (marked_in t s₂) (λ p b h. rw (v.same p (port-word t o p b ∙ h))) os₁ os₂ v

  tick-confined : ConfinedRun t o platform (λ os s. tick t os s)
  unfolding tick
  tick-confined =
      record {
        hidden = λ h os s. clash h (platform-known o);
        alike = λ h os₁ os₂ s₁ s₂ v. marked-alike os₁ os₂ _ _ (things-alike s₁ s₂ v);
      }

-- An event that is not refused is its thing's owner's; a tick is the platform's.

pub happen-confined : (t : List ℕ) (f : Facts t) (o e : ℕ) → Taken t e → ConfinedRun t o (event_owner e) (λ os s. happen t e os s)
happen-confined t f o e w = go (λ os s. happen t e os s) (event t e w)
  where
    go : (g : List ℕ → List ℕ → Run) → Event t e g → ConfinedRun t o (event_owner e) g
    go g (a_tick k own) = rw own (tick-confined t f o)
    go g (a_mode k of m free) = rw of.owner (request-confined t f o (event_index e) of.there (event_value e))
    go g (a_request k of m) = rw of.owner (request-confined t f o (event_index e) of.there 1)
    go g (of_source k n of u c) = rw of.owner (quiet (on-source t f o e of.there u c))
    go g (of_network k of u c) = rw of.owner (quiet (on-network t f o e of.there u c))
