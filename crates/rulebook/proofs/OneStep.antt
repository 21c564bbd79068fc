-- One-step laws: each says of one definition what the marked run does not meet, so that an edit of it is refused. Assumes nothing.
use Prim.Native.Nat.{ℕ, zero, suc, ◌+◌, ◌≤◌, ◌<◌, min}
use mathlib.Core.Path.{◌≡◌, refl}
use mathlib.Core.Bool.{Bool, true, false, and-false}
use mathlib.Core.List.{List, [], ◌∷◌}
use native.Mathlib.Omega.{arith}
use borrow.Author.Tests.{lt-leb, ne_eqb, eqb-true}
use lib.ListN.{length}
use lib.Seq.{get_or-set_same}
use Rattle.rulebook.specs.Words.{digit, word}
use Rattle.rulebook.specs.Table.{port_kind, port_mode, port_event, deferred, threshold, l2, network_owner, platform}
use Rattle.rulebook.specs.Table.{item_kind, item_a, item_b, item_clear, item_ask}
use Rattle.rulebook.specs.Reasons.{item_owned, Link, reason_of, reasons}
use lib.Dec.{eqb}
use Rattle.rulebook.specs.State.{Network, network_of, asked_none, asked_silent, asked_full, state_none, state_silent, state_check, state_full, state_recover}
use Rattle.rulebook.specs.State.{a_network, owner_of, marked_of, status_pending, pack_port, port_fits, network_fits}
use Rattle.rulebook.specs.Lists.{network_in, set_network, set_port, effect}
use Rattle.rulebook.specs.Arbitration.{unmark_port}
use Rattle.rulebook.specs.Step.{named, sent_by_owner}
use Rattle.rulebook.specs.Events.{event_kind, event_owner, event_index, event_tick, event_heard, status_in, wake, shown, moved, move_network, takes, wait}
use Rattle.rulebook.specs.Events.{off_bus, bus_off, listens, hearing, hear, counted_network, ticked_network, tick_network}

-- a repeated wakeup does not restart the timeout
pub wake-pending : (t : List ℕ) (k : ℕ) (s : List ℕ) → status_in t k s ≡ status_pending → wake t k s ≡ s
unfolding wake
wake-pending t k s h = rw h

-- the mark of a port that is not arbitrated stays
pub mark-stays : (q : ℕ → Bool) (p : ℕ) (s : List ℕ) → q p ≡ false → unmark_port q p s ≡ s
unfolding unmark_port
mark-stays q p s h = rw h

-- Q-2: a clear marks, whatever the port's word was: deferred or immediate, set or clear already, marked or not
pub clear-marks : (t : List ℕ) (i : ℕ) (s : List ℕ) → item_kind t i ≡ item_clear → item_a t i < length s → word (effect t i s) (item_a t i) ≡ pack_port 1 1 0 0
unfolding effect set_port
clear-marks t i s k b = rw k (get_or-set_same s (item_a t i) (pack_port 1 1 0 0) 0 b)

-- Q-2: "the state rule that immediate ports are unmarked holds only for mode ports". Of those it holds: a marked one does not fit.
pub marked-mode-unfit : (t : List ℕ) (p w : ℕ) → port_kind t p ≡ port_mode → deferred t p ≡ 0 → marked_of w ≡ 1 → port_fits t p w ≡ false
unfolding port_fits
marked-mode-unfit t p w k d m = rw (k, d, m, and-false)

-- Of events it does not: a marked one fits, deferred or immediate.
pub marked-event-fits : (t : List ℕ) (p v : ℕ) → port_kind t p ≡ port_event → v ≤ 1 → port_fits t p (pack_port 1 1 v 0) ≡ true
unfolding digit port_fits pack_port
marked-event-fits t p zero k h = rw k
marked-event-fits t p (suc zero) k h = rw k
marked-event-fits t p (suc (suc v)) k h = absurd (omega arith)

-- the counter is compared after 1 is added: at the threshold, one bus-off more loads the long wait
pub wait-at-threshold : (t : List ℕ) (n : ℕ) (s : List ℕ) → takes (network_in t n s) ≡ true → (network_in t n s).counter ≡ threshold t n → threshold t n < 255
    → bus_off t n s ≡ move_network t n (moved state_recover (threshold t n + 1) (l2 t n) (network_in t n s)) s
unfolding bus_off off_bus wait
wait-at-threshold t n s h e b =
    let m : min 255 (threshold t n + 1) ≡ threshold t n + 1 = omega arith in
    rw h (simp (e, m, lt-leb (threshold t n + 1) (threshold t n) (omega arith)))

-- Q-8: "heard in another state changes nothing"
pub heard-elsewhere : (t : List ℕ) (n : ℕ) (s : List ℕ) → ((network_in t n s).state ≡ state_check → ⊥) → hear t n s ≡ s
unfolding hear listens
heard-elsewhere t n s other = rw (ne_eqb (network_in t n s).state state_check other)

-- in check it is kept, and no port written
pub heard-in-check : (t : List ℕ) (n : ℕ) (s : List ℕ) → (network_in t n s).state ≡ state_check → hear t n s ≡ set_network t n (hearing (network_in t n s)) s
unfolding hear listens move_network shown
heard-in-check t n s c = rw c

-- "The next tick takes it": whatever remains, check becomes full with counter 0 and nothing heard; no port is written
pub heard-settles : (t : List ℕ) (n : ℕ) (s : List ℕ) → (network_in t n s).asked ≡ asked_full → (network_in t n s).state ≡ state_check → (network_in t n s).heard ≡ 1
    → tick_network t n s ≡ set_network t n (record { asked = asked_full; state = state_full; counter = 0; heard = 0; remaining = 0 }) s
unfolding tick_network ticked_network counted_network move_network shown
heard-settles t n s a c h = rw (a, c, h)

-- "unless none or silent is asked": those come before heard
pub none-before-heard : (t : List ℕ) (n : ℕ) (c : Network) → c.asked ≡ asked_none → ticked_network t n c ≡ moved state_none 0 0 c
unfolding ticked_network
none-before-heard t n c a = rw a

pub silent-before-heard : (t : List ℕ) (n : ℕ) (c : Network) → c.asked ≡ asked_silent → c.state ≡ state_check → ticked_network t n c ≡ moved state_silent 0 0 c
unfolding ticked_network
silent-before-heard t n c a e = rw (a, e)

-- "A move out of check clears it, a bus-off included": whatever was heard
pub bus-off-forgets : (t : List ℕ) (n counter : ℕ) (c : Network) → (off_bus t n counter c).heard ≡ 0
unfolding off_bus
bus-off-forgets t n counter c = refl

-- a list's request for a mode only sets asked and keeps it
pub asking-keeps-heard : (t : List ℕ) (i : ℕ) (s : List ℕ) → item_kind t i ≡ item_ask → (let c = network_in t (item_a t i) s in
    effect t i s ≡ set_network t (item_a t i)
    (record { asked = item_b t i; state = c.state; counter = c.counter; heard = c.heard; remaining = c.remaining }) s)
unfolding effect
asking-keeps-heard t i s k = rw k

-- "It may be 1 only in check": elsewhere it does not fit
pub heard-unfit : (t : List ℕ) (n w : ℕ) → (network_of w).heard ≡ 1 → ((network_of w).state ≡ state_check → ⊥) → network_fits t n w ≡ false
unfolding network_fits
heard-unfit t n w h other = rw (h, ne_eqb (network_of w).state state_check other, and-false)

-- "event kind 7, heard, for a network of the sender's own"
pub heard-names : (e : ℕ) → event_kind e ≡ event_heard → named e ≡ a_network (event_index e)
unfolding named
heard-names e k = rw k

-- an operator's list asks no stranger's network
pub asks-own : (t : List ℕ) (o i : ℕ) → item_owned t o i ≡ true → (o ≡ platform → ⊥) → item_kind t i ≡ item_ask → network_owner t (item_a t i) ≡ o
unfolding item_owned
asks-own t o i h ne k = eqb-true (network_owner t (item_a t i)) o (rw (k, ne_eqb o platform ne) at h)

-- an event that answer 6 does not refuse carries its thing's owner, not even the platform excepted; a tick names nothing
pub sent-by-owner : (t : List ℕ) (e : ℕ) → sent_by_owner t e ≡ true → eqb (event_kind e) event_tick ≡ false → event_owner e ≡ owner_of t (named e)
unfolding sent_by_owner
sent-by-owner t e h k = eqb-true (event_owner e) (owner_of t (named e)) (rw k at h)

-- each rule has its own number, in the documents' order, 10 before 9; that the rules themselves stand in that order is `Rules`' (laws/proofs/Acceptance)
abbrev numbers_of : List Link → List ℕ
numbers_of [] = []
numbers_of (link ∷ links) = reason_of link ∷ numbers_of links

pub reasons-in-order : numbers_of reasons ≡ 1 ∷ 2 ∷ 3 ∷ 4 ∷ 5 ∷ 6 ∷ 7 ∷ 8 ∷ 10 ∷ 9 ∷ []
reasons-in-order = refl
