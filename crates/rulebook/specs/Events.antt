-- "Events": the event word, and what an event that is not refused does to the state and the trace, with the outcome words os for its
-- outside calls.
use Rattle.std.specs.Prelude.{ℕ, ◌+◌, ◌-◌, min, Bool, cond, ◌&&◌, ◌||◌, not, List, set, leb, ltb, eqb}
use Rattle.rulebook.specs.Words.{word, field, each}
use Rattle.rulebook.specs.Table.{ports, networks, sources, port_kind, port_timer, deferred}
use Rattle.rulebook.specs.Table.{network_port, threshold, l1, l2, e_ticks, source_port, timeout}
use Rattle.rulebook.specs.State.{source_index, marked_of, value_of, remaining_of, timer_started, timer_expired}
use Rattle.rulebook.specs.State.{Network, asked_none, asked_silent, asked_full, state_none, state_silent, state_check, state_full, state_recover}
use Rattle.rulebook.specs.State.{status_of, status_none, status_pending, status_validated, status_expired, pack_source}
use Rattle.rulebook.specs.Lists.{Run, start, set_port, network_in, set_network}
use Rattle.rulebook.specs.Arbitration.{arbitrate}

-- The word: kind, owner, index, value, 0.

abbrev pub event_kind : ℕ → ℕ
event_kind e = field 0 4 e

abbrev pub event_owner : ℕ → ℕ
event_owner e = field 4 4 e

abbrev pub event_index : ℕ → ℕ
event_index e = field 8 8 e

abbrev pub event_value : ℕ → ℕ
event_value e = field 16 8 e

abbrev pub event_zero : ℕ → ℕ
event_zero e = field 24 8 e

abbrev pub event_tick : ℕ
event_tick = 0

abbrev pub event_mode : ℕ
event_mode = 1

abbrev pub event_request : ℕ
event_request = 2

abbrev pub event_wakeup : ℕ
event_wakeup = 3

abbrev pub event_valid : ℕ
event_valid = 4

abbrev pub event_bus_off : ℕ
event_bus_off = 5

abbrev pub event_clear : ℕ
event_clear = 6

abbrev pub event_heard : ℕ
event_heard = 7

abbrev pub highest_kind : ℕ
highest_kind = 7

-- Kinds 1, 2: the port's value is set. "A deferred port is marked; an immediate one is arbitrated now, the same value included."

unfoldable pub only : ℕ → ℕ → Bool
only p x = eqb x p

unfoldable pub request : List ℕ → ℕ → ℕ → List ℕ → List ℕ → Run
request t p value os s =
    cond (eqb (deferred t p) 1) (start os (set_port p 1 value 0 s)) (arbitrate t (only p) os (set_port p 0 value 0 s))

-- Sources. "Each change of status .. writes the thing's port, defined, and marks it."

abbrev pub status_in : List ℕ → ℕ → List ℕ → ℕ
status_in t k s = status_of (word s (source_index t k))

unfoldable pub set_source : List ℕ → ℕ → ℕ → ℕ → List ℕ → List ℕ
set_source t k status remaining s = set s (source_index t k) (pack_source status remaining)

unfoldable pub move_source : List ℕ → ℕ → ℕ → ℕ → List ℕ → List ℕ
move_source t k status remaining s =
    cond (eqb status (status_in t k s)) (set_source t k status remaining s)
    (set_port (source_port t k) 1 status 0 (set_source t k status remaining s))

-- on none or expired: pending with remaining timeout, or validated where timeout is 0
unfoldable pub wake : List ℕ → ℕ → List ℕ → List ℕ
wake t k s =
    cond (eqb (status_in t k s) status_none || eqb (status_in t k s) status_expired)
    (move_source t k (cond (eqb (timeout t k) 0) status_validated status_pending) (timeout t k) s) s

unfoldable pub validate : List ℕ → ℕ → List ℕ → List ℕ
validate t k s = cond (eqb (status_in t k s) status_pending) (move_source t k status_validated 0 s) s

unfoldable pub clear : List ℕ → ℕ → List ℕ → List ℕ
clear t k s = move_source t k status_none 0 s

-- Networks. "Shown: 0 none, 1 silent, 2 check or full, 3 recover."

unfoldable pub shown : ℕ → ℕ
shown state = cond (eqb state state_none) 0 (cond (eqb state state_silent) 1 (cond (eqb state state_recover) 3 2))

-- Q-8: "A move out of check clears it, a bus-off included": no move leaves anything heard
abbrev pub moved : ℕ → ℕ → ℕ → Network → Network
moved state counter remaining c = record { asked = c.asked; state = state; counter = counter; heard = 0; remaining = remaining }

unfoldable pub move_network : List ℕ → ℕ → Network → List ℕ → List ℕ
move_network t n c s =
    cond (eqb (shown c.state) (shown (network_in t n s).state)) (set_network t n c s)
    (set_port (network_port t n) 1 (shown c.state) 0 (set_network t n c s))

-- Bus-off in check or full: counter plus 1, held at 255; recover; remaining L1 if the new counter is at most the threshold, else
-- L2. Other states ignore it; only a bus-off that makes a network recover is taken.

unfoldable pub takes : Network → Bool
takes c = eqb c.state state_check || eqb c.state state_full

abbrev pub counter_plus_one : Network → ℕ
counter_plus_one c = min 255 (c.counter + 1)

unfoldable pub wait : List ℕ → ℕ → ℕ → ℕ
wait t n counter = cond (leb counter (threshold t n)) (l1 t n) (l2 t n)

unfoldable pub off_bus : List ℕ → ℕ → ℕ → Network → Network
off_bus t n counter c = moved state_recover counter (wait t n counter) c

unfoldable pub bus_off : List ℕ → ℕ → List ℕ → List ℕ
bus_off t n s =
    cond (takes (network_in t n s)) (move_network t n (off_bus t n (counter_plus_one (network_in t n s)) (network_in t n s)) s) s

-- Q-8, heard: "It may be 1 only in check .. heard in another state changes nothing".

unfoldable pub listens : Network → Bool
listens c = eqb c.state state_check

abbrev pub hearing : Network → Network
hearing c = record { asked = c.asked; state = c.state; counter = c.counter; heard = 1; remaining = c.remaining }

unfoldable pub hear : List ℕ → ℕ → List ℕ → List ℕ
hear t n s = cond (listens (network_in t n s)) (move_network t n (hearing (network_in t n s)) s) s

-- "Tick, in order: networks, sources, timers by number, then all marked ports are arbitrated."

-- recover and check count down; at 0 recover becomes check with E-ticks, check becomes full with counter 0. Q-8, of heard: "The next
-- tick takes it, unless none or silent is asked: check becomes full with counter 0, whatever remains"
unfoldable pub counted_network : List ℕ → ℕ → Network → Network
counted_network t n c =
    cond (eqb c.state state_recover)
    (cond (leb c.remaining 1) (moved state_check c.counter (e_ticks t n) c) (moved state_recover c.counter (c.remaining - 1) c))
    (cond (eqb c.state state_check)
    (cond (eqb c.heard 1 || leb c.remaining 1) (moved state_full 0 0 c) (moved state_check c.counter (c.remaining - 1) c))
    c)

-- asked none, or asked silent and not in none, goes there; asked full in none or silent: check with E-ticks; otherwise it counts
unfoldable pub ticked_network : List ℕ → ℕ → Network → Network
ticked_network t n c =
    cond (eqb c.asked asked_none) (moved state_none 0 0 c)
    (cond (eqb c.asked asked_silent && not (eqb c.state state_none)) (moved state_silent 0 0 c)
    (cond (eqb c.asked asked_full && (eqb c.state state_none || eqb c.state state_silent)) (moved state_check 0 (e_ticks t n) c)
    (counted_network t n c)))

unfoldable pub tick_network : List ℕ → ℕ → List ℕ → List ℕ
tick_network t n s = move_network t n (ticked_network t n (network_in t n s)) s

-- a pending source or started timer counts down and at 0 expires; the timer is marked

abbrev pub remaining_in : List ℕ → ℕ → ℕ
remaining_in s i = remaining_of (word s i)

unfoldable pub tick_source : List ℕ → ℕ → List ℕ → List ℕ
tick_source t k s =
    cond (eqb (status_in t k s) status_pending)
    (cond (leb (remaining_in s (source_index t k)) 1) (move_source t k status_expired 0 s)
    (move_source t k status_pending (remaining_in s (source_index t k) - 1) s))
    s

unfoldable pub tick_timer : List ℕ → ℕ → List ℕ → List ℕ
tick_timer t p s =
    cond (eqb (port_kind t p) port_timer && eqb (value_of (word s p)) timer_started)
    (cond (leb (remaining_in s p) 1) (set_port p 1 timer_expired 0 s)
    (set_port p (marked_of (word s p)) timer_started (remaining_in s p - 1) s))
    s

unfoldable pub tick_things : List ℕ → List ℕ → List ℕ
tick_things t s = each 0 (ports t) (tick_timer t) (each 0 (sources t) (tick_source t) (each 0 (networks t) (tick_network t) s))

-- the words behind the P ports are no ports'; no condition of an accepted table names one
unfoldable pub marked_in : List ℕ → List ℕ → ℕ → Bool
marked_in t s p = ltb p (ports t) && eqb (marked_of (word s p)) 1

unfoldable pub arbitrate_marked : List ℕ → List ℕ → List ℕ → Run
arbitrate_marked t os s = arbitrate t (marked_in t s) os s

unfoldable pub tick : List ℕ → List ℕ → List ℕ → Run
tick t os s = arbitrate_marked t os (tick_things t s)

-- Kinds 3 to 7: what an event of source or network i does to the state.
unfoldable pub changed : List ℕ → ℕ → ℕ → List ℕ → List ℕ
changed t kind i s =
    cond (eqb kind event_wakeup) (wake t i s)
    (cond (eqb kind event_valid) (validate t i s)
    (cond (eqb kind event_bus_off) (bus_off t i s)
    (cond (eqb kind event_clear) (clear t i s)
    (hear t i s))))

-- The dispatch on kinds, in one place.
unfoldable pub happen : List ℕ → ℕ → List ℕ → List ℕ → Run
happen t e os s =
    cond (eqb (event_kind e) event_tick) (tick t os s)
    (cond (eqb (event_kind e) event_mode) (request t (event_index e) (event_value e) os s)
    (cond (eqb (event_kind e) event_request) (request t (event_index e) 1 os s)
    (start os (changed t (event_kind e) (event_index e) s))))
