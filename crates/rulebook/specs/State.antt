-- "The state": its words with their fields, which states fit a table, and the fresh state.
use Rattle.std.specs.Prelude.{ℕ, ◌+◌, ◌-◌, max, Bool, cond, ◌&&◌, ◌||◌, not, List, length, leb, ltb, eqb}
use Rattle.rulebook.specs.Words.{word, field, in_field, implies, between, all, listed}
use Rattle.rulebook.specs.Table.{ports, networks, sources, rules}
use Rattle.rulebook.specs.Table.{port_kind, port_mode, port_event, port_timer, deferred, has_initial, port_owner, initial, reload}
use Rattle.rulebook.specs.Table.{network_owner, l1, l2, e_ticks, source_owner, timeout, rule_owner, first_result}
use Rattle.rulebook.specs.Reasons.{accepted}

-- P + R + N + S words. A port's word stands at the port's number, the others at these.

abbrev pub rule_index : List ℕ → ℕ → ℕ
rule_index t r = ports t + r

abbrev pub network_index : List ℕ → ℕ → ℕ
network_index t n = ports t + rules t + n

abbrev pub source_index : List ℕ → ℕ → ℕ
source_index t k = ports t + rules t + networks t + k

abbrev pub state_length : List ℕ → ℕ
state_length t = ports t + rules t + networks t + sources t

-- What has a word in the state, and whose the word at an index is.
pub data Thing : Type 0 where
  a_port a_rule a_network a_source : ℕ → Thing

unfoldable pub thing : List ℕ → ℕ → Thing
thing t i =
    cond (ltb i (ports t)) (a_port i)
    (cond (ltb i (ports t + rules t)) (a_rule (i - ports t))
    (cond (ltb i (ports t + rules t + networks t)) (a_network (i - (ports t + rules t)))
    (a_source (i - (ports t + rules t + networks t)))))

unfoldable pub owner_of : List ℕ → Thing → ℕ
owner_of t (a_port p) = port_owner t p
owner_of t (a_rule r) = rule_owner t r
owner_of t (a_network n) = network_owner t n
owner_of t (a_source k) = source_owner t k

-- A port's word.

abbrev pub defined_of : ℕ → ℕ
defined_of w = field 0 1 w

abbrev pub marked_of : ℕ → ℕ
marked_of w = field 1 1 w

abbrev pub value_of : ℕ → ℕ
value_of w = field 2 8 w

-- the field that must be zero; so below
abbrev pub port_zero_of : ℕ → ℕ
port_zero_of w = field 10 6 w

-- also of a network's and a source's word
abbrev pub remaining_of : ℕ → ℕ
remaining_of w = field 16 16 w

abbrev pub timer_stopped : ℕ
timer_stopped = 0

abbrev pub timer_started : ℕ
timer_started = 1

abbrev pub timer_expired : ℕ
timer_expired = 2

-- A rule's word: 0 false, 1 true, 2 undefined.

abbrev pub result_of : ℕ → ℕ
result_of w = field 0 2 w

abbrev pub rule_zero_of : ℕ → ℕ
rule_zero_of w = field 2 30 w

abbrev pub undefined_result : ℕ
undefined_result = 2

-- A network's word, by its fields. Q-8: "one of the three zero bits in the network's state word (the top one) now means heard".

pub record Network : Type 0 where
  pub asked : ℕ
  pub state : ℕ
  pub counter : ℕ
  pub heard : ℕ
  pub remaining : ℕ

abbrev pub network_of : ℕ → Network
network_of w = record { asked = field 0 2 w; state = field 2 3 w; counter = field 5 8 w; heard = field 13 1 w; remaining = remaining_of w }

abbrev pub network_zero_of : ℕ → ℕ
network_zero_of w = field 14 2 w

abbrev pub asked_none : ℕ
asked_none = 0

abbrev pub asked_silent : ℕ
asked_silent = 1

abbrev pub asked_full : ℕ
asked_full = 2

abbrev pub state_none : ℕ
state_none = 0

abbrev pub state_silent : ℕ
state_silent = 1

abbrev pub state_check : ℕ
state_check = 2

abbrev pub state_full : ℕ
state_full = 3

abbrev pub state_recover : ℕ
state_recover = 4

-- A source's word.

abbrev pub status_of : ℕ → ℕ
status_of w = field 0 2 w

abbrev pub source_zero_of : ℕ → ℕ
source_zero_of w = field 2 14 w

abbrev pub status_none : ℕ
status_none = 0

abbrev pub status_pending : ℕ
status_pending = 1

abbrev pub status_validated : ℕ
status_validated = 2

abbrev pub status_expired : ℕ
status_expired = 3

-- The same words packed.

unfoldable pub pack_port : ℕ → ℕ → ℕ → ℕ → ℕ
pack_port defined marked value remaining = in_field 0 1 defined + in_field 1 1 marked + in_field 2 8 value + in_field 16 16 remaining

unfoldable pub pack_rule : ℕ → ℕ
pack_rule result = in_field 0 2 result

unfoldable pub pack_network : Network → ℕ
pack_network c =
    in_field 0 2 c.asked + in_field 2 3 c.state + in_field 5 8 c.counter + in_field 13 1 c.heard + in_field 16 16 c.remaining

unfoldable pub pack_source : ℕ → ℕ → ℕ
pack_source status remaining = in_field 0 2 status + in_field 16 16 remaining

-- "A state fits if its length and zero fields are right", and each word keeps the rules of its thing.

-- Q-2: "the state rule that immediate ports are unmarked holds only for mode ports"; then "an undefined port is a mode port with
-- value 0, unmarked; event values are 0 or 1; timer values 0 stopped, 1 started, 2 expired; remaining is 1 to reload in a started
-- timer .. else 0"
unfoldable pub port_fits : List ℕ → ℕ → ℕ → Bool
port_fits t p w =
    eqb (port_zero_of w) 0
    && implies (eqb (port_kind t p) port_mode && eqb (deferred t p) 0) (eqb (marked_of w) 0)
    && implies (eqb (defined_of w) 0) (eqb (port_kind t p) port_mode && eqb (value_of w) 0 && eqb (marked_of w) 0)
    && implies (eqb (port_kind t p) port_event) (leb (value_of w) 1)
    && implies (eqb (port_kind t p) port_timer) (leb (value_of w) timer_expired)
    && cond (eqb (port_kind t p) port_timer && eqb (value_of w) timer_started) (between 1 (reload t p) (remaining_of w)) (eqb (remaining_of w) 0)

unfoldable pub rule_fits : ℕ → Bool
rule_fits w = eqb (rule_zero_of w) 0 && leb (result_of w) undefined_result

-- "1 to E-ticks in check, 1 to the larger of L1, L2 in recover, else 0; .. asked modes at most 2, network states at most 4; the
-- counter is 0 in states 0, 1, 3 and at least 1 in 4"; Q-8, of heard: "It may be 1 only in check"
unfoldable pub network_fits : List ℕ → ℕ → ℕ → Bool
network_fits t n w =
    eqb (network_zero_of w) 0
    && leb (network_of w).asked asked_full
    && leb (network_of w).state state_recover
    && cond (eqb (network_of w).state state_check) (between 1 (e_ticks t n) (network_of w).remaining)
    (cond (eqb (network_of w).state state_recover) (between 1 (max (l1 t n) (l2 t n)) (network_of w).remaining)
    (eqb (network_of w).remaining 0))
    && cond (eqb (network_of w).state state_recover) (leb 1 (network_of w).counter)
    (eqb (network_of w).state state_check || eqb (network_of w).counter 0)
    && implies (eqb (network_of w).heard 1) (eqb (network_of w).state state_check)

unfoldable pub source_fits : List ℕ → ℕ → ℕ → Bool
source_fits t k w =
    eqb (source_zero_of w) 0
    && cond (eqb (status_of w) status_pending) (between 1 (timeout t k) (remaining_of w)) (eqb (remaining_of w) 0)

unfoldable pub thing_fits : List ℕ → Thing → ℕ → Bool
thing_fits t (a_port p) w = port_fits t p w
thing_fits t (a_rule r) w = rule_fits w
thing_fits t (a_network n) w = network_fits t n w
thing_fits t (a_source k) w = source_fits t k w

unfoldable pub fits_at : List ℕ → List ℕ → ℕ → Bool
fits_at t s i = thing_fits t (thing t i) (word s i)

unfoldable pub fits : List ℕ → List ℕ → Bool
fits t s = eqb (length s) (state_length t) && all 0 (state_length t) (fits_at t s)

-- "Fresh: ports with initial values, events and timers (value 0) defined, others undefined; nothing marked; rules have their first
-- result; all else 0."

unfoldable pub fresh_port : List ℕ → ℕ → ℕ
fresh_port t p =
    cond (eqb (has_initial t p) 1) (pack_port 1 0 (initial t p) 0)
    (cond (eqb (port_kind t p) port_mode) (pack_port 0 0 0 0)
    (pack_port 1 0 0 0))

unfoldable pub fresh_thing : List ℕ → Thing → ℕ
fresh_thing t (a_port p) = fresh_port t p
fresh_thing t (a_rule r) = pack_rule (first_result t r)
fresh_thing t (a_network n) = 0
fresh_thing t (a_source k) = 0

unfoldable pub fresh_at : List ℕ → ℕ → ℕ
fresh_at t i = fresh_thing t (thing t i)

unfoldable pub fresh : List ℕ → List ℕ
fresh t = listed 0 (state_length t) (fresh_at t)

-- Making one in a lent state s: "refuses a bad table (1) or a wrong length (2), and then writes nothing".

unfoldable pub fresh_answer : List ℕ → List ℕ → ℕ
fresh_answer t s = cond (not (accepted t)) 1 (cond (not (eqb (length s) (state_length t))) 2 0)

unfoldable pub fresh_state : List ℕ → List ℕ → List ℕ
fresh_state t s = cond (eqb (fresh_answer t s) 0) (fresh t) s
