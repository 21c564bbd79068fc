-- The step: table, state, trace room, outcome words and event word to answer, next state and trace words; the answers in their order.
use Rattle.std.specs.Prelude.{ℕ, Bool, cond, ◌&&◌, ◌||◌, not, List, [], length, leb, ltb, eqb}
use Rattle.rulebook.specs.Words.{word, implies, all}
use Rattle.rulebook.specs.Table.{edition, ports, networks, sources, rules, port_kind, port_mode, port_event}
use Rattle.rulebook.specs.Reasons.{accepted, bound, held}
use Rattle.rulebook.specs.State.{Thing, a_port, a_rule, a_network, a_source, owner_of, fits}
use Rattle.rulebook.specs.Lists.{Run}
use Rattle.rulebook.specs.Events.{event_kind, event_owner, event_index, event_value, event_zero}
use Rattle.rulebook.specs.Events.{event_tick, event_mode, event_request, event_bus_off, event_heard, highest_kind, happen}

-- The checks that answers 4 to 6 and 8 make of the event, the outcome words and the table.

-- "0 tick, all else 0"; "Value is 0 except in kind 1"; Q-8: "the malformed limit becomes 'above 7'"
unfoldable pub well_formed : ℕ → Bool
well_formed e =
    leb (event_kind e) highest_kind
    && eqb (event_zero e) 0
    && implies (eqb (event_kind e) event_tick) (eqb (event_owner e) 0 && eqb (event_index e) 0)
    && implies (not (eqb (event_kind e) event_mode)) (eqb (event_value e) 0)

-- the thing that an event other than a tick names; Q-8: "event kind 7, heard, for a network of the sender's own"
unfoldable pub named : ℕ → Thing
named e =
    cond (eqb (event_kind e) event_mode || eqb (event_kind e) event_request) (a_port (event_index e))
    (cond (eqb (event_kind e) event_bus_off || eqb (event_kind e) event_heard) (a_network (event_index e))
    (a_source (event_index e)))

unfoldable pub present : List ℕ → Thing → Bool
present t (a_port p) = ltb p (ports t)
present t (a_rule r) = ltb r (rules t)
present t (a_network n) = ltb n (networks t)
present t (a_source k) = ltb k (sources t)

-- kind 1 wants a mode port that no network or source has, kind 2 an event port
unfoldable pub suited : List ℕ → ℕ → Bool
suited t e =
    implies (eqb (event_kind e) event_mode) (eqb (port_kind t (event_index e)) port_mode)
    && implies (eqb (event_kind e) event_mode) (not (held t (event_index e) (networks t) (sources t)))
    && implies (eqb (event_kind e) event_request) (eqb (port_kind t (event_index e)) port_event)

unfoldable pub known : List ℕ → ℕ → Bool
known t e = eqb (event_kind e) event_tick || present t (named e) && suited t e

unfoldable pub sent_by_owner : List ℕ → ℕ → Bool
sent_by_owner t e = eqb (event_kind e) event_tick || eqb (event_owner e) (owner_of t (named e))

-- "outcome words, each 0 for good or 1 for failed"

unfoldable pub good_or_failed : List ℕ → ℕ → Bool
good_or_failed os k = leb (word os k) 1

unfoldable pub outcomes_known : List ℕ → Bool
outcomes_known os = all 0 (length os) (good_or_failed os)

-- The answers in their order: "given exactly if, in this order". Each part gives its first fault, or what comes next. Q-11: answer 7, a
-- list at an eighth level, is taken out and its number left unused; "All other answers keep their numbers and order."

-- 1 the table check gives a reason; 2 the state doesn't fit
abbrev pub state_fault : List ℕ → List ℕ → ℕ → ℕ
state_fault t s next = cond (not (accepted t)) 1 (cond (not (fits t s)) 2 next)

-- 3 trace shorter than B words
abbrev pub room_fault : List ℕ → ℕ → ℕ → ℕ
room_fault t room next = cond (ltb room (bound t)) 3 next

-- 4 event word malformed or kind above 7; Q-9: "An outcome word above 1 is answer 8, checked after answer 4 over all lent words"; 5 no
-- such thing; 6 owner differs from the thing's
abbrev pub event_fault : List ℕ → List ℕ → ℕ → ℕ → ℕ
event_fault t os e next =
    cond (not (well_formed e)) 4
    (cond (not (outcomes_known os)) 8
    (cond (not (known t e)) 5
    (cond (not (sent_by_owner t e)) 6 next)))

unfoldable pub first_fault : List ℕ → List ℕ → ℕ → List ℕ → ℕ → ℕ
first_fault t s room os e = state_fault t s (room_fault t room (event_fault t os e 0))

-- for an entry that makes only some of the checks: of the state; of all but event and outcomes; of these
unfoldable pub refused_state : List ℕ → List ℕ → ℕ
refused_state t s = state_fault t s 0

unfoldable pub refused_call : List ℕ → List ℕ → ℕ → ℕ
refused_call t s room = state_fault t s (room_fault t room 0)

unfoldable pub refused_event : List ℕ → List ℕ → ℕ → ℕ
refused_event t os e = event_fault t os e 0

-- The count that is reported is the number of words. "A refused check ends the call at that point, count 0, state and trace
-- unchanged." Q-10: "the number of expression words visited in one event, .. reported beside the trace count"; "Refusals report 0".

pub record Result : Type 0 where
  pub answer : ℕ
  pub state : List ℕ
  pub words : List ℕ
  pub visits : ℕ

abbrev pub refusal : ℕ → List ℕ → Result
refusal k s = record { answer = k; state = s; words = []; visits = 0 }

-- refused with a fault, or done
unfoldable pub conclude : ℕ → List ℕ → Run → Result
conclude fault s r = cond (eqb fault 0) (record { answer = 0; state = r.state; words = r.words; visits = r.visits }) (refusal fault s)

-- Q-9: "edition 1 tables act as if all calls were good, though answer 8 stands there too": their calls read none
unfoldable pub heeded : List ℕ → List ℕ → List ℕ
heeded t os = cond (eqb (edition t) 2) os []

unfoldable pub step : List ℕ → List ℕ → ℕ → List ℕ → ℕ → Result
step t s room os e = conclude (first_fault t s room os e) s (happen t e (heeded t os) s)

-- a step whose table, state and room have been checked
unfoldable pub handle : List ℕ → List ℕ → List ℕ → ℕ → Result
handle t s os e = conclude (refused_event t os e) s (happen t e (heeded t os) s)
