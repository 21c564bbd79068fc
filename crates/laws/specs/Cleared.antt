-- Q-2: "a clear marks the port, deferred or immediate, even if it was clear already, for the next tick unless arbitrated sooner", of an
-- event e that is taken in state s and makes s' and words ws of it.
use Rattle.std.specs.Prelude.{◌≡◌, Bool, true, false, ◌&&◌, ◌||◌, ◌⊎◌, ℕ, ◌<◌, eqb}
use mathlib.Core.List.{List, Memᴰ}
use Rattle.rulebook.specs.Table.{ports, port_kind, port_event, deferred, rule_expression, item_clear}
use Rattle.rulebook.specs.Expressions.{deepest, mentions}
use Rattle.rulebook.specs.Lists.{trace_word}
use Rattle.rulebook.specs.Events.{event_kind, event_index, event_tick, only, tick_things, marked_in}
use Rattle.laws.specs.Chosen.{sets_port}

-- "arbitrated": each marked port in a tick; else the port that e sets, if it is immediate
abbrev pub arbitrates : List ℕ → ℕ → ℕ → Bool
arbitrates t e p = eqb (event_kind e) event_tick || sets_port e && eqb (event_index e) p && eqb (deferred t p) 0

-- a request that marks its port
abbrev pub requests_later : List ℕ → ℕ → ℕ → Bool
requests_later t e p = sets_port e && eqb (event_index e) p && eqb (deferred t p) 1

-- the trace tells of a clear of port p, in whosever list
pub record ClearTold (p : ℕ) (ws : List ℕ) : Type 0 where
  pub owner : ℕ
  pub told : Memᴰ (trace_word item_clear owner p 0) ws

pub record ClearCounts (t : List ℕ) (e : ℕ) (s s' ws : List ℕ) : Type 0 where
  -- "a clear marks the port": each that the trace tells was cleared, in its own arbitration too
  pub marks : (p : ℕ) → p < ports t → ClearTold p ws → marked_in t s' p ≡ true
  -- "for the next tick": a rule on a marked port mentions one that the tick arbitrates; what it runs then is `Arbitrated`'s (all_marked)
  pub at_tick : (p r : ℕ) → marked_in t s p ≡ true → mentions deepest t (only p) (rule_expression t r) ≡ true
      → mentions deepest t (marked_in t (tick_things t s)) (rule_expression t r) ≡ true
  -- "unless arbitrated sooner": until then whatever is taken leaves the mark
  pub waits : (p : ℕ) → marked_in t s p ≡ true → arbitrates t e p ≡ false → marked_in t s' p ≡ true
  -- and no longer: the arbitration takes an event's mark, and no other comes but by a clear or a deferred request
  pub goes : (p : ℕ) → p < ports t → port_kind t p ≡ port_event → (arbitrates t e p ≡ true) ⊎ (marked_in t s p ≡ false) → requests_later t e p ≡ false
      → (ClearTold p ws → ⊥) → marked_in t s' p ≡ false
