-- Q-8 of one event that is not refused: e from state s, which fits, to state s' and trace words ws. "Add event kind 7, heard, for a network
-- of the sender's own."
use Rattle.std.specs.Prelude.{◌≡◌, List, [], ℕ, ◌<◌}
use Rattle.rulebook.specs.Table.{networks, network_owner}
use Rattle.rulebook.specs.State.{Network, asked_none, asked_silent, asked_full, state_none, state_silent, state_check, state_full}
use Rattle.rulebook.specs.Lists.{network_in, set_network}
use Rattle.rulebook.specs.Events.{event_kind, event_owner, event_index, event_tick, event_bus_off, event_heard, hearing}

-- in this state, with nothing counted, nothing to go and nothing heard
pub record AtRest (st : ℕ) (c : Network) : Type 0 where
  pub state : c.state ≡ st
  pub counter : c.counter ≡ 0
  pub remaining : c.remaining ≡ 0
  pub heard : c.heard ≡ 0

pub record HeardCounts (t : List ℕ) (e : ℕ) (s s' ws : List ℕ) : Type 0 where
  -- the sender's own, not even the platform's but where it is the owner
  pub own : event_kind e ≡ event_heard → (event_index e < networks t) × (event_owner e ≡ network_owner t (event_index e))
  -- in check it is kept, and nothing else changes
  pub kept : event_kind e ≡ event_heard → (network_in t (event_index e) s).state ≡ state_check
      → (s' ≡ set_network t (event_index e) (hearing (network_in t (event_index e) s)) s) × (ws ≡ [])
  -- "heard in another state changes nothing"
  pub elsewhere : event_kind e ≡ event_heard → ((network_in t (event_index e) s).state ≡ state_check → ⊥) → (s' ≡ s) × (ws ≡ [])
  -- "The next tick takes it, .. : check becomes full with counter 0, whatever remains."
  pub taken : (n : ℕ) → n < networks t → event_kind e ≡ event_tick → (network_in t n s).state ≡ state_check → (network_in t n s).asked ≡ asked_full
      → (network_in t n s).heard ≡ 1 → AtRest state_full (network_in t n s')
  -- "unless none or silent is asked"
  pub none : (n : ℕ) → n < networks t → event_kind e ≡ event_tick → (network_in t n s).asked ≡ asked_none → AtRest state_none (network_in t n s')
  pub silent : (n : ℕ) → n < networks t → event_kind e ≡ event_tick → (network_in t n s).state ≡ state_check → (network_in t n s).asked ≡ asked_silent
      → AtRest state_silent (network_in t n s')
  -- it is the next tick that takes it, or nothing does: after a tick nothing is heard, whatever was
  pub gone : (n : ℕ) → n < networks t → event_kind e ≡ event_tick → (network_in t n s').heard ≡ 0
  -- "It may be 1 only in check." So "a move out of check clears it, a bus-off included"
  pub only : (n : ℕ) → n < networks t → (network_in t n s').heard ≡ 1 → (network_in t n s').state ≡ state_check
  -- every other event keeps it, whatever its lists ask for
  pub keeps : (n : ℕ) → n < networks t → (event_kind e ≡ event_tick → ⊥) → (event_kind e ≡ event_bus_off → event_index e ≡ n → ⊥)
      → (event_kind e ≡ event_heard → event_index e ≡ n → ⊥) → (network_in t n s').heard ≡ (network_in t n s).heard
