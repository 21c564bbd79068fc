-- Demand 3's words, over logs: s is the state before an entry x, or in which a log starts.
use Rattle.std.specs.Prelude.{◌≡◌, Bool, true, false, cond, ◌&&◌, ◌||◌, not, List, [], ◌∷◌, ◌++◌, ℕ, suc, ◌+◌, ◌-◌, ◌≤◌, ◌<◌, min, leb, eqb}
use Rattle.rulebook.specs.Words.{word, in_field}
use Rattle.rulebook.specs.Table.{network_port, e_ticks, source_port, timeout, item_ask}
use Rattle.rulebook.specs.State.{source_index, defined_of, value_of, remaining_of, asked_full, state_check, state_full, state_recover}
use Rattle.rulebook.specs.State.{status_none, status_pending, status_validated, status_expired}
use Rattle.rulebook.specs.Lists.{network_in, trace_kind, trace_a, trace_b}
use Rattle.rulebook.specs.Events.{event_kind, event_index, event_tick, event_wakeup, event_valid, event_bus_off, event_clear, event_heard}
use Rattle.rulebook.specs.Events.{status_in, shown, takes, counter_plus_one, wait, listens}
use Rattle.stranger.specs.Logs.{Entry, state_after}

unfoldable pub ticks : Entry → Bool
ticks x = eqb (event_kind x.event) event_tick

-- how many ticks a log has
unfoldable pub tick_count : List Entry → ℕ
tick_count [] = 0
tick_count (x ∷ xs) = cond (ticks x) 1 0 + tick_count xs

-- The network. "A network shows full when 2 is shown and is settled in state 3; L is the L1 or L2 so loaded."

-- what network n shows on its port
abbrev pub shows : List ℕ → ℕ → List ℕ → ℕ
shows t n s = value_of (word s (network_port t n))

-- a bus-off of n is taken: it makes n recover
unfoldable pub bus_off_taken : List ℕ → ℕ → List ℕ → Entry → Bool
bus_off_taken t n s x = eqb (event_kind x.event) event_bus_off && eqb (event_index x.event) n && takes (network_in t n s)

-- Q-8: an entry's event is a heard of n; it is taken if n is in check
unfoldable pub hears : ℕ → Entry → Bool
hears n x = eqb (event_kind x.event) event_heard && eqb (event_index x.event) n

unfoldable pub heard_taken : List ℕ → ℕ → List ℕ → Entry → Bool
heard_taken t n s x = hears n x && listens (network_in t n s)

-- the wait that a bus-off taken in state s loads
abbrev pub loaded : List ℕ → ℕ → List ℕ → ℕ
loaded t n s = wait t n (counter_plus_one (network_in t n s))

-- a trace word by which a list asks network n for a mode; for another mode than full
unfoldable pub asks : ℕ → ℕ → Bool
asks n w = eqb (trace_kind w) item_ask && eqb (trace_a w) n

unfoldable pub asks_other : ℕ → ℕ → Bool
asks_other n w = asks n w && not (eqb (trace_b w) asked_full)

unfoldable pub any_word : (ℕ → Bool) → List ℕ → Bool
any_word p [] = false
any_word p (w ∷ ws) = p w || any_word p ws

-- a list asks n for another mode in this entry
unfoldable pub asks_another : ℕ → Entry → Bool
asks_another n x = any_word (asks_other n) x.words

-- what n was last asked for: by the last of these words that asks it, m where none does; and so by a log
unfoldable pub last_asked : ℕ → ℕ → List ℕ → ℕ
last_asked n m [] = m
last_asked n m (w ∷ ws) = last_asked n (cond (asks n w) (trace_b w) m) ws

unfoldable pub last_asked_in : ℕ → ℕ → List Entry → ℕ
last_asked_in n m [] = m
last_asked_in n m (x ∷ xs) = last_asked_in n (last_asked n m x.words) xs

-- neither exception occurs in a log: no further bus-off of n is taken, no list asks it for another mode
unfoldable pub left_alone : List ℕ → ℕ → List ℕ → List Entry → Bool
left_alone t n s [] = true
left_alone t n s (x ∷ xs) = not (bus_off_taken t n s x) && not (asks_another n x) && left_alone t n x.state xs

-- n is heard when k ticks have passed, from the L-th on; one before it is lost
unfoldable pub heard_from : ℕ → ℕ → ℕ → Entry → Bool
heard_from n L k x = hears n x && leb L k

-- The tick at which n is settled, k ticks having passed before these entries: h + 1, with h the number of ticks at the first heard of
-- n from the L-th tick on, or `latest`, whichever comes first.
unfoldable pub settles_at : ℕ → ℕ → ℕ → ℕ → List Entry → ℕ
settles_at n L latest k [] = latest
settles_at n L latest k (x ∷ xs) = cond (heard_from n L k x) (min (suc k) latest) (settles_at n L latest (cond (ticks x) 1 0 + k) xs)

-- nothing was heard from the L-th tick on
unfoldable pub nothing_heard : ℕ → ℕ → ℕ → List Entry → Bool
nothing_heard n L k [] = true
nothing_heard n L k (x ∷ xs) = not (heard_from n L k x) && nothing_heard n L (cond (ticks x) 1 0 + k) xs

-- where n is after the k-th tick: recovering until the L-th, checking until the D-th, then settled
pub record Phase (t : List ℕ) (n L D k : ℕ) (s : List ℕ) : Type 0 where
  pub recovering : k < L → ((network_in t n s).state ≡ state_recover) × ((network_in t n s).remaining ≡ L - k) × (shows t n s ≡ 3)
  pub checking : L ≤ k → k < D → ((network_in t n s).state ≡ state_check) × ((network_in t n s).remaining ≡ L + e_ticks t n - k) × (shows t n s ≡ 2)
  pub settled : D ≤ k → ((network_in t n s).state ≡ state_full) × (shows t n s ≡ 2)

-- The source. T is its timeout.

abbrev pub shows_status : List ℕ → ℕ → List ℕ → ℕ
shows_status t k s = value_of (word s (source_port t k))

-- a wakeup makes source k pending
unfoldable pub becomes_pending : List ℕ → ℕ → List ℕ → Entry → Bool
becomes_pending t k s x =
    eqb (event_kind x.event) event_wakeup
    && eqb (event_index x.event) k
    && (eqb (status_in t k s) status_none || eqb (status_in t k s) status_expired)
    && leb 1 (timeout t k)

-- source k is validated or cleared by this entry's event
unfoldable pub ended : ℕ → Entry → Bool
ended k x = (eqb (event_kind x.event) event_valid || eqb (event_kind x.event) event_clear) && eqb (event_index x.event) k

unfoldable pub not_ended : ℕ → List Entry → Bool
not_ended k [] = true
not_ended k (x ∷ xs) = not (ended k x) && not_ended k xs

-- pending with remaining T - j after the j-th tick, for j below T; expired at exactly T
pub record Waiting (t : List ℕ) (k j : ℕ) (s : List ℕ) : Type 0 where
  pub pending : j < timeout t k
      → (status_in t k s ≡ status_pending) × (remaining_of (word s (source_index t k)) ≡ timeout t k - j) × (shows_status t k s ≡ status_pending)
  pub expired : j ≡ timeout t k → (status_in t k s ≡ status_expired) × (shows_status t k s ≡ status_expired)

-- what an event that ends it leaves of a pending source: validated by a valid, none by a clear
abbrev pub end_status : Entry → ℕ
end_status x = cond (eqb (event_kind x.event) event_valid) status_validated status_none

-- Moments: what happens to a network or a source, each with the number of the tick, counted from the log's start, at or after which
-- it happens.
pub data Moment : Type 0 where
  -- a bus-off of the network is taken, which loads a wait; a heard of it is taken; a list asks it for another mode than full
  bus_off_at : (tick wait : ℕ) → Moment
  heard_at : (tick : ℕ) → Moment
  asked_at : (tick : ℕ) → Moment
  -- the source becomes pending; it is validated or cleared
  pending_at : (tick : ℕ) → Moment
  ended_at : (tick : ℕ) → Moment
  -- its state or status becomes another, and its port then shows a value: a network in check shows full, in full it is settled; a
  -- source expires
  turns_at : (tick to shows : ℕ) → Moment

abbrev pub when : Bool → Moment → List Moment
when b m = cond b (m ∷ []) []

unfoldable pub network_moment : List ℕ → ℕ → ℕ → List ℕ → Entry → List Moment
network_moment t n k s x =
    when (bus_off_taken t n s x) (bus_off_at k (loaded t n s))
    ++ when (heard_taken t n s x) (heard_at k)
    ++ when (asks_another n x) (asked_at k)
    ++ when (not (eqb (network_in t n x.state).state (network_in t n s).state)) (turns_at k (network_in t n x.state).state (shows t n x.state))

unfoldable pub source_moment : List ℕ → ℕ → ℕ → List ℕ → Entry → List Moment
source_moment t k j s x =
    when (becomes_pending t k s x) (pending_at j)
    ++ when (ended k x) (ended_at j)
    ++ when (not (eqb (status_in t k x.state) (status_in t k s))) (turns_at j (status_in t k x.state) (shows_status t k x.state))

-- the moments of a log that starts in s when j ticks have passed, by what an entry brings
unfoldable pub moments : (ℕ → List ℕ → Entry → List Moment) → ℕ → List ℕ → List Entry → List Moment
moments bring j s [] = []
moments bring j s (x ∷ xs) = bring (cond (ticks x) 1 0 + j) s x ++ moments bring (cond (ticks x) 1 0 + j) x.state xs

-- Ports show. What network n and source k have to show in a state, and whether some entry of a log changed it.

unfoldable pub mode_to_show : List ℕ → ℕ → List ℕ → ℕ
mode_to_show t n s = shown (network_in t n s).state

unfoldable pub status_to_show : List ℕ → ℕ → List ℕ → ℕ
status_to_show t k s = status_in t k s

unfoldable pub changes : (List ℕ → ℕ) → List ℕ → List Entry → Bool
changes look s [] = false
changes look s (x ∷ xs) = not (eqb (look x.state) (look s)) || changes look x.state xs

-- port p shows `look` of the state after a log, and is defined exactly if some entry changed it
pub record PortShows (p : ℕ) (look : List ℕ → ℕ) (s : List ℕ) (xs : List Entry) : Type 0 where
  pub value : value_of (word (state_after s xs) p) ≡ look (state_after s xs)
  pub defined : defined_of (word (state_after s xs) p) ≡ cond (changes look s xs) 1 0

-- Event words, for what their owner can always bring about: a wakeup of source k, a bus-off and a heard of network n.

unfoldable pub owners_event : ℕ → ℕ → ℕ → ℕ
owners_event kind o i = in_field 0 4 kind + in_field 4 4 o + in_field 8 8 i
