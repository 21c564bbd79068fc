-- DEMAND 3, sentence by sentence. "Take an accepted table and a fresh state, pass each state on, send any events; only those answered
-- 0 count": s is the fresh state of table t, and Went xs says that xs is a log of what was then taken. In proofs/Demand3 a log is
-- whatever follows by the rulebook's steps; in crate `demands`, whatever calls of the entries gave.
use Rattle.std.specs.Prelude.{◌≡◌, Bool, true, ◌&&◌, not, List, [], ◌∷◌, ◌++◌, ℕ, suc, ◌+◌, ◌≤◌, ◌<◌, eqb}
use Rattle.rulebook.specs.Table.{networks, network_port, network_owner, e_ticks, sources, source_port, source_owner, timeout}
use Rattle.rulebook.specs.State.{asked_none, asked_full, state_full, state_recover, status_pending}
use Rattle.rulebook.specs.Lists.{network_in}
use Rattle.rulebook.specs.Events.{event_owner, status_in}
use Rattle.laws.specs.Sequence.{Each}
use Rattle.stranger.specs.Logs.{Entry, state_after, strangers_entry, struck_out}
use Rattle.stranger.specs.View.{AsksOwn, Unseen, seen}
use Rattle.stranger.specs.Outcomes.{ButStrangers}
use Rattle.stranger.specs.Demand.{ticks, tick_count, bus_off_taken, hears, heard_taken, loaded, last_asked_in, left_alone, settles_at, nothing_heard, Phase}
use Rattle.stranger.specs.Demand.{becomes_pending, ended, not_ended, Waiting}
use Rattle.stranger.specs.Demand.{end_status, shows_status, network_moment, source_moment, moments, mode_to_show, status_to_show, PortShows}

-- v is what it has newly become
abbrev pub newly : ℕ → ℕ → ℕ → Bool
newly v before after = not (eqb before v) && eqb after v

-- "A network in which a bus-off is taken, while full communication is what it was last asked for, .. if until then no list asks it for
-- another mode and no further bus-off of it is taken": entry x is the bus-off of n, `before` what went before it, xs what followed.
pub record FallsAlone (t s : List ℕ) (n : ℕ) (before : List Entry) (x : Entry) (xs : List Entry) : Type 0 where
  pub taken : bus_off_taken t n (state_after s before) x ≡ true
  pub full : last_asked_in n asked_none before ≡ asked_full
  pub alone : left_alone t n x.state xs ≡ true

-- "L its short or long wait": the one that was loaded
abbrev pub wait_after : List ℕ → List ℕ → ℕ → List Entry → ℕ
wait_after t s n before = loaded t n (state_after s before)

-- It "shows full again at exactly its L-th following tick .. and is settled", by Q-8 "at most E ticks later, exactly E if nothing was
-- heard": at exactly the tick of `settles_at`.
pub record NetworkWaits (t s : List ℕ) (Went : List Entry → Type 0) : Type 0 where
  -- after entries xs that leave it alone it is in the phase of their ticks, by what was heard in them
  pub recovers : (n : ℕ) (before : List Entry) (x : Entry) (xs : List Entry) → Went (before ++ x ∷ xs) → FallsAlone t s n before x xs
      → (let L = wait_after t s n before in Phase t n L (settles_at n L (L + e_ticks t n) 0 xs) (tick_count xs) (state_after x.state xs))
  -- and so after the next tick d, whatever that tick's own lists ask for
  pub at_tick : (n : ℕ) (before : List Entry) (x : Entry) (xs : List Entry) (d : Entry) → Went (before ++ x ∷ (xs ++ d ∷ [])) → FallsAlone t s n before x xs
      → ticks d ≡ true
      → (let L = wait_after t s n before in Phase t n L (settles_at n L (L + e_ticks t n) 0 xs) (suc (tick_count xs)) d.state)
  -- "settled at most E ticks later": whatever was heard, it is so at tick L + E, and stays so
  pub at_most : (n : ℕ) (before : List Entry) (x : Entry) (xs : List Entry) (d : Entry) → Went (before ++ x ∷ (xs ++ d ∷ [])) → FallsAlone t s n before x xs
      → ticks d ≡ true
      → wait_after t s n before + e_ticks t n ≤ suc (tick_count xs)
      → (network_in t n d.state).state ≡ state_full
  -- "exactly E if nothing was heard", from the L-th tick on
  pub exactly : (n : ℕ) (before : List Entry) (x : Entry) (xs : List Entry) (d : Entry) → Went (before ++ x ∷ (xs ++ d ∷ [])) → FallsAlone t s n before x xs
      → ticks d ≡ true
      → nothing_heard n (wait_after t s n before) 0 xs ≡ true
      → (let L = wait_after t s n before in Phase t n L (L + e_ticks t n) (suc (tick_count xs)) d.state)
  -- "Only its owner can shorten this": a heard that is not refused carries the owner's number, not even the platform's
  pub heard_by_owner : (n : ℕ) (xs : List Entry) (x : Entry) → Went (xs ++ x ∷ []) → hears n x ≡ true → event_owner x.event ≡ network_owner t n
  -- a heard that is taken leaves it heard, and nothing else makes it so
  pub heard : (n : ℕ) → n < networks t → (xs : List Entry) (x : Entry) → Went (xs ++ x ∷ []) → heard_taken t n (state_after s xs) x ≡ true
      → (network_in t n x.state).heard ≡ 1
  pub heard_only : (n : ℕ) → n < networks t → (xs : List Entry) (x : Entry) → Went (xs ++ x ∷ [])
      → newly 1 (network_in t n (state_after s xs)).heard (network_in t n x.state).heard ≡ true
      → heard_taken t n (state_after s xs) x ≡ true
  -- what it was last asked for is what its word says it is asked
  pub asked : (n : ℕ) → n < networks t → (xs : List Entry) → Went xs → (network_in t n (state_after s xs)).asked ≡ last_asked_in n asked_none xs
  -- a bus-off that is taken, and nothing else, makes it recover
  pub taken : (n : ℕ) → n < networks t → (xs : List Entry) (x : Entry) → Went (xs ++ x ∷ [])
      → bus_off_taken t n (state_after s xs) x ≡ newly state_recover (network_in t n (state_after s xs)).state (network_in t n x.state).state
  -- its port shows its mode, in every state
  pub shown : (n : ℕ) → n < networks t → (xs : List Entry) → Went xs → PortShows (network_port t n) (mode_to_show t n) s xs

-- "A wakeup source that becomes pending is validated or cleared by its own operator before its T-th tick, or expires at exactly that
-- tick." Entry x makes it pending.
pub record SourceWaits (t s : List ℕ) (Went : List Entry → Type 0) : Type 0 where
  -- after entries xs that do not end it, fewer than T ticks among them, it is pending still
  pub waits : (k : ℕ) (before : List Entry) (x : Entry) (xs : List Entry) → Went (before ++ x ∷ xs)
      → becomes_pending t k (state_after s before) x ≡ true
      → not_ended k xs ≡ true
      → tick_count xs < timeout t k
      → Waiting t k (tick_count xs) (state_after x.state xs)
  -- and after the next tick d pending, or expired if that is the T-th
  pub at_tick : (k : ℕ) (before : List Entry) (x : Entry) (xs : List Entry) (d : Entry) → Went (before ++ x ∷ (xs ++ d ∷ []))
      → becomes_pending t k (state_after s before) x ≡ true
      → not_ended k xs ≡ true
      → tick_count xs < timeout t k
      → ticks d ≡ true
      → Waiting t k (suc (tick_count xs)) d.state
  -- it is its own operator that validates or clears it, not even the platform
  pub by_owner : (k : ℕ) (xs : List Entry) (x : Entry) → Went (xs ++ x ∷ []) → ended k x ≡ true → event_owner x.event ≡ source_owner t k
  -- and a pending source is then validated, or none, and its port shows it
  pub ends : (k : ℕ) (xs : List Entry) (x : Entry) → Went (xs ++ x ∷ []) → ended k x ≡ true → status_in t k (state_after s xs) ≡ status_pending
      → (status_in t k x.state ≡ end_status x) × (shows_status t k x.state ≡ end_status x)
  -- a wakeup on none or expired, and nothing else, makes it pending
  pub pending : (k : ℕ) → k < sources t → (xs : List Entry) (x : Entry) → Went (xs ++ x ∷ [])
      → becomes_pending t k (state_after s xs) x ≡ newly status_pending (status_in t k (state_after s xs)) (status_in t k x.state)
  -- its port shows its status, in every state
  pub shown : (k : ℕ) → k < sources t → (xs : List Entry) → Went xs → PortShows (source_port t k) (status_to_show t k) s xs

-- "No event sent under another operator's number, the platform's excepted, can alter these ticks or bring about either exception:
-- with all such events struck out, each of them falls at the same tick." Two logs whose events agree once the strangers' are struck
-- out, and whose calls of the operator and of the platform then meet the same outcomes (Q-9), have the same moments, of each network and
-- source of the operator and of the platform: the bus-offs taken with the wait that each loads, the heards taken, the requests of another
-- mode, the turns to recover, check and full, the wakeups, their ends and expiries, each at the same tick counted from fresh.
pub record NoStranger (t s : List ℕ) (Went : List Entry → Type 0) : Type 0 where
  pub network : (n : ℕ) → n < networks t → (xs ys : List Entry) → Went xs → Went ys → ButStrangers t (network_owner t n) xs ys
      → moments (network_moment t n) 0 s xs ≡ moments (network_moment t n) 0 s ys
  -- so the tick at which a network is settled is the same, whatever went before, and whatever calls met
  pub settles : (n : ℕ) → n < networks t → (before xs before' ys : List Entry) → Went (before ++ xs) → Went (before' ++ ys)
      → struck_out (network_owner t n) xs ≡ struck_out (network_owner t n) ys
      → (L latest k : ℕ) → settles_at n L latest k xs ≡ settles_at n L latest k ys
  pub source : (k : ℕ) → k < sources t → (xs ys : List Entry) → Went xs → Went ys → ButStrangers t (source_owner t k) xs ys
      → moments (source_moment t k) 0 s xs ≡ moments (source_moment t k) 0 s ys
  -- the view behind it, for every operator o and for the platform: o sees the same after each entry that is no stranger's
  pub same : (o : ℕ) (xs ys : List Entry) → Went xs → Went ys → ButStrangers t o xs ys → seen t o xs ≡ seen t o ys
  -- and nothing of a stranger's entry
  pub unseen : (o : ℕ) (xs : List Entry) (x : Entry) → Went (xs ++ x ∷ []) → strangers_entry o x ≡ true → Unseen t o (state_after s xs) x
  -- a trace word that asks a network for a mode carries the network's owner or the platform
  pub asks : (xs : List Entry) (x : Entry) → Went (xs ++ x ∷ []) → Each (AsksOwn t) x.words

pub record Demand3 (t s : List ℕ) (Went : List Entry → Type 0) : Type 0 where
  pub network : NetworkWaits t s Went
  pub source : SourceWaits t s Went
  pub strangers : NoStranger t s Went
