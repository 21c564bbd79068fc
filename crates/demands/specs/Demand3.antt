-- Demand 3 over calls: s is what `make_fresh` made, and any results of the event call and of plays follow, each state passed on. Its sentences are
-- those of stranger/specs/Statements, over the logs that calls gave.
use Rattle.std.specs.Prelude.{◌≡◌, true, ◌||◌, List, ℕ, ◌≤◌, ◌<◌, length, eqb}
use Rattle.rulebook.specs.Table.{networks, network_owner, sources, source_owner, timeout}
use Rattle.rulebook.specs.Reasons.{bound}
use Rattle.rulebook.specs.State.{state_recover, status_none, status_pending, status_expired}
use Rattle.rulebook.specs.Lists.{network_in}
use Rattle.rulebook.specs.Events.{event_wakeup, event_bus_off, event_heard, status_in, takes, listens}
use Rattle.rulebook.specs.Step.{outcomes_known, refused_event}
use Rattle.stranger.specs.Logs.{Entry, state_after, log_from, joined, struck_out}
use Rattle.stranger.specs.View.{seen}
use Rattle.stranger.specs.Outcomes.{met_in, AgreeEach, MayMeet}
use Rattle.stranger.specs.Demand.{network_moment, source_moment, moments, owners_event}
use Rattle.stranger.specs.Statements.{Demand3}
use Rattle.manager.specs.Promises.{MakesFreshIn, TakesEventIn}
use Rattle.demands.specs.Calls.{Played}
use Rattle.demands.specs.Plays.{Resumed}

-- After any calls, an event for which B trace words are lent, and outcomes of which none is above 1.
pub record AnsweredAfter (t s : List ℕ) : Type 0 where
  -- the answer goes by table, outcomes and event alone: "with all such events struck out" those left are answered 0 still
  pub alike : (xs : List Entry) → Played t s xs → (trace os : List ℕ) (e k n v : ℕ) (s' trace' : List ℕ) → bound t ≤ length trace
      → TakesEventIn t (state_after s xs) trace os e k n v s' trace' → k ≡ refused_event t os e
  -- and the demand is not empty: a wakeup that its owner sends on none or expired, T at least 1, makes the source pending
  pub wakes : (xs : List Entry) → Played t s xs → (i : ℕ) → i < sources t → 1 ≤ timeout t i
      → (eqb (status_in t i (state_after s xs)) status_none || eqb (status_in t i (state_after s xs)) status_expired) ≡ true
      → (trace os : List ℕ) (k n v : ℕ) (s' trace' : List ℕ) → bound t ≤ length trace → outcomes_known os ≡ true
      → TakesEventIn t (state_after s xs) trace os (owners_event event_wakeup (source_owner t i) i) k n v s' trace'
      → (k ≡ 0) × (status_in t i s' ≡ status_pending)
  -- a bus-off that its owner sends in check or full makes the network recover
  pub falls : (xs : List Entry) → Played t s xs → (i : ℕ) → i < networks t → takes (network_in t i (state_after s xs)) ≡ true
      → (trace os : List ℕ) (k n v : ℕ) (s' trace' : List ℕ) → bound t ≤ length trace → outcomes_known os ≡ true
      → TakesEventIn t (state_after s xs) trace os (owners_event event_bus_off (network_owner t i) i) k n v s' trace'
      → (k ≡ 0) × ((network_in t i s').state ≡ state_recover)
  -- a heard that its owner sends in check is kept for the next tick
  pub keeps : (xs : List Entry) → Played t s xs → (i : ℕ) → i < networks t → listens (network_in t i (state_after s xs)) ≡ true
      → (trace os : List ℕ) (k n v : ℕ) (s' trace' : List ℕ) → bound t ≤ length trace → outcomes_known os ≡ true
      → TakesEventIn t (state_after s xs) trace os (owners_event event_heard (network_owner t i) i) k n v s' trace'
      → (k ≡ 0) × ((network_in t i s').heard ≡ 1)

-- Q-1: "since a stranger's lists may write more once its events are struck out, a play that then stops at 'trace full' is resumed with
-- room until those events are done". xs is what was taken, by plays and single calls; the strangers to o are struck out of it (of a
-- file of events it would be false, for a stranger's refused event ends a play), and the rest is played from s, resumed with any traces.
-- Q-9: "In play all calls are good", so what those of o's and of the platform's that single calls made met must agree with that.
pub record StruckOutPlayed (t s : List ℕ) : Type 0 where
  -- all of it is taken
  pub done : (o : ℕ) (xs : List Entry) → Played t s xs → {k n v : ℕ} {s' ws : List ℕ} → Resumed t s (struck_out o xs) k n v s' ws
      → (k ≡ 0) × (n ≡ length (struck_out o xs))
  -- it leaves this log, which ends in its state and has its words
  pub log : (o : ℕ) (xs : List Entry) → Played t s xs → {k n v : ℕ} {s' ws : List ℕ} → Resumed t s (struck_out o xs) k n v s' ws
      → (let ys = log_from t s (struck_out o xs) in Played t s ys × (struck_out o ys ≡ struck_out o xs) × (state_after s ys ≡ s') × (joined ys ≡ ws))
  -- "each of them falls at the same tick", and o sees the same
  pub network : (i : ℕ) → i < networks t → (xs : List Entry) → Played t s xs → {k n v : ℕ} {s' ws : List ℕ}
      → Resumed t s (struck_out (network_owner t i) xs) k n v s' ws
      → AgreeEach (met_in t (network_owner t i) xs) (met_in t (network_owner t i) (log_from t s (struck_out (network_owner t i) xs)))
      → moments (network_moment t i) 0 s xs ≡ moments (network_moment t i) 0 s (log_from t s (struck_out (network_owner t i) xs))
  pub source : (i : ℕ) → i < sources t → (xs : List Entry) → Played t s xs → {k n v : ℕ} {s' ws : List ℕ}
      → Resumed t s (struck_out (source_owner t i) xs) k n v s' ws
      → AgreeEach (met_in t (source_owner t i) xs) (met_in t (source_owner t i) (log_from t s (struck_out (source_owner t i) xs)))
      → moments (source_moment t i) 0 s xs ≡ moments (source_moment t i) 0 s (log_from t s (struck_out (source_owner t i) xs))
  pub same : (o : ℕ) (xs : List Entry) → Played t s xs → {k n v : ℕ} {s' ws : List ℕ} → Resumed t s (struck_out o xs) k n v s' ws
      → AgreeEach (met_in t o xs) (met_in t o (log_from t s (struck_out o xs)))
      → seen t o xs ≡ seen t o (log_from t s (struck_out o xs))

pub record Demand3After (t s : List ℕ) : Type 0 where
  pub waits : Demand3 t s (Played t s)
  pub after : AnsweredAfter t s
  pub struck : StruckOutPlayed t s
  -- Q-9: what the last sentence asks of outcomes can be met
  pub meets : MayMeet t (Played t s)

abbrev pub Demand3OfCalls : Type 0
Demand3OfCalls = (t s₀ : List ℕ) (k : ℕ) (s : List ℕ) → MakesFreshIn t s₀ k s → k ≡ 0 → Demand3After t s
