-- Demand 3 holds of whatever the promises of the public entries allow. Assumes nothing.
use mathlib.Core.Path.{◌≡◌, refl, sym, subst, ◌∙◌}
use mathlib.Core.Bool.{true, ◌||◌, not}
use mathlib.Core.List.{List, [], ◌∷◌, ◌++◌}
use Prim.Native.Nat.{ℕ, ◌≤◌, ◌<◌}
use native.Mathlib.Omega.{arith}
use lib.ListN.{length, take, drop, replicate, length-replicate}
use lib.Seq.{take-length, take-append_seam}
use lib.Dec.{eqb}
use borrow.Author.Tests.{eqb-true, eq-eqb, le-leb, le-ltb}
use Rattle.rulebook.specs.Table.{networks, network_owner, sources, source_owner, timeout}
use Rattle.rulebook.specs.Reasons.{accepted, bound}
use Rattle.rulebook.specs.State.{fresh, state_recover, status_none, status_pending, status_expired}
use Rattle.rulebook.specs.Lists.{network_in}
use Rattle.rulebook.specs.Events.{event_wakeup, event_bus_off, event_heard, status_in, takes, listens}
use Rattle.rulebook.specs.Step.{outcomes_known, refused_state, first_fault, refused_event}
use Rattle.laws.proofs.Tests.{split, and_right}
use Rattle.laws.proofs.Facts.{facts}
use Rattle.laws.proofs.FitKept.{Fits}
use Rattle.laws.proofs.Steps.{fresh-fits}
use Rattle.laws.proofs.Play.{stands, step-done}
use Rattle.stranger.specs.Logs.{Entry, Log, ran, state_after, log_from, joined, struck_out}
use Rattle.stranger.specs.Outcomes.{MayMeet}
use Rattle.stranger.specs.Demand.{bus_off_taken, hears, heard_taken, becomes_pending, owners_event}
use Rattle.stranger.specs.Statements.{Demand3, newly}
use Rattle.stranger.proofs.Logs.{entry-fits, log-fits}
use Rattle.stranger.proofs.Partner.{may-meet}
use Rattle.stranger.proofs.Played.{struck-taken, struck-again}
use Rattle.stranger.proofs.NotEmpty.{kind-is, index_is, wakeup-known, bus-off-known, heard-known}
use Rattle.stranger.proofs.Exactly.{bus-off-exactly, heard-kept, wakeup-exactly}
use Rattle.stranger.proofs.Demand3 as stranger
use Rattle.manager.specs.Promises.{MakesFreshIn, TakesEventIn}
use Rattle.demands.specs.Calls.{Played}
use Rattle.demands.specs.Calls as calls
use Rattle.demands.specs.Plays.{Resumed}
use Rattle.demands.specs.Demand3.{AnsweredAfter, StruckOutPlayed, Demand3OfCalls}
use Rattle.demands.proofs.Demand1.{fresh-answered, event-answered}
use Rattle.demands.proofs.Calls.{follows, log-of}
use Rattle.demands.proofs.Singles.{call-of}
use Rattle.demands.proofs.Resumed.{resumed-log, all-taken}

-- The answers after any calls.

module _ (t : List ℕ) (h : accepted t ≡ true) (xs : List Entry) (played : Played t (fresh t) xs) (trace os : List ℕ) (room : bound t ≤ length trace) where
  abbrev s : List ℕ
  s = state_after (fresh t) xs

  fit : Fits t s
  fit = log-fits t h (fresh t) xs (log-of t (fresh t) xs played) (fresh-fits t h)

  answer-alike : (e k n v : ℕ) (s' trace' : List ℕ) → TakesEventIn t s trace os e k n v s' trace' → k ≡ refused_event t os e
  unfolding first_fault refused_event
  answer-alike e k n v s' trace' p = (event-answered t s trace os e k n v s' trace' p).number ∙ rw (h, fit, le-ltb (length trace) (bound t) room)

  wakes : outcomes_known os ≡ true → (i : ℕ) → i < sources t → 1 ≤ timeout t i → (eqb (status_in t i s) status_none || eqb (status_in t i s) status_expired) ≡ true
      → (k n v : ℕ) (s' trace' : List ℕ) → TakesEventIn t s trace os (owners_event event_wakeup (source_owner t i) i) k n v s' trace' → (k ≡ 0) ×
      (status_in t i s' ≡ status_pending)
  unfolding becomes_pending
  wakes good i b one idle k n v s' trace' p =
      let o = source_owner t i in let few = (facts t h).counts.sources in
      let z : k ≡ 0 = answer-alike _ k n v s' trace' p ∙ wakeup-known t h os good i b in
      let x : Entry = record { event = owners_event event_wakeup o i; outcomes = os; state = s'; words = take n trace' } in
      let woken : becomes_pending t i s x ≡ true = rw
      (kind-is event_wakeup o i (omega arith), index_is event_wakeup o i (omega arith), eq-eqb i i refl, idle, le-leb 1 (timeout t i) one) in
      let now : newly status_pending (status_in t i s) (status_in t i s') ≡ true = sym
      (wakeup-exactly t h i b s x (follows t s trace os _ k n v s' trace' p z) fit) ∙ woken in
      (z, eqb-true _ _ (and_right (not (eqb (status_in t i s) status_pending)) _ now))

  falls : outcomes_known os ≡ true → (i : ℕ) → i < networks t → takes (network_in t i s) ≡ true
      → (k n v : ℕ) (s' trace' : List ℕ) → TakesEventIn t s trace os (owners_event event_bus_off (network_owner t i) i) k n v s' trace' → (k ≡ 0) ×
      ((network_in t i s').state ≡ state_recover)
  unfolding bus_off_taken
  falls good i b took k n v s' trace' p =
      let o = network_owner t i in let few = (facts t h).counts.networks in
      let z : k ≡ 0 = answer-alike _ k n v s' trace' p ∙ bus-off-known t h os good i b in
      let x : Entry = record { event = owners_event event_bus_off o i; outcomes = os; state = s'; words = take n trace' } in
      let off : bus_off_taken t i s x ≡ true = rw (kind-is event_bus_off o i (omega arith), index_is event_bus_off o i (omega arith), eq-eqb i i refl, took) in
      let now : newly state_recover (network_in t i s).state (network_in t i s').state ≡ true = sym
      (bus-off-exactly t h i b s x (follows t s trace os _ k n v s' trace' p z) fit) ∙ off in
      (z, eqb-true _ _ (and_right (not (eqb (network_in t i s).state state_recover)) _ now))

  keeps : outcomes_known os ≡ true → (i : ℕ) → i < networks t → listens (network_in t i s) ≡ true
      → (k n v : ℕ) (s' trace' : List ℕ) → TakesEventIn t s trace os (owners_event event_heard (network_owner t i) i) k n v s' trace' → (k ≡ 0) ×
      ((network_in t i s').heard ≡ 1)
  unfolding heard_taken hears
  keeps good i b on k n v s' trace' p =
      let o = network_owner t i in let few = (facts t h).counts.networks in
      let z : k ≡ 0 = answer-alike _ k n v s' trace' p ∙ heard-known t h os good i b in
      let x : Entry = record { event = owners_event event_heard o i; outcomes = os; state = s'; words = take n trace' } in (
        z,
        heard-kept t h i b s x (follows t s trace os _ k n v s' trace' p z) fit
            (rw (kind-is event_heard o i (omega arith), index_is event_heard o i (omega arith), eq-eqb i i refl, on)),
      )

answered-after : (t : List ℕ) → accepted t ≡ true → AnsweredAfter t (fresh t)
answered-after t h =
    record {
      alike = λ xs p trace os e k n v s' trace' room q. answer-alike t h xs p trace os room e k n v s' trace' q;
      wakes = λ xs p i b one idle trace os k n v s' trace' room good q. wakes t h xs p trace os room good i b one idle k n v s' trace' q;
      falls = λ xs p i b took trace os k n v s' trace' room good q. falls t h xs p trace os room good i b took k n v s' trace' q;
      keeps = λ xs p i b on trace os k n v s' trace' room good q. keeps t h xs p trace os room good i b on k n v s' trace' q;
    }

-- The strangers struck out of the events taken, and the rest played and resumed.

module _ (t : List ℕ) (h : accepted t ≡ true) where
  demand : Demand3 t (fresh t) (Played t (fresh t))
  demand = stranger.demand-3 t h (Played t (fresh t)) (log-of t (fresh t))

  stood : refused_state t (fresh t) ≡ 0
  stood = stands t (fresh t) h (fresh-fits t h)

  module _ (o : ℕ) (xs : List Entry) (went : Played t (fresh t) xs) {k n v : ℕ} {s' ws : List ℕ} (r : Resumed t (fresh t) (struck_out o xs) k n v s' ws) where
    abbrev es : List ℕ
    es = struck_out o xs

    struck-done : (k ≡ 0) × (n ≡ length es)
    struck-done = all-taken r stood (struck-taken t (fresh t) o xs (log-of t (fresh t) xs went))

    struck-log : (let ys = log_from t (fresh t) es in
        Played t (fresh t) ys × (struck_out o ys ≡ es) × (state_after (fresh t) ys ≡ s') × (joined ys ≡ ws))
    struck-log =
        let l = rw (struck-done.1, take-length es) at (resumed-log r) in
        (l.0, struck-again t (fresh t) o xs, l.1, l.2)

  struck : StruckOutPlayed t (fresh t)
  struck =
      record {
        done = struck-done;
        log = struck-log;
        network = λ i b xs w r m. let l = struck-log _ xs w r in demand.strangers.network i b xs _ w l.0 (record { events = sym l.1; outcomes = m });
        source = λ i b xs w r m. let l = struck-log _ xs w r in demand.strangers.source i b xs _ w l.0 (record { events = sym l.1; outcomes = m });
        same = λ o xs w r m. let l = struck-log o xs w r in demand.strangers.same o xs _ w l.0 (record { events = sym l.1; outcomes = m });
      }

-- Every log of the rulebook's steps is one that calls gave, each with B words lent.

same-entry : (x : Entry) (u ws : List ℕ) → u ≡ x.state → ws ≡ x.words → record { event = x.event; outcomes = x.outcomes; state = u; words = ws } ≡ x
same-entry x u ws a b j = record { event = x.event; outcomes = x.outcomes; state = a j; words = b j }

module _ (t : List ℕ) (h : accepted t ≡ true) where
  calls-gave : (s : List ℕ) (xs : List Entry) → Fits t s → Log t s xs → Played t s xs
  calls-gave s [] fit l = calls.none
  calls-gave s (x ∷ xs) fit l =
      let f = l.0 in
      let lent = replicate {A = ℕ} (bound t) 0 in
      let enough : bound t ≤ length lent = rw (length-replicate {A = ℕ} (bound t) 0) (omega arith) in
      let ws = (ran t s x).words in
      let call = call-of t s lent x.outcomes x.event _ (step-done t s (length lent) x.outcomes x.event h fit enough f.taken) in
      let told : take (length ws) (ws ++ drop (length ws) lent) ≡ x.words = take-append_seam ws _ ∙ sym f.words in
      let rest = rw f.state at (calls-gave x.state xs (entry-fits t h s x f fit) l.1) in
      subst (λ (y : Entry). Played t s (y ∷ xs)) (same-entry x _ _ (sym f.state) told)
      (calls.taken x.outcomes x.event {xs = xs} call refl rest)

  meets : MayMeet t (Played t (fresh t))
  meets = may-meet t (fresh t) (Played t (fresh t)) (λ ys l. calls-gave (fresh t) ys (fresh-fits t h) l) (log-of t (fresh t))

-- The demand, from whatever state `make_fresh` made.

pub accepted-when : (t s : List ℕ) (k : ℕ) (s' : List ℕ) → MakesFreshIn t s k s' → k ≡ 0 → accepted t ≡ true
accepted-when t s k s' p z = split (accepted t) (λ a. a) (λ a. let y = (fresh-answered t s k s' p).bad_table a in absurd (omega arith))

pub demand-3 : Demand3OfCalls
demand-3 t s₀ k s p z =
    let h = accepted-when t s₀ k s p z in
    rw ((fresh-answered t s₀ k s p).made z) (record { waits = demand t h; after = answered-after t h; struck = struck t h; meets = meets t h })
