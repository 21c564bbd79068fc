-- What calls gave: a log of the rulebook's steps, and one log after another. Assumes nothing.
use mathlib.Core.Path.{◌≡◌, sym, ◌∙◌}
use mathlib.Core.List.{List, ◌++◌, append_assoc}
use Prim.Native.Nat.{ℕ}
use lib.ListN.{length, take}
use borrow.Author.Tests.{le-ltb}
use Rattle.rulebook.specs.Reasons.{bound}
use Rattle.rulebook.specs.Step.{first_fault, refused_event}
use Rattle.laws.specs.Callable.{Callable}
use Rattle.stranger.specs.Logs.{Entry, Follows, Log, state_after, log_from}
use Rattle.stranger.proofs.Logs.{after-append}
use Rattle.stranger.proofs.Played.{log-together}
use Rattle.manager.specs.Promises.{TakesEventIn}
use Rattle.demands.specs.Calls.{Played}
use Rattle.demands.specs.Calls as calls
use Rattle.demands.proofs.Plays.{play-log, play-state}
use Rattle.demands.proofs.Demand1.{event-answered}
use Rattle.demands.proofs.Demand2.{call, steps}

-- a call answered 0 met no fault of event or outcomes
not-refused : (t s trace os : List ℕ) (e k : ℕ) → k ≡ first_fault t s (length trace) os e → k ≡ 0 → Callable t s (length trace) → refused_event t os e ≡ 0
unfolding first_fault refused_event
not-refused t s trace os e k is z c = sym (is ∙ rw (c.table, c.state, le-ltb (length trace) (bound t) c.enough)) ∙ z

pub follows : (t s trace os : List ℕ) (e k n v : ℕ) (s' trace' : List ℕ) → TakesEventIn t s trace os e k n v s' trace' → k ≡ 0
    → Follows t s (record { event = e; outcomes = os; state = s'; words = take n trace' })
follows t s trace os e k n v s' trace' p z =
    let x = steps t s trace os e k n v s' trace' p z in
    record {
      taken = not-refused t s trace os e k (event-answered t s trace os e k n v s' trace' p).number z (call t s trace os e k n v s' trace' p z).callable;
      state = x.state;
      words = x.new;
    }

pub log-of : (t s : List ℕ) (xs : List Entry) → Played t s xs → Log t s xs
log-of t s xs calls.none = tt
log-of t s xs (calls.refused {s' = u} os e p n rest) = rw ((event-answered t s _ os e _ _ _ u _ p).state_kept n) at (log-of t u xs rest)
log-of t s xs (calls.taken {s' = u} os e {xs = ys} p z rest) = (follows t s _ os e _ _ _ u _ p z, log-of t u ys rest)
log-of t s xs (calls.played {trace = w} {s' = u} es {n = n} {xs = ys} p rest) =
    log-together t s (log_from t s (take n es)) ys (play-log t s w es _ n _ _ u _ p) (rw (play-state t s w es _ n _ _ u _ p) (log-of t u ys rest))

-- calls, and then further ones from the state that they left
pub appended : {t s : List ℕ} {xs ys : List Entry} (u : List ℕ) → Played t s xs → state_after s xs ≡ u → Played t u ys → Played t s (xs ++ ys)
unfolding state_after
appended u calls.none is more = rw is more
appended {t} {s} u (calls.refused {s' = v} os d q r rest) is more =
    calls.refused os d q r (appended u rest (rw ((event-answered t s _ os d _ _ _ v _ q).state_kept r) is) more)
appended u (calls.taken os d q r rest) is more = calls.taken os d q r (appended u rest is more)
appended {t} {s} u (calls.played {trace = w} {s' = v} es {n = n} {xs = ys} q rest) is more =
    let here = play-state t s w es _ n _ _ v _ q in
    let after = rw here at (sym (after-append s (log_from t s (take n es)) ys) ∙ is) in
    rw (append_assoc (log_from t s (take n es)) ys _) (calls.played es q (appended u rest after more))
