-- Q-14: what calls sent: every event, whatever it was answered, by any results that the promises of the event call and of the play allow, mixed as one
-- likes, each state passed on.
use Rattle.std.specs.Prelude.{◌≡◌, true, cond, List, [], ◌∷◌, ◌++◌, ℕ, length, get_or, take, leb}
use Rattle.stranger.specs.Logs.{log_from}
use Rattle.stranger.specs.Nothing.{Sending, all_taken, is_shared, Lends}
use Rattle.manager.specs.Promises.{TakesEventIn, PlaysIn}

-- the event with which a play ended that was answered k: 4 to 6 are an event's own answers
unfoldable pub ended_by : ℕ → ℕ → List ℕ → List Sending
ended_by k e s = cond (leb 4 k) (record { answer = k; entry = record { event = e; outcomes = []; state = s; words = [] } } ∷ []) []

-- From state s. Of a call that sends a shared event it is asked what the request asks of every call: that it "lends at least B trace words and no
-- outcome above 1". A play sends the events that it took, and then the one that was refused, if that ended it; one that stopped at "trace full" is
-- resumed by a play behind it, with whatever trace.
pub data Sent (t : List ℕ) (o : ℕ) : List ℕ → List Sending → Type 0 where
  none : {s : List ℕ} → Sent t o s []
  called : {s trace s' trace' : List ℕ} (os : List ℕ) (e : ℕ) {k n v : ℕ} {xs : List Sending} → TakesEventIn t s trace os e k n v s' trace'
      → (is_shared o e ≡ true → Lends t (length trace) os)
      → Sent t o s' xs
      → Sent t o s (record { answer = k; entry = record { event = e; outcomes = os; state = s'; words = take n trace' } } ∷ xs)
  played : {s trace s' trace' : List ℕ} (es : List ℕ) {k n m v : ℕ} {xs : List Sending} → PlaysIn t s trace es k n m v s' trace' → Sent t o s' xs
      → Sent t o s (all_taken (log_from t s (take n es)) ++ (ended_by k (get_or es n 0) s' ++ xs))
