-- What calls gave: any results that the promises of the event call and of the play allow, each state passed on, and the log of the events
-- taken.
use Rattle.std.specs.Prelude.{◌≡◌, List, [], ◌∷◌, ◌++◌, ℕ, take}
use Rattle.stranger.specs.Logs.{Entry, log_from}
use Rattle.manager.specs.Promises.{TakesEventIn, PlaysIn}

-- From state s. A call that is answered 0 leaves an entry: its event, the outcomes lent, the state afterwards, and the words that the count
-- covers. A refused call leaves none; whatever trace was lent, none tells. A play of es leaves an entry for each of the n events taken, as single
-- calls would, and the next call goes on from the play's state (that this is the last entry's, `OfPlay` says).
pub data Played (t : List ℕ) : List ℕ → List Entry → Type 0 where
  none : {s : List ℕ} → Played t s []
  refused : {s trace s' trace' : List ℕ} (os : List ℕ) (e : ℕ) {k n v : ℕ} {xs : List Entry} → TakesEventIn t s trace os e k n v s' trace' → (k ≡ 0 → ⊥)
      → Played t s' xs
      → Played t s xs
  taken : {s trace s' trace' : List ℕ} (os : List ℕ) (e : ℕ) {k n v : ℕ} {xs : List Entry} → TakesEventIn t s trace os e k n v s' trace' → k ≡ 0
      → Played t s' xs
      → Played t s (record { event = e; outcomes = os; state = s'; words = take n trace' } ∷ xs)
  played : {s trace s' trace' : List ℕ} (es : List ℕ) {k n m v : ℕ} {xs : List Entry} → PlaysIn t s trace es k n m v s' trace' → Played t s' xs
      → Played t s (log_from t s (take n es) ++ xs)
