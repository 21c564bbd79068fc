-- Q-1 over what `play` promises, in numbers: k is what ended it, n how many events were taken, m how many trace words were written, v how
-- many expression words visited. The last is a number of 64 bits; no play of 33,375,448,836,465 events or fewer can pass these.
use Rattle.std.specs.Prelude.{◌≡◌, ◌⊎◌, ◌↔◌, List, [], ◌∷◌, ◌++◌, ℕ, suc, ◌+◌, ◌*◌, ◌%◌, ◌≤◌, ◌<◌, length, get_or, take, drop}
use Rattle.rulebook.specs.Reasons.{bound}
use Rattle.rulebook.specs.Step.{refused_state, refused_event}
use Rattle.rulebook.specs.Play.{play}
use Rattle.manager.specs.Promises.{TakesEventIn, PlaysIn}

-- Demand 1 of a play. "Table and state checked once, even with no events"; "the number of events taken and the first refusal".
pub record PlayAnswered (t s trace es : List ℕ) (k n m v : ℕ) (s' trace' : List ℕ) : Type 0 where
  -- 1 or 2, and nothing is taken, written or changed
  pub unstood : (refused_state t s ≡ 0 → ⊥) → (k ≡ refused_state t s) × (n ≡ 0)
  -- else 0 exactly if every event was taken
  pub done : refused_state t s ≡ 0 → (k ≡ 0) ↔ (n ≡ length es)
  -- "It stops before an event when fewer than B trace words are free, says 'trace full' exactly then"
  pub full : (k ≡ 3) ↔ ((refused_state t s ≡ 0) × (n < length es) × (length trace < m + bound t))
  -- "A refused event ends the play": it is the one behind those taken, and the answer is its own
  pub refused : refused_state t s ≡ 0 → (k ≡ 0 → ⊥) → (k ≡ 3 → ⊥) → (n < length es) × (k ≡ refused_event t [] (get_or es n 0))
  -- Q-11: 7 is not used here either, nor 8, for no outcomes are lent
  pub numbers : k ≤ 6
  pub within : n ≤ length es
  pub room : m ≤ length trace
  -- what ends a play changes nothing: the events taken alone give this state and this trace
  pub alone : refused_state t s ≡ 0 → PlaysIn t s trace (take n es) 0 n m v s' trace'
  pub none : n ≡ 0 → (m ≡ 0) × (v ≡ 0) × (s' ≡ s) × (trace' ≡ trace)
  pub unchanged : drop m trace' ≡ drop m trace

-- visits of one part and then of another, added as numbers of 64 bits are
abbrev pub added : ℕ → ℕ → ℕ
added v w = (v + w) % 18446744073709551616

-- "with the state and the joined trace just as single calls would give", and Q-9, "In play all calls are good": calls of `take_event` on es
-- that lend no outcomes, from state s, each from the state
-- that the one before left and in the rest of the trace, until none is left or one is not answered 0.
pub data SingleCalls (t : List ℕ) : List ℕ → List ℕ → List ℕ → ℕ → ℕ → ℕ → ℕ → List ℕ → List ℕ → Type 0 where
  none : {s trace : List ℕ} → SingleCalls t s trace [] 0 0 0 0 s trace
  refused : {s trace : List ℕ} (e : ℕ) {es : List ℕ} {k m v : ℕ} {s' trace' : List ℕ} → TakesEventIn t s trace [] e k m v s' trace' → (k ≡ 0 → ⊥)
      → SingleCalls t s trace (e ∷ es) k 0 m v s' trace'
  taken : {s trace : List ℕ} (e : ℕ) {es : List ℕ} {k₁ m₁ v₁ : ℕ} {s₁ trace₁ : List ℕ} {k n m v : ℕ} {s' rest : List ℕ}
      → TakesEventIn t s trace [] e k₁ m₁ v₁ s₁ trace₁ → k₁ ≡ 0 → SingleCalls t s₁ (drop m₁ trace₁) es k n m v s' rest
      → SingleCalls t s trace (e ∷ es) k (suc n) (m₁ + m) (added v₁ v) s' (take m₁ trace₁ ++ rest)

-- "can be resumed from that event": plays of es from state s, each but the last stopped at "trace full" and resumed from that event with
-- its state and any trace. The last ended with k; n events were taken in all, with v visits, s' is the last state, and ws are the traces
-- joined.
pub data Resumed (t : List ℕ) : List ℕ → List ℕ → ℕ → ℕ → ℕ → List ℕ → List ℕ → Type 0 where
  ended : {s trace es : List ℕ} {k n m v : ℕ} {s' trace' : List ℕ} → PlaysIn t s trace es k n m v s' trace' → (k ≡ 3 → ⊥)
      → Resumed t s es k n v s' (take m trace')
  resumed : {s trace es : List ℕ} {k₁ n₁ m₁ v₁ : ℕ} {s₁ trace₁ : List ℕ} {k n v : ℕ} {s' ws : List ℕ}
      → PlaysIn t s trace es k₁ n₁ m₁ v₁ s₁ trace₁ → k₁ ≡ 3 → Resumed t s₁ (drop n₁ es) k n v s' ws
      → Resumed t s es k (n₁ + n) (added v₁ v) s' (take m₁ trace₁ ++ ws)

-- j plays, each with B trace words lent or more, and each stopped at "trace full"
pub data Stops (t : List ℕ) : List ℕ → List ℕ → ℕ → Type 0 where
  none : {s es : List ℕ} → Stops t s es 0
  more : {s trace es : List ℕ} {k n m v : ℕ} {s' trace' : List ℕ} {j : ℕ} → bound t ≤ length trace → PlaysIn t s trace es k n m v s' trace' → k ≡ 3
      → Stops t s' (drop n es) j
      → Stops t s es (suc j)

-- Of any result of a play.
pub record PlayGoes (t s trace es : List ℕ) (k n m v : ℕ) (s' trace' : List ℕ) : Type 0 where
  -- where there is an event, or table and state are in order; else no single call would tell
  pub calls : (refused_state t s ≡ 0) ⊎ (1 ≤ length es) → SingleCalls t s trace es k n m v s' trace'
  -- and single calls give nothing else
  pub only_these : {k₁ n₁ m₁ v₁ : ℕ} {s₁ trace₁ : List ℕ} → (refused_state t s ≡ 0) ⊎ (1 ≤ length es)
      → SingleCalls t s trace es k₁ n₁ m₁ v₁ s₁ trace₁
      → (k₁ ≡ k) × (n₁ ≡ n) × (m₁ ≡ m) × (v₁ ≡ v) × (s₁ ≡ s') × (trace₁ ≡ trace')
  -- however a play is resumed, it ends as one play that did not stop at "trace full"
  pub as_one : (k ≡ 3 → ⊥) → {k₁ n₁ v₁ : ℕ} {s₁ ws : List ℕ} → Resumed t s es k₁ n₁ v₁ s₁ ws
      → (k₁ ≡ k) × (n₁ ≡ n) × (v₁ ≡ v) × (s₁ ≡ s') × (ws ≡ take m trace')
  -- "room enough": B trace words an event
  pub enough : length es * bound t ≤ length trace → k ≡ 3 → ⊥
  -- with B words lent a play that stops so has taken an event; so it is resumed at most as often as there are events
  pub progress : bound t ≤ length trace → k ≡ 3 → 1 ≤ n
  pub ends : {j : ℕ} → Stops t s es j → j ≤ length es
  -- Q-10: the sum over the events taken; with fewer than 2 ^ 64 / 552,704 of them no 64 bits are passed
  pub visits : n ≤ 33375448836465 → v ≡ (play t s (length trace) es).visits
  pub most_visits : v ≤ 552704 * n
