-- What the demands, and document 02's requests, conclude of one call of each entry: t, s, trace, os and e are handed in, the numbers
-- answered, s' and trace' what is lent afterwards.
use Rattle.std.specs.Prelude.{◌≡◌, List, [], ◌∷◌, ◌++◌, ◌↔◌, true, ℕ, ◌+◌, ◌*◌, ◌≤◌, ◌<◌, length, get_or, take, drop}
use Rattle.rulebook.specs.Words.{word}
use Rattle.rulebook.specs.Table.{edition, rules}
use Rattle.rulebook.specs.Reasons.{bound}
use Rattle.rulebook.specs.Step.{step, first_fault, outcomes_known, heeded}
use Rattle.laws.specs.Acceptance.{Rules}
use Rattle.laws.specs.Chosen.{Arbitrated}
use Rattle.laws.specs.Visits.{evaluations, Visited}
use Rattle.laws.specs.Cleared.{ClearCounts}
use Rattle.laws.specs.Levels.{Levels}
use Rattle.laws.specs.MoreLevels.{MoreLevels}
use Rattle.laws.specs.Reached.{Unreached, ListsStarted}
use Rattle.stranger.specs.Logs.{Entry, Log, state_after, log_from, joined}
use Rattle.stranger.specs.Heard.{HeardCounts}
use Rattle.stranger.specs.Nothing.{Sending, entries, all_taken, is_shared, Lends}
use Rattle.manager.specs.Promises.{TakesEventIn}
use Rattle.panel.specs.Printed.{panel}
use Rattle.panel.specs.Same.{PrintsAlike}
use Rattle.hold.specs.Promises.{part_of}
use Rattle.hold.specs.Cases.{Case}
use Rattle.listing.specs.Lines.{listing, ListingOf}
use Rattle.listing.specs.Promises.{ListsIn, ReadsIn}
use Rattle.listing.specs.Back.{longest, SameBytes}
use Rattle.rulebook.specs.BusLog.{Cursor, Reading, read_log, refused_line}
use Rattle.buslog.specs.Promises.{ReadsLogIn, WholeTicks}
use Rattle.demands.specs.Calls.{Played}
use Rattle.demands.specs.Sent.{Sent, ended_by}
use Rattle.demands.specs.Plays.{PlayAnswered, PlayGoes}
use Rattle.demands.specs.Demand1.{TableAnswered, FreshAnswered, StateAnswered, EventAnswered, PanelAnswered, HoldAnswered, ListAnswered, ReadAnswered, LogAnswered}
use Rattle.demands.specs.Demand2.{Steps}
use Rattle.demands.specs.Demand3.{Demand3After}
use Rattle.demands.specs.Nothing.{NothingAfter}

pub record OfTable (t : List ℕ) (reason place b : ℕ) : Type 0 where
  pub answered : TableAnswered t reason place b
  pub accepts : (reason ≡ 0) ↔ Rules t
  -- Q-5: "condition kind 9, 'at or above', for mode ports only"
  pub levels : reason ≡ 0 → Levels t
  -- Q-11: seven levels cut no run short
  pub more_levels : reason ≡ 0 → MoreLevels t
  -- Q-6: "Refuse a table in which a list is reached by no rule that isn't nested-only"
  pub started : ListsStarted t reason place

pub record OfFresh (t s : List ℕ) (k : ℕ) (s' : List ℕ) : Type 0 where
  pub answered : FreshAnswered t s k s'
  -- whatever calls follow from this state
  pub waits : k ≡ 0 → Demand3After t s'
  -- Q-14: "Nothing of a stranger at all"
  pub nothing : k ≡ 0 → NothingAfter t s'

abbrev pub OfState : List ℕ → List ℕ → ℕ → Type 0
OfState t s k = StateAnswered t s k

-- Q-10, of v visits reported with the answer k and the count n: "at most 127 times the sum of R and B, so never above 552,704"
pub record Counted (t s : List ℕ) (e k n v : ℕ) (trace' : List ℕ) : Type 0 where
  -- one to 127 for each rule that is evaluated and each rule item that gives a result
  pub evaluations : k ≡ 0 → Visited (evaluations t e s (take n trace')) v
  pub written : v ≤ 127 * (rules t + n)
  pub within : v ≤ 127 * (rules t + bound t)
  pub most : v ≤ 552704

pub record OfEvent (t s trace os : List ℕ) (e k n v : ℕ) (s' trace' : List ℕ) : Type 0 where
  pub answered : EventAnswered t s trace os e k n v s' trace'
  pub steps : k ≡ 0 → Steps t s trace os e n v s' trace'
  pub lists : k ≡ 0 → Arbitrated t e (heeded t os) s s' (take n trace')
  -- Q-2: "a clear marks the port .. for the next tick unless arbitrated sooner"
  pub clears : k ≡ 0 → ClearCounts t e s s' (take n trace')
  -- Q-8: "Hearing traffic ends the check"
  pub heard : k ≡ 0 → HeardCounts t e s s' (take n trace')
  -- Q-6: "Every event call meets it as answer 1."
  pub unreached : (l : ℕ) → Unreached t l → k ≡ 1
  -- Q-9: "edition 1 tables act as if all calls were good, though answer 8 stands there too"
  pub first : edition t ≡ 1 → outcomes_known os ≡ true → TakesEventIn t s trace [] e k n v s' trace'
  -- "An outcome word above 1 is answer 8", in every edition and of every event: none is taken
  pub above : (j : ℕ) → j < length os → 1 < word os j → k ≡ 0 → ⊥
  -- Q-10: "How much a step can cost"; that a refusal's is 0 `answered` says, and that it is the definition's `steps`
  pub visits : Counted t s e k n v trace'
  -- the log goes on: calls that led from s₀ to s, and this one
  pub taken : k ≡ 0 → (s₀ : List ℕ) (xs : List Entry) → Played t s₀ xs → state_after s₀ xs ≡ s
      → Played t s₀ (xs ++ record { event = e; outcomes = os; state = s'; words = take n trace' } ∷ [])
  -- and the run, whatever the answer
  pub sent : (o : ℕ) → (is_shared o e ≡ true → Lends t (length trace) os) → (s₀ : List ℕ) (xs : List Sending) → Sent t o s₀ xs → state_after s₀ (entries xs) ≡ s
      → Sent t o s₀ (xs ++ record { answer = k; entry = record { event = e; outcomes = os; state = s'; words = take n trace' } } ∷ [])

-- Q-13, of a panel for number o, with n bytes laid into `out`
pub record OfPanel (o : ℕ) (t s ws out : List ℕ) (k n : ℕ) (out' : List ℕ) : Type 0 where
  -- "Number 0 or above 15 (answer 9), then a table or state that meets answer 1 or 2, is refused; nothing is printed"; then too little room
  pub answered : PanelAnswered o t s ws out k n out'
  -- exactly the operator's lines, at the front of the bytes lent; those behind them are as they were
  pub lines : k ≡ 0 → take n out' ≡ panel o t s ws
  pub count : k ≡ 0 → n ≡ length (panel o t s ws)
  pub behind : k ≡ 0 → drop n out' ≡ drop n out
  -- so much room is always enough
  pub enough : 104 * 21 + 15 * length ws ≤ length out → k ≡ 11 → ⊥
  -- "Accepted tables of equal counts that give the operator the same numbered things, with fitting states and traces agreeing in that
  -- operator's words, print the same bytes."
  pub alike : PrintsAlike o t s ws out k n out'

-- Q-1, of a play of es: k what ended it, n events taken, m trace words written
pub record OfPlay (t s trace es : List ℕ) (k n m v : ℕ) (s' trace' : List ℕ) : Type 0 where
  pub answered : PlayAnswered t s trace es k n m v s' trace'
  pub goes : PlayGoes t s trace es k n m v s' trace'
  -- the events taken are a log of the rulebook's steps, which ends in the play's state and whose words, joined, are the play's
  pub log : Log t s (log_from t s (take n es))
  pub state : state_after s (log_from t s (take n es)) ≡ s'
  pub words : joined (log_from t s (take n es)) ≡ take m trace'
  -- Q-6: "Every event call meets it as answer 1."
  pub unreached : (l : ℕ) → Unreached t l → k ≡ 1
  -- the log goes on: calls that led from s₀ to s, and this play
  pub taken : (s₀ : List ℕ) (xs : List Entry) → Played t s₀ xs → state_after s₀ xs ≡ s → Played t s₀ (xs ++ log_from t s (take n es))
  pub sent : (o : ℕ) (s₀ : List ℕ) (xs : List Sending) → Sent t o s₀ xs → state_after s₀ (entries xs) ≡ s
      → Sent t o s₀ (xs ++ (all_taken (log_from t s (take n es)) ++ ended_by k (get_or es n 0) s'))

-- Q-7, of an event held against a supplier's trace and state: v the verdict's number, k the number that it gives, n and m our step's count and
-- visits. The part is the one that `part` hands back for these.
pub record OfHold (t s trace os : List ℕ) (e : ℕ) (theirs their_state : List ℕ) (v k n m : ℕ) (s' trace' : List ℕ) : Type 0 where
  -- "If our step would refuse, give its answer"
  pub answered : HoldAnswered t s trace os e v k n m s' trace'
  -- "The state and our trace end as after an event call", whatever the verdict: all that is concluded of an event call is of this one
  pub event : OfEvent t s trace os e (step t s (length trace) os e).answer n m s' trace'
  -- "each verdict exactly when its case holds, the part word for word"
  pub verdict : Case (step t s (length trace) os e) theirs their_state v k (part_of v k n trace' theirs)
  pub only : (v₂ k₂ : ℕ) (p : List ℕ) → Case (step t s (length trace) os e) theirs their_state v₂ k₂ p
      → (v₂ ≡ v) × (k₂ ≡ k) × (p ≡ part_of v k n trace' theirs)
  -- "Say yes exactly if both are what our rules order, whoever wrote them": our step is done, and they are the words and the state it leaves
  pub yes : (v ≡ 0) ↔ ((first_fault t s (length trace) os e ≡ 0) × (theirs ≡ take n trace') × (their_state ≡ s'))

-- Q-4, of a table's listing laid into lent bytes: k the answer, n the bytes
pub record OfListing (t out : List ℕ) (k n : ℕ) (out' : List ℕ) : Type 0 where
  -- "Writing is refused with reason 1 to 4 where one holds, then with 11 where the output is too short; nothing is then written"
  pub answered : ListAnswered t out k n out'
  -- the listing stands at the front; what is behind it is as it was
  pub lines : k ≡ 0 → take n out' ≡ listing t
  pub behind : k ≡ 0 → drop n out' ≡ drop n out
  -- so much room is always enough
  pub enough : longest ≤ length out → k ≡ 11 → ⊥
  -- "Reading a listing gives the same words": whatever words are lent to a call that reads these bytes, if they are enough
  pub back : k ≡ 0 → (lent : List ℕ) (k₂ n₂ l₂ : ℕ) (lent' : List ℕ) → length t ≤ length lent → ReadsIn (take n out') lent k₂ n₂ l₂ lent'
      → (k₂ ≡ 0) × (n₂ ≡ length t) × (take n₂ lent' ≡ t)

-- Q-4, of a text read into lent words: k the answer, n the words, l the first bad line
pub record OfReading (text lent : List ℕ) (k n l : ℕ) (lent' : List ℕ) : Type 0 where
  -- "reading likewise with 11 after spelling; nothing is then written. .. The reader refuses, with the first bad line's number, any other spelling"
  pub answered : ReadAnswered text lent k n l lent'
  -- the text is the listing of the words at the front; those behind them are as they were
  pub words : k ≡ 0 → ListingOf text (take n lent')
  pub behind : k ≡ 0 → drop n lent' ≡ drop n lent
  -- "listing what was read gives the same bytes": whatever bytes are lent to a call that lists these words, if they are enough
  pub back : k ≡ 0 → (out : List ℕ) (k₂ m : ℕ) (out' : List ℕ) → length text ≤ length out → ListsIn (take n lent') out k₂ m out'
      → SameBytes text k₂ m out'

-- what reading a log comes to: its answer, the refused line, the cursor, the events and what is not read
pub record Came (r : Reading) (k l : ℕ) (c : Cursor) (events rest : List ℕ) : Type 0 where
  pub answer : k ≡ r.answer
  pub line : l ≡ refused_line r
  pub cursor : c ≡ r.cursor
  pub written : events ≡ r.events
  pub unread : rest ≡ r.rest

-- Q-12, of a bus log read from a cursor on: k the answer, l the line that is refused, n the events, m the bytes read, and the cursor then
pub record OfLog (t names log : List ℕ) (c : Cursor) (out : List ℕ) (k l n m : ℕ) (c' : Cursor) (out' : List ℕ) : Type 0 where
  pub answered : LogAnswered t names log c out k l n m c' out'
  -- the events stand at the front: "Every refusal keeps the events written before it"
  pub events : take n out' ≡ (read_log t names log c (length out)).events
  -- Where there was no room: a call with the rest of the log and the cursor, into whatever output, gives the events that one call with both outputs'
  -- room gives behind these, and ends as that one does.
  pub on : k ≡ 11 → (out₂ : List ℕ) (k₂ l₂ n₂ m₂ : ℕ) (c₂ : Cursor) (out₂' : List ℕ) → ReadsLogIn t names (drop m log) c' out₂ k₂ l₂ n₂ m₂ c₂ out₂'
      → Came (read_log t names log c (length out + length out₂)) k₂ l₂ c₂ (take n out' ++ take n₂ out₂') (drop m₂ (drop m log))
  -- Where all was read: a call with what follows in the log and the cursor, into an output with at least the room that was left, gives behind these
  -- events what one call with both parts gives, and ends as that one does.
  pub parts : k ≡ 0 → (more out₂ : List ℕ) (k₂ l₂ n₂ m₂ : ℕ) (c₂ : Cursor) (out₂' : List ℕ) → length out ≤ n + length out₂
      → ReadsLogIn t names more c' out₂ k₂ l₂ n₂ m₂ c₂ out₂'
      → Came (read_log t names (log ++ more) c (n + length out₂)) k₂ l₂ c₂ (take n out' ++ take n₂ out₂') (drop m₂ more)
  -- "time exact": between two lines the ticks given are the whole 10 milliseconds since the first line's time
  pub exact : (k ≡ 11 → ⊥) → WholeTicks c → WholeTicks c'
