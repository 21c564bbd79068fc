-- Demand 1. "Any table, state and event may be handed in. Every public entry checks for itself. A refusal gives the numbered answer of
-- document 01, first fault first, and changes no word of state or trace." A field an entry, over what it promises in numbers.
use Rattle.std.specs.Prelude.{◌≡◌, ◌⊎◌, true, false, ◌&&◌, List, [], ℕ, ◌≤◌, ◌<◌, length, drop}
use Rattle.rulebook.specs.Words.{between}
use Rattle.rulebook.specs.Table.{networks}
use Rattle.rulebook.specs.Reasons.{check, accepted, bound}
use Rattle.rulebook.specs.State.{state_length, fits, fresh}
use Rattle.rulebook.specs.Step.{first_fault}
use Rattle.rulebook.specs.BusLog.{Cursor, names_stand, next_line, fault}
use Rattle.laws.specs.Acceptance.{Given}
use Rattle.manager.specs.Promises.{ChecksTableIn, MakesFreshIn, ChecksStateIn, TakesEventIn, PlaysIn}
use Rattle.panel.specs.Printed.{panel}
use Rattle.panel.specs.Promises.{ShowsIn}
use Rattle.hold.specs.Promises.{HoldsIn}
use Rattle.listing.specs.Lines.{listing, ListingOf, BadLine}
use Rattle.listing.specs.Promises.{ListsIn, ReadsIn}
use Rattle.buslog.specs.Promises.{ReadsLogIn}
use Rattle.demands.specs.Plays.{PlayAnswered}

-- the table check: the first reason that holds, at the lowest word that breaks its rule; B of an accepted table
pub record TableAnswered (t : List ℕ) (reason place b : ℕ) : Type 0 where
  pub first : (reason ≡ 0 → ⊥) → Given t reason place
  pub no_place : reason ≡ 0 → place ≡ 0
  pub bound : reason ≡ 0 → b ≡ bound t
  pub no_bound : (reason ≡ 0 → ⊥) → b ≡ 0

-- making a fresh state: 1 before 2
pub record FreshAnswered (t s : List ℕ) (k : ℕ) (s' : List ℕ) : Type 0 where
  pub bad_table : accepted t ≡ false → k ≡ 1
  pub wrong_length : accepted t ≡ true → (length s ≡ state_length t → ⊥) → k ≡ 2
  pub done : accepted t ≡ true → length s ≡ state_length t → k ≡ 0
  pub made : k ≡ 0 → s' ≡ fresh t
  pub state_kept : (k ≡ 0 → ⊥) → s' ≡ s

-- the state check: 1 before 2
pub record StateAnswered (t s : List ℕ) (k : ℕ) : Type 0 where
  pub bad_table : accepted t ≡ false → k ≡ 1
  pub unfit : accepted t ≡ true → fits t s ≡ false → k ≡ 2
  pub done : accepted t ≡ true → fits t s ≡ true → k ≡ 0

-- the event call
pub record EventAnswered (t s trace os : List ℕ) (e k n v : ℕ) (s' trace' : List ℕ) : Type 0 where
  pub number : k ≡ first_fault t s (length trace) os e
  -- Q-11: "All other answers keep their numbers and order": 0 to 6 and 8, and 7 is not used
  pub numbers : (k ≤ 6) ⊎ (k ≡ 8)
  pub state_kept : (k ≡ 0 → ⊥) → s' ≡ s
  pub trace_kept : (k ≡ 0 → ⊥) → trace' ≡ trace
  pub no_count : (k ≡ 0 → ⊥) → n ≡ 0
  -- Q-10: "Refusals report 0"
  pub no_visits : (k ≡ 0 → ⊥) → v ≡ 0

-- the panel: 9 before 1 before 2, then 11
pub record PanelAnswered (o : ℕ) (t s ws out : List ℕ) (k n : ℕ) (out' : List ℕ) : Type 0 where
  pub no_operator : (o ≡ 0) ⊎ (15 < o) → k ≡ 9
  pub bad_table : 1 ≤ o → o ≤ 15 → accepted t ≡ false → k ≡ 1
  pub unfit : 1 ≤ o → o ≤ 15 → accepted t ≡ true → fits t s ≡ false → k ≡ 2
  pub no_room : 1 ≤ o → o ≤ 15 → accepted t ≡ true → fits t s ≡ true → length out < length (panel o t s ws) → k ≡ 11
  pub done : 1 ≤ o → o ≤ 15 → accepted t ≡ true → fits t s ≡ true → length (panel o t s ws) ≤ length out → k ≡ 0
  pub bytes_kept : (k ≡ 0 → ⊥) → out' ≡ out
  pub no_bytes : (k ≡ 0 → ⊥) → n ≡ 0

-- an event held against a supplier's recording: our step's own answer, as the event call gives it, and only where it refuses
pub record HoldAnswered (t s trace os : List ℕ) (e v k n m : ℕ) (s' trace' : List ℕ) : Type 0 where
  pub refused : (first_fault t s (length trace) os e ≡ 0 → ⊥) → (v ≡ 1) × (k ≡ first_fault t s (length trace) os e)
  pub done : first_fault t s (length trace) os e ≡ 0 → v ≡ 1 → ⊥
  pub state_kept : v ≡ 1 → s' ≡ s
  pub trace_kept : v ≡ 1 → trace' ≡ trace
  pub no_count : v ≡ 1 → n ≡ 0
  pub no_visits : v ≡ 1 → m ≡ 0

-- a table's listing: the table check's reason where it is one of the first four, then 11
pub record ListAnswered (t out : List ℕ) (k n : ℕ) (out' : List ℕ) : Type 0 where
  pub reason : between 1 4 (check t).reason ≡ true → k ≡ (check t).reason
  pub no_room : between 1 4 (check t).reason ≡ false → length out < length (listing t) → k ≡ 11
  pub done : between 1 4 (check t).reason ≡ false → length (listing t) ≤ length out → k ≡ 0
  pub bytes_kept : (k ≡ 0 → ⊥) → out' ≡ out
  pub no_bytes : (k ≡ 0 → ⊥) → n ≡ 0

-- a listing read back: the first bad line, 12 with its number l, then 11
pub record ReadAnswered (text lent : List ℕ) (k n l : ℕ) (lent' : List ℕ) : Type 0 where
  pub bad_line : k ≡ 12 → BadLine text l
  pub no_line : (k ≡ 12 → ⊥) → l ≡ 0
  pub no_listing : ((t : List ℕ) → ListingOf text t → ⊥) → k ≡ 12
  pub no_room : (t : List ℕ) → ListingOf text t → length lent < length t → k ≡ 11
  pub done : (t : List ℕ) → ListingOf text t → length t ≤ length lent → k ≡ 0
  pub words_kept : (k ≡ 0 → ⊥) → lent' ≡ lent
  pub no_words : (k ≡ 0 → ⊥) → n ≡ 0

-- a log read from a cursor on: a table with a reason, then a list that is not N different names, "refused as line 0" with nothing written; then the first
-- line that is refused, by its first fault, its number l with it, and whatever refuses leaves the words behind the events as they were
pub record LogAnswered (t names log : List ℕ) (c : Cursor) (out : List ℕ) (k l n m : ℕ) (c' : Cursor) (out' : List ℕ) : Type 0 where
  pub no_table : accepted t ≡ false → k ≡ 1
  pub no_names : accepted t ≡ true → names_stand (networks t) names ≡ false → k ≡ 13
  pub line_zero : (accepted t && names_stand (networks t) names) ≡ false → (l ≡ 0) × (n ≡ 0) × (m ≡ 0) × (c' ≡ c) × (out' ≡ out)
  pub read : accepted t ≡ true → names_stand (networks t) names ≡ true → k ≡ 0 → (l ≡ 0) × (drop m log ≡ [])
  pub refused : accepted t ≡ true → names_stand (networks t) names ≡ true → (k ≡ 0 → ⊥) → l ≡ next_line c'.lines
  pub faulty : accepted t ≡ true → names_stand (networks t) names ≡ true → (k ≡ 0 → ⊥) → (k ≡ 11 → ⊥) → fault t names c' (drop m log) ≡ k
  pub no_room : k ≡ 11 → n ≡ length out
  pub words_kept : drop n out' ≡ drop n out

pub record Demand1 : Type 0 where
  pub check_table : (t : List ℕ) (reason place b : ℕ) → ChecksTableIn t reason place b → TableAnswered t reason place b
  pub make_fresh : (t s : List ℕ) (k : ℕ) (s' : List ℕ) → MakesFreshIn t s k s' → FreshAnswered t s k s'
  pub check_state : (t s : List ℕ) (k : ℕ) → ChecksStateIn t s k → StateAnswered t s k
  pub take_event : (t s trace os : List ℕ) (e k n v : ℕ) (s' trace' : List ℕ) → TakesEventIn t s trace os e k n v s' trace'
      → EventAnswered t s trace os e k n v s' trace'
  -- Q-13: of a panel
  pub panel : (o : ℕ) (t s ws out : List ℕ) (k n : ℕ) (out' : List ℕ) → ShowsIn o t s ws out k n out' → PanelAnswered o t s ws out k n out'
  -- Q-1: of a play the first refusal, and what it changes nothing of
  pub play : (t s trace es : List ℕ) (k n m v : ℕ) (s' trace' : List ℕ) → PlaysIn t s trace es k n m v s' trace' → PlayAnswered t s trace es k n m v s' trace'
  -- Q-7: of a supplier's recording
  pub hold : (t s trace os : List ℕ) (e : ℕ) (theirs their_state : List ℕ) (v k n m : ℕ) (s' trace' : List ℕ)
      → HoldsIn t s trace os e theirs their_state v k n m s' trace' → HoldAnswered t s trace os e v k n m s' trace'
  -- Q-4: of a listing, and of one read back
  pub list : (t out : List ℕ) (k n : ℕ) (out' : List ℕ) → ListsIn t out k n out' → ListAnswered t out k n out'
  pub read : (text lent : List ℕ) (k n l : ℕ) (lent' : List ℕ) → ReadsIn text lent k n l lent' → ReadAnswered text lent k n l lent'
  -- Q-12: of a bus log
  pub read_log : (t names log : List ℕ) (c : Cursor) (out : List ℕ) (k l n m : ℕ) (c' : Cursor) (out' : List ℕ)
      → ReadsLogIn t names log c out k l n m c' out' → LogAnswered t names log c out k l n m c' out'
