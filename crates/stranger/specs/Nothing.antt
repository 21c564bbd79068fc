-- Q-14, NOTHING OF A STRANGER AT ALL, sentence by sentence, for a table t and one operator o. "Take an accepted table and two event sequences
-- from fresh states": s is the fresh state, and Went o xs says that xs is a run from it. Here a run is whatever the rulebook's step gives; in
-- crate `demands`, whatever calls of the entries gave.
use Rattle.std.specs.Prelude.{◌≡◌, Bool, true, false, not, List, [], ◌∷◌, ℕ, ◌≤◌, ◌<◌}
use Rattle.rulebook.specs.Words.{word}
use Rattle.rulebook.specs.Table.{edition, port_owner, rule_owner, network_owner, source_owner, platform, stranger}
use Rattle.rulebook.specs.Table as table
use Rattle.rulebook.specs.Reasons.{bound}
use Rattle.rulebook.specs.State.{rule_index, network_index, source_index}
use Rattle.rulebook.specs.Lists.{own}
use Rattle.rulebook.specs.Events.{event_owner}
use Rattle.rulebook.specs.Step.{outcomes_known, step}
use Rattle.stranger.specs.Logs.{Entry, state_after, joined}
use Rattle.stranger.specs.Outcomes.{met_by, AgreeEach}

-- "accepted or refused": an event that was sent, whatever it was answered, and of it what an entry has. A refused one has the state as it was,
-- and no words.
pub record Sending : Type 0 where
  pub answer : ℕ
  pub entry : Entry

unfoldable pub entries : List Sending → List Entry
entries [] = []
entries (x ∷ xs) = x.entry ∷ entries xs

-- what was taken, as a log has it
unfoldable pub all_taken : List Entry → List Sending
all_taken [] = []
all_taken (x ∷ xs) = record { answer = 0; entry = x } ∷ all_taken xs

-- "the same ticks, the same events of owner 0 and the same events of one operator": an event is shared unless a stranger to o sent it, by the
-- number in its word, whatever else the word has; a tick's number is 0
unfoldable pub is_shared : ℕ → ℕ → Bool
is_shared o e = not (stranger o (event_owner e))

-- of a sequence of events, those shared; of a run, the sendings of them
unfoldable pub kept : ℕ → List ℕ → List ℕ
kept o [] = []
kept o (e ∷ es) = elim (is_shared o e) [ true ↦ e ∷ kept o es | false ↦ kept o es ]

unfoldable pub shared : ℕ → List Sending → List Sending
shared o [] = []
shared o (x ∷ xs) = elim (is_shared o x.entry.event) [ true ↦ x ∷ shared o xs | false ↦ shared o xs ]

unfoldable pub events_of : List Sending → List ℕ
events_of [] = []
events_of (x ∷ xs) = x.entry.event ∷ events_of xs

unfoldable pub met_by_each : List ℕ → ℕ → List Sending → List (List ℕ)
met_by_each t o [] = []
met_by_each t o (x ∷ xs) = met_by t o x.entry ∷ met_by_each t o xs

-- "Every call lends at least B trace words and no outcome above 1."
pub record Lends (t : List ℕ) (room : ℕ) (os : List ℕ) : Type 0 where
  pub enough : bound t ≤ room
  pub known : outcomes_known os ≡ true

-- what the step gives from state s of event e, with so many trace words and these outcomes lent
unfoldable pub sending : List ℕ → List ℕ → ℕ → List ℕ → ℕ → Sending
sending t s room os e =
    let r = step t s room os e in record { answer = r.answer; entry = record { event = e; outcomes = os; state = r.state; words = r.words } }

-- A run from state s, each state passed on. It asks less than the document: what a stranger's call lends is its own affair, for with fewer words
-- or with an outcome above 1 it is refused.
pub data Ran (t : List ℕ) (o : ℕ) : List ℕ → List Sending → Type 0 where
  none : {s : List ℕ} → Ran t o s []
  sent : {s : List ℕ} (room : ℕ) (os : List ℕ) (e : ℕ) {xs : List Sending} → (is_shared o e ≡ true → Lends t room os) → Ran t o (step t s room os e).state xs
      → Ran t o s (sending t s room os e ∷ xs)

-- "the same .., in the same order, while other operators' accepted or refused events differ as they like": how many these are, what they are and
-- where they stand is nowhere asked.
pub record ShareAllBut (t : List ℕ) (o : ℕ) (xs ys : List Sending) : Type 0 where
  pub events : events_of (shared o xs) ≡ events_of (shared o ys)
  -- "In edition 2 the operator's calls and the platform's must meet the same outcomes in both runs", as far as both go
  pub outcomes : edition t ≡ 2 → AgreeEach (met_by_each t o (shared o xs)) (met_by_each t o (shared o ys))

-- "that operator's port, rule, network and source words agree, and so do its own trace words, in order": those of owner w, in state s₁ beside
-- state s₂, and in the trace words ws₁ beside ws₂
pub record SameOwn (t : List ℕ) (w : ℕ) (s₁ ws₁ s₂ ws₂ : List ℕ) : Type 0 where
  pub ports : (p : ℕ) → p < table.ports t → port_owner t p ≡ w → word s₁ p ≡ word s₂ p
  pub rules : (r : ℕ) → r < table.rules t → rule_owner t r ≡ w → word s₁ (rule_index t r) ≡ word s₂ (rule_index t r)
  pub networks : (n : ℕ) → n < table.networks t → network_owner t n ≡ w → word s₁ (network_index t n) ≡ word s₂ (network_index t n)
  pub sources : (k : ℕ) → k < table.sources t → source_owner t k ≡ w → word s₁ (source_index t k) ≡ word s₂ (source_index t k)
  pub trace : own w ws₁ ≡ own w ws₂

-- after one shared event, taken or refused; its answer is the same too
pub record SameAfter (t : List ℕ) (w : ℕ) (x y : Sending) : Type 0 where
  pub event : x.entry.event ≡ y.entry.event
  pub answer : x.answer ≡ y.answer
  pub words : SameOwn t w x.entry.state x.entry.words y.entry.state y.entry.words

-- "After each": one by one, and equally many
abbrev pub EachPair : (Sending → Sending → Type 0) → List Sending → List Sending → Type 0
EachPair Same [] [] = Unit {0}
EachPair Same [] (y ∷ ys) = ⊥
EachPair Same (x ∷ xs) [] = ⊥
EachPair Same (x ∷ xs) (y ∷ ys) = Same x y × EachPair Same xs ys

-- so it is with Same of what is kept of two runs that go together
abbrev pub AfterEach : (keep : List Sending → List Sending) (Went : List Sending → Type 0) (Together : List Sending → List Sending → Type 0)
    → (Sending → Sending → Type 0) → Type 0
AfterEach keep Went Together Same = (xs ys : List Sending) → Went xs → Went ys → Together xs ys → EachPair Same (keep xs) (keep ys)

-- "After each shared event": so it is with Same, whichever two runs of o's are held side by side
abbrev pub AfterEachShared : (t : List ℕ) (Went : ℕ → List Sending → Type 0) (o : ℕ) → (Sending → Sending → Type 0) → Type 0
AfterEachShared t Went o Same = AfterEach (shared o) (Went o) (ShareAllBut t o) Same

-- Of a run of o's: one without a stranger's event, as Went says, that goes together with it.
pub record StruckOut (t : List ℕ) (o : ℕ) (Went : List Sending → Type 0) (xs : List Sending) : Type 0 where
  pub run : List Sending
  pub went : Went run
  pub own : shared o run ≡ run
  pub meets : ShareAllBut t o xs run

pub record NothingOfStrangers (t s : List ℕ) (Went : ℕ → List Sending → Type 0) : Type 0 where
  pub own : (o : ℕ) → AfterEachShared t Went o (SameAfter t o)
  -- more than is asked: the platform's words agree as well
  pub platforms : (o : ℕ) → AfterEachShared t Went o (SameAfter t platform)
  -- and at the end, whoever sent the last events: the states, and the words of each whole run
  pub ends : (o : ℕ) (xs ys : List Sending) → Went o xs → Went o ys → ShareAllBut t o xs ys
      → SameOwn t o (state_after s (entries xs)) (joined (entries xs)) (state_after s (entries ys)) (joined (entries ys))
  -- and none of this is empty: whatever was sent and lent, there is the run with the strangers' events struck out
  pub struck : (o : ℕ) (xs : List Sending) → Went o xs → StruckOut t o (Went o) xs
