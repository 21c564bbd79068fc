-- Q-9: "Demand 3's last sentence then needs the operator's and the platform's calls to meet the same outcomes once strangers' events are
-- struck out." What calls met is read off a log's trace words and lent outcomes: the first outside call of an event read the first of them,
-- and so on, a stranger's call too.
use Rattle.std.specs.Prelude.{◌≡◌, Bool, true, false, cond, ◌&&◌, not, List, [], ◌∷◌, ◌++◌, ℕ, drop, eqb}
use Rattle.rulebook.specs.Words.{word}
use Rattle.rulebook.specs.Table.{edition, item_call, stranger}
use Rattle.rulebook.specs.Step.{heeded}
use Rattle.rulebook.specs.Lists.{trace_kind, trace_owner}
use Rattle.stranger.specs.Logs.{Entry, log_from, strangers_entry, struck_out}

-- the word of an outside call
unfoldable pub calls : ℕ → Bool
calls w = eqb (trace_kind w) item_call

-- of the outcomes os, those behind word w
unfoldable pub behind : ℕ → List ℕ → List ℕ
behind w os = cond (calls w) (drop 1 os) os

-- what a call of o's or of the platform's met
unfoldable pub met_at : ℕ → List ℕ → ℕ → List ℕ
met_at o os w = cond (calls w && not (stranger o (trace_owner w))) (word os 0 ∷ []) []

-- what their calls met among the words of an event, in order; in an entry
unfoldable pub met : ℕ → List ℕ → List ℕ → List ℕ
met o os [] = []
met o os (w ∷ ws) = met_at o os w ++ met o (behind w os) ws

abbrev pub met_by : List ℕ → ℕ → Entry → List ℕ
met_by t o x = met o (heeded t x.outcomes) x.words

-- and entry by entry, the strangers' entries struck out
unfoldable pub met_in : List ℕ → ℕ → List Entry → List (List ℕ)
met_in t o [] = []
met_in t o (x ∷ xs) = elim (strangers_entry o x) [ true ↦ met_in t o xs | false ↦ met_by t o x ∷ met_in t o xs ]

-- "the same outcomes", as far as both go: that equally many calls run is not asked
abbrev pub Agree : List ℕ → List ℕ → Type 0
Agree [] ms = Unit {0}
Agree (a ∷ ls) [] = Unit {0}
Agree (a ∷ ls) (b ∷ ms) = (a ≡ b) × Agree ls ms

abbrev pub AgreeEach : List (List ℕ) → List (List ℕ) → Type 0
AgreeEach [] ms = Unit {0}
AgreeEach (l ∷ ls) [] = Unit {0}
AgreeEach (l ∷ ls) (m ∷ ms) = Agree l m × AgreeEach ls ms

-- two logs that differ, for o, in strangers' events alone
pub record ButStrangers (t : List ℕ) (o : ℕ) (xs ys : List Entry) : Type 0 where
  pub events : struck_out o xs ≡ struck_out o ys
  pub outcomes : AgreeEach (met_in t o xs) (met_in t o ys)

-- That condition can be met.

-- none of the entries is a stranger's to o
abbrev pub NoStrangers : ℕ → List Entry → Type 0
NoStrangers o [] = Unit {0}
NoStrangers o (x ∷ xs) = (strangers_entry o x ≡ false) × NoStrangers o xs

-- no call of the entries reads an outcome: all are good
abbrev pub NoneRead : List ℕ → List Entry → Type 0
NoneRead t [] = Unit {0}
NoneRead t (x ∷ xs) = (heeded t x.outcomes ≡ []) × NoneRead t xs

-- a log as Went says, without strangers' entries, that differs from xs, for o, in strangers' events alone
pub record Partner (t : List ℕ) (o : ℕ) (Went : List Entry → Type 0) (xs : List Entry) : Type 0 where
  pub log : List Entry
  pub went : Went log
  pub own : NoStrangers o log
  pub meets : ButStrangers t o xs log

-- Q-9's condition is not empty, of logs as Went says
pub record MayMeet (t : List ℕ) (Went : List Entry → Type 0) : Type 0 where
  -- where no outcome is read, in edition 1 and in a play, which lends none, the events alone decide
  pub none_read : (o : ℕ) (xs ys : List Entry) → NoneRead t xs → NoneRead t ys → struck_out o xs ≡ struck_out o ys → ButStrangers t o xs ys
  pub first_edition : edition t ≡ 1 → (xs : List Entry) → NoneRead t xs
  pub played : (s es : List ℕ) → NoneRead t (log_from t s es)
  -- whatever outcomes were lent, every log has a partner
  pub partner : (o : ℕ) (xs : List Entry) → Went xs → Partner t o Went xs
