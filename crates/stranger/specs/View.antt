-- The view of operator o: the state words and the trace words that are no stranger's to o, those of o and of the platform. What o
-- sees of a log.
use Rattle.std.specs.Prelude.{◌≡◌, Bool, true, false, ◌⊎◌, List, [], ◌∷◌, ℕ, zero, suc, length}
use Rattle.rulebook.specs.Words.{word}
use Rattle.rulebook.specs.Table.{network_owner, item_ask, platform, stranger}
use Rattle.rulebook.specs.State.{state_length, thing, owner_of}
use Rattle.rulebook.specs.Lists.{trace_kind, trace_owner, trace_a}
use Rattle.stranger.specs.Logs.{Entry, strangers_entry}

-- State words. A word's owner is that of its port, rule, network or source.

unfoldable pub strangers_word : List ℕ → ℕ → ℕ → Bool
strangers_word t o i = stranger o (owner_of t (thing t i))

-- two states that o cannot tell apart
pub record SameView (t : List ℕ) (o : ℕ) (s₁ s₂ : List ℕ) : Type 0 where
  pub long : length s₁ ≡ length s₂
  pub same : (i : ℕ) → strangers_word t o i ≡ false → word s₁ i ≡ word s₂ i

-- the words at the n indexes from i on, a stranger's left out
unfoldable pub visible_from : List ℕ → ℕ → List ℕ → ℕ → ℕ → List ℕ
visible_from t o s i zero = []
visible_from t o s i (suc n) =
    elim (strangers_word t o i) [ true ↦ visible_from t o s (suc i) n | false ↦ word s i ∷ visible_from t o s (suc i) n ]

unfoldable pub visible_words : List ℕ → ℕ → List ℕ → List ℕ
visible_words t o s = visible_from t o s 0 (state_length t)

-- Trace words: those of o and of the platform together, in order.

unfoldable pub own_words : ℕ → List ℕ → List ℕ
own_words o [] = []
own_words o (w ∷ ws) = elim (stranger o (trace_owner w)) [ true ↦ own_words o ws | false ↦ w ∷ own_words o ws ]

-- a word by which a network is asked for a mode has the network's owner or the platform's
abbrev pub AsksOwn : List ℕ → ℕ → Type 0
AsksOwn t w = trace_kind w ≡ item_ask → (trace_owner w ≡ network_owner t (trace_a w)) ⊎ (trace_owner w ≡ platform)

-- What a stranger's entry from s is to o: no state word of o or of the platform changes, no trace word of theirs is written.
pub record Unseen (t : List ℕ) (o : ℕ) (s : List ℕ) (x : Entry) : Type 0 where
  pub state : SameView t o s x.state
  pub words : own_words o x.words ≡ []

-- What o sees after an entry: the state words and the trace words that are no stranger's.

pub record Seen : Type 0 where
  pub state : List ℕ
  pub words : List ℕ

unfoldable pub seen_of : List ℕ → ℕ → Entry → Seen
seen_of t o x = record { state = visible_words t o x.state; words = own_words o x.words }

-- what o sees of a log: one view for each entry that is no stranger's
unfoldable pub seen : List ℕ → ℕ → List Entry → List Seen
seen t o [] = []
seen t o (x ∷ xs) = elim (strangers_entry o x) [ true ↦ seen t o xs | false ↦ seen_of t o x ∷ seen t o xs ]
