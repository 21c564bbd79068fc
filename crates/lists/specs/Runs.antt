-- What running code asks of a run of the rulebook, and what it promises.
use Rattle.std.specs.Prelude.{ℕ, ◌+◌, ◌≤◌, ◌<◌, ◌≡◌, Bool, cond, List, ◌++◌, length, drop, eqb}
use Rattle.rulebook.specs.Table.{item_call}
use Rattle.rulebook.specs.Lists.{Run, stops}
use Rattle.lists.specs.declared.Written.{Written}

-- Asked before run x: its words fit the lent trace, and its visits fit 32 bits.
pub record Safe (x : Run) (trace : List ℕ) : Type 0 where
  pub room : length x.words ≤ length trace
  pub few : x.visits < 4294967296

-- Promised after it, of the lent outcome words os: the state is the run's; the run's words stand at the front of the trace, whose other
-- words are unchanged; the count is the number of words written; the outcomes behind those read are the ones that the run has not read;
-- the visits are the run's.
pub record Ran (os : List ℕ) (x : Run) (s before after : List ℕ) (w : Written) : Type 0 where
  pub state : s ≡ x.state
  pub words : after ≡ x.words ++ drop (length x.words) before
  pub count : w.count ≡ length x.words
  pub outcomes : drop w.read os ≡ x.outcomes
  pub inside : w.read ≤ length os
  pub visits : w.visits ≡ x.visits

-- What is written and read is counted from nothing, by one word, and by what one run does after another; the visits are all that were made.

abbrev pub nothing : Written
nothing = record { count = 0; read = 0; visits = 0 }

abbrev pub one_word : ℕ → ℕ → Written
one_word read visits = record { count = 1; read = read; visits = visits }

abbrev pub plus : Written → Written → Written
plus a b = record { count = a.count + b.count; read = b.read; visits = a.visits + b.visits }

-- what a run has read of the outcomes behind so many, counted with those
abbrev pub read_behind : ℕ → Written → Written
read_behind before w = record { count = w.count; read = before + w.read; visits = w.visits }

-- asked before they are added: the sums are numbers of 64 and of 32 bits
pub record Addable (a b : Written) : Type 0 where
  pub count : a.count + b.count < 18446744073709551616
  pub visits : a.visits + b.visits < 4294967296

-- What an item does with the outcomes that are left: so many are read after one of this kind, and whether it stops its list.

pub record ReadOn (kind : ℕ) (os : List ℕ) (r : ℕ) : Type 0 where
  pub left : drop r os ≡ cond (eqb kind item_call) (drop 1 os) os
  pub inside : r ≤ length os

abbrev pub Stops : List ℕ → ℕ → List ℕ → Bool → Type 0
Stops t i os r = (x : Run) → x.outcomes ≡ os → stops t i x ≡ r
