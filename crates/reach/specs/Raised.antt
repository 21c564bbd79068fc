-- Flags of lists, as they go up by what rules and lists name: a word for each number, of which those below 255 can be a list's.
use Rattle.std.specs.Prelude.{ℕ, ◌+◌, ◌<◌, ◌≤◌, ◌≡◌, Bool, true, false, ◌&&◌, ◌||◌, List, eqb, length}
use Rattle.rulebook.specs.Words.{word, any}
use Rattle.rulebook.specs.Table.{table_length, rules, lists, nested_only, no_list, first_item, item_count}
use Rattle.rulebook.specs.Expressions.{deepest}
use Rattle.rulebook.specs.Reasons.{names, nesting, list_within, rule_reaches, item_reaches}
use Rattle.laws.specs.Acceptance.{Everywhere}
use Rattle.laws.specs.Sequence.{RuleNames, NamesList}
use Rattle.laws.specs.Reached.{Reached}
use Rattle.words.specs.Flags.{flagged}
use Rattle.nesting.specs.Depths.{Depths}

-- Which lists are named: k is the list asked for.

unfoldable pub is_list : ℕ → ℕ → Bool
is_list k l = eqb l k

abbrev pub rule_has : List ℕ → ℕ → ℕ → Bool
rule_has t r k = rule_reaches t (is_list k) r

abbrev pub item_has : List ℕ → ℕ → ℕ → Bool
item_has t i k = item_reaches t (is_list k) i

unfoldable pub list_has : List ℕ → ℕ → ℕ → Bool
list_has t l k = any (first_item t l) (item_count t l) (item_reaches t (is_list k))

-- rule r isn't nested-only and has list k
unfoldable pub starts_list : List ℕ → ℕ → ℕ → Bool
starts_list t k r = eqb (nested_only t r) 0 && rule_reaches t (is_list k) r

abbrev pub starts : List ℕ → ℕ → ℕ → Bool
starts t r k = starts_list t k r

-- by list l in the round of depth d + 1
unfoldable pub passes_on : List ℕ → List ℕ → List ℕ → ℕ → ℕ → ℕ → Bool
passes_on t depths flags d l k = eqb (word depths l) (d + 1) && flagged flags l && list_has t l k

-- the flags that p says are up as well
pub record Gained (p : ℕ → Bool) (before after : List ℕ) : Type 0 where
  pub long : length after ≡ 256
  pub says : (k : ℕ) → k < no_list → flagged after k ≡ (flagged before k || p k)

-- in the round of depth d + 1
pub record Turn (d : ℕ) (flags : List ℕ) : Type 0 where
  pub long : length flags ≡ 256
  pub shallow : d < 7

-- the lists of the rules that aren't nested-only are up, and no others
pub record Started (t flags : List ℕ) : Type 0 where
  pub long : length flags ≡ 256
  pub says : (k : ℕ) → k < no_list → flagged flags k ≡ any 0 (rules t) (starts_list t k)

-- Between two rounds: what is up is reached, the lists of the rules that aren't nested-only are up, and so is what a list names that is
-- up itself and deeper than d.
pub record Closed (d : ℕ) (t flags : List ℕ) : Type 0 where
  pub long : length flags ≡ 256
  pub sound : (l : ℕ) → l < no_list → flagged flags l ≡ true → Reached t l
  pub started : (r l : ℕ) → r < rules t → nested_only t r ≡ 0 → RuleNames t r l → flagged flags l ≡ true
  pub closed : (l x : ℕ) → l < lists t → x < no_list → list_within d t l ≡ false → NamesList t l x → flagged flags l ≡ true → flagged flags x ≡ true

-- a table with the depths of its lists, which have a number below 255 each
pub record Sorted (t depths : List ℕ) : Type 0 where
  pub few : lists t ≤ no_list
  pub found : Depths deepest t depths

-- the round of depth d + 1 is next
pub record Level (d : ℕ) (t depths flags : List ℕ) : Type 0 where
  pub sorted : Sorted t depths
  pub shallow : d < 7
  pub closed : Closed (d + 1) t flags

-- a table that keeps rules 6 and 7
pub record Judged (t depths : List ℕ) : Type 0 where
  pub sorted : Sorted t depths
  pub whole : length t ≡ table_length t
  pub named : Everywhere names t
  pub nested : Everywhere nesting t

-- the same, where no round has been
pub record Rooted (t depths flags : List ℕ) : Type 0 where
  pub judged : Judged t depths
  pub started : Started t flags
