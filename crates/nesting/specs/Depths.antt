-- The depths of lists, as they are found level by level: a word for each list, 0 as long as it is not found.
use Rattle.std.specs.Prelude.{ℕ, ◌+◌, ◌<◌, ◌≤◌, ◌≡◌, Bool, false, cond, ◌&&◌, List, leb, eqb, length}
use Rattle.rulebook.specs.Words.{word}
use Rattle.rulebook.specs.Table.{lists, table_length}
use Rattle.rulebook.specs.Expressions.{deepest}
use Rattle.rulebook.specs.Reasons.{list_nests, list_within}

-- list l was found in the first d rounds
unfoldable pub found_by : List ℕ → ℕ → ℕ → Bool
found_by depths d l = leb 1 (word depths l) && leb (word depths l) d

-- the word of list l after round d + 1
unfoldable pub next_depth : List ℕ → List ℕ → ℕ → ℕ → ℕ
next_depth t depths d l = cond (eqb (word depths l) 0) (cond (list_nests t (found_by depths d) l) (d + 1) 0) (word depths l)

-- d rounds have found the lists that are at most d deep, each at its depth
pub record Depths (d : ℕ) (t depths : List ℕ) : Type 0 where
  pub long : length depths ≡ 256
  pub small : (l : ℕ) → word depths l ≤ d
  pub says : (e l : ℕ) → e ≤ d → found_by depths e l ≡ list_within e t l

-- after round d + 1, and after one that found none
pub record Level (d : ℕ) (t : List ℕ) (more : Bool) (depths : List ℕ) : Type 0 where
  pub next : Depths (d + 1) t depths
  pub none : more ≡ false → Depths d t depths

-- a table whose lists have a word each, after d rounds
pub record Searched (d : ℕ) (t depths : List ℕ) : Type 0 where
  pub few : lists t ≤ 256
  pub found : Depths d t depths

-- the same, where a round is still to come
pub record NextRound (d : ℕ) (t depths : List ℕ) : Type 0 where
  pub searched : Searched d t depths
  pub shallow : d < 7

-- a table that is as long as its header asks for, with the depths of its lists
pub record Measured (t depths : List ℕ) : Type 0 where
  pub whole : length t ≡ table_length t
  pub found : Depths deepest t depths
