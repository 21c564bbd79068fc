-- Q-11: what stays when answer 7 is gone. The definitions' limit of seven levels cuts no run and no evaluation short: on a table that keeps
-- the rules, more levels to spend change nothing.
use Rattle.std.specs.Prelude.{◌≡◌, Bool, List, ℕ, ◌+◌, ◌<◌}
use Rattle.rulebook.specs.Table.{expressions, lists}
use Rattle.rulebook.specs.Expressions.{deepest, mentions, holds, visited}
use Rattle.rulebook.specs.Lists.{Run, run_items, run_list}

pub record MoreLevels (t : List ℕ) : Type 0 where
  -- list l, from every run so far: from every state, whatever was written before, with whatever outcomes are left
  pub list : (l : ℕ) → l < lists t → (k : ℕ) (x : Run) → run_list (deepest + k) t l x ≡ run_list deepest t l x
  -- hence the lists that it names run as they would by themselves, at whatever level they stand
  pub within : (l : ℕ) → l < lists t → (x : Run) → run_list deepest t l x ≡ run_items (run_list deepest t) t l x
  -- expression e: the ports of q's that it mentions, what it gives by the values v, and the words visited for that
  pub mentions : (e : ℕ) → e < expressions t → (k : ℕ) (q : ℕ → Bool) → mentions (deepest + k) t q e ≡ mentions deepest t q e
  pub holds : (e : ℕ) → e < expressions t → (k : ℕ) (v : ℕ → ℕ) → holds (deepest + k) t v e ≡ holds deepest t v e
  pub visited : (e : ℕ) → e < expressions t → (k : ℕ) (v : ℕ → ℕ) → visited (deepest + k) t v e ≡ visited deepest t v e
