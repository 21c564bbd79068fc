-- What an evaluation reports: what it gives, and how many expression words it visits. Q-10: "counted left before right with the skipping of
-- Q-3 .. equal to the same count over the definition".
use Rattle.std.specs.Prelude.{ℕ, ◌+◌, ◌*◌, ◌≡◌, Bool, cond, List}
use Rattle.rulebook.specs.Expressions.{holds, visited}
use Rattle.rulebook.specs.Lists.{result_in, visits_in}
use Rattle.evaluation.specs.declared.Found.{Found}

-- both in one word: twice the visits, and 1 more where the expression holds
abbrev pub in_word : Bool → ℕ → ℕ
in_word b n = 2 * n + cond b 1 0

-- of expression e of table t, d deep at most, by the values that v gives the ports
abbrev pub Evaluates : List ℕ → (ℕ → ℕ) → ℕ → ℕ → ℕ → Type 0
Evaluates t v e d r = r ≡ in_word (holds d t v e) (visited d t v e)

-- of rule r of table t in state s
pub record Finds (t s : List ℕ) (r : ℕ) (x : Found) : Type 0 where
  pub result : x.result ≡ result_in t s r
  pub visits : x.visits ≡ visits_in t s r
