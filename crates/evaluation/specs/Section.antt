-- What is found of an expression in the part of a table that starts with its expressions: the code goes over that part alone.
use Rattle.std.specs.Prelude.{ℕ, List}
use Rattle.expression.specs.Section.{Section}
use Rattle.evaluation.specs.Found.{Evaluates}

-- r is what evaluating expression e, d deep at most, reports in every table of which x is that part
abbrev pub EvaluatedIn : List ℕ → (ℕ → ℕ) → ℕ → ℕ → ℕ → Type 0
EvaluatedIn x v e d r = (t : List ℕ) → Section t x → Evaluates t v e d r
