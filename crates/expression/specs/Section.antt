-- What is found of an expression in the part of a table that starts with its expressions: the code goes over that part alone.
use Rattle.std.specs.Prelude.{ℕ, ◌≡◌, Bool, List, drop}
use Rattle.rulebook.specs.Table.{expressions_from}
use Rattle.rulebook.specs.Expressions.{mentions}

-- x is that part of table t
abbrev pub Section : List ℕ → List ℕ → Type 0
Section t x = x ≡ drop (expressions_from t) t

-- b is whether expression e, d deep at most, mentions one of q's ports, in every table of which x is that part
abbrev pub MentionsIn : List ℕ → (ℕ → Bool) → ℕ → ℕ → Bool → Type 0
MentionsIn x q e d b = (t : List ℕ) → Section t x → b ≡ mentions d t q e
