-- Flags as words: a number's flag is up if its word is not 0.
use Rattle.std.specs.Prelude.{ℕ, Bool, not, List, eqb}
use Rattle.rulebook.specs.Words.{word}

unfoldable pub flagged : List ℕ → ℕ → Bool
flagged flags i = not (eqb (word flags i) 0)
