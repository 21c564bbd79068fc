-- A table's reason, its place and B, each in decimal on a line of its own; an accepted table has reason 0 and place 0, a refused one B 0.
use Rattle.std.specs.Prelude.{ℕ, List, ◌++◌}
use Rattle.text.specs.Lines.{decimal_line}
use Rattle.tables.specs.Finding.{Finding, promised}
use Rattle.session.specs.Promises.{PutLines}

unfoldable pub verdict_lines : ℕ → ℕ → ℕ → List ℕ
verdict_lines reason place bound = decimal_line reason ++ decimal_line place ++ decimal_line bound

abbrev pub lines_of : Finding → List ℕ
lines_of x = verdict_lines x.reason x.place x.bound

-- `lay_verdict` of table t: three numbers of 32 bits have at most 33 bytes with their newlines
abbrev pub LaysVerdict : List ℕ → List ℕ → ℕ → List ℕ → Type 0
LaysVerdict t out n after = PutLines 33 (lines_of (promised t)) out n after
