-- A rule of an accepted table is ready where all ports are defined. Assumes nothing.
use Prim.Native.Nat.{ℕ, ◌<◌}
use mathlib.Core.Path.{◌≡◌, sym}
use mathlib.Core.Bool.{true, false}
use mathlib.Core.List.{List}
use native.Mathlib.Omega.{arith}
use Rattle.rulebook.specs.Words.{any}
use Rattle.rulebook.specs.Table.{ports, expressions, rule_expression}
use Rattle.rulebook.specs.Reasons.{accepted}
use Rattle.rulebook.specs.Expressions.{deepest}
use Rattle.rulebook.specs.Lists.{undefined_in, unready}
use Rattle.laws.proofs.Facts.{facts}
use Rattle.laws.proofs.Expressions.{mentions-none}
use Rattle.laws.proofs.Walks.{any_at}

-- the rules of an accepted table mention none but its ports
pub all-defined : (t s : List ℕ) (r e n : ℕ) → accepted t ≡ true → e ≡ rule_expression t r → e < expressions t → n ≡ ports t
    → any 0 n (undefined_in s) ≡ false → false ≡ unready t s r
unfolding unready
all-defined t s r e n ok he there hn none =
    let defined : (p : ℕ) → p < ports t → undefined_in s p ≡ false =
    λ p b. any_at (undefined_in s) 0 n p none (omega arith) (omega (arith, b, hn)) in
    rw (← he) (sym (mentions-none t (facts t ok) (undefined_in s) defined deepest e there))
