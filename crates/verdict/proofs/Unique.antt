-- Any two results that the promise allows are equal. Assumes nothing.
use Prim.Native.Nat.{ℕ}
use mathlib.Core.Path.{◌≡◌}
use mathlib.Core.List.{List}
use Rattle.session.proofs.Unique.{one-laying}
use Rattle.verdict.specs.Verdict.{LaysVerdict}

pub one-verdict : (t : List ℕ) {out : List ℕ} {m n : ℕ} {a b : List ℕ} → LaysVerdict t out m a → LaysVerdict t out n b → (m ≡ n) × (a ≡ b)
one-verdict t p q = one-laying p q
