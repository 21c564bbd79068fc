-- Two results of evaluating in the part of a table that starts with its expressions are equal, and their visits few. Assumes nothing.
use Prim.Native.Nat.{ℕ, ◌/◌, ◌^◌, ◌≤◌}
use mathlib.Core.Path.{◌≡◌, ap₂, sym, ◌∙◌}
use mathlib.Core.List.{List}
use native.Mathlib.Omega.{arith}
use lib.Pow.{pow_mono}
use Rattle.laws.proofs.Visits.{visited-most}
use Rattle.evaluation.specs.declared.Found.{Found}
use Rattle.evaluation.specs.Found.{Finds}
use Rattle.evaluation.proofs.Word.{visits-told}
use Rattle.expression.proofs.Section.{under, section-of}
use Rattle.evaluation.specs.Section.{EvaluatedIn}

pub one-evaluated : (x : List ℕ) (v : ℕ → ℕ) (e d a b : ℕ) → EvaluatedIn x v e d a → EvaluatedIn x v e d b → a ≡ b
one-evaluated x v e d a b h k = h (under x) (section-of x) ∙ sym (k (under x) (section-of x))

pub one_found : (t s : List ℕ) (r : ℕ) (a b : Found) → Finds t s r a → Finds t s r b → a ≡ b
one_found t s r a b h k = ap₂ (λ (n m : ℕ). record { result = n; visits = m }) (h.result ∙ sym k.result) (h.visits ∙ sym k.visits)

-- down to seven levels an evaluation makes few visits
pub few-visits : (x : List ℕ) (v : ℕ → ℕ) (e d r : ℕ) → d ≤ 7 → EvaluatedIn x v e d r → r / 2 ≤ 127
few-visits x v e d r h k =
    let is = visits-told (under x) v e d r (k (under x) (section-of x)) in
    let most = visited-most d (under x) v e in
    let p : 2 ^ d ≤ 2 ^ 7 = pow_mono h in
    omega arith
