-- Q-10's one-step laws: what an evaluation visits and skips, which evaluations of a run count, what a refusal reports. Assumes nothing.
use Prim.Native.Nat.{ℕ, suc, ◌+◌}
use mathlib.Core.Path.{◌≡◌, refl}
use mathlib.Core.Bool.{Bool, true, false, or-true}
use mathlib.Core.List.{List}
use native.Mathlib.Nat.{add-zero}
use borrow.Author.Tests.{ne_eqb}
use Rattle.rulebook.specs.Table.{expression_kind, left, right, operator_and, operator_or, operator_xor, operator_nand, operator_not}
use Rattle.rulebook.specs.Expressions.{operator, holds, settled, skips_right, expression_visited, visited}
use Rattle.rulebook.specs.Lists.{Run, act, unready, visits_in, judge, run_rule}
use Rattle.rulebook.specs.Arbitration.{evaluated, visits_by}
use Rattle.rulebook.specs.Step.{conclude}

-- the sides: true settles an OR, false an AND or a NAND; a NOT has no right side
pub sides : (settled operator_and false ≡ true) × (settled operator_and true ≡ false) × (settled operator_nand false ≡ true) × (settled operator_nand true ≡ false)
    × (settled operator_or true ≡ true) × (settled operator_or false ≡ false) × (settled operator_xor true ≡ false) × (settled operator_xor false ≡ false)
unfolding settled
sides = (refl, refl, refl, refl, refl, refl, refl, refl)

module _ (d : ℕ) (t : List ℕ) (v : ℕ → ℕ) (e : ℕ) where
  pub condition-visited : operator t e ≡ false → visited (suc d) t v e ≡ 1
  unfolding visited expression_visited
  condition-visited c = rw (c, expression_visited)

  module _ (o : operator t e ≡ true) where
    -- its left side settles it: what stands on the right is not visited
    pub settled-visited : settled (expression_kind t e) (holds d t v (left t e)) ≡ true → visited (suc d) t v e ≡ 1 + visited d t v (left t e)
    unfolding visited expression_visited skips_right
    settled-visited h = rw (o, expression_visited, h, or-true, add-zero)

    pub not-visited : expression_kind t e ≡ operator_not → visited (suc d) t v e ≡ 1 + visited d t v (left t e)
    unfolding visited expression_visited skips_right
    not-visited k = rw (o, expression_visited, k, add-zero)

    pub open-visited : (expression_kind t e ≡ operator_not → ⊥) → settled (expression_kind t e) (holds d t v (left t e)) ≡ false
        → visited (suc d) t v e ≡ 1 + visited d t v (left t e) + visited d t v (right t e)
    unfolding visited expression_visited skips_right
    open-visited k h = rw (o, expression_visited, ne_eqb _ _ k, h)

-- "Rule items count", by the values that they evaluate with; one with an undefined port evaluates nothing, and no other item does

module _ (t : List ℕ) (o r : ℕ) (x : Run) where
  pub judge-visits : (judge t o r x).visits ≡ x.visits + visits_in t x.state r
  unfolding judge
  judge-visits = refl

  pub undefined-visits : (below : ℕ → Run → Run) → unready t x.state r ≡ true → (run_rule below t o r x).visits ≡ x.visits
  unfolding run_rule
  undefined-visits below u = rw (u, run_rule)

  pub act-visits : (act t o r x).visits ≡ x.visits
  unfolding act
  act-visits = refl

-- of arbitration, the rules that are evaluated and no others

module _ (t : List ℕ) (q : ℕ → Bool) (s : List ℕ) (r : ℕ) where
  pub evaluated-visits : evaluated t q s r ≡ true → visits_by t q s r ≡ visits_in t s r
  unfolding visits_by
  evaluated-visits e = rw e

  pub passed-over-visits : evaluated t q s r ≡ false → visits_by t q s r ≡ 0
  unfolding visits_by
  passed-over-visits e = rw e

-- "Refusals report 0"
pub refusal-visits : (fault : ℕ) (s : List ℕ) (x : Run) → (fault ≡ 0 → ⊥) → (conclude fault s x).visits ≡ 0
unfolding conclude
refusal-visits fault s x n = rw (ne_eqb fault 0 n)
