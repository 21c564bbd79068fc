-- Expressions: how deep they nest, which ports they mention, what they give, and how many words that visits.
-- The `right` of a NOT is a zero field and no argument. Each recursion is one level, over `below` for the arguments, and then d
-- levels.
use Rattle.std.specs.Prelude.{ℕ, zero, suc, ◌+◌, Bool, true, false, cond, ◌&&◌, ◌||◌, not, List, ltb, eqb}
use Rattle.std.specs.Bool.{xor}
use Rattle.rulebook.specs.Words.{between}
use Rattle.rulebook.specs.Table.{expression_kind, condition_port, condition_value, left, right}
use Rattle.rulebook.specs.Table.{condition_equal, condition_not_equal, condition_set, condition_cleared, condition_at_or_above}
use Rattle.rulebook.specs.Table.{operator_and, operator_or, operator_xor, operator_nand, operator_not}

-- "an expression nested seven deep stands, eight is refused"; lists likewise
abbrev pub deepest : ℕ
deepest = 7

-- an expression of kind 4 to 8 is an operator, any other a condition, everywhere alike
abbrev pub operator_kind : ℕ → Bool
operator_kind kind = between operator_and operator_not kind

unfoldable pub operator : List ℕ → ℕ → Bool
operator t e = operator_kind (expression_kind t e)

abbrev pub is_not : List ℕ → ℕ → Bool
is_not t e = eqb (expression_kind t e) operator_not

-- Depth: "a condition has depth 1, an operator 1 more than its deeper argument".

unfoldable pub expression_nests : List ℕ → (ℕ → Bool) → ℕ → Bool
expression_nests t below e =
    elim (operator t e) [
      | true ↦ below (left t e) && (is_not t e || below (right t e))
      | false ↦ true
    ]

-- expression e is at most d deep
unfoldable pub expression_within : ℕ → List ℕ → ℕ → Bool
expression_within zero t e = false
expression_within (suc d) t e = expression_nests t (expression_within d t) e

-- Mention: whether a port that the expression mentions is one of q's.

unfoldable pub expression_mentions : List ℕ → (ℕ → Bool) → (ℕ → Bool) → ℕ → Bool
expression_mentions t q below e =
    elim (operator t e) [
      | true ↦ below (left t e) || not (is_not t e) && below (right t e)
      | false ↦ q (condition_port t e)
    ]

unfoldable pub mentions : ℕ → List ℕ → (ℕ → Bool) → ℕ → Bool
mentions zero t q e = false
mentions (suc d) t q e = expression_mentions t q (mentions d t q) e

-- Evaluation, by the values that v gives the ports.

-- What a condition of a kind says of its port's value and the given one. Document 02, Q-5: "at or above" is "true exactly if the
-- port's value is not below the given one". A kind above 9 says nothing: rule 5 refuses it.
abbrev pub met : ℕ → ℕ → ℕ → Bool
met kind value given =
    cond (eqb kind condition_equal) (eqb value given)
    (cond (eqb kind condition_not_equal) (not (eqb value given))
    (cond (eqb kind condition_set) (eqb value 1)
    (cond (eqb kind condition_cleared) (eqb value 0)
    (cond (eqb kind condition_at_or_above) (not (ltb value given))
    false))))

unfoldable pub condition : List ℕ → (ℕ → ℕ) → ℕ → Bool
condition t v e = met (expression_kind t e) (v (condition_port t e)) (condition_value t e)

unfoldable pub joined : ℕ → Bool → Bool → Bool
joined kind a b =
    cond (eqb kind operator_and) (a && b)
    (cond (eqb kind operator_or) (a || b)
    (cond (eqb kind operator_xor) (xor a b)
    (cond (eqb kind operator_nand) (not (a && b))
    (not a))))

unfoldable pub expression_holds : List ℕ → (ℕ → ℕ) → (ℕ → Bool) → ℕ → Bool
expression_holds t v below e =
    elim (operator t e) [
      | true ↦ joined (expression_kind t e) (below (left t e)) (below (right t e))
      | false ↦ condition t v e
    ]

unfoldable pub holds : ℕ → List ℕ → (ℕ → ℕ) → ℕ → Bool
holds zero t v e = false
holds (suc d) t v e = expression_holds t v (holds d t v) e

-- Visits. Q-10: "the number of expression words visited .., counted left before right with the skipping of Q-3". A condition is 1 visit; an
-- operator 1 and those of its left side, and those of its right side where the left one has not settled it; a NOT 1 and those of its left.
-- An expression that is come to twice is visited twice. Only evaluation visits: the depth and the mention of ports, undefined ones
-- too, are asked of the table and the state without evaluating, and what they read does not count.

-- Q-3: "Once the left side settles an AND, OR or NAND, skip the right side": true settles an OR, false an AND or a NAND, neither an XOR
unfoldable pub settled : ℕ → Bool → Bool
settled kind a =
    cond (eqb kind operator_xor) false
    (cond (eqb kind operator_or) a
    (not a))

-- a is what the left side gives
unfoldable pub skips_right : List ℕ → ℕ → Bool → Bool
skips_right t e a = is_not t e || settled (expression_kind t e) a

unfoldable pub expression_visited : List ℕ → (ℕ → Bool) → (ℕ → ℕ) → ℕ → ℕ
expression_visited t gives below e =
    elim (operator t e) [
      | true ↦ 1 + below (left t e) + cond (skips_right t e (gives (left t e))) 0 (below (right t e))
      | false ↦ 1
    ]

unfoldable pub visited : ℕ → List ℕ → (ℕ → ℕ) → ℕ → ℕ
visited zero t v e = 0
visited (suc d) t v e = expression_visited t (holds d t v) (visited d t v) e
