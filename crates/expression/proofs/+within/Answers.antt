-- `expression::within` meets its contract: one level by the laws of `Level`, the arguments by its own calls. The measure is the levels left.
-- Assumes nothing.
use mathlib.Core.Path.{◌∙◌}
use mathlib.Core.Path.{sym}
use Rattle.rulebook.specs.Expressions.{expression_within}
use Rattle.expression.proofs.Level.{within-condition, within-left-fails, within-not, within-right}
use Rattle.expression.proofs.+within.Goals as goal

pub returns-then-levels-eq0 : goal.returns-then-levels-eq0
unfolding expression_within
returns-then-levels-eq0 t c = rw c.if-levels-eq0.true

pub returns-then-not-is_operator : goal.returns-then-not-is_operator
returns-then-not-is_operator t c =
    sym
    (within-condition _ _ _ _ _ _ c.if-levels-eq0.false c.expression_word-w.ensures
    c.expression_kind-kind.ensures.value c.is_operator.ensures c.if-not-is_operator.true)

pub returns-then-not-within : goal.returns-then-not-within
returns-then-not-within t c =
    within-left-fails _ _ _ _ _ _ c.if-levels-eq0.false c.expression_word-w.ensures
    c.expression_kind-kind.ensures.value c.is_operator.ensures _ 0 _
    c.if-not-is_operator.false c.left.ensures.value c.within.ensures c.if-not-within.true

pub returns-then-kind-eq-OPERATOR_NOT : goal.returns-then-kind-eq-OPERATOR_NOT
returns-then-kind-eq-OPERATOR_NOT t c =
    within-not _ _ _ _ _ _ c.if-levels-eq0.false c.expression_word-w.ensures
    c.expression_kind-kind.ensures.value
    c.is_operator.ensures _ 0 _ c.if-not-is_operator.false
    c.left.ensures.value c.within.ensures c.if-not-within.false c.if-kind-eq-OPERATOR_NOT.true

pub returns : goal.returns
returns t c =
    c.within-2.ensures
    ∙ within-right _ _ _ _ _ _ c.if-levels-eq0.false
    c.expression_word-w.ensures
    c.expression_kind-kind.ensures.value
    c.is_operator.ensures _ _ _ c.if-not-is_operator.false
    c.left.ensures.value c.within.ensures c.if-not-within.false
    c.if-kind-eq-OPERATOR_NOT.false c.right.ensures.value
