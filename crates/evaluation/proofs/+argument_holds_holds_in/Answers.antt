-- `evaluation::holds_in` and `argument_holds` meet their contracts: one level by the laws of `Level`, the arguments by their own calls.
-- An argument stands above its expression, which has a level less than the operator: hence the measures 2 * levels and 2 * levels + 1.
-- Assumes nothing.
use Prim.Native.Nat.{◌-◌, ◌≤◌}
use mathlib.Core.Path.{sym, ◌∙◌}
use native.Mathlib.Omega.{arith}
use Rattle.rulebook.specs.Expressions as Expressions
use Rattle.expression.proofs.Section.{section-word}
use Rattle.evaluation.proofs.Section.{few-visits}
use Rattle.evaluation.proofs.Level.{condition-evaluates, not-evaluates, settled-evaluates, both-evaluate}
use Rattle.evaluation.proofs.+argument_holds_holds_in.Goals as goal

pub argument_holds-returns-then-levels-eq0 : goal.argument_holds-returns-then-levels-eq0
unfolding Expressions.holds Expressions.visited
argument_holds-returns-then-levels-eq0 n c t section = rw c.if-levels-eq0.true

pub argument_holds-returns-then-is_condition : goal.argument_holds-returns-then-is_condition
argument_holds-returns-then-is_condition n c t section =
    condition-evaluates t _ _ _ c.if-levels-eq0.false (section-word t _ _ _ section c.word-w.ensures) _ _
    (sym c.is_condition.ensures ∙ c.if-is_condition.true) c.word_met.ensures _ c.in_word.ensures

pub argument_holds-returns : goal.argument_holds-returns
argument_holds-returns n c = c.holds_in.ensures

pub holds_in-returns-then-levels-eq0 : goal.holds_in-returns-then-levels-eq0
unfolding Expressions.holds Expressions.visited
holds_in-returns-then-levels-eq0 n c t section = rw c.if-levels-eq0.true

pub holds_in-returns-then-is_condition : goal.holds_in-returns-then-is_condition
holds_in-returns-then-is_condition n c t section =
    condition-evaluates t _ _ _ c.if-levels-eq0.false (section-word t _ _ _ section c.word-w.ensures) _ _
    (sym c.is_condition.ensures ∙ c.if-is_condition.true) c.word_met.ensures _ c.in_word.ensures

pub holds_in-overflow_add-visits : goal.holds_in-overflow_add-visits
holds_in-overflow_add-visits n c =
    let few : c.args.levels - 1 ≤ 7 = omega (arith, c.requires) in
    omega (arith, few-visits _ _ _ _ _ few c.argument_holds-a.ensures)

pub holds_in-in_word-requires-then-kind-eq-OPERATOR_NOT : goal.holds_in-in_word-requires-then-kind-eq-OPERATOR_NOT
holds_in-in_word-requires-then-kind-eq-OPERATOR_NOT n c =
    let few : c.args.levels - 1 ≤ 7 = omega (arith, c.requires) in
    omega (arith, few-visits _ _ _ _ _ few c.argument_holds-a.ensures)

pub holds_in-returns-then-kind-eq-OPERATOR_NOT : goal.holds_in-returns-then-kind-eq-OPERATOR_NOT
holds_in-returns-then-kind-eq-OPERATOR_NOT n c t section =
    not-evaluates t _ _ _ c.if-levels-eq0.false (section-word t _ _ _ section c.word-w.ensures) _ _ _ _
    (sym c.is_condition.ensures ∙ c.if-is_condition.false) c.expression_kind-kind.ensures.value
    c.left.ensures.value (c.argument_holds-a.ensures t section) c.if-kind-eq-OPERATOR_NOT.true _ c.in_word-then-kind-eq-OPERATOR_NOT.ensures

pub holds_in-in_word-requires-then-settled : goal.holds_in-in_word-requires-then-settled
holds_in-in_word-requires-then-settled n c =
    let few : c.args.levels - 1 ≤ 7 = omega (arith, c.requires) in
    omega (arith, few-visits _ _ _ _ _ few c.argument_holds-a.ensures)

pub holds_in-returns-then-settled : goal.holds_in-returns-then-settled
holds_in-returns-then-settled n c t section =
    settled-evaluates t _ _ _ c.if-levels-eq0.false (section-word t _ _ _ section c.word-w.ensures) _ _ _ _
    (sym c.is_condition.ensures ∙ c.if-is_condition.false) c.expression_kind-kind.ensures.value
    c.left.ensures.value (c.argument_holds-a.ensures t section) _
    (sym c.settled.ensures ∙ c.if-settled.true) c.joined.ensures _ c.in_word-then-settled.ensures

pub holds_in-in_word-requires-2 : goal.holds_in-in_word-requires-2
holds_in-in_word-requires-2 n c =
    let few : c.args.levels - 1 ≤ 7 = omega (arith, c.requires) in
    omega (arith, few-visits _ _ _ _ _ few c.argument_holds-a.ensures, few-visits _ _ _ _ _ few c.argument_holds-b.ensures)

pub holds_in-returns : goal.holds_in-returns
holds_in-returns n c t section =
    both-evaluate t _ _ _ c.if-levels-eq0.false (section-word t _ _ _ section c.word-w.ensures) _ _ _ _
    (sym c.is_condition.ensures ∙ c.if-is_condition.false) c.expression_kind-kind.ensures.value
    c.left.ensures.value (c.argument_holds-a.ensures t section) _ _ _ c.if-kind-eq-OPERATOR_NOT.false
    (sym c.settled.ensures ∙ c.if-settled.false) c.right.ensures.value
    (c.argument_holds-b.ensures t section) c.joined-2.ensures _ c.in_word-2.ensures
