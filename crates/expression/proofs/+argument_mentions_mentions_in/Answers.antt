-- `expression::mentions_in` and `argument_mentions` meet their contracts: one level by the laws of `Level`, the arguments by their own
-- calls. Assumes nothing.
use mathlib.Core.Path.{sym, ap, ◌∙◌}
use Rattle.rulebook.specs.Expressions.{mentions}
use Rattle.expression.proofs.Level.{mention-condition, mention-left, mention-not, mention-right}
use Rattle.expression.proofs.Section.{section-word}
use Rattle.expression.proofs.+argument_mentions_mentions_in.Goals as goal

pub argument_mentions-returns-then-levels-eq0 : goal.argument_mentions-returns-then-levels-eq0
unfolding mentions
argument_mentions-returns-then-levels-eq0 g n c q j t section = rw c.if-levels-eq0.true

pub argument_mentions-returns-then-is_operator : goal.argument_mentions-returns-then-is_operator
argument_mentions-returns-then-is_operator g n c = c.mentions_in.ensures

pub argument_mentions-returns-else-is_operator : goal.argument_mentions-returns-else-is_operator
argument_mentions-returns-else-is_operator g n c q j t section =
    j.says _ _ c.asked.ensures
    ∙ ap q c.condition_port.ensures.value
    ∙ sym
    (mention-condition t _ _ _ _ _ c.if-levels-eq0.false (section-word t _ _ _ section c.word-w.ensures) c.expression_kind.ensures.value
    c.is_operator.ensures q c.if-is_operator.false)

pub mentions_in-returns-then-levels-eq0 : goal.mentions_in-returns-then-levels-eq0
unfolding mentions
mentions_in-returns-then-levels-eq0 g n c q j t section = rw c.if-levels-eq0.true

pub mentions_in-returns-then-not-is_operator : goal.mentions_in-returns-then-not-is_operator
mentions_in-returns-then-not-is_operator g n c q j t section =
    j.says _ _ c.asked.ensures
    ∙ ap q c.condition_port.ensures.value
    ∙ sym
    (mention-condition t _ _ _ _ _ c.if-levels-eq0.false (section-word t _ _ _ section c.word-w.ensures) c.expression_kind-kind.ensures.value
    c.is_operator.ensures q c.if-not-is_operator.true)

pub mentions_in-returns-then-argument_mentions : goal.mentions_in-returns-then-argument_mentions
mentions_in-returns-then-argument_mentions g n c q j t section =
    mention-left t _ _ _ _ _ c.if-levels-eq0.false (section-word t _ _ _ section c.word-w.ensures) c.expression_kind-kind.ensures.value
    c.is_operator.ensures q _ 0 _ c.if-not-is_operator.false c.left.ensures.value (c.argument_mentions.ensures q j t section)
    c.if-argument_mentions.true

pub mentions_in-returns-then-kind-eq-OPERATOR_NOT : goal.mentions_in-returns-then-kind-eq-OPERATOR_NOT
mentions_in-returns-then-kind-eq-OPERATOR_NOT g n c q j t section =
    mention-not t _ _ _ _ _ c.if-levels-eq0.false (section-word t _ _ _ section c.word-w.ensures) c.expression_kind-kind.ensures.value
    c.is_operator.ensures q _ 0 _ c.if-not-is_operator.false c.left.ensures.value (c.argument_mentions.ensures q j t section)
    c.if-argument_mentions.false c.if-kind-eq-OPERATOR_NOT.true

pub mentions_in-returns : goal.mentions_in-returns
mentions_in-returns g n c q j t section =
    c.argument_mentions-2.ensures q j t section
    ∙ mention-right t _ _ _ _ _ c.if-levels-eq0.false (section-word t _ _ _ section c.word-w.ensures) c.expression_kind-kind.ensures.value
    c.is_operator.ensures q _ _ _ c.if-not-is_operator.false c.left.ensures.value (c.argument_mentions.ensures q j t section)
    c.if-argument_mentions.false c.if-kind-eq-OPERATOR_NOT.false c.right.ensures.value
