-- `evaluation::unready` meets its contract: the mention test of its expression, or, where the table is accepted and all its ports are
-- defined, the law that nothing undefined is mentioned. Assumes nothing.
use mathlib.Core.Path.{sym}
use native.Mathlib.Omega.{arith}
use lib.Dec.{ltb}
use borrow.Author.Tests.{ltb-true}
use Rattle.std.proofs.Common.{rules}
use Rattle.rulebook.specs.Lists.{undefined_in, unready}
use Rattle.laws.proofs.Tests.{and_left, and_right}
use Rattle.evaluation.proofs.Ready.{all-defined}
use Rattle.evaluation.proofs.unready.Goals as goal

pub returns-then-not-any_undefined : goal.returns-then-not-any_undefined
returns-then-not-any_undefined c =
    let e = c.rule-rule.result.expression in
    let n = c.expressions.result in
    let there = ltb-true e n (and_right c.is_accepted.result (ltb e n) c.if-named.true) in
    all-defined _ _ _ e _ (c.is_accepted.ensures.accepted (and_left c.is_accepted.result (ltb e n) c.if-named.true))
    c.rule-rule.ensures.expression.value (omega (arith, c.expressions.ensures.value, there))
    c.ports.ensures.value (sym c.if-not-any_undefined.ensures)

pub returns : goal.returns
unfolding unready
returns c =
    rw (← c.rule-rule.ensures.expression.value)
    (c.mentions_where.ensures (undefined_in c.args.s.now) (record { says = λ p yes h. search rules }))
