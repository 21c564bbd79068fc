-- The cycle of lists, items and rules meets its contracts. Each call along the trace is a law of `Cycle`; the loop over items keeps `Along`.
-- Assumes nothing.
use Rattle.std.proofs.Common.{refl, sym, ◌∙◌, arith, ◌+◌, ◌<◌, ◌≤◌}
use Rattle.rulebook.specs.Table.{first_item, item_count}
use Rattle.laws.proofs.Frame.{list-framed}
use Rattle.lists.proofs.Along.{along-end}
use Rattle.lists.proofs.Items.{runs-list, runs-rule, runs-act, list-fits, rule_fits, choice-fits, level-left, item-fits}
use Rattle.lists.proofs.Cycle.{safe-as, ran-as, last-safe, last-ran-first, last-addable, list-begun}
use Rattle.lists.proofs.Cycle.{items-end, item-safe, item-last, item-next, item-addable, item-readable}
use Rattle.lists.proofs.Cycle.{rule-undefined, judge-safe, rule-done, rule-begun}
use Rattle.lists.proofs.+run_item_run_list_run_rule.Goals as goal

pub run_item-run_list-requires : goal.run_item-run_list-requires
run_item-run_list-requires t c =
    let item = c.item-item.ensures in
    let is-list = c.if-item-eq-ITEM_LIST.true in (
      omega (arith, c.decreases),
      (list-fits _ _ _ item _ c.requires.i_value is-list, safe-as _ _ _ (runs-list _ _ _ item _ _ _ is-list) c.requires.safe),
    )

pub run_item-returns-then-item-eq-ITEM_LIST : goal.run_item-returns-then-item-eq-ITEM_LIST
run_item-returns-then-item-eq-ITEM_LIST t c =
    ran-as _ _ _ _ _ _ _ (runs-list _ _ _ c.item-item.ensures _ _ _ c.if-item-eq-ITEM_LIST.true) c.run_list.ensures

pub run_item-run_rule-requires : goal.run_item-run_rule-requires
run_item-run_rule-requires t c =
    let item = c.item-item.ensures in
    let no-list = c.if-item-eq-ITEM_LIST.false in
    let is-rule = c.if-item-eq-ITEM_RULE.true in (
      omega (arith, c.decreases),
      (rule_fits _ _ _ item _ c.requires.i_value no-list is-rule, safe-as _ _ _ (runs-rule _ _ _ item _ _ _ no-list is-rule) c.requires.safe),
    )

pub run_item-returns-then-item-eq-ITEM_RULE : goal.run_item-returns-then-item-eq-ITEM_RULE
run_item-returns-then-item-eq-ITEM_RULE t c =
    ran-as _ _ _ _ _ _ _ (runs-rule _ _ _ c.item-item.ensures _ _ _ c.if-item-eq-ITEM_LIST.false c.if-item-eq-ITEM_RULE.true) c.run_rule.ensures

pub run_item-act-requires : goal.run_item-act-requires
run_item-act-requires t c =
    safe-as _ _ _ (runs-act _ _ _ c.item-item.ensures _ _ _ c.if-item-eq-ITEM_LIST.false c.if-item-eq-ITEM_RULE.false) c.requires.safe

pub run_item-returns : goal.run_item-returns
run_item-returns t c =
    ran-as _ _ _ _ _ _ _ (runs-act _ _ _ c.item-item.ensures _ _ _ c.if-item-eq-ITEM_LIST.false c.if-item-eq-ITEM_RULE.false) c.act.ensures

pub run_list-overflow_sub-below : goal.run_list-overflow_sub-below
run_list-overflow_sub-below t c = level-left _ _ _ c.requires.l_value

pub run_list-loop-i-init : goal.run_list-loop-i-init
run_list-loop-i-init t c =
    let begun = list-begun _ c.args.outcomes.now _ _ _ _ _ _ _ c.requires.l_value c.list-list.ensures c.trace_word.ensures c.put.ensures
    c.requires.safe in
    rw c.one_word-written.ensures begun.along

pub run_list-run_item-more-requires : goal.run_list-run_item-more-requires
run_list-run_item-more-requires t c =
    let list = c.list-list.ensures in
    let begun = list-begun _ c.args.outcomes.now _ _ _ _ _ _ _ c.requires.l_value list c.trace_word.ensures c.put.ensures c.requires.safe in
    let from-first : first_item c.args.t.now.words c.args.l ≤ c.loop-i.i = omega (arith, c.loop-i.auto.i, list.first-item.value) in
    let below-end : c.loop-i.i < first_item c.args.t.now.words c.args.l + item_count c.args.t.now.words c.args.l =
    omega (arith, c.loop-i-test.true, list.first-item.value, list.item_count.value) in (
      omega (arith, c.decreases, level-left _ _ _ c.requires.l_value),
      (
        item-fits _ _ _ c.requires.l_value _ from-first below-end,
        item-safe _ _ _ _ _ _ _ _ _ _ _ c.loop-i.invariant c.loop-i-test.true begun.safe,
      ),
    )

pub run_list-read_behind-requires : goal.run_list-read_behind-requires
run_list-read_behind-requires t c =
    let begun = list-begun _ c.args.outcomes.now _ _ _ _ _ _ _ c.requires.l_value c.list-list.ensures c.trace_word.ensures c.put.ensures
    c.requires.safe in
    item-readable _ _ _ _ _ _ _ _ _ _ _ c.loop-i.invariant c.loop-i-test.true begun.safe _ c.stops-last.ensures _ _ _ c.run_item-more.ensures
    (omega arith)

pub run_list-plus-written-requires : goal.run_list-plus-written-requires
run_list-plus-written-requires t c =
    let begun = list-begun _ c.args.outcomes.now _ _ _ _ _ _ _ c.requires.l_value c.list-list.ensures c.trace_word.ensures c.put.ensures
    c.requires.safe in
    rw c.read_behind.ensures
    (item-addable _ _ _ _ _ _ _ _ _ _ _ c.loop-i.invariant c.loop-i-test.true begun.safe _ c.stops-last.ensures _ _ _ c.run_item-more.ensures
    (omega (arith, c.put.auto.ws)))

pub run_list-returns-then-last : goal.run_list-returns-then-last
run_list-returns-then-last t c =
    let begun = list-begun _ c.args.outcomes.now _ _ _ _ _ _ _ c.requires.l_value c.list-list.ensures c.trace_word.ensures c.put.ensures
    c.requires.safe in
    let stopped = item-last _ _ _ _ _ _ _ _ _ _ _ c.loop-i.invariant c.loop-i-test.true begun.safe _ c.stops-last.ensures _ _ _ c.run_item-more.ensures
    c.if-last.true in
    begun.lent _ _ _ (rw (c.plus-written.ensures, c.read_behind.ensures) (along-end _ _ _ _ _ _ _ (λ x. refl) stopped))

pub run_list-loop-i-preserved : goal.run_list-loop-i-preserved
run_list-loop-i-preserved t c =
    let begun = list-begun _ c.args.outcomes.now _ _ _ _ _ _ _ c.requires.l_value c.list-list.ensures c.trace_word.ensures c.put.ensures
    c.requires.safe in
    rw (c.plus-written.ensures, c.read_behind.ensures)
    (item-next _ _ _ _ _ _ _ _ _ _ _ c.loop-i.invariant c.loop-i-test.true begun.safe _ c.stops-last.ensures _ _ _ c.run_item-more.ensures
    c.if-last.false)

pub run_list-returns : goal.run_list-returns
run_list-returns t c =
    let begun = list-begun _ c.args.outcomes.now _ _ _ _ _ _ _ c.requires.l_value c.list-list.ensures c.trace_word.ensures c.put.ensures
    c.requires.safe in
    begun.lent _ _ _ (items-end _ _ _ _ _ _ _ _ _ _ _ c.loop-i.invariant c.loop-i-test.false)

pub run_rule-returns-then-unready : goal.run_rule-returns-then-unready
run_rule-returns-then-unready t c =
    rw c.one_word.ensures
    (rule-undefined _ c.args.outcomes.now _ _ _ _ _ c.requires.safe (sym c.unready.ensures ∙ c.if-unready.true) _ _
    c.trace_word.ensures c.put.ensures)

pub run_rule-judge-judged-requires : goal.run_rule-judge-judged-requires
run_rule-judge-judged-requires t c =
    judge-safe _ c.args.outcomes.now _ _ _ _ _ c.requires.safe (sym c.unready.ensures ∙ c.if-unready.false)

pub run_rule-returns-then-judged-eq-NO_LIST : goal.run_rule-returns-then-judged-eq-NO_LIST
run_rule-returns-then-judged-eq-NO_LIST t c =
    rw c.one_word-first.ensures
    (rule-done _ c.args.outcomes.now _ _ _ _ _ c.requires.safe (sym c.unready.ensures ∙ c.if-unready.false) _ _
    c.judge-judged.ensures.list_value _ _ c.judge-judged.ensures.ran c.if-judged-eq-NO_LIST.true)

pub run_rule-slice_bounds-run_list-start : goal.run_rule-slice_bounds-run_list-start
run_rule-slice_bounds-run_list-start t c =
    let begun = rule-begun _ c.args.outcomes.now _ _ _ _ _ c.requires.safe (sym c.unready.ensures ∙ c.if-unready.false) _ _
    c.judge-judged.ensures.list_value _ _ c.judge-judged.ensures.ran c.if-judged-eq-NO_LIST.false in
    begun.inside

pub run_rule-run_list-more-requires : goal.run_rule-run_list-more-requires
run_rule-run_list-more-requires t c =
    let chosen = c.judge-judged.ensures.list_value in
    let some = c.if-judged-eq-NO_LIST.false in
    let begun = rule-begun _ c.args.outcomes.now _ _ _ _ _ c.requires.safe (sym c.unready.ensures ∙ c.if-unready.false) _ _
    chosen _ _ c.judge-judged.ensures.ran some in (
      omega (arith, c.decreases),
      (
        choice-fits _ _ _ _ _ chosen some c.requires.r_value,
        last-safe _ _ _ (list-framed _ _ _) _ _ _ _ begun c.requires.safe,
      ),
    )

pub run_rule-plus-requires : goal.run_rule-plus-requires
run_rule-plus-requires t c =
    let begun = rule-begun _ c.args.outcomes.now _ _ _ _ _ c.requires.safe (sym c.unready.ensures ∙ c.if-unready.false) _ _
    c.judge-judged.ensures.list_value _ _ c.judge-judged.ensures.ran c.if-judged-eq-NO_LIST.false in
    rw c.one_word-first.ensures
    (last-addable _ _ _ (list-framed _ _ _) _ _ _ _ begun c.requires.safe _ _ _ c.run_list-more.ensures (omega arith))

pub run_rule-returns : goal.run_rule-returns
run_rule-returns t c =
    let begun = rule-begun _ c.args.outcomes.now _ _ _ _ _ c.requires.safe (sym c.unready.ensures ∙ c.if-unready.false) _ _
    c.judge-judged.ensures.list_value _ _ c.judge-judged.ensures.ran c.if-judged-eq-NO_LIST.false in
    rw (c.plus.ensures, c.one_word-first.ensures)
    (last-ran-first _ _ _ (list-framed _ _ _) _ _ _ _ begun c.requires.safe _ _ _ c.run_list-more.ensures refl)
