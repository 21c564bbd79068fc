-- `owners::first_clash` meets its contract: a scan of the places before the lists, then of the lists, each by its items. Assumes nothing.
use Rattle.std.proofs.Common.{◌≡◌, ◌<◌, sym, ◌∙◌, arith}
use Rattle.rulebook.specs.Table.{lists, table_length}
use Rattle.rulebook.specs.Reasons.{owners, breaks}
use Rattle.walks.proofs.Walks.{whole, same_first, all-turn, all-fails, all_end}
use Rattle.scan.proofs.Scan.{scan-here, scan-turn, scan-start}
use Rattle.owners.proofs.Judged.{list-judged, lists-end}
use Rattle.owners.proofs.first_clash.Goals as goal

pub loop-i-init : goal.loop-i-init
loop-i-init c = scan-start owners _ _ c.requires

pub loop-i-preserved : goal.loop-i-preserved
loop-i-preserved c =
    c.loop-i.invariant ∙ scan-turn owners _ _ _ _ (omega arith) c.owned_before_lists.ensures c.if-not-owned_before_lists.false

pub loop-l-init : goal.loop-l-init
loop-l-init c = c.loop-i.invariant ∙ same_first (breaks owners c.args.t.now.words) (omega arith) (omega arith)

pub loop-i-2-init : goal.loop-i-2-init
loop-i-2-init c = rw (whole c.list-list.result.first_item c.list-list.result.item_count)

pub loop-i-2-preserved : goal.loop-i-2-preserved
loop-i-2-preserved c =
    c.loop-i-2.invariant ∙ all-turn _ _ _ c.loop-i-2-test.true (sym c.item_owned.ensures ∙ c.if-not-item_owned.false)

pub loop-l-preserved : goal.loop-l-preserved
loop-l-preserved c =
    let t = c.args.t.now.words in
    let there : c.loop-l.l < lists t = omega arith in
    c.loop-l.invariant
    ∙ scan-turn owners _ _ (table_length t) _ (omega arith) (list-judged _ _ _ c.list-list.ensures there)
    (c.loop-i-2.invariant ∙ all_end _ _ _ c.loop-i-2-test.false)
    ∙ same_first (breaks owners t) (omega arith) (omega arith)

pub returns-then-not-owned_before_lists : goal.returns-then-not-owned_before_lists
returns-then-not-owned_before_lists c =
    sym (c.loop-i.invariant ∙ scan-here owners _ _ _ _ (omega arith) c.owned_before_lists.ensures c.if-not-owned_before_lists.true)

pub returns-then-not-item_owned : goal.returns-then-not-item_owned
returns-then-not-item_owned c =
    let t = c.args.t.now.words in
    let there : c.loop-l.l < lists t = omega arith in
    rw c.list_place.ensures
    (sym (c.loop-l.invariant
    ∙ scan-here owners _ _ (table_length t) _ (omega arith) (list-judged _ _ _ c.list-list.ensures there)
    (c.loop-i-2.invariant ∙ all-fails _ _ _ c.loop-i-2-test.true (sym c.item_owned.ensures ∙ c.if-not-item_owned.true))))

pub returns-after-loop-l : goal.returns-after-loop-l
returns-after-loop-l c =
    let t = c.args.t.now.words in
    let past : c.loop-l.l ≡ lists t = omega arith in
    rw c.length.ensures (sym (c.loop-l.invariant ∙ lists-end t _ past))
