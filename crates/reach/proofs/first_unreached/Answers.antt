-- `reach::first_unreached` meets its contract: a scan of the lists, by their flags. Assumes nothing.
use Rattle.std.proofs.Common.{◌<◌, sym, ◌∙◌, arith}
use Rattle.rulebook.specs.Table.{lists}
use Rattle.reach.proofs.Place.{lists-start, list-breaks, list-keeps, lists-end}
use Rattle.reach.proofs.first_unreached.Goals as goal

pub raise_levels-requires : goal.raise_levels-requires
raise_levels-requires c = record { judged = c.requires; started = c.raise_starts.ensures }

pub loop-l-init : goal.loop-l-init
loop-l-init c = lists-start _ _ c.requires

pub loop-l-preserved : goal.loop-l-preserved
loop-l-preserved c =
    let there : c.loop-l.l < lists c.args.t.now.words = omega arith in
    c.loop-l.invariant ∙ list-keeps _ _ c.requires _ c.raise_levels.ensures _ there (sym c.flag.ensures ∙ c.if-not-flag.false)

pub returns-then-not-flag : goal.returns-then-not-flag
returns-then-not-flag c =
    let there : c.loop-l.l < lists c.args.t.now.words = omega arith in
    rw c.list_place.ensures
    (sym (c.loop-l.invariant ∙ list-breaks _ _ c.requires _ c.raise_levels.ensures _ there (sym c.flag.ensures ∙ c.if-not-flag.true)))

pub returns-after-loop-l : goal.returns-after-loop-l
returns-after-loop-l c = rw c.length.ensures (sym (c.loop-l.invariant ∙ lists-end _ _ c.requires _ (omega arith)))
