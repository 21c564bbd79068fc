-- `panel::View::lay_at` meets its contract: a line, or nothing. Assumes nothing.
use Rattle.std.proofs.Common.{sym, ap, ◌∙◌, arith, length}
use Rattle.panel.specs.Inside.{part_number}
use Rattle.panel.specs.Printed.{shown_word}
use Rattle.panel.proofs.Parts.{length-line, own_line, no_line}
use Rattle.panel.proofs.Along.{put-none}
use Rattle.panel.proofs.View.lay_at.Goals as goal

pub lay_line-requires : goal.lay_line-requires
lay_line-requires c =
    let a = c.args in
    let v = a.self.now in
    let part = part_number a.part in
    let own = own_line part v.operator v.table.now v.state.now v.words.now a.i (sym c.is_own.ensures ∙ c.if-is_own.true) in
    let one = length-line part a.i c.shown_word-w.result in
    let other = length-line part a.i (shown_word part v.table.now v.state.now v.words.now a.i) in
    omega (arith, c.requires.room, ap length own)

pub returns-then-is_own : goal.returns-then-is_own
returns-then-is_own c =
    let v = c.args.self.now in
    rw (own_line _ v.operator v.table.now v.state.now v.words.now c.args.i (sym c.is_own.ensures ∙ c.if-is_own.true))
    (rw c.shown_word-w.ensures at c.lay_line.ensures)

pub returns-else-is_own : goal.returns-else-is_own
returns-else-is_own c =
    let v = c.args.self.now in
    rw (no_line _ v.operator v.table.now v.state.now v.words.now c.args.i (sym c.is_own.ensures ∙ c.if-is_own.false)) (put-none _ _)
