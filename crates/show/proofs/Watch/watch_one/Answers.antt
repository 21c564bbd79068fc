-- `show::Watch::watch_one` meets its contract: the state is ready for the next event. Assumes nothing.
use Rattle.std.proofs.Common.{sym, refl, length-take-le}
use Rattle.show.proofs.Kept.{reports-took, took-inside, took-watched, took_one}
use Rattle.show.proofs.Watch.watch_one.Goals as goal

pub returns-then-not-self : goal.returns-then-not-self
returns-then-not-self c =
    let a = c.args in
    let took = reports-took a.self.now.table.words a.s.now a.e c.take-answer.ensures c.count-count.ensures in
    took_one c.requires took _ c.requires.bytes refl refl

pub slice_bounds-lay_change-end : goal.slice_bounds-lay_change-end
slice_bounds-lay_change-end c =
    let a = c.args in
    took-inside c.requires (reports-took a.self.now.table.words a.s.now a.e c.take-answer.ensures c.count-count.ensures)

pub slice_bounds-lay_change-end-2 : goal.slice_bounds-lay_change-end-2
slice_bounds-lay_change-end-2 c =
    let a = c.args in
    sym (length-take-le _ _ (took-inside c.requires (reports-took a.self.now.table.words a.s.now a.e c.take-answer.ensures c.count-count.ensures)))

pub lay_change-changed-requires : goal.lay_change-changed-requires
lay_change-changed-requires c =
    let a = c.args in
    let took = reports-took a.self.now.table.words a.s.now a.e c.take-answer.ensures c.count-count.ensures in
    rw c.words-t.ensures (took-watched c.requires took)

pub returns-then-written : goal.returns-then-written
returns-then-written c =
    let a = c.args in
    let took = reports-took a.self.now.table.words a.s.now a.e c.take-answer.ensures c.count-count.ensures in
    let changed = c.lay_change-changed in
    took_one c.requires took _ changed.ensures.kept_inside changed.auto.found changed.auto.out

pub returns-else-written : goal.returns-else-written
returns-else-written c =
    let a = c.args in
    let took = reports-took a.self.now.table.words a.s.now a.e c.take-answer.ensures c.count-count.ensures in
    let changed = c.lay_change-changed in
    took_one c.requires took _ changed.ensures.kept_inside changed.auto.found changed.auto.out
