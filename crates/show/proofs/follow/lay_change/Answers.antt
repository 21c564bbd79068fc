-- `show::follow::lay_change` meets its contract: no line has changed, or the panel left takes the place of the one found. Assumes nothing.
use Rattle.std.proofs.Common.{◌≤◌, length, sym, ◌∙◌, arith, length-take-le}
use Rattle.show.proofs.Laid.{no_change, a-change}
use Rattle.show.proofs.follow.lay_change.Goals as goal

pub slice_bounds-same-end-2 : goal.slice_bounds-same-end-2
slice_bounds-same-end-2 c = sym (length-take-le _ _ c.requires.bytes)

pub slice_bounds-same-end-4 : goal.slice_bounds-same-end-4
slice_bounds-same-end-4 c = sym (length-take-le _ _ ((let it-laid-inside : c.lay_left-n.result ≤ length c.lay_left-n.new.out = let room = c.requires.shown.room in
    omega (arith, c.lay_left-n.ensures.1, c.lay_left-n.auto.out) in it-laid-inside)))

pub returns-then-same : goal.returns-then-same
returns-then-same c =
    no_change c.requires c.lay_left-n.ensures.0 (sym c.same.ensures ∙ c.if-same.true)

pub slice_bounds-put_label-end-2 : goal.slice_bounds-put_label-end-2
slice_bounds-put_label-end-2 c = sym (length-take-le _ _ ((let it-laid-inside : c.lay_left-n.result ≤ length c.lay_left-n.new.out = let room = c.requires.shown.room in
    omega (arith, c.lay_left-n.ensures.1, c.lay_left-n.auto.out) in it-laid-inside)))

pub returns : goal.returns
returns c =
    a-change c.requires c.lay_left-n.ensures.0 (sym c.same.ensures ∙ c.if-same.false)
    c.put_label-next.ensures
