-- `telling::tell` meets its contract: nothing, or the head and both sides. Assumes nothing.
use Prim.Native.Nat.{◌^◌, ◌<◌}
use native.Mathlib.Omega.{arith}
use mathlib.Core.Path.{sym, ◌∙◌}
use borrow.Author.Tests.{eqb-true, eqb-false}
use Rattle.rulebook.specs.Hold.{as_ordered, states_part}
use lib.Seq.{length-take-le}
use Rattle.telling.proofs.Telling.{nothing-told, head-room, cut-within, states-room, traces-room, states-told, traces-told}
use Rattle.telling.proofs.tell.Goals as goal

pub returns-then-is_as_ordered : goal.returns-then-is_as_ordered
returns-then-is_as_ordered c = nothing-told _ _ _ _ _ _ _ _ c.requires.0 _ (eqb-true _ as_ordered (sym c.is_as_ordered.ensures ∙ c.if-is_as_ordered.true))

pub lay_head-next-requires : goal.lay_head-next-requires
lay_head-next-requires c =
    let small : c.args.n < 2 ^ 64 = omega (arith, c.ranges.n.fits) in
    let known : c.args.answer < 2 ^ 32 = omega (arith, c.ranges.answer.fits) in
    let heard : c.args.said < 2 ^ 32 = omega (arith, c.ranges.said.fits) in
    head-room _ _ _ _ _ _ _ _ c.requires.0 c.requires.1 small known heard

pub slice_bounds-lay_sides-end : goal.slice_bounds-lay_sides-end
slice_bounds-lay_sides-end c =
    sym (length-take-le c.args.j.cut c.args.words.now
    (cut-within 0 0 _ _ _ _ _ _ c.requires.0))

pub lay_sides-requires : goal.lay_sides-requires
lay_sides-requires c =
    let small : c.args.n < 2 ^ 64 = omega (arith, c.ranges.n.fits) in
    let known : c.args.answer < 2 ^ 32 = omega (arith, c.ranges.answer.fits) in
    let heard : c.args.said < 2 ^ 32 = omega (arith, c.ranges.said.fits) in
    states-room _ _ _ _ _ _ _ _ c.requires.0 c.requires.1 small known heard c.lay_head-next.ensures

pub returns-then-is_states_part : goal.returns-then-is_states_part
returns-then-is_states_part c =
    let small : c.args.n < 2 ^ 64 = omega (arith, c.ranges.n.fits) in
    let known : c.args.answer < 2 ^ 32 = omega (arith, c.ranges.answer.fits) in
    let heard : c.args.said < 2 ^ 32 = omega (arith, c.ranges.said.fits) in
    states-told _ _ _ _ _ _ _ _ c.requires.0 c.requires.1 small known heard c.lay_head-next.ensures
    (eqb-false _ as_ordered (sym c.is_as_ordered.ensures ∙ c.if-is_as_ordered.false)) (eqb-true _ states_part (sym c.is_states_part.ensures ∙ c.if-is_states_part.true)) c.lay_sides.ensures

pub lay_sides-requires-2 : goal.lay_sides-requires-2
lay_sides-requires-2 c =
    let small : c.args.n < 2 ^ 64 = omega (arith, c.ranges.n.fits) in
    let known : c.args.answer < 2 ^ 32 = omega (arith, c.ranges.answer.fits) in
    let heard : c.args.said < 2 ^ 32 = omega (arith, c.ranges.said.fits) in
    traces-room _ _ _ _ _ _ _ _ c.requires.0 c.requires.1 small known heard c.lay_head-next.ensures

pub returns : goal.returns
returns c =
    let small : c.args.n < 2 ^ 64 = omega (arith, c.ranges.n.fits) in
    let known : c.args.answer < 2 ^ 32 = omega (arith, c.ranges.answer.fits) in
    let heard : c.args.said < 2 ^ 32 = omega (arith, c.ranges.said.fits) in
    traces-told _ _ _ _ _ _ _ _ c.requires.0 c.requires.1 small known heard c.lay_head-next.ensures
    (eqb-false _ as_ordered (sym c.is_as_ordered.ensures ∙ c.if-is_as_ordered.false)) (eqb-false _ states_part (sym c.is_states_part.ensures ∙ c.if-is_states_part.false)) c.lay_sides-2.ensures
