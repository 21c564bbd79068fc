-- `telling::lay_sides` meets its contract: ours, then the supplier's. Assumes nothing.
use native.Mathlib.Omega.{arith}
use lib.ListN.{drop, length-append}
use Rattle.text.proofs.Puts.{put-more, put-length}
use Rattle.telling.specs.Told.{ours, supplier, side}
use Rattle.telling.specs.Promises.{verdict_in, word_in}
use Rattle.telling.proofs.lay_sides.Goals as goal

pub lay_side-next-requires : goal.lay_side-next-requires
unfolding ours
lay_side-next-requires c =
    let a = c.args in
    let asked = c.requires in
    let all = length-append (side ours (verdict_in a.judgement) a.answer (drop (word_in a.judgement) a.ours.now))
    (side supplier (verdict_in a.judgement) a.said (drop (word_in a.judgement) a.theirs.now)) in
    omega arith

pub lay_side-requires : goal.lay_side-requires
unfolding ours supplier
lay_side-requires c =
    let a = c.args in
    let asked = c.requires in
    let one = side ours (verdict_in a.judgement) a.answer (drop (word_in a.judgement) a.ours.now) in
    let all = length-append one (side supplier (verdict_in a.judgement) a.said (drop (word_in a.judgement) a.theirs.now)) in
    let same = put-length {xs = one} (omega arith) c.lay_side-next.ensures in
    omega (arith, same, c.lay_side-next.ensures.place)

pub returns : goal.returns
unfolding ours supplier
returns c =
    let a = c.args in
    let asked = c.requires in
    let one = side ours (verdict_in a.judgement) a.answer (drop (word_in a.judgement) a.ours.now) in
    let all = length-append one (side supplier (verdict_in a.judgement) a.said (drop (word_in a.judgement) a.theirs.now)) in
    put-more {xs = one} (omega arith) c.lay_side-next.ensures c.lay_side.ensures
