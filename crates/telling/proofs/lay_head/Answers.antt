-- `telling::lay_head` meets its contract: the event's line, then the verdict's. Assumes nothing.
use native.Mathlib.Omega.{arith}
use lib.ListN.{length-append}
use Rattle.text.proofs.Puts.{put-more, put-length}
use Rattle.telling.specs.Told.{event_line, verdict_line}
use Rattle.telling.specs.Promises.{verdict_in, word_in}
use Rattle.telling.proofs.lay_head.Goals as goal

pub lay_event-next-requires : goal.lay_event-next-requires
lay_event-next-requires c =
    let a = c.args in
    let asked = c.requires in
    let long = length-append (event_line a.n a.e) (verdict_line (verdict_in a.judgement) (word_in a.judgement)) in
    omega arith

pub lay_judgement-requires : goal.lay_judgement-requires
lay_judgement-requires c =
    let a = c.args in
    let asked = c.requires in
    let long = length-append (event_line a.n a.e) (verdict_line (verdict_in a.judgement) (word_in a.judgement)) in
    let same = put-length {xs = event_line a.n a.e} (omega arith) c.lay_event-next.ensures in
    omega (arith, same, c.lay_event-next.ensures.place)

pub returns : goal.returns
returns c =
    let a = c.args in
    let asked = c.requires in
    let long = length-append (event_line a.n a.e) (verdict_line (verdict_in a.judgement) (word_in a.judgement)) in
    put-more {xs = event_line a.n a.e} (omega arith) c.lay_event-next.ensures c.lay_judgement.ensures
