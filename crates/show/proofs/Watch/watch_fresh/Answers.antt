-- `show::Watch::watch_fresh` meets its contract: the state that it makes is ready, and its panel has room. Assumes nothing.
use Rattle.std.proofs.Common.{refl, arith, []}
use Rattle.session.proofs.Whole.{made-fresh}
use Rattle.show.proofs.Kept.{fresh-shown, fresh-going, ended-fresh}
use Rattle.show.proofs.Watch.watch_fresh.Goals as goal

pub lay_left-kept-requires : goal.lay_left-kept-requires
lay_left-kept-requires c =
    let made = rw c.words-t.ensures at c.make_fresh.ensures in
    rw c.words-t.ensures (fresh-shown c.requires.1 made [] refl)

pub watch_file-requires : goal.watch_file-requires
watch_file-requires c =
    let p = c.requires in
    let made = rw c.words-t.ensures at c.make_fresh.ensures in
    let long = c.lay_left-kept.auto.out in
    let room = p.1.bytes in
    (p.0, fresh-going p.1 made (omega (arith, c.lay_left-kept.ensures.1)) long)

pub returns : goal.returns
returns c =
    let p = c.requires.1 in
    let made = rw c.words-t.ensures at c.make_fresh.ensures in
    ended-fresh _ _ _ _ c.watch_file.result _ _ _ _ (made-fresh p.table p.state made) c.watch_file.ensures
