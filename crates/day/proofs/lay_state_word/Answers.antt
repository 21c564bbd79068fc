-- `day::lay_state_word` meets its contract: a thing's number is at most its word's place. Assumes nothing.
use native.Mathlib.Omega.{arith}
use Rattle.day.proofs.State.{number_small, state-word-laid}
use borrow.Author.Rules.{rules}
use Rattle.day.proofs.lay_state_word.Goals as goal

pub lay_name-next-requires : goal.lay_name-next-requires
lay_name-next-requires c =
    let a = c.args in
    let asked = c.requires in
    let small = number_small a.t.now.words a.i in
    (rw c.thing.ensures (omega arith), omega arith)

pub returns : goal.returns
returns c =
    let a = c.args in
    let asked = c.requires in
    let small = number_small a.t.now.words a.i in
    state-word-laid _ _ (omega arith) asked.2 (rw c.thing.ensures at c.lay_name-next.ensures) c.put_hex_line.ensures
