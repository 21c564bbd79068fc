-- `words::table::Table::item` meets its contract: each field is that of the word at the item's place, by the table's edition. Assumes nothing.
use Rattle.rulebook.specs.Table.{abort, a_size}
use Rattle.words.proofs.table.Table.item.Goals as goal

pub returns : goal.returns
unfolding abort a_size
returns c =
    let word = rw c.self.invariant.item0 at c.word-w.ensures in
    let second = c.self.invariant.second in
    rw (← c.self.view_is)
    (record {
      kind = rw word at c.bits.ensures;
      abort = rw (word, second) at c.item_abort.ensures;
      a = rw (word, second) at c.item_a.ensures;
      b = rw word at c.bits-2.ensures;
    })
