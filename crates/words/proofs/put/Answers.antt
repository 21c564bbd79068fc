-- `words::put` meets its contract: past the end `set` changes nothing. Assumes nothing.
use mathlib.Core.Path.{sym}
use lib.Seq.{set_out}
use Rattle.words.proofs.put.Goals as goal

pub returns-else-i-ws : goal.returns-else-i-ws
returns-else-i-ws c = sym (set_out _ _ _ c.if-i-ws.false)
