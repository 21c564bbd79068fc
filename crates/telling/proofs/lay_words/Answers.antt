-- `telling::lay_words` meets its contract. The loop's invariant: `LaidOf`. The measure is how many words are left. Assumes nothing.
use mathlib.Core.Path.{refl}
use native.Mathlib.Omega.{arith}
use Rattle.telling.proofs.Lines.{laid-room, laid_next, laid_end}
use Rattle.telling.proofs.lay_words.Goals as goal

pub lay_word-next-requires : goal.lay_word-next-requires
lay_word-next-requires c =
    laid-room _ _ _ _ _ c.requires _ _ _ c.loop-i.invariant (omega arith)

pub loop-i-preserved : goal.loop-i-preserved
loop-i-preserved c =
    laid_next _ _ _ _ _ c.requires _ _ _ c.loop-i.invariant _ _ (omega arith) c.lay_word-next.ensures

pub returns : goal.returns
returns c = laid_end _ _ _ _ _ c.requires _ _ _ c.loop-i.invariant (omega arith)

pub loop-i-init : goal.loop-i-init
loop-i-init c = record { place = refl; bytes = refl; long = refl }
