-- `buslog::lines::read_line` meets its contract. Assumes nothing.
use mathlib.Core.Path.{refl}
use Rattle.buslog.proofs.Spelling.{found, missed, no-stamp, no-name, no-frame, says}
use Rattle.buslog.proofs.lines.read_line.Goals as goal

pub returns-in_err-stamp : goal.returns-in_err-stamp
returns-in_err-stamp c = rw c.from_residual.ensures (no-stamp c.args.text.now c.args.at c.in_err-stamp.ensures)

pub returns-in_err-space : goal.returns-in_err-space
returns-in_err-space c =
    rw c.from_residual-in_err-space.ensures
    (no-name _ _ _ c.in_ok-stamp.ensures (missed _ _ _ _ c.read_piece.ensures c.in_err-space.ensures.value))

pub returns-in_err-frame : goal.returns-in_err-frame
returns-in_err-frame c =
    let space = found _ _ _ _ _ c.read_piece.ensures c.in_ok-space.ensures.value in
    rw c.from_residual-in_err-frame.ensures (no-frame _ _ _ c.in_ok-stamp.ensures _ space c.in_err-frame.ensures)

pub returns : goal.returns
returns c =
    let space = found _ _ _ _ _ c.read_piece.ensures c.in_ok-space.ensures.value in
    says _ _ _ c.in_ok-stamp.ensures _ space _ c.in_ok-frame.ensures _ refl
