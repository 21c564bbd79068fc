-- `buslog::lines::read_frame` meets its contract: the first piece that does not stand, or both. Assumes nothing.
use Rattle.buslog.proofs.Spelling.{found, missed, no-identifier, no-pairs, identifier-fits, frame}
use Rattle.buslog.proofs.lines.read_frame.Goals as goal

pub returns-in_err-hash : goal.returns-in_err-hash
returns-in_err-hash c =
    rw c.from_residual.ensures (no-identifier c.args.text.now c.args.at (missed _ _ _ _ c.read_piece.ensures c.in_err-hash.ensures.value))

pub returns-in_err-newline : goal.returns-in_err-newline
returns-in_err-newline c =
    let hash = found _ _ _ _ _ c.read_piece.ensures c.in_ok-hash.ensures.value in
    rw c.from_residual-in_err-newline.ensures (no-pairs _ _ _ hash (missed _ _ _ _ c.read_piece-2.ensures c.in_err-newline.ensures.value))

pub read_number-number-requires : goal.read_number-number-requires
read_number-number-requires c = identifier-fits _ _ _ (found _ _ _ _ _ c.read_piece.ensures c.in_ok-hash.ensures.value)

pub returns : goal.returns
returns c =
    let hash = found _ _ _ _ _ c.read_piece.ensures c.in_ok-hash.ensures.value in
    let newline = found _ _ _ _ _ c.read_piece-2.ensures c.in_ok-newline.ensures.value in
    frame _ _ _ hash _ newline _ _ c.read_number-number.ensures c.tells_bus_off.ensures
