-- `buslog::lines::read_stamp` meets its contract: the first piece that does not stand, or all of them. Assumes nothing.
use Rattle.buslog.proofs.Spelling.{found, missed, no-opening, no-seconds, no-micros, no-gap, seconds-fit, micros-fit, stamp}
use Rattle.buslog.proofs.lines.read_stamp.Goals as goal

pub returns-in_err-bracket : goal.returns-in_err-bracket
returns-in_err-bracket c =
    rw c.from_residual.ensures (no-opening c.args.text.now c.args.at (missed _ _ _ _ c.read_piece.ensures c.in_err-bracket.ensures.value))

pub returns-in_err-point : goal.returns-in_err-point
returns-in_err-point c =
    let bracket = found _ _ _ _ _ c.read_piece.ensures c.in_ok-bracket.ensures.value in
    rw c.from_residual-in_err-point.ensures (no-seconds _ _ _ bracket (missed _ _ _ _ c.read_piece-2.ensures c.in_err-point.ensures.value))

pub returns-in_err-closing : goal.returns-in_err-closing
returns-in_err-closing c =
    let bracket = found _ _ _ _ _ c.read_piece.ensures c.in_ok-bracket.ensures.value in
    let point = found _ _ _ _ _ c.read_piece-2.ensures c.in_ok-point.ensures.value in
    rw c.from_residual-in_err-closing.ensures
    (no-micros _ _ _ bracket _ point (missed _ _ _ _ c.read_piece-3.ensures c.in_err-closing.ensures.value))

pub returns-in_err-gap : goal.returns-in_err-gap
returns-in_err-gap c =
    let bracket = found _ _ _ _ _ c.read_piece.ensures c.in_ok-bracket.ensures.value in
    let point = found _ _ _ _ _ c.read_piece-2.ensures c.in_ok-point.ensures.value in
    let closing = found _ _ _ _ _ c.read_piece-3.ensures c.in_ok-closing.ensures.value in
    rw c.from_residual-in_err-gap.ensures
    (no-gap _ _ _ bracket _ point _ closing (missed _ _ _ _ c.read_piece-4.ensures c.in_err-gap.ensures.value))

pub read_number-whole-requires : goal.read_number-whole-requires
read_number-whole-requires c =
    let bracket = found _ _ _ _ _ c.read_piece.ensures c.in_ok-bracket.ensures.value in
    let point = found _ _ _ _ _ c.read_piece-2.ensures c.in_ok-point.ensures.value in
    let closing = found _ _ _ _ _ c.read_piece-3.ensures c.in_ok-closing.ensures.value in
    seconds-fit _ _ _ bracket _ point _ closing

pub read_number-time-requires : goal.read_number-time-requires
read_number-time-requires c =
    let bracket = found _ _ _ _ _ c.read_piece.ensures c.in_ok-bracket.ensures.value in
    let point = found _ _ _ _ _ c.read_piece-2.ensures c.in_ok-point.ensures.value in
    let closing = found _ _ _ _ _ c.read_piece-3.ensures c.in_ok-closing.ensures.value in
    micros-fit _ _ _ bracket _ point _ closing _ c.read_number-whole.ensures

pub returns : goal.returns
returns c =
    let bracket = found _ _ _ _ _ c.read_piece.ensures c.in_ok-bracket.ensures.value in
    let point = found _ _ _ _ _ c.read_piece-2.ensures c.in_ok-point.ensures.value in
    let closing = found _ _ _ _ _ c.read_piece-3.ensures c.in_ok-closing.ensures.value in
    let gap = found _ _ _ _ _ c.read_piece-4.ensures c.in_ok-gap.ensures.value in
    stamp _ _ _ bracket _ point _ closing _ c.read_number-whole.ensures _ gap _ c.read_number-time.ensures
