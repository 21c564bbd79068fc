-- `buslog::pieces::read_piece` meets its contract. Assumes nothing.
use Prim.Native.Nat.{ℕ}
use mathlib.Core.Path.{subst}
use native.Mathlib.Omega.{arith}
use Rattle.buslog.specs.Pieces.{piece_of}
use Rattle.buslog.specs.Inside.{Misses}
use Rattle.buslog.proofs.Spelling.{a-piece, a-miss, ends-some}
use Rattle.buslog.proofs.pieces.read_piece.Goals as goal

pub returns-then-may_have-byte : goal.returns-then-may_have-byte
returns-then-may_have-byte c =
    let ends = c.bytes_end-end.ensures in
    a-piece (piece_of c.args.p) _ _ _ ends.0 _ _ _ c.may_have.ensures c.byte.ensures c.ending.ensures c.if-may_have-byte.true (ends-some c.args.p) ends.1

pub returns-else-may_have-byte : goal.returns-else-may_have-byte
returns-else-may_have-byte c =
    let ends = c.bytes_end-end.ensures in
    let missed = a-miss (piece_of c.args.p) _ _ _ ends.0 _ _ _ c.may_have.ensures c.byte.ensures c.ending.ensures c.if-may_have-byte.false ends.1 in
    subst (λ (k : ℕ). Misses (piece_of c.args.p) c.args.text.now c.args.at k) (omega (arith, missed.from)) missed
