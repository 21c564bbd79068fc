-- `buslog::pieces::bytes_end` meets its contract. The loop's invariant: `RunsTo`. Assumes nothing.
use mathlib.Core.Path.{sym, ◌∙◌}
use native.Mathlib.Omega.{arith}
use Rattle.buslog.specs.Pieces.{piece_of}
use Rattle.buslog.proofs.Runs.{goes_on, stops-here, stops-last}
use Rattle.buslog.proofs.pieces.bytes_end.Goals as goal

pub returns-then-not-has : goal.returns-then-not-has
returns-then-not-has c =
    (stops-here _ _ _ _ (omega arith) (sym c.has.ensures ∙ c.if-not-has.true) c.loop-end.invariant, c.loop-end.invariant.inside)

pub loop-end-preserved : goal.loop-end-preserved
loop-end-preserved c = goes_on _ _ _ _ (omega arith) (sym c.has.ensures ∙ c.if-not-has.false) c.loop-end.invariant

pub returns : goal.returns
returns c =
    let last = stops-last (piece_of c.args.p).has c.args.text.now c.args.at c.loop-end.end (omega arith) c.loop-end.invariant in
    (omega (arith, last, c.loop-end.invariant.inside), omega arith)
