-- `listing::writing::listing_room` meets its contract. The loop's invariant: `LeftOf`. Assumes nothing.
use Prim.Native.Nat.{◌≤◌}
use mathlib.Core.Path.{◌≡◌}
use native.Mathlib.Omega.{arith}
use lib.ListN.{length}
use Rattle.listing.specs.Lines.{line_at}
use Rattle.listing.proofs.Lists.{left-begin, left-next, left-short, left_end, line-short}
use Rattle.listing.proofs.writing.listing_room.Goals as goal

pub loop-i-init : goal.loop-i-init
loop-i-init c = left-begin _ _

pub lay_line-long-requires : goal.lay_line-long-requires
lay_line-long-requires c =
    let short : length (line_at c.args.t.now.words c.loop-i.i) ≤ 47 = line-short _ _ in
    (omega arith, omega arith)

pub returns-in_err-left : goal.returns-in_err-left
returns-in_err-left c =
    let long : c.lay_line-long.result ≡ length (line_at c.args.t.now.words c.loop-i.i) = omega (arith, c.lay_line-long.ensures.place) in
    rw c.from_residual.ensures
    (left-short _ _ _ _ _ (omega arith) long c.loop-i.invariant (omega (arith, c.in_err-left.ensures)))

pub loop-i-preserved : goal.loop-i-preserved
loop-i-preserved c =
    let long : c.lay_line-long.result ≡ length (line_at c.args.t.now.words c.loop-i.i) = omega (arith, c.lay_line-long.ensures.place) in
    rw c.in_ok-left.ensures.1 (left-next _ _ _ _ _ (omega arith) long c.loop-i.invariant c.in_ok-left.ensures.0)

pub returns : goal.returns
returns c = left_end _ _ _ _ (omega arith) c.loop-i.invariant
