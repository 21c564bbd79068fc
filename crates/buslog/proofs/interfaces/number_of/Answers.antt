-- `buslog::interfaces::number_of` meets its contract. The loop's invariant: `SoughtTo`. Assumes nothing.
use native.Mathlib.Omega.{arith}
use Rattle.std.proofs.lemmas.Bool.Decides.{Decides-eqb}
use Rattle.std.proofs.lemmas.Slice.Eq.{slice_eq-Decides}
use Rattle.laws.proofs.Tests.{clash}
use Rattle.buslog.proofs.Called.{sought-all, sought-found, sought-more}
use Rattle.buslog.proofs.interfaces.number_of.Goals as goal

pub returns-then-eq : goal.returns-then-eq
returns-then-eq c = (
  sought-found _ _ _ _ _ c.loop-i.invariant c.loop-i-test.true _ c.bytes_end-end.ensures.0
      ((slice_eq-Decides Decides-eqb _ _ _ c.eq.ensures).0 c.if-eq.true),
  c.loop-i-test.true,
)

pub loop-i-preserved : goal.loop-i-preserved
loop-i-preserved c =
    rw c.min-p.ensures
    (sought-more _ _ _ _ _ c.loop-i.invariant c.loop-i-test.true _ c.bytes_end-end.ensures.0
    (λ e. clash ((slice_eq-Decides Decides-eqb _ _ _ c.eq.ensures).1 e) c.if-eq.false))

pub returns : goal.returns
returns c = sought-all _ _ _ _ _ c.loop-i.invariant (omega arith)
