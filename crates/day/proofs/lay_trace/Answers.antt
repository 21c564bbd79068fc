-- `day::lay_trace` meets its contract. The loop's invariant: the lines of the first i words stand at the front. The measure is how many are
-- left. Assumes nothing.
use Prim.Native.Nat.{◌-◌, ◌≤◌}
use mathlib.Core.Path.{◌≡◌, refl, ◌∙◌}
use native.Mathlib.Omega.{arith}
use lib.ListN.{length, take}
use Rattle.text.specs.Puts.{PutAt}
use Rattle.day.specs.Printed.{trace_lines}
use Rattle.day.proofs.Lines.{no-trace-laid, traced-to, trace-more}
use Rattle.day.proofs.lay_trace.Goals as goal

pub loop-i-init : goal.loop-i-init
loop-i-init c =
    let a = c.args in
    (omega arith, refl, no-trace-laid a.out.now a.trace.now)

pub lay_trace_word-at-requires : goal.lay_trace_word-at-requires
lay_trace_word-at-requires c =
    let a = c.args in
    let l = c.loop-i in
    let to = traced-to a.out.now a.trace.now l.i l.at l.out (omega arith) l.invariant.2 in
    omega arith

pub loop-i-preserved : goal.loop-i-preserved
loop-i-preserved c =
    let l = c.loop-i in
    let a = c.args in
    let put = c.lay_trace_word-at in (
      omega arith,
      put.auto.out ∙ l.invariant.1,
      trace-more a.out.now a.trace.now l.i l.at l.out (omega arith) l.invariant.2 (omega arith) _ _ put.ensures,
    )

pub returns : goal.returns
returns c =
    let l = c.loop-i in
    let all : l.i ≡ c.args.count = omega arith in
    rw all at l.invariant.2
