-- `day::lay_trace` meets its contract. The loop's invariant: the lines of the first i words stand at the front. The measure is how many are
-- left. Assumes nothing.
use Prim.Native.Nat.{◌-◌, ◌≤◌}
use mathlib.Core.Path.{◌≡◌, refl, ◌∙◌}
use native.Mathlib.Omega.{arith}
use lib.ListN.{length, take}
use Rattle.text.specs.Puts.{PutAt}
use Rattle.day.specs.Printed.{trace_lines}
use Rattle.day.proofs.Lines.{no-trace-laid, traced-to, trace-more}
use Rattle.day.proofs.lay_trace.Given as goal

abbrev pub invariant-loop-i : goal.invariant-loop-i
invariant-loop-i l = (l.i ≤ l.count) × (length l.out ≡ length l.initial.out) × PutAt (trace_lines (take l.i l.trace)) l.initial.out 0 l.at l.out
