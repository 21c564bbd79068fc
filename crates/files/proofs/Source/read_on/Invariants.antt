-- Every turn of the loop reads a byte at least, behind those that stay.
use Rattle.std.proofs.Common.{length, ◌-◌, ◌≡◌, ◌≤◌, ◌<◌, take}
use Rattle.files.proofs.Source.read_on.Given as goal

abbrev pub invariant-loop-bytes : goal.invariant-loop-bytes
invariant-loop-bytes l =
    (l.bytes ≤ length l.block)
    × (length l.block ≡ length l.initial.block)
    × (l.bytes < length l.initial.block → l.from ≤ l.bytes)
    × (take l.from l.block ≡ take l.from l.initial.block)

abbrev pub decreases-loop-bytes : goal.decreases-loop-bytes
decreases-loop-bytes l = length l.initial.block - l.bytes
