-- What is laid so far stays inside the room.
use Rattle.std.proofs.Common.{◌≤◌, length}
use Rattle.reader.proofs.complaint.put_form.Given as goal

abbrev pub invariant-loop-k : goal.invariant-loop-k
invariant-loop-k l = l.next ≤ length l.out
