-- The place stays inside the text.
use Rattle.std.proofs.Common.{◌≤◌, ◌≡◌, length}
use Rattle.reader.proofs.complaint.read_header.Given as goal

abbrev pub invariant-loop-i : goal.invariant-loop-i
invariant-loop-i l = (length l.header ≡ 3) × (l.at ≤ length l.text)
