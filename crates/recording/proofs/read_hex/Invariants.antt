-- The first k bytes are digits, and the value is the number that they spell.
use Rattle.std.proofs.Common.{◌≡◌, true}
use Rattle.recording.specs.Log.{hex_digits, hex_number}
use Rattle.recording.proofs.read_hex.Given as goal

abbrev pub invariant-loop-k : goal.invariant-loop-k
invariant-loop-k l = record { all : hex_digits l.k l.bytes l.at ≡ true; number : l.value ≡ hex_number l.k l.bytes l.at }
