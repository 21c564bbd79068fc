-- The version that the archive carries, for a caller to hold against its header's: VERSION's two numbers in one word.
use Rattle.std.specs.Prelude.{ℕ, ◌+◌, ◌*◌}

abbrev pub major : ℕ
major = 5

abbrev pub minor : ℕ
minor = 6

abbrev pub version : ℕ
version = major * 65536 + minor
