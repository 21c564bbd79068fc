-- What an opened file has left in the bytes that were lent to open it, and what reading on leaves.
use Rattle.std.specs.Prelude.{◌≡◌, List, ℕ, ◌≤◌, length, take, Result, Ok, Err}
use Rattle.files.specs.Counts.{IsPrefixLen}
use Rattle.files.specs.declared.File.{File}

-- its name stands at the front of the path, and its first bytes at the front of the block
pub record Holds (r : File) (path block : List ℕ) : Type 0 where
  pub name : IsPrefixLen r.named path
  pub first : IsPrefixLen r.bytes block

-- n bytes of a block are filled, which had `from` before: those are as they were
pub record Fills (from n : ℕ) (before after : List ℕ) : Type 0 where
  pub bytes : IsPrefixLen n after
  pub least : from ≤ length before → from ≤ n
  pub stay : take from after ≡ take from before

-- the same where a read failed: the count is of the bytes that the block had by then
abbrev pub FillsIf : ℕ → Result ℕ ℕ → List ℕ → List ℕ → Type 0
FillsIf from (Ok n) before after = Fills from n before after
FillsIf from (Err n) before after = Fills from n before after
