-- A test that says of each part of a table whether it keeps a rule: what it may answer of a part, by what it promises.
use Rattle.std.specs.Prelude.{ℕ, ◌≡◌, Bool, List}
use Rattle.rulebook.specs.Table as rulebook
use Rattle.words.specs.Parts.{part_of}
use Rattle.words.specs.declared.parts.Part.{Part}

pub record Judges (answers : Part → Bool → Type 0) (rule : List ℕ → rulebook.Part → Bool) (t : List ℕ) : Type 0 where
  pub says : (part : Part) (kept : Bool) → answers part kept → kept ≡ rule t (part_of part)
