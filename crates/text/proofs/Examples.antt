-- A word of the marked table from a file with three bytes too many, its line, and two numbers: computed on the definitions.
-- Assumes nothing.
use mathlib.Core.Path.{◌≡◌, refl}
use mathlib.Core.List.{[], ◌∷◌}
use Rattle.text.specs.Words.{words_of}
use Rattle.text.specs.Lines.{hex_digit, digits, places_in, places, decimal, decimal_line, hex_line}

pub example : (words_of (0x03 ∷ 0x0A ∷ 0x00 ∷ 0x05 ∷ 0x00 ∷ 0x00 ∷ 0x50 ∷ []) ≡ 0x030A0005 ∷ [])
    × (hex_line 0x030A0005 ≡ 48 ∷ 51 ∷ 48 ∷ 65 ∷ 48 ∷ 48 ∷ 48 ∷ 53 ∷ 10 ∷ [])
    × (decimal_line 4660 ≡ 52 ∷ 54 ∷ 54 ∷ 48 ∷ 10 ∷ [])
    × (decimal_line 0 ≡ 48 ∷ 10 ∷ [])
unfolding words_of hex_digit digits places_in places decimal hex_line
example = (refl, refl, refl, refl)
