-- Lines in ASCII: a word in eight capital hex digits, a number in decimal, each with a newline.
use Rattle.std.specs.Prelude.{ℕ, zero, suc, ◌+◌, ◌/◌, ◌%◌, true, false, cond, List, [], ◌∷◌, ◌++◌, ltb}

-- 0 to 9, then A to F
unfoldable pub hex_digit : ℕ → ℕ
hex_digit d = cond (ltb d 10) (48 + d) (55 + d)

-- the last k digits of n in a base of at most 16, the highest first
unfoldable pub digits : ℕ → ℕ → ℕ → List ℕ
digits base zero n = []
digits base (suc k) n = digits base k (n / base) ++ hex_digit (n % base) ∷ []

-- how many decimal digits n has without a leading zero, 0 having one; looked for in at most `turns` divisions
unfoldable pub places_in : ℕ → ℕ → ℕ
places_in zero n = 1
places_in (suc turns) n = elim (ltb n 10) [ true ↦ 1 | false ↦ suc (places_in turns (n / 10)) ]

-- n divisions are always enough
unfoldable pub places : ℕ → ℕ
places n = places_in n n

abbrev pub newline : List ℕ
newline = 10 ∷ []

unfoldable pub decimal : ℕ → List ℕ
decimal n = digits 10 (places n) n

abbrev pub decimal_line : ℕ → List ℕ
decimal_line n = decimal n ++ newline

unfoldable pub hex_line : ℕ → List ℕ
hex_line w = digits 16 8 w ++ newline

unfoldable pub hex_lines : List ℕ → List ℕ
hex_lines [] = []
hex_lines (w ∷ ws) = hex_line w ++ hex_lines ws
