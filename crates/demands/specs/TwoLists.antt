-- A table of two lists that one request chooses both: list 1 has the larger priority and runs first. Computed, as the marked run is.
use Rattle.std.specs.Prelude.{ℕ, Bool, List, [], ◌∷◌}
use Rattle.rulebook.specs.Step.{step}
use Rattle.rulebook.specs.Marked.{gives}

-- one immediate port, "port 0 equals 5", a rule of each list, and in each list one outside call
unfoldable pub table : List ℕ
table =
    0x01010000 ∷ 0x00010002 ∷ 0x00020002 ∷ 0x01000000 ∷ 0x00005000 ∷ 0x100000FF ∷ 0x100001FF ∷ 0x10080001 ∷ 0x10100101 ∷ 0x0000000A ∷ 0x0000000B ∷ []

unfoldable pub fresh : List ℕ
fresh = 0 ∷ 0 ∷ 0 ∷ []

-- port 0 is set to 5, with four trace words of room and no outcomes lent
unfoldable pub both_run : Bool
both_run =
    gives (step table fresh 4 [] 0x11000500) 0 (0x81400000 ∷ 0x40000000 ∷ 0x40000000 ∷ []) (0xF1010000 ∷ 0x0100000B ∷ 0xF1000000 ∷ 0x0100000A ∷ []) 2
