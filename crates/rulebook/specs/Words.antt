-- Words, their fields, and walks over a range of numbers.
-- A table, a state and a trace are lists of 32-bit words. A word past the end reads as 0, so every definition is total.
use Rattle.std.specs.Prelude.{ℕ, zero, suc, ◌+◌, ◌-◌, ◌*◌, ◌/◌, ◌%◌, ◌^◌, Bool, true, false, ◌&&◌, ◌||◌, not, List, [], ◌∷◌, get_or, leb}

abbrev pub word : List ℕ → ℕ → ℕ
word ws i = get_or ws i 0

-- how many whole units w has, beyond whole multiples of `size` of them
unfoldable pub digit : ℕ → ℕ → ℕ → ℕ
digit unit size w = w / unit % size

-- "Fields are packed from the most significant bit": the field of w that `from` bits stand before, `width` bits wide
abbrev pub field : ℕ → ℕ → ℕ → ℕ
field from width w = digit (2 ^ (32 - (from + width))) (2 ^ width) w

-- what v, cut to that width, adds to a word as that field; a packed word is the sum of its fields
abbrev pub in_field : ℕ → ℕ → ℕ → ℕ
in_field from width v = v % 2 ^ width * 2 ^ (32 - (from + width))

abbrev pub implies : Bool → Bool → Bool
implies a b = not a || b

abbrev pub between : ℕ → ℕ → ℕ → Bool
between low high n = leb low n && leb n high

-- The walks go over the n numbers i, i + 1 and so on.

-- the lowest of them at which p holds; i + n where there is none
unfoldable pub first : ℕ → ℕ → (ℕ → Bool) → ℕ
first i zero p = i
first i (suc n) p = elim (p i) [ true ↦ i | false ↦ first (suc i) n p ]

unfoldable pub all : ℕ → ℕ → (ℕ → Bool) → Bool
all i zero p = true
all i (suc n) p = p i && all (suc i) n p

unfoldable pub any : ℕ → ℕ → (ℕ → Bool) → Bool
any i zero p = false
any i (suc n) p = p i || any (suc i) n p

unfoldable pub sum : ℕ → ℕ → (ℕ → ℕ) → ℕ
sum i zero f = 0
sum i (suc n) f = f i + sum (suc i) n f

unfoldable pub listed : ℕ → ℕ → (ℕ → ℕ) → List ℕ
listed i zero f = []
listed i (suc n) f = f i ∷ listed (suc i) n f

-- f done at each of them in turn
unfoldable pub each : {A : Type 0} → ℕ → ℕ → (ℕ → A → A) → A → A
each i zero f a = a
each i (suc n) f a = each (suc i) n f (f i a)

-- f done at each of them in turn, up to and with the first of which `last` holds before f is done
unfoldable pub until : {A : Type 0} → ℕ → ℕ → (ℕ → A → Bool) → (ℕ → A → A) → A → A
until i zero last f a = a
until i (suc n) last f a = elim (last i a) [ true ↦ f i a | false ↦ until (suc i) n last f (f i a) ]
