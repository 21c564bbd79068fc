-- "In files each word is four bytes, high byte first"; "bytes past the last whole word of a file are ignored".
use Rattle.std.specs.Prelude.{ℕ, ◌+◌, ◌*◌, ◌^◌, min, ◌≡◌, List, [], ◌∷◌, ◌++◌, length, get_or, take, drop}

abbrev pub word_of : ℕ → ℕ → ℕ → ℕ → ℕ
word_of a b c d = a * 2 ^ 24 + b * 2 ^ 16 + c * 2 ^ 8 + d

unfoldable pub words_of : List ℕ → List ℕ
words_of (a ∷ b ∷ c ∷ d ∷ rest) = word_of a b c d ∷ words_of rest
words_of (a ∷ b ∷ c ∷ []) = []
words_of (a ∷ b ∷ []) = []
words_of (a ∷ []) = []
words_of [] = []

-- a word past the last whole one reads as 0
abbrev pub word_at : List ℕ → ℕ → ℕ
word_at bytes i = get_or (words_of bytes) i 0

-- n is as many of ws as `before` has room for; they stand in its front, and the rest is as it was
pub record Front (ws before : List ℕ) (n : ℕ) (after : List ℕ) : Type 0 where
  pub count : n ≡ min (length ws) (length before)
  pub words : after ≡ take n ws ++ drop n before
