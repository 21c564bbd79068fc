-- Document 02, Q-4: "one line per word: a section name, then all fields in decimal in document 01's order, zero fields too, single spaces, a
-- newline at each end." The names and the fields stand in the rulebook, `Listing`.
use Rattle.std.specs.Prelude.{ℕ, zero, suc, ◌-◌, ◌^◌, ◌≤◌, ◌<◌, ◌≡◌, List, [], ◌∷◌, ◌++◌, length}
use Rattle.rulebook.specs.Words.{word}
use Rattle.rulebook.specs.Listing.{form, by_kind, form_at, fields_of, shape_reason}
use Rattle.text.specs.Lines.{decimal}

-- what stands behind a number: a space where another follows, a newline behind the last
unfoldable pub ending : List ℕ → ℕ
ending [] = 10
ending (v ∷ vs) = 32

unfoldable pub spelt : List ℕ → List ℕ
spelt [] = []
spelt (v ∷ vs) = (decimal v ++ ending vs ∷ []) ++ spelt vs

-- a word's line in a form, and the line of the word at a place of a table

unfoldable pub line : ℕ → ℕ → List ℕ
line f w = (form f).name ++ spelt (fields_of f w)

abbrev pub line_at : List ℕ → ℕ → List ℕ
line_at t i = line (by_kind (form_at t i) (word t i)) (word t i)

unfoldable pub first_lines : List ℕ → ℕ → List ℕ
first_lines t zero = []
first_lines t (suc k) = first_lines t k ++ line_at t k

unfoldable pub listing : List ℕ → List ℕ
listing t = first_lines t (length t)

-- Reading. "The reader accepts exactly the listings, and its line number is that of the first line at which no listing can go on."

-- a table that lists: 32-bit words, and none of reasons 1 to 4
pub record Listable (t : List ℕ) : Type 0 where
  pub words : (i : ℕ) → word t i < 2 ^ 32
  pub shaped : shape_reason t ≡ 0

-- a text that is the listing of table t
pub record ListingOf (text t : List ℕ) : Type 0 where
  pub listable : Listable t
  pub same : text ≡ listing t

-- a text begins with the first k lines of a table's listing, and something or nothing follows
pub record BeginsAs (text t : List ℕ) (k : ℕ) : Type 0 where
  pub listable : Listable t
  pub there : k ≤ length t
  pub rest : List ℕ
  pub same : text ≡ first_lines t k ++ rest

-- line k, counted from 1, is the first at which no listing can go on: the lines before it are a listing's, with it they are none's, and the text
-- is no listing. So a missing line has the number it would have had, and an extra one the last plus 1.
pub record BadLine (text : List ℕ) (k : ℕ) : Type 0 where
  pub counted : 1 ≤ k
  pub before : (t : List ℕ) × BeginsAs text t (k - 1)
  pub not_on : (t : List ℕ) → BeginsAs text t k → ⊥
  pub none : (t : List ℕ) → ListingOf text t → ⊥
