-- What the functions inside promise.
use Rattle.std.specs.Prelude.{ℕ, ◌+◌, ◌-◌, ◌^◌, ◌≤◌, ◌<◌, ◌≡◌, true, cond, ◌&&◌, List, [], ◌∷◌, ◌++◌, map, length, take, drop, get_or}
use Rattle.std.specs.Prelude.{Option, Some, None, Result, Ok, Err}
use Rattle.rulebook.specs.Words.{word, between}
use Rattle.rulebook.specs.Reasons.{known_edition, counts_inside}
use Rattle.rulebook.specs.Listing.{fields_of, by_kind, as_condition}
use Rattle.text.specs.Lines.{decimal}
use Rattle.listing.specs.Lines.{spelt, line, first_lines, ListingOf, BadLine}

-- Forms.

abbrev pub power : ℕ → ℕ
power width = 2 ^ width

-- how many values fields of these widths have
unfoldable pub sizes_of : List ℕ → List ℕ
sizes_of widths = map power widths

-- Writing: what lines leave of a room, or that they do not fit.
abbrev pub Leaves : List ℕ → ℕ → Option ℕ → Type 0
Leaves xs room (Some left) = left + length xs ≡ room
Leaves xs room None = room < length xs

-- Reading.

-- the decimal digit at a place; 10 where there is none
unfoldable pub digit_of : ℕ → ℕ
digit_of b = cond (between 48 57 b) (b - 48) 10

abbrev pub digit_at : List ℕ → ℕ → ℕ
digit_at text at = digit_of (get_or text at 0)

abbrev pub ReadsDigit : List ℕ → ℕ → Option ℕ → Type 0
ReadsDigit text at (Some d) = (d ≡ digit_at text at) × (d < 10)
ReadsDigit text at None = 10 ≤ digit_at text at

-- what is asked where a number is read
pub record Spelling (text : List ℕ) (at size end : ℕ) : Type 0 where
  pub inside : at ≤ length text
  pub some : 1 ≤ size
  pub few : size ≤ 65536
  pub ends : end < 48
  pub ending : 1 ≤ end

-- a number below `size` and the byte that ends it stand at a place, and the rest of the text is that from `next` on; or none does
pub record HasNumber (size end : ℕ) (text : List ℕ) (at v next : ℕ) : Type 0 where
  pub small : v < size
  pub same : drop at text ≡ (decimal v ++ end ∷ []) ++ drop next text
  pub inside : next ≤ length text

abbrev pub ReadsNumber : ℕ → ℕ → List ℕ → ℕ → Option (ℕ × ℕ) → Type 0
ReadsNumber size end text at (Some (v, next)) = HasNumber size end text at v next
ReadsNumber size end text at None = (v : ℕ) (rest : List ℕ) → v < size → drop at text ≡ (decimal v ++ end ∷ []) ++ rest → ⊥

-- a word's fields stand at a place, spelt in a form; or no word's do

pub record HasFields (f : ℕ) (text : List ℕ) (at w next : ℕ) : Type 0 where
  pub small : w < 2 ^ 32
  pub same : drop at text ≡ spelt (fields_of f w) ++ drop next text
  pub inside : next ≤ length text

abbrev pub ReadsFields : ℕ → List ℕ → ℕ → Option (ℕ × ℕ) → Type 0
ReadsFields f text at (Some (w, next)) = HasFields f text at w next
ReadsFields f text at None = (w : ℕ) (rest : List ℕ) → w < 2 ^ 32 → drop at text ≡ spelt (fields_of f w) ++ rest → ⊥

-- the form by which the fields at a place are read, where form f has to stand: that of any word whose fields stand there
pub record KindAt (text : List ℕ) (at f r : ℕ) : Type 0 where
  pub other : (f ≡ as_condition → ⊥) → r ≡ f
  pub told : f ≡ as_condition → (w : ℕ) (rest : List ℕ) → drop at text ≡ spelt (fields_of (by_kind f w) w) ++ rest → r ≡ by_kind f w
  pub kept : f ≡ as_condition → (w : ℕ) (rest : List ℕ) → drop at text ≡ spelt (fields_of r w) ++ rest → by_kind f w ≡ r

-- a word's line stands at a place, where form f has to; or no word's does

pub record HasLine (f : ℕ) (text : List ℕ) (at w next : ℕ) : Type 0 where
  pub small : w < 2 ^ 32
  pub same : drop at text ≡ line (by_kind f w) w ++ drop next text
  pub inside : next ≤ length text

abbrev pub ReadsLine : ℕ → List ℕ → ℕ → Option (ℕ × ℕ) → Type 0
ReadsLine f text at (Some (w, next)) = HasLine f text at w next
ReadsLine f text at None = (w : ℕ) (rest : List ℕ) → w < 2 ^ 32 → drop at text ≡ line (by_kind f w) w ++ rest → ⊥

-- the least header: edition 1, a port, an expression and a rule
abbrev pub least : List ℕ
least = 0x01010000 ∷ 0x00010001 ∷ 0 ∷ []

-- three words of a header, whose lines begin a text and end at a place
pub record Opened (text header : List ℕ) (at : ℕ) : Type 0 where
  pub long : length header ≡ 3
  pub words : (i : ℕ) → word header i < 2 ^ 32
  pub sound : known_edition header && counts_inside header ≡ true
  pub same : text ≡ first_lines header 3 ++ drop at text
  pub inside : at ≤ length text

abbrev pub Opens : List ℕ → List ℕ → Result ℕ ℕ → Type 0
Opens text header (Ok at) = Opened text header at
Opens text header (Err k) = BadLine text k

-- a text is the listing of a table with this header and n words; or bad at a line

pub record Whole (text header : List ℕ) (n : ℕ) : Type 0 where
  pub table : List ℕ
  pub listed : ListingOf text table
  pub headed : take 3 table ≡ header
  pub count : n ≡ length table

abbrev pub Scans : List ℕ → List ℕ → Result ℕ ℕ → Type 0
Scans text header (Ok n) = Whole text header n
Scans text header (Err k) = BadLine text k

-- a text that is known to be a listing, and room for its words
pub record Told (text header lent : List ℕ) (n : ℕ) : Type 0 where
  pub whole : Whole text header n
  pub room : n ≤ length lent
