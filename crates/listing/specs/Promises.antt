-- What `list` and `read` promise: the input, the answer, and every lent byte or word afterwards; `list` first over the answer's number k and the
-- bytes n, as `gateway` hands them to C (..In), then over the answer that they are of.
use Rattle.std.specs.Prelude.{ℕ, ◌≤◌, ◌<◌, ◌≡◌, cond, not, List, ◌++◌, length, drop, eqb, ltb, Result, Ok, Err}
use Rattle.text.specs.Puts.{lay}
use Rattle.rulebook.specs.Listing.{shape_reason}
use Rattle.listing.specs.declared.writing.NotListed.{NotListed}
use Rattle.listing.specs.declared.writing.NotListed.TheVariants.{TooShort, WrongEdition, WrongCounts, WrongLength, NoRoom}
use Rattle.listing.specs.declared.reading.Unread.{Unread}
use Rattle.listing.specs.declared.reading.Unread.TheVariants as unread
use Rattle.listing.specs.Lines.{listing, ListingOf, BadLine}

-- "Writing is refused with reason 1 to 4 where one holds, then with 11 where the output is too short"
unfoldable pub list_answer : List ℕ → ℕ → ℕ
list_answer t room = cond (not (eqb (shape_reason t) 0)) (shape_reason t) (cond (ltb room (length (listing t))) 11 0)

-- the answers in document 02's numbers, and how many bytes were laid

abbrev pub refusal_number : NotListed → ℕ
refusal_number TooShort = 1
refusal_number WrongEdition = 2
refusal_number WrongCounts = 3
refusal_number WrongLength = 4
refusal_number NoRoom = 11

abbrev pub listed_number : Result ℕ NotListed → ℕ
listed_number (Ok n) = 0
listed_number (Err e) = refusal_number e

abbrev pub bytes_of : Result ℕ NotListed → ℕ
bytes_of (Ok n) = n
bytes_of (Err e) = 0

-- the listing stands at the front of the lent bytes, those behind it are as they were, and a refusal changes none
pub record ListsIn (t out : List ℕ) (k n : ℕ) (out' : List ℕ) : Type 0 where
  pub answer : k ≡ list_answer t (length out)
  pub count : n ≡ cond (eqb (list_answer t (length out)) 0) (length (listing t)) 0
  pub bytes : out' ≡ cond (eqb (list_answer t (length out)) 0) (lay out 0 (listing t)) out
  -- follows; here for a caller that writes them
  pub inside : n ≤ length out

abbrev pub Lists : List ℕ → List ℕ → Result ℕ NotListed → List ℕ → Type 0
Lists t out r out' = ListsIn t out (listed_number r) (bytes_of r) out'

-- "reading likewise with 11 after spelling; nothing is then written". A bad line is a case of its own, 12 where a number is wanted: "line 11 and
-- reason 11 are different cases of the answer".

abbrev pub read_number : Result ℕ Unread → ℕ
read_number (Ok n) = 0
read_number (Err (unread.Line k)) = 12
read_number (Err unread.NoRoom) = 11

abbrev pub words_of : Result ℕ Unread → ℕ
words_of (Ok n) = n
words_of (Err e) = 0

abbrev pub line_in : Result ℕ Unread → ℕ
line_in (Ok n) = 0
line_in (Err (unread.Line k)) = k
line_in (Err unread.NoRoom) = 0

-- the text is a listing, and its table's words, n of them, stand in the front of those lent, whose others are as they were
pub record ReadsWords (text lent : List ℕ) (n : ℕ) (lent' : List ℕ) : Type 0 where
  pub table : List ℕ
  pub listed : ListingOf text table
  pub count : n ≡ length table
  pub inside : n ≤ length lent
  pub words : lent' ≡ table ++ drop n lent

-- line k is the first bad one, and no word is changed
pub record RefusesLine (text lent : List ℕ) (k : ℕ) (lent' : List ℕ) : Type 0 where
  pub bad : BadLine text k
  pub kept : lent' ≡ lent

-- the text is a listing of more words than are lent, and none of those is changed
pub record RefusesRoom (text lent lent' : List ℕ) : Type 0 where
  pub table : List ℕ
  pub listed : ListingOf text table
  pub short : length lent < length table
  pub kept : lent' ≡ lent

abbrev pub Reads : List ℕ → List ℕ → Result ℕ Unread → List ℕ → Type 0
Reads text lent (Ok n) lent' = ReadsWords text lent n lent'
Reads text lent (Err (unread.Line k)) lent' = RefusesLine text lent k lent'
Reads text lent (Err unread.NoRoom) lent' = RefusesRoom text lent lent'

-- the same over the number k of the answer, the words n and the line l, as `gateway` hands them to C
pub record ReadsIn (text lent : List ℕ) (k n l : ℕ) (lent' : List ℕ) : Type 0 where
  pub reading : Result ℕ Unread
  pub reads : Reads text lent reading lent'
  pub answer : k ≡ read_number reading
  pub count : n ≡ words_of reading
  pub line : l ≡ line_in reading
