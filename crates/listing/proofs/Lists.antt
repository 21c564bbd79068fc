-- Lines one behind the other: how long they are, what they leave of a room, and a listing laid. Assumes nothing.
use Prim.Native.Nat.{ℕ, zero, suc, ◌+◌, ◌-◌, ◌*◌, ◌/◌, ◌^◌, ◌<◌, ◌≤◌}
use mathlib.Core.Path.{◌≡◌, refl, sym, ap, ◌∙◌}
use mathlib.Core.List.{List, [], ◌∷◌, ◌++◌}
use native.Mathlib.Nat.{mod-lt, zero-add}
use native.Mathlib.Numerals.{add-one}
use native.Mathlib.Omega.{arith}
use lib.ListN.{length, get_or, length-append}
use lib.Pow.{pow_pos, pow_mono}
use borrow.Author.Tests.{ne_eqb, lt-ltb, le-ltb}
use Rattle.rulebook.specs.Words.{digit, field}
use Rattle.rulebook.specs.Listing.{form, fields_from, fields_of, shape_reason}
use Rattle.text.specs.Puts.{Put, PutAt}
use Rattle.text.proofs.Decimal.{decimal-within}
use Rattle.text.proofs.Lay.{lay-none}
use Rattle.text.proofs.Puts.{one-put, put-more, put-length}
use Rattle.listing.specs.Lines.{spelt, line, line_at, first_lines, listing}
use Rattle.listing.specs.declared.writing.NotListed.{NotListed}
use Rattle.listing.specs.declared.writing.NotListed.TheVariants.{TooShort, WrongEdition, WrongCounts, WrongLength, NoRoom}
use Rattle.listing.specs.Promises.{refusal_number, list_answer, ListsIn}
use Rattle.listing.proofs.Widths.{short-name, few-fields, narrow}

-- No line is longer than 47 bytes: 11 of the name, and six for each of six fields.

field-small : (from width w : ℕ) → width ≤ 16 → field from width w < 10 ^ 5
unfolding digit
field-small from width w h =
    let m = mod-lt (w / 2 ^ (32 - (from + width))) (pow_pos width) in
    let p : 2 ^ width ≤ 2 ^ 16 = pow_mono h in
    omega arith

spelt-short : (from : ℕ) (widths : List ℕ) (w : ℕ) → ((k : ℕ) → k < length widths → get_or widths k 0 ≤ 16)
    → length (spelt (fields_from from widths w)) ≤ 6 * length widths
unfolding spelt fields_from
spelt-short from [] w thin = omega arith
spelt-short from (width ∷ widths) w thin =
    let one = decimal-within 4 (field from width w) (field-small from width w (thin 0 (omega arith))) in
    let behind = spelt-short (from + width) widths w (λ k h. thin (suc k) (omega arith)) in
    simp length-append (omega arith)

pub line-short : (f w : ℕ) → length (line f w) ≤ 47
unfolding line fields_of
line-short f w =
    let name = short-name f in
    let few = few-fields f in
    let fields = spelt-short 0 (form f).widths w (λ k h. narrow f k h) in
    simp length-append (omega arith)

-- a name is laid, and its line's fields fit behind it; with them its line is laid

module _ (f w : ℕ) {before out name : List ℕ} {at next : ℕ} (room : at + length (line f w) ≤ length before) (is : name ≡ (form f).name)
    (laid : Put name before at next out) where
  name-room : at + length (form f).name + length (spelt (fields_of f w)) ≤ length before
  unfolding line
  name-room = omega (arith, length-append (form f).name (spelt (fields_of f w)))

  its-name : PutAt (form f).name before at next out
  its-name = one-put {line = (form f).name} (omega (arith, name-room)) (rw is at laid)

  pub name_fits : next + length (spelt (fields_of f w)) ≤ length out
  name_fits = omega (arith, name-room, its-name.place, put-length {xs = (form f).name} (omega (arith, name-room)) its-name)

  pub name_put : {behind : ℕ} {after : List ℕ} → PutAt (spelt (fields_of f w)) out next behind after → PutAt (line f w) before at behind after
  unfolding line
  name_put fields = put-more {xs = (form f).name} {ys = spelt (fields_of f w)} (omega (arith, name-room)) its-name fields

-- nothing laid
put-none : (out : List ℕ) (at : ℕ) → PutAt [] out at at out
put-none out at = record { place = omega arith; bytes = sym (lay-none out at) }

module _ (t : List ℕ) where
  pub lines_next : (i : ℕ) → first_lines t (i + 1) ≡ first_lines t i ++ line_at t i
  unfolding first_lines
  lines_next i = rw add-one

  pub longer : (i : ℕ) → length (first_lines t (i + 1)) ≡ length (first_lines t i) + length (line_at t i)
  longer i = ap length (lines_next i) ∙ length-append (first_lines t i) (line_at t i)

  pub length-lines : (k : ℕ) → length (first_lines t k) ≤ 47 * k
  unfolding first_lines
  length-lines zero = omega arith
  length-lines (suc k) =
      let so = length-lines k in
      let one : length (line_at t k) ≤ 47 = line-short _ _ in
      simp length-append (omega arith)

  -- the first lines are no longer than more of them
  pub lines-grow : (n k : ℕ) → length (first_lines t k) ≤ length (first_lines t (k + n))
  lines-grow zero k = let q : k + 0 ≡ k = omega arith in rw q (omega arith)
  lines-grow (suc n) k =
      let q : k + suc n ≡ k + n + 1 = omega arith in
      rw q (omega (arith, lines-grow n k, longer (k + n)))

  pub within : (i : ℕ) → i < length t → length (first_lines t i) + length (line_at t i) ≤ length (listing t)
  unfolding listing
  within i h =
      let q : i + 1 + (length t - (i + 1)) ≡ length t = omega arith in
      omega (arith, longer i, rw q at (lines-grow (length t - (i + 1)) (i + 1)))

  pub lines_none : first_lines t 0 ≡ []
  unfolding first_lines
  lines_none = refl

  pub all_lines : listing t ≡ first_lines t (length t)
  unfolding listing
  all_lines = refl

  -- a listing laid line by line

  pub record LaidTo (before : List ℕ) (i next : ℕ) (out : List ℕ) : Type 0 where
    pub put : PutAt (first_lines t i) before 0 next out
    pub long : length out ≡ length before

  module _ (before : List ℕ) where
    pub laid-begin : LaidTo before 0 0 before
    laid-begin = record { put = rw lines_none (put-none before 0); long = refl }

    module _ (room : length (listing t) ≤ length before) (i next : ℕ) (out : List ℕ) (so : LaidTo before i next out) where
      pub laid-room : i < length t → next + length (line_at t i) ≤ length out
      laid-room h = omega (arith, within i h, so.put.place, so.long)

      pub laid_next : i < length t → (n : ℕ) (o' : List ℕ) → PutAt (line_at t i) out next n o' → LaidTo before (i + 1) n o'
      laid_next h n o' p =
          record {
            put = rw (lines_next i) (put-more {xs = first_lines t i} {ys = line_at t i} (omega (arith, within i h)) so.put p);
            long = put-length {xs = line_at t i} (laid-room h) p ∙ so.long;
          }

      pub laid_end : i ≡ length t → PutAt (listing t) before 0 next out
      laid_end e = rw all_lines (rw e at so.put)

  -- what they leave of a room

  abbrev pub LeftOf : ℕ → ℕ → ℕ → Type 0
  LeftOf room left i = left + length (first_lines t i) ≡ room

  pub left-begin : (room : ℕ) → LeftOf room room 0
  left-begin room = rw lines_none (omega arith)

  module _ (room left i long : ℕ) (there : i < length t) (is : long ≡ length (line_at t i)) (so : LeftOf room left i) where
    pub left-next : long ≤ left → LeftOf room (left - long) (i + 1)
    left-next h = omega (arith, longer i)

    pub left-short : left < long → room < length (listing t)
    left-short h = omega (arith, within i there)

  pub left_end : (room left : ℕ) → (i : ℕ) → i ≡ length t → LeftOf room left i → left + length (listing t) ≡ room
  left_end room left i e so = rw all_lines (rw e at so)

-- the answers

pub some-refusal : (n : NotListed) → refusal_number n ≡ 0 → ⊥
some-refusal TooShort z = omega arith
some-refusal WrongEdition z = omega arith
some-refusal WrongCounts z = omega arith
some-refusal WrongLength z = omega arith
some-refusal NoRoom z = omega arith

module _ (t out : List ℕ) where
  refused : (k : ℕ) → list_answer t (length out) ≡ k → (k ≡ 0 → ⊥) → ListsIn t out k 0 out
  refused k e some =
      let z = ne_eqb k 0 some in
      record { answer = sym e; count = rw (e, z); bytes = rw (e, z); inside = omega arith }

  pub no-shape : (k : ℕ) → k ≡ shape_reason t → (k ≡ 0 → ⊥) → ListsIn t out k 0 out
  unfolding list_answer
  no-shape k e some = refused k (rw (← e, ne_eqb k 0 some)) some

  module _ (shaped : shape_reason t ≡ 0) where
    pub no_room : length out < length (listing t) → ListsIn t out 11 0 out
    unfolding list_answer
    no_room h = refused 11 (rw (shaped, lt-ltb (length out) (length (listing t)) h)) (λ e. omega arith)

    pub answered : length (listing t) ≤ length out → list_answer t (length out) ≡ 0
    unfolding list_answer
    answered h = rw (shaped, le-ltb (length out) (length (listing t)) h)

    pub done : length (listing t) ≤ length out → {n : ℕ} {out' : List ℕ} → PutAt (listing t) out 0 n out' → ListsIn t out 0 n out'
    done h p =
        let z = answered h in
        record {
          answer = sym z;
          count = p.place ∙ rw z (zero-add (length (listing t)));
          bytes = p.bytes ∙ rw z;
          inside = omega (arith, p.place);
        }
