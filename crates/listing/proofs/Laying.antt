-- Fields laid one behind the other: with those to come laid behind them they are all of them. Assumes nothing.
use Prim.Native.Nat.{ℕ, ◌+◌, ◌-◌, ◌/◌, ◌%◌, ◌^◌, ◌<◌, ◌≤◌}
use mathlib.Core.Path.{◌≡◌, refl, sym, ap, ◌∙◌}
use mathlib.Core.List.{List, [], ◌∷◌, ◌++◌}
use native.Mathlib.Omega.{arith}
use lib.ListN.{length, get_or, drop, length-append}
use lib.Pow.{pow_pos, pow-add, shl-shr}
use Rattle.rulebook.specs.Words.{digit, field}
use Rattle.rulebook.specs.Listing.{form, fields_from, fields_of}
use Rattle.text.specs.Lines.{decimal}
use Rattle.text.specs.Puts.{lay, Put, PutAt}
use Rattle.text.proofs.Lay.{lay-none, lay-more}
use Rattle.text.proofs.Puts.{put-length, one-put}
use Rattle.listing.specs.Lines.{ending, spelt}
use Rattle.listing.proofs.Widths.{bits, width-there, field_next, fields-end, fields-all, bits-next, no_bits}

-- a unit of the fields behind the k-th, from that of those behind the one before
pub next-unit : (from width unit size : ℕ) → from + width ≤ 32 → unit ≡ 2 ^ (32 - from) → size ≡ 2 ^ width → unit / size ≡ 2 ^ (32 - (from + width))
next-unit from width unit size h u s =
    let q : 32 - from ≡ 32 - (from + width) + width = omega arith in
    rw (u, s, q, pow-add 2 (32 - (from + width)) width) (shl-shr (2 ^ (32 - (from + width))) width)

module _ (f w : ℕ) where
  abbrev widths : List ℕ
  widths = (form f).widths

  -- the fields from the k-th on, spelt
  abbrev pub rest : ℕ → List ℕ
  rest k = spelt (fields_from (bits k widths) (drop k widths) w)

  pub rest_all : spelt (fields_of f w) ≡ rest 0
  rest_all = rw (fields-all f w)

  pub rest-none : (k : ℕ) → length widths ≤ k → rest k ≡ []
  unfolding spelt
  rest-none k h = rw (fields-end f (bits k widths) k w h)

  module _ (k : ℕ) (there : k < length widths) where
    abbrev pub piece : List ℕ
    piece = decimal (field (bits k widths) (get_or widths k 0) w) ++ ending (fields_from (bits (k + 1) widths) (drop (k + 1) widths) w) ∷ []

    pub rest-next : rest k ≡ piece ++ rest (k + 1)
    unfolding spelt
    rest-next = rw (field_next f k there w)

    length-next : length (rest k) ≡ length piece + length (rest (k + 1))
    length-next = ap length rest-next ∙ length-append piece (rest (k + 1))

  pub record LaidOf (before : List ℕ) (at next : ℕ) (out : List ℕ) (k unit : ℕ) : Type 0 where
    pub place : next + length (rest k) ≡ at + length (spelt (fields_of f w))
    pub bytes : lay out next (rest k) ≡ lay before at (spelt (fields_of f w))
    pub long : length out ≡ length before
    pub per : unit ≡ 2 ^ (32 - bits k widths)

  module _ (before : List ℕ) (at : ℕ) where
    pub laid-begin : LaidOf before at at before 0 4294967296
    laid-begin = record { place = rw rest_all refl; bytes = rw rest_all refl; long = refl; per = rw (no_bits widths) }

    module _ (room : at + length (spelt (fields_of f w)) ≤ length before) (next : ℕ) (out : List ℕ) (k unit : ℕ) (a : LaidOf before at next out k unit) where
      module _ (there : k < length widths) where
        fits : next + length (piece k there) ≤ length out
        fits = omega (arith, length-next k there, a.place, a.long)

        pub unit-some : (size : ℕ) → size ≡ 2 ^ get_or widths k 0 → 0 < unit / size
        unit-some size s =
            rw (next-unit (bits k widths) (get_or widths k 0) unit size (width-there f k there).within a.per s)
            (pow_pos (32 - (bits k widths + get_or widths k 0)))

        -- the byte that ends it, and its value by unit and size
        pub laid_next : (size n : ℕ) (o' : List ℕ) (end v : ℕ) → size ≡ 2 ^ get_or widths k 0
            → end ≡ ending (fields_from (bits (k + 1) widths) (drop (k + 1) widths) w)
            → v ≡ w / (unit / size) % size → Put (decimal v ++ end ∷ []) out next n o' → LaidOf before at n o' (k + 1) (unit / size)
        unfolding digit
        laid_next size n o' end v s e is p =
            let wide = width-there f k there in
            let u = next-unit (bits k widths) (get_or widths k 0) unit size wide.within a.per s in
            let value : v ≡ field (bits k widths) (get_or widths k 0) w = is ∙ rw (u, s) in
            let put : PutAt (piece k there) out next n o' = one-put {line = piece k there} fits (rw (value, e) at p) in
            record {
              place = omega (arith, length-next k there, a.place, put.place);
              bytes = rw (put.bytes, put.place) (lay-more out next (piece k there) (rest (k + 1)) fits ∙ rw (← rest-next k there) a.bytes);
              long = put-length {xs = piece k there} fits put ∙ a.long;
              per = rw (bits-next k widths there) u;
            }

      pub laid_end : length widths ≤ k → PutAt (spelt (fields_of f w)) before at next out
      laid_end past =
          let none = rest-none k past in
          record { place = omega (arith, ap length none, a.place); bytes = sym (lay-none out next) ∙ rw none at a.bytes }
