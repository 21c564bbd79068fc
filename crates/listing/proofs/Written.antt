-- The words of a text that is a listing, written one after the other. Assumes nothing.
use Prim.Native.Nat.{ℕ, suc, ◌+◌, ◌^◌, ◌<◌, ◌≤◌}
use mathlib.Core.Path.{◌≡◌, refl, sym, ◌∙◌}
use mathlib.Core.List.{List, ◌++◌, append_assoc}
use native.Mathlib.Numerals.{add-one}
use native.Mathlib.Omega.{arith}
use lib.ListN.{length, get_or, take, drop, set}
use lib.Seq.{length-take-le, get_or-take, take-suc, drop-cons, set_at, take_all}
use Rattle.rulebook.specs.Words.{word}
use Rattle.rulebook.specs.Table.{table_length}
use Rattle.rulebook.specs.Listing.{form_at, by_kind}
use Rattle.listing.specs.Lines.{line, first_lines, ListingOf}
use Rattle.listing.specs.Inside.{HasLine, Told}
use Rattle.listing.specs.Promises.{ReadsWords}
use Rattle.listing.proofs.Places.{Heads, long_same, form-same, form-bound}
use Rattle.listing.proofs.Decoding.{one_line}
use Rattle.listing.proofs.Texts.{long, listing_begins, goes_on}

pub record Written (text table lent after : List ℕ) (at i : ℕ) : Type 0 where
  pub same : text ≡ first_lines table i ++ drop at text
  pub inside : at ≤ length text
  pub words : after ≡ take i table ++ drop i lent
  pub to : i ≤ length table

-- the words that are lent have room for the table's
pub fits : (text header lent : List ℕ) (n : ℕ) (told : Told text header lent n) → length told.whole.table ≤ length lent
fits text header lent n told = omega (arith, told.whole.count, told.room)

module _ (text table lent : List ℕ) (is : ListingOf text table) (room : length table ≤ length lent) where
  pub begin : Written text table lent lent 0 0
  unfolding first_lines
  begin = record { same = refl; inside = omega arith; words = refl; to = omega arith }

  abbrev words : (j : ℕ) → word table j < 2 ^ 32
  words = is.listable.words

  module _ (header after : List ℕ) (at i : ℕ) (headed : take 3 table ≡ header) (s : Written text table lent after at i) where
    heads : Heads header table
    heads = (
      rw (← headed) (get_or-take 3 table 0 0 (omega arith)),
      rw (← headed) (get_or-take 3 table 1 0 (omega arith)),
      rw (← headed) (get_or-take 3 table 2 0 (omega arith)),
    )

    form-there : form_at header i ≡ form_at table i
    form-there = form-same header table heads i

    pub long-header : length table ≡ table_length header
    long-header = long table is.listable ∙ sym (long_same header table heads)

    module _ (more : i < length table) where
      line-there : (rest : List ℕ) × (drop at text ≡ line (by_kind (form_at header i) (word table i)) (word table i) ++ rest)
      line-there =
          let g = goes_on text table words i at s.same table (listing_begins text table is (i + 1) (omega arith)) in
          (g.rest, g.next ∙ rw form-there)

      pub never : ((w : ℕ) (rest : List ℕ) → w < 2 ^ 32 → drop at text ≡ line (by_kind (form_at header i) w) w ++ rest → ⊥) → ⊥
      never none = none (word table i) line-there.0 (words i) line-there.1

      pub step : (w next : ℕ) → HasLine (form_at header i) text at w next → Written text table lent (set after i w) next (i + 1)
      unfolding first_lines
      step w next l =
          let is_word : w ≡ word table i =
          (one_line (form_at header i) w (word table i) (drop next text) line-there.0 (form-bound header i) l.small (words i)
          (sym l.same ∙ line-there.1)).0 in
          let front : length (take i table) ≡ i = length-take-le i table s.to in
          record {
            same = s.same
                ∙ rw (l.same, add-one, is_word, form-there)
                (sym (append_assoc (first_lines table i) (line (by_kind (form_at table i) (word table i)) (word table i)) (drop next text)));
            inside = l.inside;
            words = rw (s.words, add-one, drop-cons lent i 0 (omega arith), take-suc table i 0 more, append_assoc, is_word)
                (set_at (take i table) (get_or lent i 0) (drop (suc i) lent) (word table i) i front);
            to = omega arith;
          }

    pub finish : (n : ℕ) → i ≡ n → n ≡ length table → ReadsWords text lent n after
    finish n e all =
        record {
          table = table;
          listed = is;
          count = all;
          inside = omega arith;
          words = s.words ∙ rw (e, take_all n table (omega arith));
        }
