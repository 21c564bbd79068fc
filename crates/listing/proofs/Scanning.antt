-- The lines behind the header's, read one after the other to the text's end. Assumes nothing.
use Prim.Native.Nat.{ℕ, ◌+◌, ◌-◌, ◌^◌, ◌<◌, ◌≤◌}
use mathlib.Core.Path.{◌≡◌, refl, sym, ap, ◌∙◌}
use mathlib.Core.Bool.{true}
use mathlib.Core.List.{List, [], ◌∷◌, ◌++◌, append_assoc, append-nil}
use native.Mathlib.Numerals.{add-one}
use native.Mathlib.Omega.{arith}
use lib.ListN.{length, get_or, take, drop, length-append, length-drop, drop_of_length-le, get_or-eq_default}
use lib.Seq.{get_or_at, length-take-le, get_or-take, ext_get_or}
use Rattle.text.proofs.Digits.{below}
use Rattle.rulebook.specs.Words.{word}
use Rattle.rulebook.specs.Table.{table_length}
use Rattle.rulebook.specs.Listing.{form_at, by_kind}
use Rattle.listing.specs.Lines.{line, first_lines, ListingOf, BeginsAs, BadLine}
use Rattle.listing.specs.Inside.{HasLine, Opened, Whole}
use Rattle.listing.proofs.Headers.{sound}
use Rattle.listing.proofs.Lists.{all_lines}
use Rattle.listing.proofs.Places.{Heads, Agree, heads-of, of-heads, long_same, edition-same, counts_same}
use Rattle.listing.proofs.Places.{form-same, form-agrees, lines-agree, agree-longer}
use Rattle.listing.proofs.Decoding.{one_table}
use Rattle.listing.proofs.Texts.{long, headed, lists-so, begins, fewer, listing_begins, begins-less, goes_on, begun}

-- words are read, i of them, up to a place; their first three are the header
pub record Scanning (text header : List ℕ) (n at i : ℕ) : Type 0 where
  pub table : List ℕ
  pub count : length table ≡ i
  pub words : (j : ℕ) → word table j < 2 ^ 32
  pub heads : Heads table header
  pub same : text ≡ first_lines table i ++ drop at text
  pub inside : at ≤ length text
  pub from : 3 ≤ i
  pub to : i ≤ n

pub begin : (text header : List ℕ) (n at : ℕ) → n ≡ table_length header → Opened text header at → Scanning text header n at 3
begin text header n at asked o =
    record {
      table = header;
      count = o.long;
      words = o.words;
      heads = (refl, refl, refl);
      same = o.same;
      inside = o.inside;
      from = omega arith;
      to = omega arith;
    }

module _ (text header : List ℕ) (n at i : ℕ) (so : sound header ≡ true) (asked : n ≡ table_length header) (s : Scanning text header n at i) where
  sound-table : sound s.table ≡ true
  sound-table = rw (edition-same s.table header s.heads, counts_same s.table header s.heads) so

  length-table : n ≡ table_length s.table
  length-table = asked ∙ sym (long_same s.table header s.heads)

  before : (t : List ℕ) × BeginsAs text t i
  before =
      begins s.table s.words (omega (arith, s.count, s.from)) sound-table n length-table (omega (arith, s.count, s.to)) i text (drop at text)
      (omega (arith, s.count)) s.same

  -- a table whose listing begins so has as many words
  as_long : (t : List ℕ) → BeginsAs text t i → length t ≡ n
  as_long t b =
      let agree = begun text s.table s.words i at s.same t b in
      long t b.listable ∙ long_same t s.table (heads-of t s.table i s.from agree) ∙ sym length-table

  -- and so has one whose listing the text is: its first three lines are the header's
  listing-long : (t : List ℕ) → ListingOf text t → length t ≡ n
  listing-long t is =
      let three = listing_begins text t is 3 (headed t is.listable) in
      let ours = fewer text s.table 3 i s.from (drop at text) s.same in
      let agree = (one_table t s.table is.listable.words s.words 3 three.rest ours.0 (sym three.same ∙ ours.1)).0 in
      long t is.listable ∙ long_same t s.table (heads-of t s.table 3 (omega arith) agree) ∙ sym length-table

  module _ (more : i < n) where
    form-there : (t : List ℕ) → Agree i t s.table → form_at t i ≡ form_at header i
    form-there t agree = form-agrees t s.table i agree ∙ form-same s.table header s.heads i

    pub misspelt : ((w : ℕ) (rest : List ℕ) → w < 2 ^ 32 → drop at text ≡ line (by_kind (form_at header i) w) w ++ rest → ⊥) → BadLine text (i + 1)
    misspelt none =
        let q : i + 1 - 1 ≡ i = omega arith in
        record {
          counted = omega arith;
          before = rw q before;
          not_on = never;
          none = λ t is. never t (listing_begins text t is (i + 1) (omega (arith, listing-long t is)));
        }
      where
        never : (t : List ℕ) → BeginsAs text t (i + 1) → ⊥
        never t b =
            let g = goes_on text s.table s.words i at s.same t b in
            none (word t i) g.rest g.small (g.next ∙ rw (form-there t g.agree))

    module _ (w next : ℕ) (l : HasLine (form_at header i) text at w next) where
      abbrev longer : List ℕ
      longer = s.table ++ w ∷ []

      old : Agree i longer s.table
      old j h = agree-longer s.table (w ∷ []) j (omega (arith, s.count))

      new : word longer i ≡ w
      new = get_or_at s.table w [] 0 i s.count

      length-longer : length longer ≡ i + 1
      length-longer = simp length-append (omega (arith, s.count))

      small : (j : ℕ) → word longer j < 2 ^ 32
      small j =
          below j i (λ h. rw (old j h) (s.words j))
          (λ h.
          below i j (λ k. rw (get_or-eq_default longer 0 {n = j} (omega (arith, length-longer))) (omega arith))
          (λ k. let e : j ≡ i = omega arith in rw (e, new) l.small))

      first_three : Heads longer header
      first_three =
          let a = heads-of longer s.table i s.from old in
          (a.0 ∙ s.heads.0, a.1 ∙ s.heads.1, a.2 ∙ s.heads.2)

      pub step : Scanning text header n next (i + 1)
      unfolding first_lines
      step =
          record {
            table = longer;
            count = length-longer;
            words = small;
            heads = first_three;
            same = s.same
                ∙ rw (l.same, add-one, lines-agree longer s.table i old, form-there longer old, new)
                (sym (append_assoc (first_lines s.table i) (line (by_kind (form_at header i) w) w) (drop next text)));
            inside = l.inside;
            from = omega (arith, s.from);
            to = omega arith;
          }

  module _ (all : i ≡ n) where
    pub extra : at < length text → BadLine text (n + 1)
    extra on =
        let q : n + 1 - 1 ≡ i = omega arith in
        record {
          counted = omega arith;
          before = rw q before;
          not_on = λ t b. omega (arith, b.there, as_long t (begins-less text t i (n + 1) (omega arith) b));
          none = λ t is.
              let ends = listing_begins text t is n (omega (arith, listing-long t is)) in
              let e : length t ≡ n = listing-long t is in
              let whole : text ≡ first_lines t n ++ [] = is.same ∙ all_lines t ∙ rw (e, append-nil) in
              let ours : text ≡ first_lines s.table n ++ drop at text = rw all at s.same in
              let none : [] ≡ drop at text = (one_table t s.table is.listable.words s.words n [] (drop at text) (sym whole ∙ ours)).1 in
              omega (arith, length-drop at text, ap length none);
        }

    pub whole : length header ≡ 3 → length text ≤ at → Whole text header n
    whole three past =
        let none : drop at text ≡ [] = drop_of_length-le text past in
        let e : i ≡ length s.table = sym s.count in
        record {
          table = s.table;
          listed = record {
            listable = lists-so s.table s.words sound-table (s.count ∙ all ∙ length-table) (omega (arith, s.count, s.from));
            same = s.same ∙ rw (none, append-nil, e) (sym (all_lines s.table));
          };
          headed = ext_get_or 0 (take 3 s.table) header (length-take-le 3 s.table (omega (arith, s.count, s.from)) ∙ sym three) each;
          count = sym all ∙ sym s.count;
        }
      where
        each : (j : ℕ) → j < length (take 3 s.table) → get_or (take 3 s.table) j 0 ≡ get_or header j 0
        each j h =
            let three : length (take 3 s.table) ≡ 3 = length-take-le 3 s.table (omega (arith, s.count, s.from)) in
            let l : j < 3 = omega arith in
            get_or-take 3 s.table j 0 l ∙ of-heads s.table header s.heads j l
