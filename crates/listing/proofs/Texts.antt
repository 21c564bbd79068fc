-- Texts against listings: the lines that were read begin one, and where the next cannot be read none goes on. Assumes nothing.
use Prim.Native.Nat.{ℕ, zero, suc, ◌+◌, ◌-◌, ◌^◌, ◌<◌, ◌≤◌}
use mathlib.Core.Path.{◌≡◌, sym, ◌∙◌}
use mathlib.Core.Bool.{true}
use mathlib.Core.List.{List, [], ◌++◌, append_assoc, append-nil}
use native.Mathlib.Numerals.{add-one}
use native.Mathlib.Omega.{arith}
use lib.ListN.{length, get_or, drop, replicate, length-append, length-replicate, get_or-replicate, get_or-append, get_or-eq_default}
use lib.Seq.{get_or-append-add}
use borrow.Author.Tests.{le-leb, eq-eqb, leb-true, eqb-true}
use Rattle.laws.proofs.Tests.{and_left, and_right, and_both}
use Rattle.text.proofs.Digits.{below}
use Rattle.rulebook.specs.Words.{word}
use Rattle.rulebook.specs.Table.{table_length}
use Rattle.rulebook.specs.Reasons.{has_header, known_edition, counts_inside, exact_length}
use Rattle.tables.proofs.Shapes.{Kept, kept_of, reason-none}
use Rattle.listing.specs.Lines.{line_at, first_lines, Listable, ListingOf, BeginsAs}
use Rattle.listing.proofs.Lists.{all_lines}
use Rattle.listing.proofs.Headers.{sound}
use Rattle.listing.proofs.Places.{Heads, Agree, long_same, edition-same, counts_same, heads-of, lines-agree, agree-longer, agree_less}
use Rattle.listing.proofs.Decoding.{one_table}

-- a list's words, with zeros behind them
zeros-word : (n i : ℕ) → ◌≡◌ {A = ℕ} (get_or (replicate n 0) i 0) 0
zeros-word n i = below i n (λ h. get_or-replicate n i 0 0 h) (λ h. get_or-eq_default (replicate n 0) 0 (rw length-replicate h))

filled-small : (ws : List ℕ) (n : ℕ) → ((i : ℕ) → word ws i < 2 ^ 32) → (i : ℕ) → word (ws ++ replicate n 0) i < 2 ^ 32
filled-small ws n words i =
    below i (length ws) (λ h. rw (get_or-append ws (replicate n 0) 0 i h) (words i))
    (λ h.
    let q : i ≡ length ws + (i - length ws) = omega arith in
    rw (q, get_or-append-add ws (replicate n 0) (i - length ws) 0, zeros-word n (i - length ws)) (omega arith))

-- what a table that lists has

module _ (t : List ℕ) (lists : Listable t) where
  kept : Kept t
  kept = kept_of t lists.shaped

  pub long : length t ≡ table_length t
  unfolding exact_length
  long = eqb-true _ _ kept.exact

  pub headed : 3 ≤ length t
  unfolding has_header
  headed = leb-true 3 (length t) kept.header

  pub is-sound : sound t ≡ true
  is-sound = and_both (known_edition t) (counts_inside t) kept.edition kept.counts

-- a table of so many words, with a sound header, lists

pub lists-so : (t : List ℕ) → ((i : ℕ) → word t i < 2 ^ 32) → sound t ≡ true → length t ≡ table_length t → 3 ≤ length t → Listable t
unfolding has_header exact_length
lists-so t words so exact three =
    record {
      words = words;
      shaped = reason-none t
          (record {
            header = le-leb 3 (length t) three;
            edition = and_left (known_edition t) (counts_inside t) so;
            counts = and_right (known_edition t) (counts_inside t) so;
            exact = eq-eqb (length t) (table_length t) exact;
          });
    }

-- Words that were read, with a sound header and zeros for those to come, are a table that lists.

module _ (ws : List ℕ) (words : (i : ℕ) → word ws i < 2 ^ 32) (three : 3 ≤ length ws) (so : sound ws ≡ true) (n : ℕ)
    (asked : n ≡ table_length ws) (fits : length ws ≤ n) where
  abbrev pub filled : List ℕ
  filled = ws ++ replicate (n - length ws) 0

  filled-long : length filled ≡ n
  filled-long = simp (length-append, length-replicate) (omega arith)

  filled-heads : Heads filled ws
  filled-heads = heads-of filled ws (length ws) three (agree-longer ws (replicate (n - length ws) 0))

  filled-lists : Listable filled
  filled-lists =
      lists-so filled (filled-small ws (n - length ws) words) (rw (edition-same filled ws filled-heads, counts_same filled ws filled-heads) so)
      (filled-long ∙ asked ∙ sym (long_same filled ws filled-heads)) (omega (arith, filled-long))

  -- a text that begins with their first k lines
  pub begins : (k : ℕ) (text rest : List ℕ) → k ≤ length ws → text ≡ first_lines ws k ++ rest → (t : List ℕ) × BeginsAs text t k
  begins k text rest h same = (
    filled,
    record {
      listable = filled-lists;
      there = omega (arith, filled-long);
      rest = rest;
      same = same ∙ rw (lines-agree filled ws k (agree_less filled ws k (length ws) h (agree-longer ws (replicate (n - length ws) 0))));
    },
  )

-- The first lines of a listing are those of the table, one after the other.

lines_next : (t : List ℕ) (k : ℕ) (rest : List ℕ) → first_lines t (k + 1) ++ rest ≡ first_lines t k ++ (line_at t k ++ rest)
unfolding first_lines
lines_next t k rest = rw add-one (append_assoc (first_lines t k) (line_at t k) rest)

-- what stands behind the first k lines of a listing's first k + n
unfoldable behind : List ℕ → ℕ → ℕ → List ℕ
behind t k zero = []
behind t k (suc n) = behind t k n ++ line_at t (k + n)

lines_split : (t : List ℕ) (k n : ℕ) → first_lines t (k + n) ≡ first_lines t k ++ behind t k n
unfolding behind first_lines
lines_split t k zero = let q : k + 0 ≡ k = omega arith in rw (q, append-nil)
lines_split t k (suc n) =
    let q : k + suc n ≡ suc (k + n) = omega arith in
    rw (q, lines_split t k n) (append_assoc (first_lines t k) (behind t k n) (line_at t (k + n)))

-- a text that begins with the first k lines begins with fewer of them
pub fewer : (text ws : List ℕ) (j k : ℕ) → j ≤ k → (rest : List ℕ) → text ≡ first_lines ws k ++ rest → (more : List ℕ) × (text ≡ first_lines ws j ++ more)
fewer text ws j k h rest same =
    let q : j + (k - j) ≡ k = omega arith in
    let split : first_lines ws k ≡ first_lines ws j ++ behind ws j (k - j) = rw q at (lines_split ws j (k - j)) in
    (behind ws j (k - j) ++ rest, same ∙ rw split (append_assoc (first_lines ws j) (behind ws j (k - j)) rest))

-- a text that is a table's listing begins as it, through each of its lines
pub listing_begins : (text t : List ℕ) → ListingOf text t → (k : ℕ) → k ≤ length t → BeginsAs text t k
listing_begins text t is k h =
    let q : k + (length t - k) ≡ length t = omega arith in
    record {
      listable = is.listable;
      there = h;
      rest = behind t k (length t - k);
      same = is.same ∙ all_lines t ∙ rw q at (lines_split t k (length t - k));
    }

-- it begins so through fewer lines, too
pub begins-less : (text t : List ℕ) (j k : ℕ) → j ≤ k → BeginsAs text t k → BeginsAs text t j
begins-less text t j k h b =
    let less = fewer text t j k h b.rest b.same in
    record { listable = b.listable; there = omega (arith, b.there); rest = less.0; same = less.1 }

-- Where a table's listing goes on with the k-th line, behind the lines of words that were read.

module _ (text ws : List ℕ) (words : (i : ℕ) → word ws i < 2 ^ 32) (k at : ℕ) (same : text ≡ first_lines ws k ++ drop at text) where
  pub record GoesOn (t : List ℕ) : Type 0 where
    pub agree : Agree k t ws
    pub rest : List ℕ
    pub next : drop at text ≡ line_at t k ++ rest
    pub small : word t k < 2 ^ 32

  pub goes_on : (t : List ℕ) → BeginsAs text t (k + 1) → GoesOn t
  goes_on t b =
      let both = one_table t ws b.listable.words words k (line_at t k ++ b.rest) (drop at text) (sym (lines_next t k b.rest) ∙ sym b.same ∙ same) in
      record { agree = both.0; rest = b.rest; next = sym both.1; small = b.listable.words k }

  pub begun : (t : List ℕ) → BeginsAs text t k → Agree k t ws
  begun t b = (one_table t ws b.listable.words words k b.rest (drop at text) (sym b.same ∙ same)).0
