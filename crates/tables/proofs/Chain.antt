-- The check as a chain: what is left of it once the rules before a reason are kept, and what it gives where one is broken.
-- Assumes nothing.
use Prim.Native.Nat.{ℕ, ◌<◌, ◌≤◌, min}
use mathlib.Core.Path.{◌≡◌, refl, ◌∙◌}
use mathlib.Core.Bool.{Bool, true, false}
use mathlib.Core.List.{List, [], ◌∷◌}
use native.Mathlib.Omega.{arith}
use lib.Dec.{eqb}
use lib.ListN.{length}
use borrow.Author.Tests.{lt-leb, le-leb, not-false}
use Rattle.rulebook.specs.Table.{Part, table_length, part}
use Rattle.rulebook.specs.Reasons.{has_header, known_edition, counts_inside, exact_length, own_fields, names, nesting, owners, reached, affordable, bound}
use Rattle.rulebook.specs.Reasons.{verdict, breaks, lowest, Link, of_table, of_words, first_of, check}
use Rattle.laws.specs.Acceptance.{Everywhere}
use Rattle.laws.proofs.Acceptance.{table-passes, table-fails, words-pass, words-fail}
use Rattle.laws.proofs.Walks.{first-before}
use Rattle.laws.proofs.Facts.{at-list}
use Rattle.laws.specs.Facts.{Nested}
use Rattle.tables.specs.Finding.{refused, promised}

-- what is left of the rules from each on

abbrev pub from-cost : List Link
from-cost = of_table 9 affordable ∷ []

abbrev pub from-reached : List Link
from-reached = of_words 10 reached ∷ from-cost

abbrev pub from-owners : List Link
from-owners = of_words 8 owners ∷ from-reached

abbrev pub from-nesting : List Link
from-nesting = of_words 7 nesting ∷ from-owners

abbrev pub from-names : List Link
from-names = of_words 6 names ∷ from-nesting

abbrev pub from_fields : List Link
from_fields = of_words 5 own_fields ∷ from-names

abbrev pub from-length : List Link
from-length = of_table 4 exact_length ∷ from_fields

abbrev pub from-counts : List Link
from-counts = of_table 3 counts_inside ∷ from-length

abbrev pub from-edition : List Link
from-edition = of_table 2 known_edition ∷ from-counts

pub from-header : (t : List ℕ) → check t ≡ first_of t (of_table 1 has_header ∷ from-edition)
unfolding check
from-header t = refl

pub none_left : (t : List ℕ) → first_of t [] ≡ verdict 0 0
unfolding first_of
none_left t = refl

-- a rule that is kept, and one that is broken

module _ (t : List ℕ) (k : ℕ) (rule : List ℕ → Bool) (links : List Link) where
  pub kept : rule t ≡ true → first_of t (of_table k rule ∷ links) ≡ first_of t links
  unfolding first_of
  kept h = table-passes t k rule _ h

  pub broken : rule t ≡ false → first_of t (of_table k rule ∷ links) ≡ verdict k 0
  unfolding first_of
  broken h = table-fails t k rule _ h

module _ (t : List ℕ) (k : ℕ) (rule : List ℕ → Part → Bool) (links : List Link) (n r : ℕ) (long : length t ≡ n) (found : r ≡ lowest rule t) where
  pub kept-by-all : n ≤ r → first_of t (of_words k rule ∷ links) ≡ first_of t links
  unfolding first_of
  kept-by-all h = words-pass t k rule _ (omega arith)

  pub broken-at : r < n → first_of t (of_words k rule ∷ links) ≡ verdict k r
  unfolding first_of
  broken-at h = words-fail t k rule _ (omega arith) ∙ rw found

-- the answers

pub refuses : (t : List ℕ) (k i : ℕ) → eqb k 0 ≡ false → check t ≡ verdict k i → refused k i ≡ promised t
unfolding promised
refuses t k i h e = rw (e, h)

pub dear : (t : List ℕ) (b : ℕ) → b ≡ min 4097 (bound t) → 4096 < b → affordable t ≡ false
unfolding affordable
dear t b h g = lt-leb (bound t) 4096 (omega arith)

pub cheap : (t : List ℕ) (b : ℕ) → b ≡ min 4097 (bound t) → b ≤ 4096 → affordable t ≡ true
unfolding affordable
cheap t b h g = le-leb (bound t) 4096 (omega arith)

pub accepts : (t : List ℕ) (b : ℕ) → check t ≡ verdict 0 0 → b ≡ min 4097 (bound t) → b ≤ 4096 → record { reason = 0; place = 0; bound = b } ≡ promised t
unfolding promised
accepts t b e h g =
    let same : b ≡ bound t = omega arith in
    rw (e, same)

-- a rule that no word was found to break; of rule 7, so of every list

pub kept-everywhere : (rule : List ℕ → Part → Bool) (t : List ℕ) (n r : ℕ) → length t ≡ n → r ≡ lowest rule t → n ≤ r → Everywhere rule t
unfolding lowest breaks
kept-everywhere rule t n r long found none i b =
    not-false (rule t (part t i)) (first-before (breaks rule t) 0 (length t) i (omega arith) (omega arith))

pub no-deep-list : (t : List ℕ) → length t ≡ table_length t → Everywhere nesting t → Nested t
unfolding nesting
no-deep-list t exact kept = at-list t exact nesting kept
