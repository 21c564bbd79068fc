-- A table file may be cut behind 3,186 words: the check reads of a longer one only that it is longer. Assumes nothing.
use Prim.Native.Nat.{ℕ, zero, suc, ◌*◌, ◌<◌}
use mathlib.Core.Path.{◌≡◌, refl, sym, ◌∙◌}
use mathlib.Core.Bool.{true, false, cond}
use mathlib.Core.List.{List, [], ◌∷◌}
use native.Mathlib.Omega.{arith}
use lib.ListN.{length, take}
use lib.Seq.{get_or-take, take_all, take-nil, length-take-le}
use borrow.Author.Tests.{le-leb, ne_eqb}
use Rattle.rulebook.specs.Table.{table_length}
use Rattle.rulebook.specs.Reasons.{has_header, known_edition, counts_inside, exact_length, accepted, Verdict, verdict, check}
use Rattle.laws.proofs.Tests.{split}
use Rattle.laws.proofs.Facts.{facts, counts_of}
use Rattle.tables.proofs.Chain.{from-header, from-edition, from-counts, from-length, from_fields, kept, broken}
use Rattle.text.specs.Words.{words_of}
use Rattle.text.proofs.Digits.{below}
use Rattle.session.specs.Printed.{printed, table_words}
use Rattle.session.proofs.Checks.{longest}

-- What the check is of a table that is too long: reason 2, 3 or 4.

abbrev when_long : List ℕ → Verdict
when_long t = cond (known_edition t) (cond (counts_inside t) (verdict 4 0) (verdict 3 0)) (verdict 2 0)

has-header : (t : List ℕ) → 3185 < length t → has_header t ≡ true
unfolding has_header
has-header t h = le-leb 3 (length t) (omega arith)

not-exact : (t : List ℕ) → 3185 < length t → counts_inside t ≡ true → exact_length t ≡ false
unfolding exact_length
not-exact t h c = ne_eqb (length t) (table_length t) (λ e. let l = longest t (counts_of t c) in omega arith)

long-check : (t : List ℕ) → 3185 < length t → check t ≡ when_long t
long-check t h =
    from-header t
    ∙ kept t 1 has_header from-edition (has-header t h)
    ∙ split (known_edition t)
    (λ e. kept t 2 known_edition from-counts e
    ∙ split (counts_inside t)
    (λ c. kept t 3 counts_inside from-length c ∙ broken t 4 exact_length from_fields (not-exact t h c) ∙ rw (e, c))
    (λ c. broken t 3 counts_inside from-length c ∙ rw (e, c)))
    (λ e. broken t 2 known_edition from-counts e ∙ rw e)

module _ (k : ℕ) (t : List ℕ) (enough : 3185 < k) where
  same-edition : known_edition (take k t) ≡ known_edition t
  unfolding known_edition
  same-edition = rw (get_or-take k t 0 0 (omega arith))

  same-counts : counts_inside (take k t) ≡ counts_inside t
  unfolding counts_inside
  same-counts = rw (get_or-take k t 0 0 (omega arith), get_or-take k t 1 0 (omega arith), get_or-take k t 2 0 (omega arith))

  long-cut : k < length t → check (take k t) ≡ check t
  long-cut h =
      let l : length (take k t) ≡ k = length-take-le k t (omega arith) in
      long-check (take k t) (omega arith)
      ∙ rw (same-edition, same-counts)
      (sym (long-check t (omega arith)))

  pub cut-check : check (take k t) ≡ check t
  cut-check = below k (length t) long-cut (λ h. rw (take_all k t h))

  pub long-refused : k < length t → accepted t ≡ false
  long-refused h =
      split (accepted t)
      (λ a. let f = facts t a in let l = longest t f.counts in let e = f.exact in absurd (omega arith))
      (λ a. a)

-- The words of a file that is cut behind a word.

four : (k : ℕ) → 4 * suc k ≡ suc (suc (suc (suc (4 * k))))
four k = omega arith

pub words_take : (k : ℕ) (xs : List ℕ) → words_of (take (4 * k) xs) ≡ take k (words_of xs)
unfolding words_of
words_take zero xs = refl
words_take (suc k) (a ∷ b ∷ c ∷ d ∷ xs) = rw (four k, words_take k xs)
words_take (suc k) (a ∷ b ∷ c ∷ []) = rw (four k, take-nil (suc (4 * k)))
words_take (suc k) (a ∷ b ∷ []) = rw (four k)
words_take (suc k) (a ∷ []) = rw (four k)
words_take (suc k) [] = rw (four k)

pub cut-prints : (k : ℕ) (table events : List ℕ) → 3185 < k → printed (take (4 * k) table) events ≡ printed table events
unfolding printed
cut-prints k table events h =
    rw (words_take k table)
    (below k (length (words_of table))
    (λ b.
    let no = long-refused k (words_of table) h b in
    let same = cut-check k (words_of table) h in
    rw (same, no))
    (λ b. rw (take_all k (words_of table) b)))

-- as the program cuts it
pub cut-read : (table events : List ℕ) → printed (take (4 * table_words) table) events ≡ printed table events
cut-read table events = cut-prints table_words table events (omega arith)
