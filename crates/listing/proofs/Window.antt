-- A text longer than any listing may be read through a window: what stands behind it changes no bad line. Assumes nothing.
use Prim.Native.Nat.{ℕ, ◌+◌, ◌-◌, ◌≤◌, ◌<◌}
use mathlib.Core.Path.{◌≡◌, sym, ap, ◌∙◌}
use mathlib.Core.List.{List, ◌++◌, append_assoc}
use native.Mathlib.Omega.{arith}
use lib.ListN.{length, take, drop, take-append-drop}
use lib.Seq.{length-take-le, take-append-add}
use Rattle.laws.proofs.Facts.{counts_of}
use Rattle.tables.proofs.Shapes.{kept_of}
use Rattle.listing.specs.Lines.{first_lines, Listable, ListingOf, BeginsAs, BadLine}
use Rattle.listing.specs.Back.{longest, Window}
use Rattle.listing.proofs.Lists.{all_lines, length-lines}
use Rattle.listing.proofs.Texts.{long}

take-front : (xs ys : List ℕ) (n w : ℕ) → w ≡ length xs + n → take w (xs ++ ys) ≡ xs ++ take n ys
take-front xs ys n w e = rw e (take-append-add xs ys n)

-- a table that lists has 3,185 words at most
pub few_words : (t : List ℕ) → Listable t → length t ≤ 3185
few_words t l =
    let c = counts_of t (kept_of t l.shaped).counts in
    omega (arith, long t l, c.ports, c.networks, c.sources, c.expressions, c.rules, c.lists, c.items)

-- so its first lines, and its listing, are within `longest`

pub lines-short : (t : List ℕ) (k : ℕ) → Listable t → k ≤ length t → length (first_lines t k) ≤ longest
lines-short t k l h = omega (arith, few_words t l, length-lines t k)

pub listing-short : (text t : List ℕ) → ListingOf text t → length text ≤ longest
listing-short text t is = omega (arith, ap length (is.same ∙ all_lines t), lines-short t (length t) is.listable (omega arith))

module _ (text : List ℕ) (window : ℕ) (wide : longest < window) (on : window ≤ length text) where
  abbrev seen : List ℕ
  seen = take window text

  seen-long : length seen ≡ window
  seen-long = length-take-le window text on

  -- the text begins as a listing through a line exactly if what is seen of it does

  out : (t : List ℕ) (k : ℕ) → BeginsAs seen t k → BeginsAs text t k
  out t k b =
      record {
        listable = b.listable;
        there = b.there;
        rest = b.rest ++ drop window text;
        same = sym (take-append-drop window text) ∙ rw b.same (append_assoc (first_lines t k) b.rest (drop window text));
      }

  into : (t : List ℕ) (k : ℕ) → BeginsAs text t k → BeginsAs seen t k
  into t k b =
      let short = lines-short t k b.listable b.there in
      let q : window ≡ length (first_lines t k) + (window - length (first_lines t k)) = omega arith in
      record {
        listable = b.listable;
        there = b.there;
        rest = take (window - length (first_lines t k)) b.rest;
        same = rw b.same (take-front (first_lines t k) b.rest (window - length (first_lines t k)) window q);
      }

  too_long : (xs t : List ℕ) → window ≤ length xs → ListingOf xs t → ⊥
  too_long xs t h is = omega (arith, listing-short xs t is)

  bad-too : (k : ℕ) → BadLine seen k → BadLine text k
  bad-too k b =
      record {
        counted = b.counted;
        before = (b.before.0, out b.before.0 (k - 1) b.before.1);
        not_on = λ t c. b.not_on t (into t k c);
        none = λ t. too_long text t on;
      }

pub window : Window
window text w wide on = (bad-too text w wide on, λ t. too_long text w wide on (take w text) t (omega (arith, length-take-le w text on)))
