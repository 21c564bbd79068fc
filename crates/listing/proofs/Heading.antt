-- The header's three lines read one after the other, each judged as it comes. Assumes nothing.
use Prim.Native.Nat.{ℕ, ◌+◌, ◌-◌, ◌^◌, ◌<◌, ◌≤◌}
use mathlib.Core.Path.{◌≡◌, refl, sym, ◌∙◌}
use mathlib.Core.Bool.{true, false}
use mathlib.Core.List.{List, ◌++◌, append_assoc}
use native.Mathlib.Numerals.{add-one}
use native.Mathlib.Omega.{arith}
use lib.ListN.{length, drop, set, length-set}
use lib.Seq.{get_or-set_same, get_or-set_other}
use Rattle.laws.proofs.Tests.{clash}
use Rattle.text.proofs.Digits.{below}
use Rattle.rulebook.specs.Words.{word}
use Rattle.rulebook.specs.Table.{table_length}
use Rattle.rulebook.specs.Listing.{by_kind}
use Rattle.listing.specs.Lines.{line, first_lines, BeginsAs, BadLine}
use Rattle.listing.specs.Inside.{least, HasLine, Opened}
use Rattle.listing.proofs.Headers.{sound, inside_at, sound-of, of-sound, least-inside, least-words}
use Rattle.listing.proofs.Places.{header-form, lines-agree}
use Rattle.listing.proofs.Decoding.{one_line}
use Rattle.listing.proofs.Texts.{is-sound, headed, begins, listing_begins, goes_on}

-- the first i words of a header are read, up to a place, and the others are the least
pub record Heading (text header : List ℕ) (at i : ℕ) : Type 0 where
  pub long : length header ≡ 3
  pub words : (j : ℕ) → word header j < 2 ^ 32
  pub so : sound header ≡ true
  pub unread : (j : ℕ) → i ≤ j → j < 3 → word header j ≡ word least j
  pub same : text ≡ first_lines header i ++ drop at text
  pub inside : at ≤ length text

pub begin : (text : List ℕ) → Heading text least 0 0
unfolding first_lines
begin text =
    record { long = refl; words = least-words; so = sound-of least least-inside; unread = λ j _ _. refl; same = refl; inside = omega arith }

module _ (text header : List ℕ) (at i : ℕ) (h : Heading text header at i) (third : i < 3) where
  before : (t : List ℕ) × BeginsAs text t i
  before =
      begins header h.words (omega (arith, h.long)) h.so (table_length header) refl (omega (arith, h.long)) i text (drop at text)
      (omega (arith, h.long)) h.same

  -- a table whose listing goes on so has its own header's line there
  line-there : (t : List ℕ) (b : BeginsAs text t (i + 1)) → (rest : List ℕ) × (drop at text ≡ line (by_kind i (word t i)) (word t i) ++ rest)
  line-there t b =
      let g = goes_on text header h.words i at h.same t b in
      (g.rest, g.next ∙ rw (header-form t i third))

  bad : ((t : List ℕ) → BeginsAs text t (i + 1) → ⊥) → BadLine text (i + 1)
  bad never =
      let q : i + 1 - 1 ≡ i = omega arith in
      record {
        counted = omega arith;
        before = rw q before;
        not_on = never;
        none = λ t is. never t (listing_begins text t is (i + 1) (omega (arith, headed t is.listable)));
      }

  pub misspelt : ((w : ℕ) (rest : List ℕ) → w < 2 ^ 32 → drop at text ≡ line (by_kind i w) w ++ rest → ⊥) → BadLine text (i + 1)
  misspelt none = bad (λ t b. let l = line-there t b in none (word t i) l.0 (b.listable.words i) l.1)

  module _ (w next : ℕ) (l : HasLine i text at w next) where
    abbrev pub longer : List ℕ
    longer = set header i w

    new_word : word longer i ≡ w
    new_word = get_or-set_same header i w 0 (omega (arith, h.long))

    old-word : (j : ℕ) → (j ≡ i → ⊥) → word longer j ≡ word header j
    old-word j other = get_or-set_other header i j w 0 other

    by_word : {A : Type 0} (j : ℕ) → (j ≡ i → A) → ((j ≡ i → ⊥) → A) → A
    by_word j f g = below j i (λ b. g (λ e. omega arith)) (λ b. below i j (λ c. g (λ e. omega arith)) (λ c. f (omega arith)))

    pub step : sound longer ≡ true → Heading text longer next (i + 1)
    unfolding first_lines
    step so =
        record {
          long = simp length-set h.long;
          words = λ j. by_word j (λ (e : j ≡ i). rw (e, new_word) l.small) (λ (o : j ≡ i → ⊥). rw (old-word j o) (h.words j));
          so = so;
          unread = λ j a b. old-word j (λ e. omega arith) ∙ h.unread j (omega arith) b;
          same = h.same
              ∙ rw (l.same, add-one, lines-agree longer header i (λ j b. old-word j (λ e. omega arith)), header-form longer i third, new_word)
              (sym (append_assoc (first_lines header i) (line (by_kind i w) w) (drop next text)));
          inside = l.inside;
        }

    -- a header that may go on so keeps the limits in each of its words
    each : (t : List ℕ) → BeginsAs text t (i + 1) → (j : ℕ) → j < 3 → inside_at j (word longer j) ≡ true
    each t b j c =
        let there = line-there t b in
        let is : word t i ≡ w =
        (one_line i (word t i) w there.0 (drop next text) (omega arith) (b.listable.words i) l.small (sym there.1 ∙ l.same)).0 in
        let limits = of-sound t (is-sound t b.listable) j c in
        below j i
        (λ a. rw (old-word j (λ e. omega arith), ← (goes_on text header h.words i at h.same t b).agree j a) limits)
        (λ a.
        below i j (λ d. rw (old-word j (λ e. omega arith), h.unread j (omega arith) c) (least-inside j c))
        (λ d. let e : j ≡ i = omega arith in rw (e, new_word, ← is) (rw e at limits)))

    pub unsound : sound longer ≡ false → BadLine text (i + 1)
    unsound fails = bad (λ t b. clash (sound-of longer (each t b)) fails)

-- all three are read
pub opened : (text header : List ℕ) (at i : ℕ) → Heading text header at i → i ≡ 3 → Opened text header at
opened text header at i h e =
    record { long = h.long; words = h.words; sound = h.so; same = rw e at h.same; inside = h.inside }
