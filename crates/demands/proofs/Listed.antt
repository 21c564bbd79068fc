-- What is concluded of a listing, and of one read back, follows from what the calls promise. Assumes nothing.
use Prim.Native.Nat.{ℕ, ◌^◌, ◌<◌, ◌≤◌}
use mathlib.Core.Path.{◌≡◌, refl, sym, ap, ◌∙◌}
use mathlib.Core.Bool.{true, false}
use mathlib.Core.List.{List}
use native.Mathlib.Omega.{arith}
use lib.ListN.{length, take, drop}
use lib.Seq.{take_at, drop_at}
use lib.Dec.{eqb}
use borrow.Author.Tests.{eq-eqb, ne_eqb, lt-ltb, le-ltb, leb-true}
use Rattle.rulebook.specs.Words.{word, between}
use Rattle.rulebook.specs.Reasons.{check}
use Rattle.rulebook.specs.Listing.{shape_reason}
use Rattle.laws.proofs.Tests.{and_left}
use Rattle.text.proofs.Digits.{below}
use Rattle.text.proofs.Lay.{front-laid, behind-laid}
use Rattle.std.specs.Prelude.{Result, Ok, Err}
use Rattle.listing.specs.declared.reading.Unread.{Unread}
use Rattle.listing.specs.declared.reading.Unread.TheVariants.{Line, NoRoom}
use Rattle.listing.specs.Lines.{listing, ListingOf}
use Rattle.listing.specs.Promises.{list_answer, ListsIn, Reads, ReadsIn, read_number, words_of, line_in}
use Rattle.listing.specs.Back.{longest}
use Rattle.listing.proofs.Back.{check-reason, first-four, one-table-lists, reads-back, lists_back}
use Rattle.listing.proofs.Window.{listing-short}
use Rattle.demands.specs.Demand1.{ListAnswered, ReadAnswered}
use Rattle.demands.specs.Conclusions.{OfListing, OfReading}

module _ (t out : List ℕ) (k n : ℕ) (out' : List ℕ) (p : ListsIn t out k n out') where
  -- the reason is one of the first four, or there is none of these

  has-reason : between 1 4 (check t).reason ≡ true → shape_reason t ≡ (check t).reason
  has-reason e = check-reason t ∙ rw e

  no-reason : between 1 4 (check t).reason ≡ false → shape_reason t ≡ 0
  no-reason e = check-reason t ∙ rw e

  some : between 1 4 (check t).reason ≡ true → (check t).reason ≡ 0 → ⊥
  some e z = let one = leb-true 1 (check t).reason (and_left _ _ e) in omega arith

  pub list-answered : ListAnswered t out k n out'
  unfolding list_answer
  list-answered =
      record {
        reason = λ e. p.answer ∙ rw (has-reason e, ne_eqb (check t).reason 0 (some e));
        no_room = λ e short. p.answer ∙ rw (no-reason e, lt-ltb (length out) (length (listing t)) short);
        done = λ e room. p.answer ∙ rw (no-reason e, le-ltb (length out) (length (listing t)) room);
        bytes_kept = λ r. p.bytes ∙ rw (ne_eqb (list_answer t (length out)) 0 (λ z. r (p.answer ∙ z)));
        no_bytes = λ r. p.count ∙ rw (ne_eqb (list_answer t (length out)) 0 (λ z. r (p.answer ∙ z)));
      }

  module _ (done : k ≡ 0) where
    is-done : eqb (list_answer t (length out)) 0 ≡ true
    is-done = eq-eqb (list_answer t (length out)) 0 (sym p.answer ∙ done)

    long : n ≡ length (listing t)
    long = p.count ∙ rw is-done

    lines : take n out' ≡ listing t
    lines = rw (long, p.bytes, is-done) (front-laid out (listing t))

    behind : drop n out' ≡ drop n out
    behind = rw (long, p.bytes, is-done) (behind-laid out (listing t))

  -- an answer of a table with a reason is that reason
  by-reason : (shape_reason t ≡ 0 → ⊥) → k ≡ shape_reason t
  unfolding list_answer
  by-reason other = p.answer ∙ rw (ne_eqb (shape_reason t) 0 other)

  shaped : k ≡ 0 → shape_reason t ≡ 0
  shaped done = below (shape_reason t) 1 (λ h. omega arith) (λ h. absurd (omega (arith, by-reason (λ z. omega arith))))

  module _ (words : (i : ℕ) → word t i < 2 ^ 32) where
    lists : shape_reason t ≡ 0 → ListingOf (listing t) t
    lists z = record { listable = record { words = words; shaped = z }; same = refl }

    enough-room : shape_reason t ≡ 0 → longest ≤ length out → k ≡ 0
    unfolding list_answer
    enough-room z room = let short = listing-short (listing t) t (lists z) in p.answer ∙ rw (z, le-ltb (length out) (length (listing t)) (omega arith))

    always-enough : longest ≤ length out → k ≡ 11 → ⊥
    always-enough room e =
        below (shape_reason t) 1 (λ h. let z : shape_reason t ≡ 0 = omega arith in omega (arith, enough-room z room))
        (λ h. omega (arith, by-reason (λ z. omega arith), first-four t))

    read_back : k ≡ 0 → (lent : List ℕ) (k₂ n₂ l₂ : ℕ) (lent' : List ℕ) → length t ≤ length lent → ReadsIn (take n out') lent k₂ n₂ l₂ lent'
        → (k₂ ≡ 0) × (n₂ ≡ length t) × (take n₂ lent' ≡ t)
    read_back done lent k₂ n₂ l₂ lent' room q =
        let both = reads-back t lent q.reading lent' (lists (shaped done)).listable room (rw (lines done) at q.reads) in
        let e : n₂ ≡ length t = q.count ∙ ap words_of both.0 in
        (q.answer ∙ ap read_number both.0, e, rw (both.1, e) (take_at t (drop (length t) lent) (length t) refl))

    pub of-listing : OfListing t out k n out'
    of-listing = record { answered = list-answered; lines = lines; behind = behind; enough = always-enough; back = read_back }

-- a text read, by the cases of the answer

module _ (text lent lent' : List ℕ) where
  answered-by : (r : Result ℕ Unread) → Reads text lent r lent' → ReadAnswered text lent (read_number r) (words_of r) (line_in r) lent'
  answered-by (Ok n) x =
      record {
        bad_line = λ e. absurd (omega arith);
        no_line = λ _. refl;
        no_listing = λ none. absurd (none x.table x.listed);
        no_room = λ t is short. let same = one-table-lists text t x.table is x.listed in absurd (omega (arith, ap length same, x.count, x.inside));
        done = λ t is room. refl;
        words_kept = λ r. absurd (r refl);
        no_words = λ r. absurd (r refl);
      }
  answered-by (Err (Line l)) x =
      record {
        bad_line = λ _. x.bad;
        no_line = λ r. absurd (r refl);
        no_listing = λ _. refl;
        no_room = λ t is _. absurd (x.bad.none t is);
        done = λ t is _. absurd (x.bad.none t is);
        words_kept = λ _. x.kept;
        no_words = λ _. refl;
      }
  answered-by (Err NoRoom) x =
      record {
        bad_line = λ e. absurd (omega arith);
        no_line = λ _. refl;
        no_listing = λ none. absurd (none x.table x.listed);
        no_room = λ _ _ _. refl;
        done = λ t is room. let same = one-table-lists text t x.table is x.listed in absurd (omega (arith, ap length same, x.short));
        words_kept = λ _. x.kept;
        no_words = λ _. refl;
      }

  concluded-by : (r : Result ℕ Unread) → Reads text lent r lent' → OfReading text lent (read_number r) (words_of r) (line_in r) lent'
  concluded-by (Ok n) x =
      record {
        answered = answered-by (Ok n) x;
        words = λ _. rw (x.words, take_at x.table (drop n lent) n (sym x.count)) x.listed;
        behind = λ _. rw x.words (drop_at x.table (drop n lent) n (sym x.count));
        back = λ _ out k₂ m out' room q. lists_back text lent n lent' out k₂ m out' x q room;
      }
  concluded-by (Err (Line l)) x =
      record { answered = answered-by (Err (Line l)) x; words = λ e. absurd (omega arith); behind = λ e. absurd (omega arith); back = λ e. absurd (omega arith) }
  concluded-by (Err NoRoom) x =
      record { answered = answered-by (Err NoRoom) x; words = λ e. absurd (omega arith); behind = λ e. absurd (omega arith); back = λ e. absurd (omega arith) }

  pub of-reading : (k n l : ℕ) → ReadsIn text lent k n l lent' → OfReading text lent k n l lent'
  of-reading k n l p = rw (p.answer, p.count, p.line) (concluded-by p.reading p.reads)

pub read-answered : (text lent : List ℕ) (k n l : ℕ) (lent' : List ℕ) → ReadsIn text lent k n l lent' → ReadAnswered text lent k n l lent'
read-answered text lent k n l lent' p = (of-reading text lent lent' k n l p).answered

-- the same over the answer itself
pub of-read : (text lent : List ℕ) (r : Result ℕ Unread) (lent' : List ℕ) → Reads text lent r lent'
    → OfReading text lent (read_number r) (words_of r) (line_in r) lent'
of-read text lent r lent' x = concluded-by text lent lent' r x
