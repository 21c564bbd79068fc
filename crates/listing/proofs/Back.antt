-- There and back; two results that a promise allows are equal; the reason is the table check's. Assumes nothing.
use Prim.Native.Nat.{ℕ, ◌-◌, ◌≤◌, ◌<◌}
use mathlib.Core.Path.{◌≡◌, refl, sym, ap, subst, ◌∙◌}
use mathlib.Core.Bool.{false}
use mathlib.Core.List.{List, [], ◌++◌, append-nil}
use native.Mathlib.Omega.{arith}
use lib.ListN.{length, take, drop}
use lib.Seq.{take_at, ext_get_or}
use Rattle.rulebook.specs.Words.{between}
use Rattle.rulebook.specs.Reasons.{has_header, known_edition, counts_inside, exact_length, own_fields, names, nesting, owners, reached, affordable}
use Rattle.rulebook.specs.Reasons.{lowest, or_next, first_of}
use Rattle.rulebook.specs.Listing.{shape_reason}
use Rattle.tables.proofs.Chain.{from_fields}
use Rattle.tables.proofs.Shapes.{left-fields, stops}
use lib.Dec.{ltb}
use borrow.Author.Tests.{le-leb}
use Rattle.laws.proofs.Tests.{split}
use Rattle.text.proofs.Lay.{front-laid}
use Rattle.text.proofs.Digits.{below}
use Rattle.std.specs.Prelude.{Result, Ok, Err}
use Rattle.listing.specs.declared.reading.Unread.{Unread}
use Rattle.listing.specs.declared.reading.Unread.TheVariants.{Line, NoRoom}
use Rattle.listing.specs.Lines.{first_lines, listing, Listable, ListingOf, BadLine}
use Rattle.listing.specs.Promises.{list_answer, Reads, ReadsWords, RefusesRoom}
use Rattle.listing.specs.Back.{ReadsBack, ListsBack, AcceptsExactly, OneReading, OneListing, CheckReason}
use Rattle.listing.proofs.Lists.{all_lines, answered}
use Rattle.listing.proofs.Places.{Agree, heads-of, long_same}
use Rattle.listing.proofs.Decoding.{one_table}
use Rattle.listing.proofs.Texts.{long, headed, listing_begins, begins-less}

-- One text is the listing of one table.

module _ (text t u : List ℕ) (a : ListingOf text t) (b : ListingOf text u) where
  same-heads : Agree 3 t u
  same-heads =
      let x = listing_begins text t a 3 (headed t a.listable) in
      let y = listing_begins text u b 3 (headed u b.listable) in
      (one_table t u a.listable.words b.listable.words 3 x.rest y.rest (sym x.same ∙ y.same)).0

  same-long : length t ≡ length u
  same-long = long t a.listable ∙ long_same t u (heads-of t u 3 (omega arith) same-heads) ∙ sym (long u b.listable)

  pub one-table-lists : t ≡ u
  one-table-lists =
      let x : text ≡ first_lines t (length t) ++ [] = a.same ∙ all_lines t ∙ sym (append-nil (first_lines t (length t))) in
      let y : text ≡ first_lines u (length t) ++ [] = b.same ∙ all_lines u ∙ rw (same-long, append-nil) in
      ext_get_or 0 t u same-long (one_table t u a.listable.words b.listable.words (length t) [] [] (sym x ∙ y)).0

-- One text is bad at one line: where it is bad at k, it begins as a listing through each line before, and through none from k on.

one-before : (text : List ℕ) (j k : ℕ) → BadLine text j → BadLine text k → j < k → ⊥
one-before text j k a b h =
    let t = b.before.0 in
    a.not_on t (begins-less text t j (k - 1) (omega arith) b.before.1)

one-bad : (text : List ℕ) (j k : ℕ) → BadLine text j → BadLine text k → j ≡ k
one-bad text j k a b =
    below j k (λ h. absurd (one-before text j k a b h)) (λ h. below k j (λ l. absurd (one-before text k j b a l)) (λ l. omega arith))

words-one : (text lent : List ℕ) (m n : ℕ) (a b : List ℕ) → ReadsWords text lent m a → ReadsWords text lent n b → ◌≡◌ {A = Result ℕ Unread} (Ok m) (Ok n) × (a ≡ b)
words-one text lent m n a b x y =
    let t = one-table-lists text x.table y.table x.listed y.listed in
    let e : m ≡ n = x.count ∙ ap length t ∙ sym y.count in
    (ap Ok e, x.words ∙ rw (t, e) (sym y.words))

words-room : (text lent : List ℕ) (n : ℕ) (a b : List ℕ) → ReadsWords text lent n a → RefusesRoom text lent b → ⊥
words-room text lent n a b x y =
    let t = one-table-lists text x.table y.table x.listed y.listed in
    omega (arith, x.count, x.inside, y.short, ap length t)

pub one-reading : OneReading
one-reading text lent (Ok m) (Ok n) a b x y = words-one text lent m n a b x y
one-reading text lent (Ok m) (Err (Line k)) a b x y = absurd (y.bad.none x.table x.listed)
one-reading text lent (Ok m) (Err NoRoom) a b x y = absurd (words-room text lent m a b x y)
one-reading text lent (Err (Line j)) (Ok n) a b x y = absurd (x.bad.none y.table y.listed)
one-reading text lent (Err (Line j)) (Err (Line k)) a b x y = (ap (λ (l : ℕ). Err (Line l)) (one-bad text j k x.bad y.bad), x.kept ∙ sym y.kept)
one-reading text lent (Err (Line j)) (Err NoRoom) a b x y = absurd (x.bad.none y.table y.listed)
one-reading text lent (Err NoRoom) (Ok n) a b x y = absurd (words-room text lent n b a y x)
one-reading text lent (Err NoRoom) (Err (Line k)) a b x y = absurd (y.bad.none x.table x.listed)
one-reading text lent (Err NoRoom) (Err NoRoom) a b x y = (refl, x.kept ∙ sym y.kept)

pub one-listing : OneListing
one-listing t out k n l m a b x y = (x.answer ∙ sym y.answer, x.count ∙ sym y.count, x.bytes ∙ sym y.bytes)

-- There and back.

of-itself : (t : List ℕ) → Listable t → ListingOf (listing t) t
of-itself t l = record { listable = l; same = refl }

pub reads-back : ReadsBack
reads-back t lent r lent' l room x =
    one-reading (listing t) lent r (Ok (length t)) lent' (t ++ drop (length t) lent) x
    (record { table = t; listed = of-itself t l; count = refl; inside = room; words = refl })

pub lists_back : ListsBack
lists_back text lent n lent' out k m out' x y room =
    let t = x.table in
    let front : take n lent' ≡ t = rw x.words (take_at t (drop n lent) n (sym x.count)) in
    let is : listing (take n lent') ≡ text = rw front (sym x.listed.same) in
    let z : list_answer (take n lent') (length out) ≡ 0 = rw front (answered t out x.listed.listable.shaped (rw (← x.listed.same) room)) in
    let e : m ≡ length text = y.count ∙ rw (z, is) in
    record { answer = y.answer ∙ z; count = e; bytes = rw (y.bytes, z, is, e) (front-laid out text) }

accepts : (text lent : List ℕ) (r : Result ℕ Unread) (lent' : List ℕ) → Reads text lent r lent' → ((k : ℕ) → r ≡ Err (Line k) → ⊥) → (t : List ℕ) × ListingOf text t
accepts text lent (Ok n) lent' x no_line = (x.table, x.listed)
accepts text lent (Err (Line k)) lent' x no_line = absurd (no_line k refl)
accepts text lent (Err NoRoom) lent' x no_line = (x.table, x.listed)

refuses : (text lent : List ℕ) (r : Result ℕ Unread) (lent' : List ℕ) → Reads text lent r lent' → (t : List ℕ) → ListingOf text t → (k : ℕ) → r ≡ Err (Line k) → ⊥
refuses text lent r lent' x t is k e = (subst (λ (s : Result ℕ Unread). Reads text lent s lent') e x).bad.none t is

pub accepts-exactly : AcceptsExactly
accepts-exactly text lent r lent' x = (accepts text lent r lent' x, λ found. refuses text lent r lent' x found.0 found.1)

-- The reason is the table check's, where that is one of the first four.

late : (t : List ℕ) → between 1 4 (first_of t from_fields).reason ≡ false
unfolding first_of or_next
late t =
    split (ltb (lowest own_fields t) (length t)) (λ a. rw a)
    (λ a.
    rw a
    (split (ltb (lowest names t) (length t)) (λ b. rw b)
    (λ b.
    rw b
    (split (ltb (lowest nesting t) (length t)) (λ c. rw c)
    (λ c.
    rw c
    (split (ltb (lowest owners t) (length t)) (λ d. rw d)
    (λ d. rw d (split (ltb (lowest reached t) (length t)) (λ e. rw e) (λ e. rw e (split (affordable t) (λ f. rw f) (λ f. rw f)))))))))))

pub first-four : (t : List ℕ) → shape_reason t ≤ 4
unfolding shape_reason first_of or_next
first-four t =
    split (has_header t)
    (λ a.
    split (known_edition t)
    (λ b.
    split (counts_inside t)
    (λ c. split (exact_length t) (λ d. rw (a, b, c, d, shape_reason) (omega arith)) (λ d. rw (a, b, c, d, shape_reason) (omega arith)))
    (λ c. rw (a, b, c, shape_reason) (omega arith)))
    (λ b. rw (a, b, shape_reason) (omega arith)))
    (λ a. rw (a, shape_reason) (omega arith))

pub check-reason : CheckReason
check-reason t =
    below (shape_reason t) 1 (λ h. let z : shape_reason t ≡ 0 = omega arith in rw (left-fields t z, late t) z)
    (λ h.
    rw (stops t (λ z. omega arith), le-leb 1 (shape_reason t) h, le-leb (shape_reason t) 4 (first-four t)))
