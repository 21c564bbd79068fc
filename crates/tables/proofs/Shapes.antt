-- Reasons 1 to 4 by themselves, and as the beginning of the check. Assumes nothing.
use Prim.Native.Nat.{ℕ}
use mathlib.Core.Path.{◌≡◌, refl, sym, ap, ◌∙◌}
use mathlib.Core.Bool.{true, false}
use mathlib.Core.List.{List, [], ◌∷◌}
use native.Mathlib.Omega.{arith}
use borrow.Author.Tests.{ne_eqb}
use Rattle.laws.proofs.Tests.{split}
use Rattle.rulebook.specs.Reasons.{has_header, known_edition, counts_inside, exact_length, Verdict, verdict, Link, of_table, first_of, check}
use Rattle.rulebook.specs.Listing.{shape_reason}
use Rattle.std.specs.Prelude.{Result, Ok, Err}
use Rattle.words.specs.Sections.{Read}
use Rattle.tables.specs.declared.Misshapen.{Misshapen}
use Rattle.tables.specs.declared.Misshapen.TheVariants as shape
use Rattle.tables.specs.Finding.{finding, refused, promised, shape_number, fault_of}
use Rattle.tables.proofs.Chain.{from-header, from_fields, none_left, kept, broken, refuses}

abbrev reason-of : Verdict → ℕ
reason-of v = v.reason

-- the four rules, with any others behind them: they are kept, and what comes behind them is left; or one is broken
abbrev before : List Link → List Link
before links = of_table 1 has_header ∷ of_table 2 known_edition ∷ of_table 3 counts_inside ∷ of_table 4 exact_length ∷ links

pub record Kept (t : List ℕ) : Type 0 where
  pub header : has_header t ≡ true
  pub edition : known_edition t ≡ true
  pub counts : counts_inside t ≡ true
  pub exact : exact_length t ≡ true

module _ (t : List ℕ) where
  all-kept : Kept t → (links : List Link) → first_of t (before links) ≡ first_of t links
  all-kept k links = kept t 1 _ _ k.header ∙ kept t 2 _ _ k.edition ∙ kept t 3 _ _ k.counts ∙ kept t 4 _ _ k.exact

  pub short : has_header t ≡ false → (links : List Link) → first_of t (before links) ≡ verdict 1 0
  short h links = broken t 1 _ _ h

  pub unknown : has_header t ≡ true → known_edition t ≡ false → (links : List Link) → first_of t (before links) ≡ verdict 2 0
  unknown h e links = kept t 1 _ _ h ∙ broken t 2 _ _ e

  pub outside : has_header t ≡ true → known_edition t ≡ true → counts_inside t ≡ false → (links : List Link) → first_of t (before links) ≡ verdict 3 0
  outside h e c links = kept t 1 _ _ h ∙ kept t 2 _ _ e ∙ broken t 3 _ _ c

  pub inexact : has_header t ≡ true → known_edition t ≡ true → counts_inside t ≡ true → exact_length t ≡ false
      → (links : List Link) → first_of t (before links) ≡ verdict 4 0
  inexact h e c x links = kept t 1 _ _ h ∙ kept t 2 _ _ e ∙ kept t 3 _ _ c ∙ broken t 4 _ _ x

  -- the reason, where the four rules are kept and where a first one is broken

  pub reason-none : Kept t → shape_reason t ≡ 0
  unfolding shape_reason
  reason-none k = ap reason-of (all-kept k [] ∙ none_left t)

  pub reason-first : (n : ℕ) → ((links : List Link) → first_of t (before links) ≡ verdict n 0) → shape_reason t ≡ n
  unfolding shape_reason
  reason-first n e = ap reason-of (e [])

  -- either the four are kept, or the check gives the same reason, at place 0
  pub data Shaped : Type 0 where
    whole : Kept t → Shaped
    broke : (n : ℕ) → (n ≡ 0 → ⊥) → ((links : List Link) → first_of t (before links) ≡ verdict n 0) → Shaped

  pub shaped : Shaped
  shaped =
      split (has_header t)
      (λ h.
      split (known_edition t)
      (λ e.
      split (counts_inside t)
      (λ c.
      split (exact_length t) (λ x. whole (record { header = h; edition = e; counts = c; exact = x }))
      (λ x. broke 4 (λ z. omega arith) (inexact h e c x)))
      (λ c. broke 3 (λ z. omega arith) (outside h e c)))
      (λ e. broke 2 (λ z. omega arith) (unknown h e)))
      (λ h. broke 1 (λ z. omega arith) (short h))

  kept_by : Shaped → shape_reason t ≡ 0 → Kept t
  kept_by (whole k) e = k
  kept_by (broke n some first) e = absurd (some (sym (reason-first n first) ∙ e))

  pub kept_of : shape_reason t ≡ 0 → Kept t
  kept_of e = kept_by shaped e

  -- where none of the four holds, the check goes on with the rules behind them
  pub left-fields : shape_reason t ≡ 0 → check t ≡ first_of t from_fields
  left-fields e = from-header t ∙ all-kept (kept_of e) from_fields

  -- where one holds, it is the check's
  stops-by : Shaped → (shape_reason t ≡ 0 → ⊥) → check t ≡ verdict (shape_reason t) 0
  stops-by (whole k) some = absurd (some (reason-none k))
  stops-by (broke n _ first) some = from-header t ∙ first from_fields ∙ ap (λ (i : ℕ). verdict i 0) (sym (reason-first n first))

  pub stops : (shape_reason t ≡ 0 → ⊥) → check t ≡ verdict (shape_reason t) 0
  stops some = stops-by shaped some

pub none_of : (t : List ℕ) {r : Result Read Misshapen} {x : Read} → r ≡ Ok x → shape_number r ≡ shape_reason t → shape_reason t ≡ 0
none_of t e n = sym n ∙ ap shape_number e

-- a refusal has a reason
pub some_of : (e : Misshapen) → shape_number (Err e) ≡ 0 → ⊥
some_of shape.TooShort z = omega arith
some_of shape.WrongEdition z = omega arith
some_of shape.WrongCounts z = omega arith
some_of shape.WrongLength z = omega arith

pub as_refused : (e : Misshapen) → finding (Err (fault_of e)) ≡ refused (shape_number (Err e)) 0
as_refused shape.TooShort = refl
as_refused shape.WrongEdition = refl
as_refused shape.WrongCounts = refl
as_refused shape.WrongLength = refl

-- the check's answer is then the refusal's
pub misshapes : (t : List ℕ) (e : Misshapen) → shape_number (Err e) ≡ shape_reason t → finding (Err (fault_of e)) ≡ promised t
misshapes t e said =
    let some : (shape_reason t ≡ 0 → ⊥) = λ z. some_of e (said ∙ z) in
    as_refused e ∙ rw said (refuses t (shape_reason t) 0 (ne_eqb (shape_reason t) 0 some) (stops t some))
