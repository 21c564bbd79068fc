-- A line is its name and its fields; an expression's two forms have one name. Assumes nothing.
use Prim.Native.Nat.{ℕ, ◌+◌, ◌-◌, ◌^◌, ◌<◌}
use mathlib.Core.Path.{◌≡◌, sym, ap, ◌∙◌}
use mathlib.Core.Bool.{Bool, true, false}
use mathlib.Core.List.{List, ◌++◌, append_assoc}
use native.Mathlib.Omega.{arith}
use Rattle.std.specs.Prelude.{Option, Some, None}
use lib.ListN.{length, take, drop, length-drop}
use lib.Seq.{drop-append_seam, drop-drop, take_all}
use Rattle.std.specs.List.{starts_with}
use Rattle.std.proofs.lemmas.Bool.Decides.{Decides-eqb}
use Rattle.std.proofs.lemmas.Slice.Eq.{starts_is}
use lib.Dec.{eqb}
use borrow.Author.Tests.{eqb-true, eqb-false, ne_eqb}
use Rattle.laws.proofs.Tests.{split, clash}
use Rattle.rulebook.specs.Words.{field}
use Rattle.rulebook.specs.Expressions.{operator_kind}
use Rattle.rulebook.specs.Listing.{form, forms, kind_form, by_kind, fields_of, as_condition}
use Rattle.listing.specs.Lines.{spelt, line}
use Rattle.listing.specs.Inside.{KindAt, ReadsFields, ReadsLine}

-- the name of a line goes by the form at its place
name-by-kind : (k : ℕ) → (form (kind_form as_condition k)).name ≡ (form as_condition).name
unfolding kind_form form forms
name-by-kind k = split (operator_kind k) (λ e. rw e) (λ e. rw e)

pub other-kind : (f k : ℕ) → (f ≡ as_condition → ⊥) → kind_form f k ≡ f
unfolding kind_form
other-kind f k other = rw (ne_eqb f as_condition other)

-- a form is a condition's or another
pub is-condition : {A : Type 0} (f : ℕ) → (f ≡ as_condition → A) → ((f ≡ as_condition → ⊥) → A) → A
is-condition f so other = split (eqb f as_condition) (λ e. so (eqb-true f as_condition e)) (λ e. other (eqb-false f as_condition e))

name-kept : (f w : ℕ) → (form (by_kind f w)).name ≡ (form f).name
name-kept f w = is-condition f (λ e. rw e (name-by-kind (field 0 4 w))) (λ o. rw (other-kind f (field 0 4 w) o))

pub line-parts : (f w : ℕ) (rest : List ℕ) → line (by_kind f w) w ++ rest ≡ (form f).name ++ (spelt (fields_of (by_kind f w) w) ++ rest)
unfolding line
line-parts f w rest = rw (name-kept f w) (append_assoc (form f).name (spelt (fields_of (by_kind f w) w)) rest)

pub cancel : (xs ys zs : List ℕ) → xs ++ ys ≡ xs ++ zs → ys ≡ zs
cancel xs ys zs e = sym (drop-append_seam xs ys) ∙ ap (drop (length xs)) e ∙ drop-append_seam xs zs

module _ (text : List ℕ) (at f : ℕ) where
  abbrev name : List ℕ
  name = (form f).name

  abbrev Behind : Type 0
  Behind = drop at text ≡ name ++ drop (at + length name) text

  pub no_name : ((rest : List ℕ) → drop at text ≡ name ++ rest → ⊥)
      → (w : ℕ) (rest : List ℕ) → w < 2 ^ 32 → drop at text ≡ line (by_kind f w) w ++ rest → ⊥
  no_name none w rest small same = none (spelt (fields_of (by_kind f w) w) ++ rest) (same ∙ line-parts f w rest)

  module _ (stands : Behind) where
    module _ (g : ℕ) (by : KindAt text (at + length name) f g) where
      -- the form of any word whose fields stand there, in its form or in that by which they are read

      its-form : (w : ℕ) (rest : List ℕ) → drop (at + length name) text ≡ spelt (fields_of (by_kind f w) w) ++ rest → g ≡ by_kind f w
      its-form w rest same = is-condition f (λ e. by.told e w rest same) (λ o. by.other o ∙ sym (other-kind f (field 0 4 w) o))

      read-form : (w : ℕ) (rest : List ℕ) → drop (at + length name) text ≡ spelt (fields_of g w) ++ rest → by_kind f w ≡ g
      read-form w rest same = is-condition f (λ e. by.kept e w rest same) (λ o. other-kind f (field 0 4 w) o ∙ sym (by.other o))

      line_read : (r : Option (ℕ × ℕ)) → ReadsFields g text (at + length name) r → ReadsLine f text at r
      line_read (Some (w, next)) h =
          let is = read-form w (drop next text) h.same in
          record {
            small = h.small;
            same = stands ∙ rw (h.same, ← is) (sym (line-parts f w (drop next text)));
            inside = h.inside;
          }
      line_read None h = λ w rest small same.
          let fields = cancel name (drop (at + length name) text) (spelt (fields_of (by_kind f w) w) ++ rest) (sym stands ∙ same ∙ line-parts f w rest) in
          h w rest small (rw (its-form w rest fields) fields)

-- the same with the name's length by a number
pub line-behind : (text : List ℕ) (at f n : ℕ) → n ≡ length (form f).name → drop at text ≡ (form f).name ++ drop (at + length (form f).name) text
    → (g : ℕ) → KindAt text (at + n) f g → (r : Option (ℕ × ℕ)) → ReadsFields g text (at + n) r → ReadsLine f text at r
line-behind text at f n e stands g by r h = line_read text at f stands g (rw e at by) r (rw e at h)

-- what `starts_with` says of the name's bytes

module _ (text : List ℕ) (at f : ℕ) (name : List ℕ) (is : name ≡ (form f).name) (r : Bool)
    (value : r ≡ starts_with eqb (take (length text - at) (drop at text)) name)
  where
    whole : take (length text - at) (drop at text) ≡ drop at text
    whole = take_all (length text - at) (drop at text) (omega (arith, length-drop at text))

    tells : (r ≡ true → drop at text ≡ name ++ drop (length name) (drop at text)) × ((rest : List ℕ) → drop at text ≡ name ++ rest → r ≡ true)
    tells = starts_is Decides-eqb (drop at text) name r (rw whole at value)

    pub stands-so : r ≡ true → drop at text ≡ (form f).name ++ drop (at + length (form f).name) text
    stands-so e = rw is at (tells.0 e) ∙ rw (drop-drop (length (form f).name) at text)

    pub stands-not : r ≡ false → (rest : List ℕ) → drop at text ≡ (form f).name ++ rest → ⊥
    stands-not e rest same = clash (tells.1 rest (same ∙ rw is)) e
