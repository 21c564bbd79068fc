-- An expression's kind is the first of its fields, in both of its forms, so it is read before the form is known. Assumes nothing.
use Prim.Native.Nat.{ℕ, ◌<◌}
use mathlib.Core.Path.{◌≡◌, refl, sym, ◌∙◌}
use mathlib.Core.List.{List, [], ◌∷◌, ◌++◌, append_assoc}
use mathlib.Core.Logic.{◌⊎◌, inl, inr, ⊎_elim}
use native.Mathlib.Omega.{arith}
use lib.ListN.{drop}
use Rattle.laws.proofs.Tests.{split}
use Rattle.rulebook.specs.Words.{digit, field}
use Rattle.rulebook.specs.Expressions.{operator_kind}
use Rattle.rulebook.specs.Listing.{form, forms, kind_form, by_kind, fields_from, fields_of, as_condition, as_operator}
use Rattle.text.specs.Lines.{decimal}
use Rattle.listing.specs.Lines.{ending, spelt}
use Rattle.listing.specs.Inside.{HasNumber, KindAt}
use Rattle.listing.proofs.Packing.{one_number}

abbrev Either : ℕ → Type 0
Either g = (g ≡ as_condition) ⊎ (g ≡ as_operator)

one_of : (k : ℕ) → Either (kind_form as_condition k)
unfolding kind_form
one_of k = split (operator_kind k) (λ e. inr (rw e)) (λ e. inl (rw e))

record First (g w : ℕ) : Type 0 where
  behind : List ℕ
  same : spelt (fields_of g w) ≡ (decimal (field 0 4 w) ++ 32 ∷ []) ++ behind

as-condition : (w : ℕ) → First as_condition w
unfolding form forms fields_of fields_from spelt ending
as-condition w = record { behind = spelt (fields_from 4 (8 ∷ 8 ∷ 12 ∷ []) w); same = refl }

as-operator : (w : ℕ) → First as_operator w
unfolding form forms fields_of fields_from spelt ending
as-operator w = record { behind = spelt (fields_from 4 (14 ∷ 14 ∷ []) w); same = refl }

first : (g w : ℕ) → Either g → First g w
first g w e = ⊎_elim (λ (c : g ≡ as_condition). rw c (as-condition w)) (λ (o : g ≡ as_operator). rw o (as-operator w)) e

-- two words' fields, each in its own form of an expression, at one place: the kind is the same
pub same_kind : (w u : ℕ) (xs ys : List ℕ)
    → spelt (fields_of (by_kind as_condition w) w) ++ xs ≡ spelt (fields_of (by_kind as_condition u) u) ++ ys → field 0 4 w ≡ field 0 4 u
same_kind w u xs ys same =
    let a = first (by_kind as_condition w) w (one_of (field 0 4 w)) in
    let b = first (by_kind as_condition u) u (one_of (field 0 4 u)) in
    let left : spelt (fields_of (by_kind as_condition w) w) ++ xs ≡ (decimal (field 0 4 w) ++ 32 ∷ []) ++ (a.behind ++ xs) =
    rw a.same (append_assoc (decimal (field 0 4 w) ++ 32 ∷ []) a.behind xs) in
    let right : spelt (fields_of (by_kind as_condition u) u) ++ ys ≡ (decimal (field 0 4 u) ++ 32 ∷ []) ++ (b.behind ++ ys) =
    rw b.same (append_assoc (decimal (field 0 4 u) ++ 32 ∷ []) b.behind ys) in
    (one_number 32 (omega arith) (field 0 4 w) (field 0 4 u) (a.behind ++ xs) (b.behind ++ ys) (sym left ∙ same ∙ right)).0

kind-small : (w : ℕ) → field 0 4 w < 16
unfolding digit
kind-small w = omega arith

module _ (text : List ℕ) (at : ℕ) where
  -- a word whose fields stand at the place in either form has its kind there
  kind-there : (g w : ℕ) (rest : List ℕ) → Either g → drop at text ≡ spelt (fields_of g w) ++ rest
      → (more : List ℕ) × (drop at text ≡ (decimal (field 0 4 w) ++ 32 ∷ []) ++ more)
  kind-there g w rest e same =
      let f = first g w e in
      (f.behind ++ rest, same ∙ rw f.same (append_assoc (decimal (field 0 4 w) ++ 32 ∷ []) f.behind rest))

  module _ (f : ℕ) (is : f ≡ as_condition) where
    pub no_kind : ((v : ℕ) (rest : List ℕ) → v < 16 → drop at text ≡ (decimal v ++ 32 ∷ []) ++ rest → ⊥) → KindAt text at f as_condition
    no_kind none =
        record {
          other = λ other. absurd (other is);
          told = λ _ w rest same. absurd (never (by_kind f w) w rest (rw is (one_of (field 0 4 w))) same);
          kept = λ _ w rest same. absurd (never as_condition w rest (inl refl) same);
        }
      where
        never : (g w : ℕ) (rest : List ℕ) → Either g → drop at text ≡ spelt (fields_of g w) ++ rest → ⊥
        never g w rest e same = let k = kind-there g w rest e same in none (field 0 4 w) k.0 (kind-small w) k.1

    pub by-kind : (kind next r : ℕ) → HasNumber 16 32 text at kind next → r ≡ kind_form as_condition kind → KindAt text at f r
    by-kind kind next r n e =
        record {
          other = λ other. absurd (other is);
          told = λ _ w rest same. e ∙ rw (is, told (by_kind f w) w rest (rw is (one_of (field 0 4 w))) same);
          kept = λ _ w rest same. rw (is, ← told r w rest (rw e (one_of kind)) same) (sym e);
        }
      where
        told : (g w : ℕ) (rest : List ℕ) → Either g → drop at text ≡ spelt (fields_of g w) ++ rest → kind ≡ field 0 4 w
        told g w rest e same =
            let k = kind-there g w rest e same in
            (one_number 32 (omega arith) kind (field 0 4 w) (drop next text) k.0 (sym n.same ∙ k.1)).0
