-- The fields of each word are document 01's, by name and in its order. Assumes nothing.
use Prim.Native.Nat.{ℕ, zero, suc, ◌+◌, ◌-◌, ◌*◌, ◌/◌, ◌%◌, ◌<◌}
use mathlib.Core.Path.{◌≡◌, refl, ap}
use mathlib.Core.List.{List}
use native.Mathlib.Omega.{arith}
use lib.Dec.{eqb, ltb}
use borrow.Author.Tests.{ltb-false, eqb-true, eqb-false}
use Rattle.laws.proofs.Tests.{split, clash}
use Rattle.text.proofs.Digits.{below}
use Rattle.listing.proofs.Places.{in-header, outside}
use Rattle.rulebook.specs.Words.{word}
use Rattle.rulebook.specs.Table.{part, Part, in_header, at_port, at_network, at_waits, at_source, at_expression, at_rule, at_list, at_item}
use Rattle.rulebook.specs.Table as Table
use Rattle.rulebook.specs.Expressions.{operator_kind, operator}
use Rattle.rulebook.specs.Listing.{form, forms, kind_form, by_kind, form_at, place_form, fields_from, fields_of}
use Rattle.listing.specs.Back.{named, FieldsNamed}

-- where the word of each part stands
abbrev place : List ℕ → ℕ → Part → ℕ
place t i in_header = i
place t i (at_port p) = Table.ports_from + p
place t i (at_network n) = Table.networks_from t + 2 * n
place t i (at_waits n) = Table.networks_from t + 2 * n + 1
place t i (at_source k) = Table.sources_from t + k
place t i (at_expression e) = Table.expressions_from t + e
place t i (at_rule r) = Table.rules_from t + r
place t i (at_list l) = Table.lists_from t + l
place t i (at_item a) = Table.items_from t + a

fields-of-part : (t : List ℕ) (i : ℕ) (p : Part) → (p ≡ in_header → i < 3)
    → fields_of (by_kind (place_form t i p) (word t (place t i p))) (word t (place t i p)) ≡ named t i p
unfolding fields_of fields_from form forms kind_form place_form named operator Table.abort Table.a_size
fields-of-part t zero in_header h = refl
fields-of-part t (suc zero) in_header h = refl
fields-of-part t (suc (suc zero)) in_header h = refl
fields-of-part t (suc (suc (suc i))) in_header h = absurd (let l = h refl in omega arith)
fields-of-part t i (at_port p) h = refl
fields-of-part t i (at_network n) h = refl
fields-of-part t i (at_waits n) h = refl
fields-of-part t i (at_source k) h = refl
fields-of-part t i (at_expression e) h = split (operator_kind (Table.expression_kind t e)) (λ o. rw o) (λ o. rw o)
fields-of-part t i (at_rule r) h = refl
fields-of-part t i (at_list l) h = refl
fields-of-part t i (at_item a) h = split (eqb (Table.edition t) 2) (λ o. rw o) (λ o. rw o)

-- the word at a place is that of its part

module _ (t : List ℕ) (i : ℕ) where
  odd : (j : ℕ) → Table.networks_from t + j ≡ i → (j % 2 ≡ 0 → ⊥) → Table.networks_from t + 2 * (j / 2) + 1 ≡ i
  odd j e z = omega arith

  pair_place : (j : ℕ) → Table.networks_from t + j ≡ i → place t i (Table.of_pair j) ≡ i
  pair_place j e = split (eqb (j % 2) 0) (λ o. let z = eqb-true (j % 2) 0 o in rw o (omega arith)) (λ o. rw o (odd j e (eqb-false (j % 2) 0 o)))

  placed : place t i (part t i) ≡ i
  unfolding part
  placed =
      split (ltb i Table.ports_from) (λ a. rw a)
      (λ a.
      let a' = ltb-false i Table.ports_from a in
      rw a
      (split (ltb i (Table.networks_from t)) (λ b. rw b (omega arith))
      (λ b.
      let b' = ltb-false i (Table.networks_from t) b in
      rw b
      (split (ltb i (Table.sources_from t)) (λ c. rw c (pair_place (i - Table.networks_from t) (omega arith)))
      (λ c.
      let c' = ltb-false i (Table.sources_from t) c in
      rw c
      (split (ltb i (Table.expressions_from t)) (λ d. rw d (omega arith))
      (λ d.
      let d' = ltb-false i (Table.expressions_from t) d in
      rw d
      (split (ltb i (Table.rules_from t)) (λ e. rw e (omega arith))
      (λ e.
      let e' = ltb-false i (Table.rules_from t) e in
      rw e
      (split (ltb i (Table.lists_from t)) (λ f. rw f (omega arith))
      (λ f.
      let f' = ltb-false i (Table.lists_from t) f in
      rw f
      (split (ltb i (Table.items_from t)) (λ g. rw g (omega arith))
      (λ g. let g' = ltb-false i (Table.items_from t) g in rw g (omega arith))))))))))))))

  header-part : part t i ≡ in_header → i < 3
  header-part e = below i 3 (λ h. h) (λ h. clash (ap in-header e) (outside t i h))

pub fields-named : FieldsNamed
unfolding form_at
fields-named t i = rw (placed t i) at (fields-of-part t i (part t i) (header-part t i))
