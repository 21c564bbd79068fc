-- The form at a place goes by the header's three words, and in the header by the place alone. Assumes nothing.
use Prim.Native.Nat.{ℕ, zero, suc, ◌-◌, ◌%◌, ◌<◌, ◌≤◌}
use mathlib.Core.Path.{◌≡◌, refl, sym, ap, ◌∙◌}
use mathlib.Core.Bool.{Bool, true, false, true≢false}
use mathlib.Core.List.{List, ◌++◌}
use native.Mathlib.Omega.{arith}
use lib.ListN.{length, get_or-append}
use borrow.Author.Tests.{lt-ltb, le-ltb}
use lib.Dec.{ltb, eqb}
use Rattle.laws.proofs.Tests.{split}
use Rattle.text.proofs.Digits.{below}
use Rattle.rulebook.specs.Words.{word}
use Rattle.rulebook.specs.Table.{edition, networks_from, sources_from, expressions_from, rules_from, lists_from, items_from, table_length}
use Rattle.rulebook.specs.Table.{Part, in_header, at_port, at_network, at_waits, at_source, at_expression, at_rule, at_list, at_item, part}
use Rattle.rulebook.specs.Reasons.{known_edition, counts_inside}
use Rattle.rulebook.specs.Listing.{form_at, place_form}
use Rattle.listing.specs.Lines.{first_lines}

abbrev pub in-header : Part → Bool
in-header in_header = true
in-header (at_port p) = false
in-header (at_network n) = false
in-header (at_waits n) = false
in-header (at_source k) = false
in-header (at_expression e) = false
in-header (at_rule r) = false
in-header (at_list l) = false
in-header (at_item i) = false

abbrev pub Outside : Part → Type 0
Outside p = in-header p ≡ false

module _ (t : List ℕ) (i : ℕ) where
  pub header-form : i < 3 → form_at t i ≡ i
  unfolding form_at part place_form
  header-form h = rw (lt-ltb i 3 h)

  pub outside : 3 ≤ i → Outside (part t i)
  unfolding part
  outside h =
      rw (le-ltb i 3 h)
      (split (ltb i (networks_from t)) (λ a. rw a)
      (λ a.
      rw a
      (split (ltb i (sources_from t)) (λ b. rw b (split (eqb ((i - networks_from t) % 2) 0) (λ p. rw p) (λ p. rw p)))
      (λ b.
      rw b
      (split (ltb i (expressions_from t)) (λ c. rw c)
      (λ c.
      rw c
      (split (ltb i (rules_from t)) (λ d. rw d)
      (λ d. rw d (split (ltb i (lists_from t)) (λ e. rw e) (λ e. rw e (split (ltb i (items_from t)) (λ f. rw f) (λ f. rw f))))))))))))

  pub on-header : part t i ≡ in_header → i < 3
  on-header e = below i 3 (λ h. h) (λ h. absurd (true≢false (ap in-header (sym e) ∙ outside h)))

  bounded : (p : Part) → Outside p → place_form t i p < 13
  unfolding place_form
  bounded in_header o = absurd (true≢false o)
  bounded (at_port p) o = omega arith
  bounded (at_network n) o = omega arith
  bounded (at_waits n) o = omega arith
  bounded (at_source k) o = omega arith
  bounded (at_expression e) o = omega arith
  bounded (at_rule r) o = omega arith
  bounded (at_list l) o = omega arith
  bounded (at_item a) o = split (eqb (edition t) 2) (λ e. rw e (omega arith)) (λ e. rw e (omega arith))

  pub form-bound : form_at t i < 13
  unfolding form_at
  form-bound = below i 3 (λ h. omega (arith, header-form h)) (λ h. bounded (part t i) (outside h))

-- two tables with the same header

abbrev pub Heads : List ℕ → List ℕ → Type 0
Heads t u = (word t 0 ≡ word u 0) × (word t 1 ≡ word u 1) × (word t 2 ≡ word u 2)

module _ (t u : List ℕ) (same : Heads t u) where
  place_same : (i : ℕ) (p : Part) → place_form t i p ≡ place_form u i p
  unfolding place_form
  place_same i in_header = refl
  place_same i (at_port p) = refl
  place_same i (at_network n) = refl
  place_same i (at_waits n) = refl
  place_same i (at_source k) = refl
  place_same i (at_expression e) = refl
  place_same i (at_rule r) = refl
  place_same i (at_list l) = refl
  place_same i (at_item a) = rw same.0

  part_same : (i : ℕ) → part t i ≡ part u i
  unfolding part
  part_same i = rw (same.0, same.1, same.2)

  pub form-same : (i : ℕ) → form_at t i ≡ form_at u i
  unfolding form_at
  form-same i = place_same i (part t i) ∙ ap (place_form u i) (part_same i)

  pub long_same : table_length t ≡ table_length u
  long_same = rw (same.0, same.1, same.2)

  pub edition-same : known_edition t ≡ known_edition u
  unfolding known_edition
  edition-same = rw same.0

  pub counts_same : counts_inside t ≡ counts_inside u
  unfolding counts_inside
  counts_same = rw (same.0, same.1, same.2)

-- two tables with the same first k words

abbrev pub Agree : ℕ → List ℕ → List ℕ → Type 0
Agree k t u = (i : ℕ) → i < k → word t i ≡ word u i

module _ (t u : List ℕ) where
  pub heads-of : (k : ℕ) → 3 ≤ k → Agree k t u → Heads t u
  heads-of k h a = (a 0 (omega arith), a 1 (omega arith), a 2 (omega arith))

  pub of-heads : Heads t u → Agree 3 t u
  of-heads h zero l = h.0
  of-heads h (suc zero) l = h.1
  of-heads h (suc (suc zero)) l = h.2
  of-heads h (suc (suc (suc i))) l = absurd (omega arith)

  -- the form at a place whose words before it agree
  pub form-agrees : (k : ℕ) → Agree k t u → form_at t k ≡ form_at u k
  form-agrees k a = below k 3 (λ h. header-form t k h ∙ sym (header-form u k h)) (λ h. form-same t u (heads-of k h a) k)

  pub lines-agree : (k : ℕ) → Agree k t u → first_lines t k ≡ first_lines u k
  unfolding first_lines
  lines-agree zero a = refl
  lines-agree (suc k) a =
      let before : Agree k t u = λ i h. a i (omega arith) in
      rw (lines-agree k before, form-agrees k before, a k (omega arith))

  pub agree_less : (j k : ℕ) → j ≤ k → Agree k t u → Agree j t u
  agree_less j k h a i l = a i (omega arith)

pub agree-back : (t u : List ℕ) (k : ℕ) → Agree k t u → Agree k u t
agree-back t u k a i h = sym (a i h)

pub agree_on : (t u v : List ℕ) (k : ℕ) → Agree k t u → Agree k u v → Agree k t v
agree_on t u v k a b i h = a i h ∙ b i h

-- a table with more words behind it
pub agree-longer : (t more : List ℕ) → Agree (length t) (t ++ more) t
agree-longer t more i h = get_or-append t more 0 i h
