-- One text, one table: fields, lines and whole listings are told by their bytes, whatever stands behind them. Assumes nothing.
use Prim.Native.Nat.{ℕ, zero, suc, ◌+◌, ◌-◌, ◌*◌, ◌/◌, ◌^◌, ◌<◌, ◌≤◌}
use mathlib.Core.Path.{◌≡◌, refl, sym, ap, ◌∙◌}
use mathlib.Core.Bool.{◌&&◌}
use mathlib.Core.List.{List, [], ◌∷◌, ◌++◌, append_assoc}
use mathlib.Core.Logic.{⊎_elim}
use native.Mathlib.Nat.{div-eq_of_lt, div-one}
use native.Mathlib.Omega.{arith}
use lib.ListN.{length, get_or, drop}
use Rattle.text.proofs.Digits.{below}
use Rattle.text.specs.Lines.{decimal}
use Rattle.rulebook.specs.Words.{word, digit, field}
use Rattle.laws.proofs.Tests.{split}
use Rattle.rulebook.specs.Expressions.{operator_kind}
use Rattle.rulebook.specs.Listing.{form, kind_form, by_kind, form_at, fields_from, fields_of, as_condition}
use Rattle.listing.specs.Lines.{ending, spelt, line, line_at, first_lines}
use lib.Dec.{eqb}
use Rattle.listing.proofs.Beyond.{has-fields}
use Rattle.listing.proofs.Places.{Agree, form-agrees, form-bound}
use Rattle.listing.proofs.Widths.{bits, no_bits, bits-next, bits_full, width-there}
use Rattle.listing.proofs.Laying.{rest, rest_all, rest-next, rest-none}
use Rattle.listing.proofs.Packing.{one_number, upper-next}
use Rattle.listing.proofs.ByKind.{same_kind}
use Rattle.listing.proofs.OneLine.{line-parts, cancel, is-condition, other-kind}

ends_same : (from : ℕ) (widths : List ℕ) (w u : ℕ)
    → (ending (fields_from from widths w) ≡ ending (fields_from from widths u)) × (ending (fields_from from widths w) < 48)
unfolding ending fields_from
ends_same from [] w u = (refl, omega arith)
ends_same from (width ∷ widths) w u = (refl, omega arith)

-- The fields from the k-th on, of two words with the same upper part.

module _ (f w u : ℕ) (xs ys : List ℕ) where
  abbrev widths : List ℕ
  widths = (form f).widths

  abbrev upper : ℕ → ℕ → ℕ
  upper k v = v / 2 ^ (32 - bits k widths)

  next-upper : (k : ℕ) → k < length widths → (v : ℕ)
      → upper (k + 1) v ≡ upper k v * 2 ^ get_or widths k 0 + field (bits k widths) (get_or widths k 0) v
  unfolding digit
  next-upper k there v =
      let wide = width-there f k there in
      let q : 32 - (bits k widths + get_or widths k 0) + get_or widths k 0 ≡ 32 - bits k widths = omega (arith, wide.within) in
      rw (bits-next k widths there) (sym (upper-next (32 - (bits k widths + get_or widths k 0)) (get_or widths k 0) v) ∙ rw q)

  -- one field more
  step : (k : ℕ) → k < length widths → rest f w k ++ xs ≡ rest f u k ++ ys
      → (field (bits k widths) (get_or widths k 0) w ≡ field (bits k widths) (get_or widths k 0) u) × (rest f w (k + 1) ++ xs ≡ rest f u (k + 1) ++ ys)
  step k there same =
      let end = ending (fields_from (bits (k + 1) widths) (drop (k + 1) widths) w) in
      let ends = ends_same (bits (k + 1) widths) (drop (k + 1) widths) w u in
      let v = field (bits k widths) (get_or widths k 0) w in
      let n = field (bits k widths) (get_or widths k 0) u in
      let left : rest f w k ++ xs ≡ (decimal v ++ end ∷ []) ++ (rest f w (k + 1) ++ xs) =
      rw (rest-next f w k there) (append_assoc (decimal v ++ end ∷ []) (rest f w (k + 1)) xs) in
      let right : rest f u k ++ ys ≡ (decimal n ++ end ∷ []) ++ (rest f u (k + 1) ++ ys) =
      rw (rest-next f u k there, ← ends.0) (append_assoc (decimal n ++ end ∷ []) (rest f u (k + 1)) ys) in
      one_number end ends.1 v n (rest f w (k + 1) ++ xs) (rest f u (k + 1) ++ ys) (sym left ∙ same ∙ right)

  from_on : (left k : ℕ) → k + left ≡ length widths → upper k w ≡ upper k u → rest f w k ++ xs ≡ rest f u k ++ ys
      → (upper (length widths) w ≡ upper (length widths) u) × (xs ≡ ys)
  from_on zero k e same behind =
      let z : k ≡ length widths = omega arith in
      (rw z at same, rw (rest-none f w k (omega arith), rest-none f u k (omega arith)) at behind)
  from_on (suc left) k e same behind =
      let there : k < length widths = omega arith in
      let one = step k there behind in
      from_on left (k + 1) (omega arith) (rw (next-upper k there w, next-upper k there u, same, one.0)) one.1

  -- behind the last field the upper part is the word
  whole : 1 ≤ length widths → upper (length widths) w ≡ upper (length widths) u → w ≡ u
  whole some e =
      ⊎_elim
      (λ (full : bits (length widths) widths ≡ 32).
      let z : 32 - bits (length widths) widths ≡ 0 = omega arith in
      sym (div-one w) ∙ rw z at e ∙ div-one u)
      (λ (none : length widths ≡ 0). absurd (omega arith))
      (bits_full f)

  -- both words whole, in a form that has fields
  pub one-word : 1 ≤ length widths → w < 2 ^ 32 → u < 2 ^ 32 → spelt (fields_of f w) ++ xs ≡ spelt (fields_of f u) ++ ys → (w ≡ u) × (xs ≡ ys)
  one-word some small small' same =
      let none : upper 0 w ≡ upper 0 u = rw (no_bits widths) (div-eq_of_lt small ∙ sym (div-eq_of_lt small')) in
      let all = from_on (length widths) 0 (omega arith) none (rw (rest_all f w, rest_all f u) at same) in
      (whole some all.0, all.1)

-- Lines: the form at a place, and what its line tells.

kind-bound : (f k : ℕ) → f < 13 → kind_form f k < 13
unfolding kind_form
kind-bound f k h = split (eqb f as_condition && operator_kind k) (λ e. rw e (omega arith)) (λ e. rw e h)

module _ (f w u : ℕ) (xs ys : List ℕ) where
  same-form : line (by_kind f w) w ++ xs ≡ line (by_kind f u) u ++ ys
      → (by_kind f w ≡ by_kind f u) × (spelt (fields_of (by_kind f w) w) ++ xs ≡ spelt (fields_of (by_kind f u) u) ++ ys)
  same-form same =
      let fields = cancel (form f).name (spelt (fields_of (by_kind f w) w) ++ xs) (spelt (fields_of (by_kind f u) u) ++ ys)
      (sym (line-parts f w xs) ∙ same ∙ line-parts f u ys) in (
        is-condition f (λ (e : f ≡ as_condition). rw e (ap (kind_form as_condition) (same_kind w u xs ys (rw e at fields))))
            (λ (o : f ≡ as_condition → ⊥). other-kind f (field 0 4 w) o ∙ sym (other-kind f (field 0 4 u) o)),
        fields,
      )

  pub one_line : f < 13 → w < 2 ^ 32 → u < 2 ^ 32 → line (by_kind f w) w ++ xs ≡ line (by_kind f u) u ++ ys → (w ≡ u) × (xs ≡ ys)
  one_line known small small' same =
      let both = same-form same in
      one-word (by_kind f u) w u xs ys (has-fields (by_kind f u) (kind-bound f (field 0 4 u) known)) small small' (rw both.0 at both.1)

agree-more : (t u : List ℕ) (k : ℕ) → Agree k t u → word t k ≡ word u k → Agree (suc k) t u
agree-more t u k a e i h = below i k (λ l. a i l) (λ l. let z : i ≡ k = omega arith in rw z e)

-- Whole tables: the first k lines tell the first k words.

abbrev Words : List ℕ → Type 0
Words t = (i : ℕ) → word t i < 2 ^ 32

module _ (t u : List ℕ) (words : Words t) (words' : Words u) where
  pub one_table : (k : ℕ) (xs ys : List ℕ) → first_lines t k ++ xs ≡ first_lines u k ++ ys → Agree k t u × (xs ≡ ys)
  unfolding first_lines
  one_table zero xs ys same = (λ i h. absurd (omega arith), same)
  one_table (suc k) xs ys same =
      let before = one_table k (line_at t k ++ xs) (line_at u k ++ ys)
      (sym (append_assoc (first_lines t k) (line_at t k) xs) ∙ same ∙ append_assoc (first_lines u k) (line_at u k) ys) in
      let f : form_at t k ≡ form_at u k = form-agrees t u k before.0 in
      let one = one_line (form_at u k) (word t k) (word u k) xs ys (form-bound u k) (words k) (words' k) (rw f at before.1) in
      (agree-more t u k before.0 one.0, one.1)
