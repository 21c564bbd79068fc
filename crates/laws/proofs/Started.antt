-- Q-6's sentence holds of what the check says: a table with a list that nothing starts is refused, by reason 10 at the lowest such list's word or
-- by a reason that stands before it. Assumes nothing.
use mathlib.Core.Path.{◌≡◌, refl, sym, ◌∙◌}
use mathlib.Core.Bool.{Bool, true, false, ◌&&◌, ◌||◌, not}
use mathlib.Core.Logic.{◌⊎◌, inl, inr, ⊎_elim}
use mathlib.Core.List.{List, [], ◌∷◌}
use Prim.Native.Nat.{ℕ, suc, ◌+◌, ◌-◌, ◌≤◌, ◌<◌}
use native.Mathlib.Omega.{arith}
use lib.ListN.{length}
use lib.Dec.{leb, ltb, eqb}
use borrow.Author.Tests.{eqb-true, eq-eqb, leb-true, ltb-true, ltb-false, lt-ltb, not-true, not-false}
use Rattle.rulebook.specs.Table.{lists, lists_from, items_from, table_length}
use Rattle.rulebook.specs.Table.{Part, in_header, at_port, at_network, at_waits, at_source, at_expression, at_rule, at_list, at_item, part}
use Rattle.rulebook.specs.Reasons.{has_header, known_edition, counts_inside, exact_length, own_fields, names, nesting, owners, reached, affordable}
use Rattle.rulebook.specs.Reasons.{breaks, of_table, of_words, check, accepted}
use Rattle.laws.specs.Acceptance.{Everywhere, Rules, broken, GivenBy, here, later, Given}
use Rattle.laws.specs.Reached.{Reached, Unreached, LowestUnreached, ListsStarted}
use Rattle.laws.proofs.Tests.{split, clash, and_left, and_right, or_some}
use Rattle.laws.proofs.Acceptance.{kept-first, number-given, reason-given, accepted-exactly}
use Rattle.laws.proofs.Parts.{no-list-before, in-lists, in-items, part-list}
use Rattle.laws.proofs.Facts.{at-list, exact-of}
use Rattle.laws.proofs.Reached.{chain-found, reached-exactly}

-- Rule 10 is of lists alone.

pub no-list : (t : List ℕ) (x : Part) → ((l : ℕ) → x ≡ at_list l → ⊥) → reached t x ≡ true
unfolding reached
no-list t in_header f = refl
no-list t (at_port p) f = refl
no-list t (at_network n) f = refl
no-list t (at_waits n) f = refl
no-list t (at_source k) f = refl
no-list t (at_expression e) f = refl
no-list t (at_rule r) f = refl
no-list t (at_list l) f = absurd (f l refl)
no-list t (at_item i) f = refl

list-place : (t : List ℕ) (p : ℕ) → reached t (part t p) ≡ false → (l : ℕ) × (l < lists t) × (p ≡ lists_from t + l) × (part t p ≡ at_list l)
unfolding reached
list-place t p h =
    split (ltb p (lists_from t)) (λ e. clash (no-list t (part t p) (λ l. no-list-before t p l (ltb-true p (lists_from t) e))) h)
    (λ e. split (ltb p (items_from t))
    (λ d. let from = ltb-false p (lists_from t) e in let to = ltb-true p (items_from t) d in
    (p - lists_from t, omega arith, omega arith, in-lists t p from to))
    (λ d. clash (rw (in-items t p (ltb-false p (items_from t) d))) h))

-- What the rules before 10 give where the reason is 10 or 9, and the rest of the chain.

record ToOwners (t : List ℕ) (k p : ℕ) : Type 0 where
  exact : exact_length t ≡ true
  named : Everywhere names t
  nested : Everywhere nesting t
  owned : Everywhere owners t
  rest : GivenBy t k p (of_words 10 reached ∷ of_table 9 affordable ∷ [])

to-owners : (t : List ℕ) (k p : ℕ) → 8 < k → Given t k p → ToOwners t k p
to-owners t k p h g =
    let a = kept-first t k p (of_table 1 has_header) (λ e. omega arith) g in
    let b = kept-first t k p (of_table 2 known_edition) (λ e. omega arith) a.1 in
    let c = kept-first t k p (of_table 3 counts_inside) (λ e. omega arith) b.1 in
    let d = kept-first t k p (of_table 4 exact_length) (λ e. omega arith) c.1 in
    let e = kept-first t k p (of_words 5 own_fields) (λ e. omega arith) d.1 in
    let f = kept-first t k p (of_words 6 names) (λ e. omega arith) e.1 in
    let n = kept-first t k p (of_words 7 nesting) (λ e. omega arith) f.1 in
    let o = kept-first t k p (of_words 8 owners) (λ e. omega arith) n.1 in
    record { exact = d.0; named = f.0; nested = n.0; owned = o.0; rest = o.1 }

ten-broken : (t : List ℕ) (p : ℕ) → GivenBy t 10 p (of_words 10 reached ∷ of_table 9 affordable ∷ [])
    → (broken (of_words 10 reached) t p ≡ true) × ((j : ℕ) → j < p → broken (of_words 10 reached) t j ≡ false)
ten-broken t p (here r b low) = (b, low)
ten-broken t p (later u (later v x)) = elim x [ ]
ten-broken t p (later u (here r b low)) = absurd (let z : ◌≡◌ {A = ℕ} 9 10 = r in omega arith)

-- So Q-6's sentence, of what the check says.

module _ (t : List ℕ) where
  all-reached : length t ≡ table_length t → Everywhere reached t → (l : ℕ) → l < lists t → Reached t l
  all-reached exact kept l b = chain-found t l (at-list t exact reached kept l b)

  pub accepted-reached : Rules t → (l : ℕ) → l < lists t → Reached t l
  accepted-reached kept = all-reached (exact-of t kept.exact) kept.reached

  nine-reached : (p : ℕ) → Given t 9 p → (l : ℕ) → l < lists t → Reached t l
  nine-reached p g =
      let o = to-owners t 9 p (omega arith) g in
      all-reached (exact-of t o.exact) (kept-first t 9 p (of_words 10 reached) (λ e. let z : ◌≡◌ {A = ℕ} 10 9 = e in omega arith) o.rest).0

  ten-lowest : (p : ℕ) → Given t 10 p → LowestUnreached t p
  unfolding broken breaks
  ten-lowest p g =
      let o = to-owners t 10 p (omega arith) g in
      let exact = exact-of t o.exact in
      let b = ten-broken t p o.rest in
      let bad : reached t (part t p) ≡ false = not-true _ (and_right (ltb p (length t)) (not (reached t (part t p))) b.0) in
      let w = list-place t p bad in
      record {
        list = w.0;
        unreached = (w.1, λ c. clash ((reached-exactly t exact o.named o.nested w.0).1 c) (rw w.3 at bad));
        at = w.2;
        lower = λ k h.
            let there = w.1 in
            let is = w.2 in
            let place : ℕ = lists_from t + k in
            let kept : not (reached t (part t place)) ≡ false = rw (lt-ltb place (length t) (omega arith)) at (b.1 place (omega arith)) in
            chain-found t k (rw (part-list t k (omega arith)) at (not-false (reached t (part t place)) kept));
      }

-- reasons 1 to 8, 10 and 9
abbrev known : ℕ → Bool
known k = leb 1 k && leb k 8 || eqb k 10 || eqb k 9

refused-by : (k : ℕ) → known k ≡ true → (k ≡ 9 → ⊥) → (k ≡ 10) ⊎ ((1 ≤ k) × (k ≤ 8))
refused-by k h nine =
    ⊎_elim (λ a. ⊎_elim (λ b. inr (leb-true 1 k (and_left _ (leb k 8) b), leb-true k 8 (and_right (leb 1 k) _ b))) (λ b. inl (eqb-true k 10 b))
    (or_some (leb 1 k && leb k 8) (eqb k 10) a))
    (λ a. absurd (nine (eqb-true k 9 a))) (or_some (leb 1 k && leb k 8 || eqb k 10) (eqb k 9) h)

pub lists-started : (t : List ℕ) → ListsStarted t (check t).reason (check t).place
lists-started t =
    let given : (k : ℕ) → (check t).reason ≡ suc k → Given t (suc k) (check t).place =
    λ k e. rw e at (reason-given t (λ z. let s : 0 ≡ suc k = sym z ∙ e in omega arith)) in
    record {
      refused = λ l un.
          let some : (check t).reason ≡ 0 → ⊥ = λ z. un.1 (accepted-reached t ((accepted-exactly t).0 (eq-eqb _ 0 z)) l un.0) in
          refused-by (check t).reason (number-given t _ _ known refl (reason-given t some))
          (λ e. un.1 (nine-reached t _ (given 8 e) l un.0));
      placed = λ e. ten-lowest t _ (given 9 e);
      owned = λ e. (to-owners t 10 _ (omega arith) (given 9 e)).owned;
    }

pub unreached-refused : (t : List ℕ) (l : ℕ) → Unreached t l → accepted t ≡ false
unreached-refused t l un = split (accepted t) (λ a. absurd (un.1 (accepted-reached t ((accepted-exactly t).0 a) l un.0))) (λ a. a)
