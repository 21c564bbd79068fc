-- Costs held at 4,097: holding what is below changes nothing of what is held above; and the rounds that find them. Assumes nothing.
use Prim.Native.Nat.{ℕ, zero, suc, ◌+◌, ◌-◌, ◌<◌, ◌≤◌, max}
use mathlib.Core.Path.{◌≡◌, refl, sym, ap, ◌∙◌}
use mathlib.Core.Bool.{Bool, true, cond, ◌&&◌, ◌||◌}
use mathlib.Core.List.{List}
use native.Mathlib.Nat.{zero-add, add-zero, add-suc, sub-zero}
use native.Mathlib.Numerals.{add-one}
use native.Mathlib.Omega.{arith}
use lib.Dec.{ltb, leb, eqb}
use lib.ListN.{length, set, length-set, replicate}
use borrow.Author.Tests.{lt-ltb, le-ltb, ltb-true, ltb-false, eq-eqb, ne_eqb, eqb-false, leb-true}
use Rattle.rulebook.specs.Words.{sum, all, word}
use Rattle.rulebook.specs.Table.{lists, item_kind, item_a, item_list, item_rule, true_list, false_list, no_list, first_item, item_count}
use Rattle.rulebook.specs.Reasons.{rule_nests, item_nests, list_nests, list_within, rule_cost, item_cost, list_cost, cost_within, bound}
use Rattle.walks.proofs.Walks.{sum-turn, sum-end}
use Rattle.laws.specs.Facts.{Nested}
use Rattle.laws.proofs.Tests.{split, clash, and_left, and_right, or_elim}
use Rattle.laws.proofs.Nesting.{nests-list, nests-rule, cost-list, cost-rule, cost-act}
use Rattle.nesting.specs.Depths.{found_by, Depths}
use Rattle.nesting.proofs.Levels.{within_more, within-absent, found-yes, set_all}
use Rattle.cost.specs.Costs.{capped, cost_in, next_cost, Costs}

-- numbers that are equal once held, and what is made of them

add-capped : (a b c d : ℕ) → capped a ≡ capped b → capped c ≡ capped d → capped (a + c) ≡ capped (b + d)
add-capped a b c d p q = omega arith

max-left : (a b c : ℕ) → capped a ≡ capped b → capped (1 + max a c) ≡ capped (1 + max b c)
max-left a b c p = omega arith

max-right : (b c d : ℕ) → capped c ≡ capped d → capped (1 + max b c) ≡ capped (1 + max b d)
max-right b c d p = omega arith

capped-twice : (a : ℕ) → capped (capped a) ≡ capped a
capped-twice a = omega arith

turn-capped : (total x y r rest : ℕ) → capped x ≡ capped y → r ≡ capped (total + x) → capped (total + (y + rest)) ≡ capped (r + rest)
turn-capped total x y r rest p q = omega arith

-- a turn of a loop that adds up the walk of g from i to e and holds the total: x was added, and r is the next total
pub cost-turn : (g : ℕ → ℕ) (i e total x r : ℕ) → i < e → capped x ≡ capped (g i) → r ≡ capped (total + x)
    → capped (total + sum i (e - i) g) ≡ capped (r + sum (i + 1) (e - (i + 1)) g)
cost-turn g i e total x r h p q = rw (sum-turn i e g h) (turn-capped total x (g i) r (sum (i + 1) (e - (i + 1)) g) p q)

pub cost-end : (g : ℕ → ℕ) (i e total : ℕ) → e ≤ i → total ≤ 4097 → capped (total + sum i (e - i) g) ≡ total
cost-end g i e total h s = rw (sum-end i e g h) (omega arith)

sum-capped : (f g : ℕ → ℕ) → ((k : ℕ) → capped (f k) ≡ capped (g k)) → (i n : ℕ) → capped (sum i n f) ≡ capped (sum i n g)
unfolding sum
sum-capped f g h i zero = refl
sum-capped f g h i (suc n) = add-capped (f i) (g i) (sum (suc i) n f) (sum (suc i) n g) (h i) (sum-capped f g h (suc i) n)

-- a level by costs that are equal once held

module _ (t : List ℕ) (f g : ℕ → ℕ) (same : (l : ℕ) → capped (f l) ≡ capped (g l)) where
  chosen-capped : (l : ℕ) → capped (cond (eqb l no_list) 0 (f l)) ≡ capped (cond (eqb l no_list) 0 (g l))
  chosen-capped l = split (eqb l no_list) (λ y. rw y) (λ y. rw y (same l))

  rule-capped : (r : ℕ) → capped (rule_cost t f r) ≡ capped (rule_cost t g r)
  unfolding rule_cost
  rule-capped r = max-left _ _ _ (chosen-capped (true_list t r)) ∙ max-right _ _ _ (chosen-capped (false_list t r))

  item-capped : (i : ℕ) → capped (item_cost t f i) ≡ capped (item_cost t g i)
  item-capped i =
      split (eqb (item_kind t i) item_list) (λ y. rw (cost-list t f i y, cost-list t g i y) (same (item_a t i)))
      (λ y.
      split (eqb (item_kind t i) item_rule) (λ z. rw (cost-rule t f i y z, cost-rule t g i y z) (rule-capped (item_a t i)))
      (λ z. rw (cost-act t f i y z, cost-act t g i y z)))

  list-capped : (l : ℕ) → capped (list_cost t f l) ≡ capped (list_cost t g l)
  unfolding list_cost
  list-capped l =
      split (ltb l (lists t)) (λ y. rw y (add-capped 1 1 _ _ refl (sum-capped (item_cost t f) (item_cost t g) item-capped _ _)))
      (λ y. rw y)

module _ (t : List ℕ) (below : ℕ → ℕ) (l : ℕ) where
  pub absent-free : lists t ≤ l → 0 ≡ list_cost t below l
  unfolding list_cost
  absent-free b = rw (le-ltb l (lists t) b)

  pub list-costs : l < lists t → list_cost t below l ≡ 1 + sum (first_item t l) (item_count t l) (item_cost t below)
  unfolding list_cost
  list-costs b = rw (lt-ltb l (lists t) b)

-- A list's cost goes by the costs of the lists it names alone.

module _ (t : List ℕ) (p : ℕ → Bool) (f g : ℕ → ℕ) (same : (n : ℕ) → p n ≡ true → f n ≡ g n) where
  chosen-same : (l : ℕ) → (eqb l no_list || p l) ≡ true → cond (eqb l no_list) 0 (f l) ≡ cond (eqb l no_list) 0 (g l)
  chosen-same l h = split (eqb l no_list) (λ y. rw y) (λ y. rw y (same l (or_elim (eqb l no_list) (p l) h y)))

  rule-same : (r : ℕ) → rule_nests t p r ≡ true → rule_cost t f r ≡ rule_cost t g r
  unfolding rule_nests rule_cost
  rule-same r h =
      let on-true = and_left (eqb (true_list t r) no_list || p (true_list t r)) (eqb (false_list t r) no_list || p (false_list t r)) h in
      let on-false = and_right (eqb (true_list t r) no_list || p (true_list t r)) (eqb (false_list t r) no_list || p (false_list t r)) h in
      rw (chosen-same (true_list t r) on-true, chosen-same (false_list t r) on-false)

  item-same : (i : ℕ) → item_nests t p i ≡ true → item_cost t f i ≡ item_cost t g i
  item-same i h =
      split (eqb (item_kind t i) item_list) (λ y. rw (cost-list t f i y, cost-list t g i y) (same (item_a t i) (sym (nests-list t p i y) ∙ h)))
      (λ y.
      split (eqb (item_kind t i) item_rule) (λ z. rw (cost-rule t f i y z, cost-rule t g i y z) (rule-same (item_a t i) (sym (nests-rule t p i y z) ∙ h)))
      (λ z. rw (cost-act t f i y z, cost-act t g i y z)))

  items-same : (i n : ℕ) → all i n (item_nests t p) ≡ true → sum i n (item_cost t f) ≡ sum i n (item_cost t g)
  unfolding all sum
  items-same i zero h = refl
  items-same i (suc n) h =
      rw (
        item-same i (and_left (item_nests t p i) (all (suc i) n (item_nests t p)) h),
        items-same (suc i) n (and_right (item_nests t p i) (all (suc i) n (item_nests t p)) h),
      )

  list_same : (l : ℕ) → list_nests t p l ≡ true → list_cost t f l ≡ list_cost t g l
  unfolding list_nests list_cost
  list_same l h = rw (items-same (first_item t l) (item_count t l) (and_right (ltb l (lists t)) (all (first_item t l) (item_count t l) (item_nests t p)) h))

-- A list's cost is found once the levels reach its depth.

cost-settled : (t : List ℕ) (d l : ℕ) → list_within d t l ≡ true → cost_within (suc d) t l ≡ cost_within d t l
unfolding list_within cost_within
cost-settled t zero l h = clash h refl
cost-settled t (suc d) l h = list_same t (list_within d t) (cost_within (suc d) t) (cost_within d t) (cost-settled t d) l h

within-up : (t : List ℕ) (d k l : ℕ) → list_within d t l ≡ true → list_within (d + k) t l ≡ true
within-up t d zero l h = rw add-zero h
within-up t d (suc k) l h = rw add-suc (within_more t (d + k) l (within-up t d k l h))

-- The round of depth d + 1, once the lists before l are passed.

pub record Priced (d l : ℕ) (t costs : List ℕ) : Type 0 where
  pub long : length costs ≡ 256
  pub old : (k : ℕ) → list_within d t k ≡ true → word costs k ≡ capped (cost_within 7 t k)
  pub new : (k : ℕ) → k < l → list_within (d + 1) t k ≡ true → word costs k ≡ capped (cost_within 7 t k)

pub round-starts : (d : ℕ) (t costs : List ℕ) → Costs d t costs → Priced d 0 t costs
round-starts d t costs a = record { long = a.long; old = a.says; new = λ k h. absurd (omega arith) }

held_below : List ℕ → ℕ → ℕ
held_below t n = capped (cost_within 6 t n)

module _ (d l : ℕ) (t depths costs : List ℕ) (few : d < 7) (found : Depths 7 t depths) (a : Priced d l t costs) where
  held-there : (n : ℕ) → list_within d t n ≡ true → cost_in costs n ≡ held_below t n
  unfolding cost_in held_below
  held-there n h =
      let six : d + (6 - d) ≡ 6 = omega arith in
      rw (a.old n h, cost-settled t 6 n (rw six at (within-up t d (6 - d) n h))) (capped-twice (cost_within 6 t n))

  -- a list of depth d + 1
  cost-found : list_within (d + 1) t l ≡ true → capped (list_cost t (cost_in costs) l) ≡ capped (cost_within 7 t l)
  unfolding list_within cost_within held_below
  cost-found h =
      rw (list_same t (list_within d t) (cost_in costs) (held_below t) held-there l (rw add-one at h))
      (list-capped t (held_below t) (cost_within 6 t) (λ k. capped-twice (cost_within 6 t k)) l)

  next-cost : list_within (d + 1) t l ≡ true → next_cost t depths costs d l ≡ capped (cost_within 7 t l)
  unfolding next_cost found_by
  next-cost h =
      split (eqb (word depths l) (d + 1)) (λ y. rw y (cost-found h))
      (λ y.
      let isnt = eqb-false (word depths l) (d + 1) y in
      let here : (leb 1 (word depths l) && leb (word depths l) (d + 1)) ≡ true = found.says (d + 1) l (omega arith) ∙ h in
      let some = leb-true 1 (word depths l) (and_left _ (leb (word depths l) (d + 1)) here) in
      let most = leb-true (word depths l) (d + 1) (and_right (leb 1 (word depths l)) _ here) in
      let before : list_within d t l ≡ true = sym (found.says d l (omega arith)) ∙ found-yes d (word depths l) some (omega arith) in
      rw y (a.old l before))

  pub round-turn : (v : ℕ) → l < 256 → v ≡ next_cost t depths costs d l → Priced d (l + 1) t (set costs l v)
  round-turn v inside is =
      let room : l < length costs = rw a.long inside in
      record {
        long = simp length-set a.long;
        old =
            set_all (λ k w. list_within d t k ≡ true → w ≡ capped (cost_within 7 t k)) costs l v room
            (λ h. is ∙ next-cost (rw add-one (within_more t d l h))) (λ k _ h. a.old k h);
        new =
            set_all (λ k w. k < l + 1 → list_within (d + 1) t k ≡ true → w ≡ capped (cost_within 7 t k)) costs l v room (λ _ h. is ∙ next-cost h)
            (λ k isnt b h. a.new k (omega arith) h);
      }

pub round-ends : (d l : ℕ) (t costs : List ℕ) → lists t ≤ l → Priced d l t costs → Costs (d + 1) t costs
round-ends d l t costs all a =
    record {
      long = a.long;
      says = λ k h. split (ltb k l) (λ y. a.new k (ltb-true k l y) h) (λ y. let past = ltb-false k l y in clash h (within-absent t (d + 1) k (omega arith)));
    }

pub no-round : (t : List ℕ) → Costs 0 t (replicate 256 0)
unfolding list_within
no-round t = record { long = refl; says = λ l h. clash h refl }

-- The word of a list after a round, as the code finds it.

module _ (t depths costs : List ℕ) (d l w : ℕ) (is : w ≡ word depths l) where
  pub cost-new : (r : ℕ) → w ≡ d + 1 → r ≡ capped (list_cost t (cost_in costs) l) → r ≡ next_cost t depths costs d l
  unfolding next_cost
  cost-new r e h = h ∙ sym (rw (eq-eqb (word depths l) (d + 1) (sym is ∙ e)))

  pub cost-kept : (r : ℕ) → (w ≡ d + 1 → ⊥) → r ≡ word costs l → r ≡ next_cost t depths costs d l
  unfolding next_cost
  cost-kept r e h = h ∙ sym (rw (ne_eqb (word depths l) (d + 1) (rw is at e)))

-- B, where the loop begins
pub bound-start : (t : List ℕ) → capped (bound t) ≡ capped (0 + sum 0 (lists t - 0) (cost_within 7 t))
unfolding bound
bound-start t = rw (sub-zero, zero-add)

-- the cost of a list, as the array has it
pub cost-is : (t costs : List ℕ) → Costs 7 t costs → Nested t → (l x : ℕ) → l < lists t → x ≡ cost_in costs l → capped x ≡ capped (cost_within 7 t l)
unfolding cost_in
cost-is t costs right nested l x b h =
    ap capped (h ∙ ap capped (right.says l (nested l b))) ∙ capped-twice (capped (cost_within 7 t l)) ∙ capped-twice (cost_within 7 t l)
