-- Depth and cost of lists, case by case, in the order in which a run goes: one law for each kind of item. Assumes nothing.
use mathlib.Core.Path.{◌≡◌, refl}
use mathlib.Core.Bool.{Bool, true, false, ◌||◌}
use mathlib.Core.List.{List}
use Prim.Native.Nat.{ℕ, suc, ◌+◌, ◌≤◌, ◌<◌}
use native.Mathlib.Omega.{arith}
use lib.Dec.{eqb, ltb}
use borrow.Author.Tests.{ltb-true, lt-ltb}
use Rattle.rulebook.specs.Words.{all, sum}
use Rattle.rulebook.specs.Table.{lists, true_list, false_list, no_list, first_item, item_count, item_kind, item_a, item_list, item_rule}
use Rattle.rulebook.specs.Reasons.{rule_nests, item_nests, list_nests, list_within, rule_cost, item_cost, list_cost, cost_within}
use Rattle.rulebook.specs.Lists.{choice}
use Rattle.laws.proofs.Tests.{clash, and_left, and_right}
use Rattle.laws.proofs.Walks.{all-at}
use Rattle.laws.proofs.Items.{choice-cases}
use Rattle.laws.proofs.Cases.{by-list, by-rule, by-other}

module _ (t : List ℕ) (fits : ℕ → Bool) where
  pub nests-list : (i : ℕ) → eqb (item_kind t i) item_list ≡ true → item_nests t fits i ≡ fits (item_a t i)
  unfolding item_nests
  nests-list i h = by-list t i fits (rule_nests t fits) true h

  pub nests-rule : (i : ℕ) → eqb (item_kind t i) item_list ≡ false → eqb (item_kind t i) item_rule ≡ true → item_nests t fits i ≡ rule_nests t fits (item_a t i)
  unfolding item_nests
  nests-rule i h k = by-rule t i fits (rule_nests t fits) true h k

  pub nests-act : (i : ℕ) → eqb (item_kind t i) item_list ≡ false → eqb (item_kind t i) item_rule ≡ false → item_nests t fits i ≡ true
  unfolding item_nests
  nests-act i h k = by-other t i fits (rule_nests t fits) true h k

  -- the list that a rule starts fits
  pub nests-choice : (r previous result : ℕ) → rule_nests t fits r ≡ true → eqb (choice t r previous result) no_list ≡ false
      → fits (choice t r previous result) ≡ true
  unfolding rule_nests
  nests-choice r previous result n e =
      choice-cases t r previous result (λ c. clash {b = eqb no_list no_list} refl (rw c at e))
      (λ c. rw c (rw (rw c at e) at (and_left (eqb (true_list t r) no_list || fits (true_list t r)) _ n)))
      (λ c. rw c (rw (rw c at e) at (and_right (eqb (true_list t r) no_list || fits (true_list t r)) (eqb (false_list t r) no_list || fits (false_list t r)) n)))

pub within-there : (t : List ℕ) (d l : ℕ) → list_within (suc d) t l ≡ true → l < lists t
unfolding list_within list_nests
within-there t d l h = ltb-true l (lists t) (and_left _ (all (first_item t l) (item_count t l) (item_nests t (list_within d t))) h)

pub within-item : (t : List ℕ) (d l i : ℕ) → list_within (suc d) t l ≡ true → first_item t l ≤ i → i < first_item t l + item_count t l
    → item_nests t (list_within d t) i ≡ true
unfolding list_within list_nests
within-item t d l i h a b = all-at (item_nests t (list_within d t)) (first_item t l) (item_count t l) i (and_right (ltb l (lists t)) _ h) a b

module _ (t : List ℕ) (cost : ℕ → ℕ) where
  pub cost-list : (i : ℕ) → eqb (item_kind t i) item_list ≡ true → item_cost t cost i ≡ cost (item_a t i)
  unfolding item_cost
  cost-list i h = by-list t i cost (rule_cost t cost) 1 h

  pub cost-rule : (i : ℕ) → eqb (item_kind t i) item_list ≡ false → eqb (item_kind t i) item_rule ≡ true → item_cost t cost i ≡ rule_cost t cost (item_a t i)
  unfolding item_cost
  cost-rule i h k = by-rule t i cost (rule_cost t cost) 1 h k

  pub cost-act : (i : ℕ) → eqb (item_kind t i) item_list ≡ false → eqb (item_kind t i) item_rule ≡ false → item_cost t cost i ≡ 1
  unfolding item_cost
  cost-act i h k = by-other t i cost (rule_cost t cost) 1 h k

  pub rule-costs : (r : ℕ) → 1 ≤ rule_cost t cost r
  unfolding rule_cost
  rule-costs r = omega arith

  -- the list that a rule starts is no dearer than the dearer of its lists
  pub cost-choice : (r previous result : ℕ) → eqb (choice t r previous result) no_list ≡ false → 1 + cost (choice t r previous result) ≤ rule_cost t cost r
  unfolding rule_cost
  cost-choice r previous result e =
      choice-cases t r previous result (λ c. clash {b = eqb no_list no_list} refl (rw c at e))
      (λ c. rw (c, rw c at e) (omega arith))
      (λ c. rw (c, rw c at e) (omega arith))

pub cost-there : (t : List ℕ) (d l : ℕ) → l < lists t → cost_within (suc d) t l ≡ 1 + sum (first_item t l) (item_count t l) (item_cost t (cost_within d t))
unfolding cost_within list_cost
cost-there t d l h = rw (lt-ltb l (lists t) h)
