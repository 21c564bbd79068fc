-- The passes over the rules make up the rulebook's arbitration. Assumes nothing.
use Prim.Native.Nat.{ℕ, zero, suc, ◌+◌, ◌-◌, ◌<◌, ◌≤◌}
use mathlib.Core.Path.{◌≡◌, refl, sym, ap, ap₂, fun_ext, ◌∙◌}
use mathlib.Core.Bool.{Bool, true, false, cond, ◌||◌, not, or-false, or_assoc}
use mathlib.Core.List.{List}
use native.Mathlib.Omega.{arith}
use native.Mathlib.Nat.{zero-add, sub-zero}
use lib.ListN.{length, set, replicate}
use lib.Seq.{set_out}
use lib.Dec.{eqb}
use borrow.Author.Tests.{ne_eqb}
use Rattle.rulebook.specs.Words.{word, any, sum, each}
use Rattle.rulebook.specs.Table.{rules, no_list, triggered}
use Rattle.rulebook.specs.Lists.{start, visit, result_in, previous_in, list_for, choice, choice_in}
use Rattle.rulebook.specs.Arbitration.{unmark_ports, evaluated, store_result, store_results, visits_by, rule_visits, chooses, chosen}
use Rattle.rulebook.specs.Arbitration.{order, run_chosen, decide, arbitrate}
use Rattle.words.specs.Flags.{flagged}
use Rattle.words.proofs.Fill.{raised-flag, none-of-zeros}
use Rattle.walks.proofs.Walks.{any_step, any-end, sum-turn, sum-end}
use Rattle.laws.proofs.Tests.{split}
use Rattle.laws.proofs.Fields.{digit-small}
use Rattle.laws.proofs.Items.{result-small}
use Rattle.arbitration.specs.Results.{rule_result, Results, store_by, chooses_by, pick_by, Chosen}

list-small : (t : List ℕ) (r result : ℕ) → list_for t r result < 256
list-small t r result = split (eqb result 1) (λ e. rw e (digit-small _ 256 _ (omega arith))) (λ e. rw e (digit-small _ 256 _ (omega arith)))

small : (b : Bool) (l : ℕ) → l < 256 → cond b l no_list < 256
small true l h = h
small false l h = omega arith

choice-small : (t : List ℕ) (r previous result : ℕ) → choice t r previous result < 256
unfolding choice
choice-small t r previous result =
    small (eqb (triggered t (list_for t r result)) 0 || not (eqb result previous)) (list_for t r result) (list-small t r result)

module _ (t results s flags : List ℕ) (r l : ℕ) (long : length flags ≡ 256) (hl : l ≡ pick_by t results s r) where
  pub chose-one : (k : ℕ) → flagged (set flags l 1) k ≡ (flagged flags k || chooses_by t results s k r)
  unfolding pick_by chooses_by
  chose-one k =
      split (eqb (word results r) 2)
      (λ e. let z : l ≡ 256 = hl ∙ rw e in rw (e, z, or-false, set_out flags 256 1 (omega arith)))
      (λ e. let z : l ≡ choice t r (previous_in t s r) (word results r) = hl ∙ rw e in
      let b : choice t r (previous_in t s r) (word results r) < 256 = choice-small t r (previous_in t s r) (word results r) in
      rw (e, ← z) (raised-flag flags l k (omega arith)))

  pub chose-more : (e k : ℕ) → r < e → any 0 e (chooses_by t results s k) ≡ (flagged flags k || any r (e - r) (chooses_by t results s k))
      → any 0 e (chooses_by t results s k) ≡ (flagged (set flags l 1) k || any (r + 1) (e - (r + 1)) (chooses_by t results s k))
  chose-more e k h before =
      before ∙ rw (any_step r e (chooses_by t results s k) h, chose-one k) (sym (or_assoc (flagged flags k) _ _))

pub chose_none : (t results s : List ℕ) (e k : ℕ) → any 0 e (chooses_by t results s k) ≡ (flagged (replicate 256 0) k || any 0 (e - 0) (chooses_by t results s k))
chose_none t results s e k = rw (none-of-zeros 256 k, sub-zero)

pub chose-all : (t results s flags : List ℕ) (r : ℕ) → length flags ≡ 256 → rules t ≤ r
    → ((k : ℕ) → any 0 (rules t) (chooses_by t results s k) ≡ (flagged flags k || any r (rules t - r) (chooses_by t results s k))) → Chosen t results s flags
chose-all t results s flags r long h says =
    record { long = long; says = λ k. sym (says k ∙ rw (any-end r (rules t) (chooses_by t results s k) h, or-false)) }

-- The visits counted so far, with those of the rules from r on.
module _ (t : List ℕ) (q : ℕ → Bool) (s : List ℕ) where
  pub counted_none : rule_visits t q s ≡ 0 + sum 0 (rules t - 0) (visits_by t q s)
  unfolding rule_visits
  counted_none = rw (zero-add, sub-zero)

  module _ (r v : ℕ) (so_far : rule_visits t q s ≡ v + sum r (rules t - r) (visits_by t q s)) where
    pub counted-more : (n : ℕ) → r < rules t → n ≡ visits_by t q s r → rule_visits t q s ≡ v + n + sum (r + 1) (rules t - (r + 1)) (visits_by t q s)
    counted-more n h hn = let turn = sum-turn r (rules t) (visits_by t q s) h in omega arith

    pub counted-all : rules t ≤ r → v ≡ rule_visits t q s
    counted-all h = let none = sum-end r (rules t) (visits_by t q s) h in omega arith

-- Walks of two functions that agree on the range.

each_same : {A : Type 0} (f g : ℕ → A → A) (i n : ℕ) (a : A) → ((j : ℕ) (x : A) → i ≤ j → j < i + n → f j x ≡ g j x) → each i n f a ≡ each i n g a
unfolding each
each_same f g i zero a h = refl
each_same f g i (suc n) a h =
    ap (each (suc i) n f) (h i a (omega arith) (omega arith)) ∙ each_same f g (suc i) n (g i a) (λ j x b c. h j x (omega arith) (omega arith))

any_same : (p q : ℕ → Bool) (i n : ℕ) → ((j : ℕ) → i ≤ j → j < i + n → p j ≡ q j) → any i n p ≡ any i n q
unfolding any
any_same p q i zero h = refl
any_same p q i (suc n) h = ap₂ ◌||◌ (h i (omega arith) (omega arith)) (any_same p q (suc i) n (λ j b c. h j (omega arith) (omega arith)))

-- The results are right: then so are what is stored and what is chosen.
module _ (t : List ℕ) (q : ℕ → Bool) (s results : List ℕ) (o : Results t q s results) where
  is-result : (r : ℕ) → r < rules t → evaluated t q s r ≡ true → word results r ≡ result_in t s r
  unfolding rule_result
  is-result r h e = o.says r h ∙ rw e

  is_none : (r : ℕ) → r < rules t → evaluated t q s r ≡ false → word results r ≡ 2
  unfolding rule_result
  is_none r h e = o.says r h ∙ rw e

  no-two : (r : ℕ) → result_in t s r ≡ 2 → ⊥
  no-two r e = let b = result-small t s r in omega arith

  store_at : (r : ℕ) (x : List ℕ) → r < rules t → store_by t results r x ≡ store_result t q s r x
  unfolding store_by store_result
  store_at r x h =
      split (evaluated t q s r) (λ e. rw (e, is-result r h e, ne_eqb (result_in t s r) 2 (no-two r)))
      (λ e. rw (e, is_none r h e))

  choose-at : (l r : ℕ) → r < rules t → chooses_by t results s l r ≡ chooses t q s l r
  unfolding chooses_by chooses choice_in
  choose-at l r h =
      split (evaluated t q s r) (λ e. rw (e, is-result r h e, ne_eqb (result_in t s r) 2 (no-two r)))
      (λ e. rw (e, is_none r h e))

  stored : each 0 (rules t) (store_by t results) s ≡ store_results t q s
  unfolding store_results
  stored = each_same (store_by t results) (store_result t q s) 0 (rules t) s (λ r x a b. store_at r x (omega arith))

  chose : (flags : List ℕ) → Chosen t results s flags → flagged flags ≡ chosen t q s
  unfolding chosen
  chose flags c = fun_ext (λ l. c.says l ∙ any_same _ _ 0 (rules t) (λ r a b. choose-at l r (omega arith)))

  pub arbitrated : (os s₀ s₂ flags : List ℕ) (visits : ℕ) → s ≡ unmark_ports t q s₀ → Chosen t results s flags
      → s₂ ≡ each 0 (rules t) (store_by t results) s → visits ≡ rule_visits t q s
      → arbitrate t q os s₀ ≡ run_chosen t (flagged flags) (order t) (visit visits (start os s₂))
  unfolding arbitrate decide
  arbitrated os s₀ s₂ flags visits hs c h₂ hv = rw (← hs, h₂, stored, chose flags c, hv)
