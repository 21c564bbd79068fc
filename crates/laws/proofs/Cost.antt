-- A list writes at most as many trace words as it costs; an arbitration at most B. Assumes nothing.
use mathlib.Core.Path.{◌≡◌, refl, sym, ◌∙◌}
use mathlib.Core.Bool.{Bool, true}
use mathlib.Core.List.{List, [], ◌∷◌}
use Prim.Native.Nat.{ℕ, zero, suc, ◌+◌, ◌≤◌, ◌<◌}
use native.Mathlib.Omega.{arith}
use lib.ListN.{length, length-append}
use lib.Dec.{eqb}
use Rattle.rulebook.specs.Words.{sum, until}
use Rattle.rulebook.specs.Table.{lists, no_list, list_owner, first_item, item_count, item_a}
use Rattle.rulebook.specs.Expressions.{deepest}
use Rattle.rulebook.specs.Reasons.{rule_nests, item_nests, list_within, rule_cost, item_cost, cost_within, bound}
use Rattle.rulebook.specs.Lists.{Run, emit, trace_word, trace_list_start, act, stops, unready, choice_in, judge, run_rule, run_item, run_items, run_list}
use Rattle.rulebook.specs.Arbitration.{unmark_ports, chosen, order, run_if, run_chosen, decide, arbitrate}
use Rattle.laws.specs.Facts.{Facts}
use Rattle.laws.proofs.Tests.{split, clash}
use Rattle.laws.proofs.Walks.{until-last, until-next}
use Rattle.laws.proofs.Cases.{item-list, item-rule, item-act, item-cases, rule-unready, rule-ready, choice-none, choice-some, if-chosen, if-not}
use Rattle.laws.proofs.Nesting.{nests-list, nests-rule, nests-choice, within-there, within-item, cost-list, cost-rule, cost-act, rule-costs}
use Rattle.laws.proofs.Nesting.{cost-choice, cost-there}
use Rattle.laws.specs.Sequence.{Each}
use Rattle.laws.proofs.Order.{order-there, sum_over, order-sum}

abbrev pub written : Run → ℕ
written x = length x.words

one_more : (w : ℕ) (x : Run) → written (emit w x) ≡ written x + 1
one_more w x = length-append x.words (w ∷ [])

module _ (t : List ℕ) (fits : ℕ → Bool) (cost : ℕ → ℕ) (below : ℕ → Run → Run)
    (paid : (l : ℕ) (x : Run) → fits l ≡ true → written (below l x) ≤ written x + cost l) (o : ℕ) where
  rule-paid : (r : ℕ) (x : Run) → rule_nests t fits r ≡ true → written (run_rule below t o r x) ≤ written x + rule_cost t cost r
  unfolding choice_in judge
  rule-paid r x n =
      let one : 1 ≤ rule_cost t cost r = rule-costs t cost r in
      split (unready t x.state r) (λ u. rw (rule-unready below t o r x u, one_more) (omega arith))
      (λ u. rw (rule-ready below t o r x u)
      (let more : written (judge t o r x) ≡ written x + 1 = one_more _ x in
      split (eqb (choice_in t x.state r) no_list)
      (λ e. rw (choice-none below (choice_in t x.state r) (judge t o r x) e) (omega arith))
      (λ e. rw (choice-some below (choice_in t x.state r) (judge t o r x) e)
      (let p : written (below (choice_in t x.state r) (judge t o r x)) ≤ written (judge t o r x) + cost (choice_in t x.state r) = paid _ (judge t o r x)
      (nests-choice t fits r _ _ n e) in
      let c : 1 + cost (choice_in t x.state r) ≤ rule_cost t cost r = cost-choice t cost r _ _ e in
      omega arith))))

  item-paid : (i : ℕ) (x : Run) → item_nests t fits i ≡ true → written (run_item below t o i x) ≤ written x + item_cost t cost i
  unfolding act
  item-paid i x n =
      item-cases below t o i
      (λ e g. rw (item-list below t o i x g, cost-list t cost i g) (paid (item_a t i) x (sym (nests-list t fits i g) ∙ n)))
      (λ e g h. rw (item-rule below t o i x g h, cost-rule t cost i g h) (rule-paid (item_a t i) x (sym (nests-rule t fits i g h) ∙ n)))
      (λ g h. rw (item-act below t o i x g h, cost-act t cost i g h, one_more) (omega arith))

  items-paid : (i n : ℕ) (x : Run) → ((j : ℕ) → i ≤ j → j < i + n → item_nests t fits j ≡ true)
      → written (until i n (stops t) (run_item below t o) x) ≤ written x + sum i n (item_cost t cost)
  unfolding until sum
  items-paid i zero x h = omega arith
  items-paid i (suc n) x h =
      let a : written (run_item below t o i x) ≤ written x + item_cost t cost i = item-paid i x (h i (omega arith) (omega arith)) in
      let b : written (until (suc i) n (stops t) (run_item below t o) (run_item below t o i x)) ≤ written (run_item below t o i x) + sum (suc i) n
      (item_cost t cost) = items-paid (suc i) n (run_item below t o i x) (λ j c d. h j (omega arith) (omega arith)) in
      split (stops t i x) (λ e. rw (until-last (stops t) (run_item below t o) i n x e) (omega arith))
      (λ e. rw (until-next (stops t) (run_item below t o) i n x e) (omega arith))

pub list-paid : (t : List ℕ) (d l : ℕ) (x : Run) → list_within d t l ≡ true → written (run_list d t l x) ≤ written x + cost_within d t l
unfolding run_list run_items list_within
list-paid t zero l x h = clash h refl
list-paid t (suc d) l x h =
    let begun : written (emit (trace_word trace_list_start (list_owner t l) l 0) x) ≡ written x + 1 = one_more _ x in
    let c : cost_within (suc d) t l ≡ 1 + sum (first_item t l) (item_count t l) (item_cost t (cost_within d t)) = cost-there t d l (within-there t d l h) in
    let p : written (run_list (suc d) t l x) ≤ written (emit (trace_word trace_list_start (list_owner t l) l 0) x) + sum (first_item t l) (item_count t l)
    (item_cost t (cost_within d t)) =
    items-paid t (list_within d t) (cost_within d t) (run_list d t) (list-paid t d) (list_owner t l) (first_item t l) (item_count t l) _
    (λ i a b. within-item t d l i h a b) in
    omega arith

module _ (t : List ℕ) (f : Facts t) where
  chosen-paid : (c : ℕ → Bool) (ls : List ℕ) (x : Run) → Each (λ l. l < lists t) ls
      → written (run_chosen t c ls x) ≤ written x + sum_over (cost_within deepest t) ls
  unfolding run_chosen sum_over
  chosen-paid c [] x e = omega arith
  chosen-paid c (l ∷ ls) x e =
      let a : written (run_if t c l x) ≤ written x + cost_within deepest t l =
      split (c l) (λ h. rw (if-chosen t c l x h) (list-paid t deepest l x (f.list l e.0).nested)) (λ h. rw (if-not t c l x h) (omega arith)) in
      let b : written (run_chosen t c ls (run_if t c l x)) ≤ written (run_if t c l x) + sum_over (cost_within deepest t) ls = chosen-paid c ls
      (run_if t c l x) e.1 in
      omega arith

  pub arbitrate-paid : (q : ℕ → Bool) (os s : List ℕ) → written (arbitrate t q os s) ≤ bound t
  unfolding arbitrate decide bound
  arbitrate-paid q os s =
      let p : written (arbitrate t q os s) ≤ 0 + sum_over (cost_within deepest t) (order t) = chosen-paid (chosen t q (unmark_ports t q s)) (order t) _
      (order-there t) in
      let e : sum_over (cost_within deepest t) (order t) ≡ sum 0 (lists t) (cost_within deepest t) = order-sum t (cost_within deepest t) in
      omega arith
