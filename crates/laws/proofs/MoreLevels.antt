-- What nests within d levels needs no more of them: a list runs, and an expression is evaluated, with more as with d. Assumes nothing.
use mathlib.Core.Path.{◌≡◌, refl, sym, ◌∙◌}
use mathlib.Core.Bool.{Bool, true, false, ◌&&◌, ◌||◌}
use mathlib.Core.List.{List}
use Prim.Native.Nat.{ℕ, zero, suc, ◌+◌}
use native.Mathlib.Nat.{suc-add}
use lib.Dec.{eqb}
use borrow.Author.Tests.{eqb-true}
use Rattle.rulebook.specs.Table.{no_list, list_owner, first_item, item_count, item_a, expression_kind, left, right, operator_not}
use Rattle.rulebook.specs.Expressions.{deepest, operator, is_not, expression_nests, expression_within, expression_mentions, mentions}
use Rattle.rulebook.specs.Expressions.{joined, expression_holds, holds, skips_right, expression_visited, visited}
use Rattle.rulebook.specs.Reasons.{rule_nests, item_nests, list_within}
use Rattle.rulebook.specs.Lists.{Run, stops, unready, choice_in, judge, run_choice, run_rule, run_item, run_items, run_list}
use Rattle.laws.specs.Facts.{Facts}
use Rattle.laws.specs.MoreLevels.{MoreLevels}
use Rattle.laws.proofs.Tests.{split, clash, and_left, and_right}
use Rattle.laws.proofs.Walks.{until-same}
use Rattle.laws.proofs.Cases.{item-list, item-rule, item-act, item-cases, rule-unready, rule-ready, choice-none, choice-some}
use Rattle.laws.proofs.Nesting.{nests-list, nests-rule, nests-choice, within-item}

-- two ways to run the lists that are named, which agree on those that fit
module _ (t : List ℕ) (fits : ℕ → Bool) (one other : ℕ → Run → Run) (same : (l : ℕ) (x : Run) → fits l ≡ true → one l x ≡ other l x) (o : ℕ) where
  choice-same : (r : ℕ) (s : List ℕ) (x : Run) → rule_nests t fits r ≡ true → run_choice one (choice_in t s r) x ≡ run_choice other (choice_in t s r) x
  unfolding choice_in
  choice-same r s x n =
      split (eqb (choice_in t s r) no_list) (λ e. choice-none one _ x e ∙ sym (choice-none other _ x e))
      (λ e. choice-some one _ x e ∙ same _ x (nests-choice t fits r _ _ n e) ∙ sym (choice-some other _ x e))

  rule-same : (r : ℕ) (x : Run) → rule_nests t fits r ≡ true → run_rule one t o r x ≡ run_rule other t o r x
  rule-same r x n =
      split (unready t x.state r) (λ u. rule-unready one t o r x u ∙ sym (rule-unready other t o r x u))
      (λ u. rule-ready one t o r x u ∙ choice-same r x.state (judge t o r x) n ∙ sym (rule-ready other t o r x u))

  item-same : (i : ℕ) (x : Run) → item_nests t fits i ≡ true → run_item one t o i x ≡ run_item other t o i x
  item-same i x n =
      item-cases one t o i
      (λ e g. item-list one t o i x g ∙ same (item_a t i) x (sym (nests-list t fits i g) ∙ n) ∙ sym (item-list other t o i x g))
      (λ e g h. item-rule one t o i x g h ∙ rule-same (item_a t i) x (sym (nests-rule t fits i g h) ∙ n) ∙ sym (item-rule other t o i x g h))
      (λ g h. item-act one t o i x g h ∙ sym (item-act other t o i x g h))

list-more : (t : List ℕ) (d k l : ℕ) (x : Run) → list_within d t l ≡ true → run_list (d + k) t l x ≡ run_list d t l x
unfolding run_list run_items list_within
list-more t zero k l x h = clash h refl
list-more t (suc d) k l x h =
    rw (suc-add d k)
    (until-same (stops t) _ _ (first_item t l) (item_count t l) _
    (λ i y a b. item-same t (list_within d t) (run_list (d + k) t) (run_list d t) (λ m z. list-more t d k m z) (list_owner t l) i y (within-item t d l i h a b)))

-- the arguments of an operator that nests
arguments-fit : (t : List ℕ) (fits : ℕ → Bool) (e : ℕ) → expression_nests t fits e ≡ true → operator t e ≡ true
    → (fits (left t e) ≡ true) × (is_not t e ≡ false → fits (right t e) ≡ true)
unfolding expression_nests
arguments-fit t fits e n op =
    let both : (fits (left t e) && (is_not t e || fits (right t e))) ≡ true = rw (op, expression_nests) at n in
    (and_left _ (is_not t e || fits (right t e)) both, λ m. rw m at (and_right (fits (left t e)) (is_not t e || fits (right t e)) both))

mentions-deeper : (t : List ℕ) (q : ℕ → Bool) (d k e : ℕ) → expression_within d t e ≡ true → mentions (d + k) t q e ≡ mentions d t q e
unfolding mentions expression_mentions expression_within
mentions-deeper t q zero k e h = clash h refl
mentions-deeper t q (suc d) k e h =
    rw (suc-add d k)
    (split (operator t e)
    (λ op. let fit = arguments-fit t _ e h op in let on-left = mentions-deeper t q d k (left t e) fit.0 in
    split (is_not t e) (λ n. rw (op, expression_mentions, on-left, n))
    (λ n. rw (op, expression_mentions, on-left, n, mentions-deeper t q d k (right t e) (fit.1 n))))
    (λ op. rw (op, expression_mentions)))

-- a NOT does not look at what its `right` would give
not-joined : (t : List ℕ) (e : ℕ) (a b c : Bool) → is_not t e ≡ true → joined (expression_kind t e) a b ≡ joined (expression_kind t e) a c
unfolding joined
not-joined t e a b c n = rw (eqb-true (expression_kind t e) operator_not n)

holds-deeper : (t : List ℕ) (v : ℕ → ℕ) (d k e : ℕ) → expression_within d t e ≡ true → holds (d + k) t v e ≡ holds d t v e
unfolding holds expression_holds expression_within
holds-deeper t v zero k e h = clash h refl
holds-deeper t v (suc d) k e h =
    rw (suc-add d k)
    (split (operator t e)
    (λ op. let fit = arguments-fit t _ e h op in let on-left = holds-deeper t v d k (left t e) fit.0 in
    split (is_not t e) (λ n. rw (op, expression_holds, on-left) (not-joined t e _ _ _ n))
    (λ n. rw (op, expression_holds, on-left, holds-deeper t v d k (right t e) (fit.1 n))))
    (λ op. rw (op, expression_holds)))

visited-deeper : (t : List ℕ) (v : ℕ → ℕ) (d k e : ℕ) → expression_within d t e ≡ true → visited (d + k) t v e ≡ visited d t v e
unfolding visited expression_visited expression_within skips_right
visited-deeper t v zero k e h = clash h refl
visited-deeper t v (suc d) k e h =
    rw (suc-add d k)
    (split (operator t e)
    (λ op. let fit = arguments-fit t _ e h op in let on-left = visited-deeper t v d k (left t e) fit.0 in
    split (is_not t e) (λ n. rw (op, expression_visited, on-left, n))
    (λ n. rw (op, expression_visited, on-left, n, holds-deeper t v d k (left t e) fit.0, visited-deeper t v d k (right t e) (fit.1 n))))
    (λ op. rw (op, expression_visited)))

pub more-levels : (t : List ℕ) → Facts t → MoreLevels t
unfolding run_list
more-levels t f =
    record {
      list = λ l b k x. list-more t deepest k l x (f.list l b).nested;
      within = λ l b x. sym (list-more t deepest 1 l x (f.list l b).nested);
      mentions = λ e b k q. mentions-deeper t q deepest k e (f.expression e b).1;
      holds = λ e b k v. holds-deeper t v deepest k e (f.expression e b).1;
      visited = λ e b k v. visited-deeper t v deepest k e (f.expression e b).1;
    }
