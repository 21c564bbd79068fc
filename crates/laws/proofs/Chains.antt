-- Reason 7 holds of a word exactly if a chain of eight nested names starts there, rings included. Assumes nothing.
use mathlib.Core.Path.{◌≡◌, refl, sym, ◌∙◌}
use mathlib.Core.Bool.{Bool, true, false, ◌&&◌, ◌||◌, and-false}
use mathlib.Core.Logic.{inl, inr, ⊎_elim, ◌↔◌}
use mathlib.Core.List.{List}
use Prim.Native.Nat.{ℕ, zero, suc, ◌+◌, ◌≤◌, ◌<◌}
use native.Mathlib.Omega.{arith}
use lib.ListN.{length}
use lib.Dec.{ltb, eqb}
use borrow.Author.Tests.{eqb-true, eq-eqb, lt-ltb, leb-true}
use Rattle.rulebook.specs.Words.{all}
use Rattle.rulebook.specs.Table.{table_length, at_expression, at_list, left, right, expressions, rules, rule_expression, lists, items, true_list, false_list}
use Rattle.rulebook.specs.Table.{no_list, first_item, item_count, item_kind, item_a, item_list, item_rule}
use Rattle.rulebook.specs.Expressions.{operator, is_not, expression_nests, expression_within}
use Rattle.rulebook.specs.Reasons.{names, nesting, item_names, list_or_none, rule_nests, item_nests, list_nests, list_within}
use Rattle.laws.specs.Acceptance.{Everywhere}
use Rattle.laws.specs.Sequence.{Chain, NamesExpression, RuleNames, NamesList}
use Rattle.laws.proofs.Tests.{split, clash, part_of, and_right, or-none}
use Rattle.laws.proofs.Facts.{at-rule, at-list, at_item_lem}
use Rattle.laws.proofs.Items.{list-there, rule-there, there-or-none}
use Rattle.laws.proofs.Nesting.{nests-list, nests-rule, nests-act, within-item}

-- Expressions.

nests-operator : (t : List ℕ) (below : ℕ → Bool) (e : ℕ) → operator t e ≡ true
    → expression_nests t below e ≡ (below (left t e) && (is_not t e || below (right t e)))
unfolding expression_nests
nests-operator t below e h = rw (h, expression_nests)

nests-condition : (t : List ℕ) (below : ℕ → Bool) (e : ℕ) → operator t e ≡ false → expression_nests t below e ≡ true
unfolding expression_nests
nests-condition t below e h = rw (h, expression_nests)

expression-chain→ : (t : List ℕ) (d e : ℕ) → expression_within d t e ≡ false → Chain (NamesExpression t) d e
unfolding expression_within
expression-chain→ t zero e h = tt
expression-chain→ t (suc d) e h =
    split (operator t e)
    (λ o. let n : (expression_within d t (left t e) && (is_not t e || expression_within d t (right t e))) ≡ false = sym
    (nests-operator t (expression_within d t) e o) ∙ h in
    split (expression_within d t (left t e))
    (λ a. let m = or-none (is_not t e) (expression_within d t (right t e)) (rw a at n) in
    (right t e, (o, inr (m.0, refl)), expression-chain→ t d (right t e) m.1))
    (λ a. (left t e, (o, inl refl), expression-chain→ t d (left t e) a)))
    (λ o. clash (nests-condition t (expression_within d t) e o) h)

expression-chain← : (t : List ℕ) (d e : ℕ) → Chain (NamesExpression t) d e → expression_within d t e ≡ false
unfolding expression_within
expression-chain← t zero e c = refl
expression-chain← t (suc d) e c =
    let deeper : expression_within d t c.0 ≡ false = expression-chain← t d c.0 c.2 in
    nests-operator t (expression_within d t) e c.1.0
    ∙ ⊎_elim (λ a. rw (rw a at deeper))
    (λ a. rw (a.0, rw a.1 at deeper, and-false)) c.1.1

pub expression-chain : (t : List ℕ) (d e : ℕ) → (expression_within d t e ≡ false) ↔ Chain (NamesExpression t) d e
expression-chain t d e = (expression-chain→ t d e, expression-chain← t d e)

-- Lists, in a table whose names are all there (rule 6).

pub record NamesThere (t : List ℕ) : Type 0 where
  pub ranges : (l : ℕ) → l < lists t → first_item t l + item_count t l ≤ items t
  pub named : (i : ℕ) → i < items t → item_names t i ≡ true
  pub rules : (r : ℕ) → r < rules t → (list_or_none t (true_list t r) ≡ true) × (list_or_none t (false_list t r) ≡ true)

-- where a walk fails
all-fails : (p : ℕ → Bool) (i n : ℕ) → all i n p ≡ false → (j : ℕ) × (i ≤ j) × (j < i + n) × (p j ≡ false)
unfolding all
all-fails p i zero h = clash refl h
all-fails p i (suc n) h =
    split (p i)
    (λ a. let w = all-fails p (suc i) n (rw a at h) in (w.0, let x : suc i ≤ w.0 = w.1 in omega arith, let y : w.0 < suc i + n = w.2 in omega arith, w.3))
    (λ a. (i, omega arith, omega arith, a))

module _ (t : List ℕ) (below : ℕ → Bool) where
  -- a rule that does not nest has a list that does not
  pub rule-fails : (r : ℕ) → rule_nests t below r ≡ false → (x : ℕ) × RuleNames t r x × (below x ≡ false)
  unfolding rule_nests
  rule-fails r h =
      split (eqb (true_list t r) no_list || below (true_list t r))
      (λ a. let m = or-none (eqb (false_list t r) no_list) (below (false_list t r)) (rw a at h) in (false_list t r, (m.0, inr refl), m.1))
      (λ a. let m = or-none (eqb (true_list t r) no_list) (below (true_list t r)) a in (true_list t r, (m.0, inl refl), m.1))

  pub rule-fails← : (r x : ℕ) → RuleNames t r x → below x ≡ false → rule_nests t below r ≡ false
  unfolding rule_nests
  rule-fails← r x n h =
      ⊎_elim (λ e. rw (rw e at n.0, rw e at h)) (λ e. rw (rw e at n.0, rw e at h, and-false)) n.1

  pub item-fails : (l i : ℕ) → first_item t l ≤ i → i < first_item t l + item_count t l → item_nests t below i ≡ false
      → (x : ℕ) × NamesList t l x × (below x ≡ false)
  item-fails l i a b h =
      split (eqb (item_kind t i) item_list)
      (λ e. (item_a t i, record { item = i; from = a; below = b; how = inl (eqb-true _ _ e, refl) }, sym (nests-list t below i e) ∙ h))
      (λ e. split (eqb (item_kind t i) item_rule)
      (λ g. let w = rule-fails (item_a t i) (sym (nests-rule t below i e g) ∙ h) in
      (w.0, record { item = i; from = a; below = b; how = inr (eqb-true _ _ g, w.1) }, w.2))
      (λ g. clash (nests-act t below i e g) h))

  pub item-fails← : (l x : ℕ) (n : NamesList t l x) → below x ≡ false → item_nests t below n.item ≡ false
  item-fails← l x n h =
      ⊎_elim (λ w. nests-list t below n.item (eq-eqb _ _ w.0) ∙ (rw w.1 at h))
      (λ w. nests-rule t below n.item (rw w.0) (eq-eqb _ _ w.0) ∙ rule-fails← (item_a t n.item) x w.1 h) n.how

-- a list that a rule or a list names is there
pub ruled-there : (t : List ℕ) → NamesThere t → (r l : ℕ) → r < rules t → RuleNames t r l → l < lists t
ruled-there t f r l b n = let q = f.rules r b in there-or-none t l (⊎_elim (λ e. rw e q.0) (λ e. rw e q.1) n.1) n.0

pub named-there : (t : List ℕ) → NamesThere t → (l x : ℕ) → l < lists t → NamesList t l x → x < lists t
named-there t f l x h n =
    let r : first_item t l + item_count t l ≤ items t = f.ranges l h in
    let b : n.item < first_item t l + item_count t l = n.below in
    let i : item_names t n.item ≡ true = f.named n.item (omega arith) in
    ⊎_elim (λ w. rw w.1 (list-there t n.item i w.0))
    (λ w. ruled-there t f (item_a t n.item) x (rule-there t n.item i w.0) w.1) n.how

list-chain→ : (t : List ℕ) → NamesThere t → (d l : ℕ) → l < lists t → list_within d t l ≡ false → Chain (NamesList t) d l
unfolding list_within list_nests
list-chain→ t f zero l h n = tt
list-chain→ t f (suc d) l h n =
    let w = all-fails (item_nests t (list_within d t)) (first_item t l) (item_count t l) (rw (lt-ltb l (lists t) h) at n) in
    let m = item-fails t (list_within d t) l w.0 w.1 w.2 w.3 in
    (m.0, m.1, list-chain→ t f d m.0 (named-there t f l m.0 h m.1) m.2)

list-chain← : (t : List ℕ) (d l : ℕ) → Chain (NamesList t) d l → list_within d t l ≡ false
unfolding list_within
list-chain← t zero l c = refl
list-chain← t (suc d) l c =
    let deeper : item_nests t (list_within d t) c.1.item ≡ false = item-fails← t (list_within d t) l c.0 c.1 (list-chain← t d c.0 c.2) in
    split (list_within (suc d) t l) (λ a. clash (within-item t d l c.1.item a c.1.from c.1.below) deeper) (λ a. a)

pub list-chain : (t : List ℕ) → NamesThere t → (d l : ℕ) → l < lists t → (list_within d t l ≡ false) ↔ Chain (NamesList t) d l
list-chain t f d l h = (list-chain→ t f d l h, list-chain← t d l)

-- So at a word of the table: eight names are the word's own and seven after it.

pub names-there : (t : List ℕ) → length t ≡ table_length t → Everywhere names t → NamesThere t
unfolding names
names-there t exact h =
    record {
      ranges = λ l b. leb-true _ _ (at-list t exact names h l b);
      named = λ i b. at_item_lem t exact names h i b;
      rules = λ r b. let n = at-rule t exact names h r b in
          (part_of _ (λ e. rw (e, and-false) at n), and_right (ltb (rule_expression t r) (expressions t) && list_or_none t (true_list t r)) _ n);
    }

pub seven-expression : (t : List ℕ) (e : ℕ) → (nesting t (at_expression e) ≡ false) ↔ Chain (NamesExpression t) 7 e
unfolding nesting
seven-expression t e = expression-chain t 7 e

pub seven-list : (t : List ℕ) → length t ≡ table_length t → Everywhere names t → (l : ℕ) → l < lists t → (nesting t (at_list l) ≡ false) ↔ Chain (NamesList t) 7 l
unfolding nesting
seven-list t exact h l b = list-chain t (names-there t exact h) 7 l b
