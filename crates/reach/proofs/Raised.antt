-- Flags that go up: one by one, and by what a rule, an item and a list name. Assumes nothing.
use Prim.Native.Nat.{ℕ, ◌+◌, ◌-◌, ◌<◌, ◌≤◌}
use mathlib.Core.Path.{◌≡◌, refl, sym, ap, ap₂, ◌∙◌}
use mathlib.Core.Bool.{Bool, true, false, ◌&&◌, ◌||◌, not, and-false, or-false, or_assoc}
use mathlib.Core.List.{List}
use native.Mathlib.Omega.{arith}
use native.Mathlib.Nat.{sub-zero}
use lib.Dec.{ltb, eqb}
use lib.ListN.{length, set, length-set, replicate}
use lib.Seq.{set_out}
use borrow.Author.Tests.{eqb-true, eq-eqb, ne_eqb, ltb-true, ltb-false}
use Rattle.rulebook.specs.Words.{any}
use Rattle.rulebook.specs.Table.{nested_only, true_list, false_list, no_list, first_item, item_count, item_list, item_rule}
use Rattle.rulebook.specs.Reasons.{rule_reaches, item_reaches}
use Rattle.rulebook.proofs.Reached.{any-there}
use Rattle.words.specs.declared.sections.Rule.{Rule}
use Rattle.words.specs.declared.sections.Item.{Item}
use Rattle.words.specs.Sections.{RuleAt, ItemAt}
use Rattle.words.specs.Flags.{flagged}
use Rattle.words.proofs.Fill.{raised-flag, none-of-zeros}
use Rattle.words.proofs.Items.{read-list, read-rule, read-other}
use Rattle.walks.proofs.Walks.{any_step, any-end}
use Rattle.laws.specs.Sequence.{NamesList}
use Rattle.laws.proofs.Tests.{split}
use Rattle.laws.proofs.Walks.{any_some}
use Rattle.laws.proofs.Reached.{item-reaches, item-reaches←}
use Rattle.reach.specs.Raised.{is_list, rule_has, item_has, list_has, starts_list, starts, Gained}

-- One flag. A number above 255 has none, and no list has it.

put_up : (flags : List ℕ) (l k : ℕ) → length flags ≡ 256 → k < no_list → flagged (set flags l 1) k ≡ (flagged flags k || eqb l k)
put_up flags l k long b =
    split (ltb l 256) (λ e. raised-flag flags l k (let s = ltb-true l 256 e in omega arith))
    (λ e. let s = ltb-false l 256 e in rw (set_out flags l 1 (omega arith), ne_eqb l k (λ z. omega arith), or-false))

pub one_up : (flags after : List ℕ) (l : ℕ) → length flags ≡ 256 → after ≡ set flags l 1 → Gained (λ k. is_list k l) flags after
unfolding is_list
one_up flags after l long e = record { long = rw e (simp length-set long); says = λ k b. rw e (put_up flags l k long b) }

-- Flags that go up by one test after another.

pub gained-as : (p q : ℕ → Bool) (before after : List ℕ) → ((k : ℕ) → k < no_list → p k ≡ q k) → Gained p before after → Gained q before after
gained-as p q before after same g = record { long = g.long; says = λ k b. g.says k b ∙ ap (λ (x : Bool). flagged before k || x) (same k b) }

pub gained-none : (p : ℕ → Bool) (flags : List ℕ) → length flags ≡ 256 → ((k : ℕ) → p k ≡ false) → Gained p flags flags
gained-none p flags long none = record { long = long; says = λ k b. sym (rw (none k) (or-false (flagged flags k))) }

gained-both : (p q : ℕ → Bool) (before mid after : List ℕ) → Gained p before mid → Gained q mid after → Gained (λ k. p k || q k) before after
gained-both p q before mid after g f =
    record { long = f.long; says = λ k b. f.says k b ∙ rw (g.says k b) (or_assoc (flagged before k) (p k) (q k)) }

-- a turn of a loop over the numbers from i to e, and its end: p k says which of them put up flag k
module _ (p : ℕ → ℕ → Bool) (i e : ℕ) (flags : List ℕ) (k : ℕ) where
  pub gained-turn : (after : List ℕ) → i < e → Gained (λ n. p n i) flags after → k < no_list
      → (flagged flags k || any i (e - i) (p k)) ≡ (flagged after k || any (i + 1) (e - (i + 1)) (p k))
  gained-turn after h g b = rw (any_step i e (p k) h, g.says k b) (sym (or_assoc (flagged flags k) (p k i) _))

  pub gained-end : e ≤ i → (flagged flags k || any i (e - i) (p k)) ≡ flagged flags k
  gained-end h = rw (any-end i e (p k) h) (or-false (flagged flags k))

-- What rules and items name.

module _ (t : List ℕ) (r : ℕ) (x : Rule) (read : RuleAt t r x) where
  -- a list's number is not the one that means none
  own : (l k : ℕ) → k < no_list → eqb l k ≡ (not (eqb l no_list) && eqb l k)
  own l k b =
      split (eqb l k) (λ e. let is = eqb-true l k e in rw (e, ne_eqb l no_list (λ z. omega arith))) (λ e. sym (rw e (and-false (not (eqb l no_list)))))

  pub rule-up : (flags mid after : List ℕ) → length flags ≡ 256 → mid ≡ set flags x.true_list 1 → after ≡ set mid x.false_list 1
      → Gained (rule_has t r) flags after
  unfolding rule_reaches is_list
  rule-up flags mid after long a b =
      let g = one_up flags mid x.true_list long a in
      let f = one_up mid after x.false_list g.long b in
      gained-as _ (rule_has t r) flags after
      (λ k s. rw (read.true-list.value, read.false-list.value) (ap₂ ◌||◌ (own (true_list t r) k s) (own (false_list t r) k s)))
      (gained-both _ _ flags mid after g f)

  pub start_up : (flags after : List ℕ) → x.nested_only ≡ 0 → Gained (rule_has t r) flags after → Gained (starts t r) flags after
  unfolding starts_list
  start_up flags after e g = gained-as _ (starts t r) flags after (λ k b. rw (eq-eqb (nested_only t r) 0 (sym read.nested-only.value ∙ e))) g

  pub start_none : (flags : List ℕ) → length flags ≡ 256 → (x.nested_only ≡ 0 → ⊥) → Gained (starts t r) flags flags
  unfolding starts_list
  start_none flags long ne = gained-none (starts t r) flags long (λ k. rw (ne_eqb (nested_only t r) 0 (rw read.nested-only.value at ne)))

module _ (t : List ℕ) (i : ℕ) (x : Item) (read : ItemAt t i x) (flags : List ℕ) where
  pub item-up-list : (after : List ℕ) → length flags ≡ 256 → x.kind ≡ item_list → after ≡ set flags x.a 1 → Gained (item_has t i) flags after
  unfolding item_reaches
  item-up-list after long e a =
      gained-as _ (item_has t i) flags after (λ k b. read-list t i x read (is_list k) (rule_reaches t (is_list k)) false e) (one_up flags after x.a long a)

  pub item-up-rule : (after : List ℕ) → (x.kind ≡ item_list → ⊥) → x.kind ≡ item_rule → Gained (rule_has t x.a) flags after → Gained (item_has t i) flags after
  unfolding item_reaches
  item-up-rule after n e g =
      gained-as _ (item_has t i) flags after (λ k b. read-rule t i x read (is_list k) (rule_reaches t (is_list k)) false n e) g

  pub item-up-none : length flags ≡ 256 → (x.kind ≡ item_list → ⊥) → (x.kind ≡ item_rule → ⊥) → Gained (item_has t i) flags flags
  unfolding item_reaches
  item-up-none long n m = gained-none (item_has t i) flags long (λ k. sym (read-other t i x read (is_list k) (rule_reaches t (is_list k)) false n m))

-- a list names a list: the test and the statement

pub list-names : (t : List ℕ) (l k : ℕ) → list_has t l k ≡ true → NamesList t l k
unfolding list_has is_list
list-names t l k h =
    let w = any_some (item_reaches t (is_list k)) (first_item t l) (item_count t l) h in
    let n = item-reaches t (is_list k) l w.at w.from w.below w.holds in
    rw (eqb-true n.0 k n.2) at n.1

pub names-list : (t : List ℕ) (l k : ℕ) → NamesList t l k → list_has t l k ≡ true
unfolding list_has is_list
names-list t l k n =
    any-there (item_reaches t (is_list k)) (first_item t l) (item_count t l) n.item n.from n.below
    (item-reaches← t (is_list k) l k n (eq-eqb k k refl))

-- where the loop over the rules begins
pub none-up : (p : ℕ → Bool) (n k : ℕ) → any 0 n p ≡ (flagged (replicate 256 0) k || any 0 (n - 0) p)
none-up p n k = rw (none-of-zeros 256 k, sub-zero)
