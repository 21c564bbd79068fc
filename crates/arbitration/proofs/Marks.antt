-- Which ports are arbitrated: one port, the marked ports, none. Assumes nothing.
use Prim.Native.Nat.{ℕ, zero, suc, ◌+◌, ◌<◌, ◌≤◌}
use mathlib.Core.Path.{◌≡◌, refl, sym, ap, fun_ext, ◌∙◌}
use mathlib.Core.Bool.{Bool, true, false, cond, and-false}
use mir.Val.{bool_byte}
use mathlib.Core.List.{List}
use native.Mathlib.Omega.{arith}
use lib.ListN.{length, set, length-set, replicate}
use lib.Seq.{get_or-set_other}
use lib.Dec.{eqb, ltb}
use borrow.Author.Tests.{eq-eqb, ne_eqb, eqb-true, eqb-false, ltb-true, ltb-false, le-ltb}
use Rattle.rulebook.specs.Words.{any, sum, each}
use Rattle.rulebook.specs.Table.{ports, rules, left, right, rule_expression}
use Rattle.rulebook.specs.Expressions.{deepest, operator, expression_mentions, mentions}
use Rattle.rulebook.specs.Lists.{start}
use Rattle.rulebook.specs.Arbitration.{unmark_port, unmark_ports, evaluated, store_result, store_results, visits_by, rule_visits, chooses, chosen}
use Rattle.rulebook.specs.Arbitration.{order, decide, arbitrate}
use Rattle.rulebook.specs.Events.{only, marked_in}
use Rattle.words.specs.Flags.{flagged}
use Rattle.words.proofs.Fill.{raised-flag, none-of-zeros, raise-more}
use Rattle.laws.proofs.Tests.{split}
use Rattle.laws.proofs.Walks.{any_at}
use Rattle.laws.proofs.Order.{each-weaker, order-there}
use Rattle.lists.specs.Runs.{Ran, nothing}
use Rattle.lists.proofs.Along.{ran-none}
use Rattle.arbitration.specs.Results.{Marked}
use Rattle.arbitration.proofs.Picking.{none-chosen}

-- one port
same_test : (a b : ℕ) → eqb a b ≡ eqb b a
same_test a b = split (eqb b a) (λ e. rw (e, eq-eqb a b (sym (eqb-true b a e)))) (λ e. rw (e, ne_eqb a b (λ z. eqb-false b a e (sym z))))

pub only_one : (p : ℕ) → p < 256 → only p ≡ flagged (set (replicate 256 0) p 1)
unfolding only
only_one p h = fun_ext (λ x. same_test x p ∙ sym (raised-flag (replicate 256 0) p x h ∙ rw (none-of-zeros 256 x)))

set-flag-other : (flags : List ℕ) (p k v : ℕ) → (k ≡ p → ⊥) → flagged (set flags p v) k ≡ flagged flags k
unfolding flagged
set-flag-other flags p k v isnt = rw (get_or-set_other flags p k v 0 isnt)

-- the marked ports

-- the flags of the ports before p are right, the others are down
pub record MarkedBefore (p : ℕ) (t s flags : List ℕ) : Type 0 where
  pub long : length flags ≡ 256
  pub says : (k : ℕ) → k < p → flagged flags k ≡ marked_in t s k
  pub rest : (k : ℕ) → p ≤ k → flagged flags k ≡ false

pub marked_start : (t s : List ℕ) → MarkedBefore 0 t s (replicate 256 0)
marked_start t s = record { long = refl; says = λ k h. absurd (omega arith); rest = λ k h. none-of-zeros 256 k }

pub marked_more : (p v : ℕ) (t s flags : List ℕ) (b : Bool) → p < 256 → MarkedBefore p t s flags → v ≡ cond b 1 0 → b ≡ marked_in t s p
    → MarkedBefore (p + 1) t s (set flags p v)
marked_more p v t s flags b inside m hv hb =
    let room : p < length flags = rw m.long inside in
    record {
      long = simp length-set m.long;
      says = raise-more (marked_in t s) flags p v b room hv hb m.says;
      rest = λ k h. set-flag-other flags p k v (λ e. absurd (omega arith)) ∙ m.rest k (omega arith);
    }

-- a flag put up by a truth value is 1 or 0
pub flag-of : (b : Bool) → bool_byte b ≡ cond b 1 0
flag-of true = refl
flag-of false = refl

pub all-marked : (p : ℕ) (t s flags : List ℕ) → ports t ≤ p → MarkedBefore p t s flags → Marked t s flags
unfolding marked_in
all-marked p t s flags all m =
    record {
      long = m.long;
      says = λ k. split (ltb k p) (λ e. m.says k (ltb-true k p e))
          (λ e. let past = ltb-false k p e in m.rest k past ∙ sym (rw (le-ltb k (ports t) (omega arith))));
    }

pub marked-are : (t s flags : List ℕ) → Marked t s flags → flagged flags ≡ marked_in t s
marked-are t s flags m = fun_ext m.says

-- no port: nothing is done

each_none : {A : Type 0} (f : ℕ → A → A) (i n : ℕ) (a : A) → ((j : ℕ) (x : A) → f j x ≡ x) → each i n f a ≡ a
unfolding each
each_none f i zero a h = refl
each_none f i (suc n) a h = ap (each (suc i) n f) (h i a) ∙ each_none f (suc i) n a h

any_none : (p : ℕ → Bool) (i n : ℕ) → ((j : ℕ) → p j ≡ false) → any i n p ≡ false
unfolding any
any_none p i zero h = refl
any_none p i (suc n) h = rw (h i) (any_none p (suc i) n h)

sum-none : (f : ℕ → ℕ) (i n : ℕ) → ((j : ℕ) → f j ≡ 0) → sum i n f ≡ 0
unfolding sum
sum-none f i zero h = refl
sum-none f i (suc n) h = rw (h i, sum-none f (suc i) n h)

module _ (t : List ℕ) (q : ℕ → Bool) (none : (p : ℕ) → q p ≡ false) where
  level-none : (below : ℕ → Bool) → ((e : ℕ) → below e ≡ false) → (e : ℕ) → expression_mentions t q below e ≡ false
  unfolding expression_mentions
  level-none below h e =
      split (operator t e) (λ y. rw (y, expression_mentions) (rw (h (left t e), h (right t e), and-false))) (λ y. rw (y, expression_mentions) (none _))

  mentions-none : (d e : ℕ) → mentions d t q e ≡ false
  unfolding mentions
  mentions-none zero e = refl
  mentions-none (suc d) e = level-none (mentions d t q) (mentions-none d) e

  evaluated-none : (s : List ℕ) (r : ℕ) → evaluated t q s r ≡ false
  unfolding evaluated
  evaluated-none s r = rw (mentions-none deepest (rule_expression t r), and-false)

  unmark-none : (s : List ℕ) → unmark_ports t q s ≡ s
  unfolding unmark_ports unmark_port
  unmark-none s = each_none (unmark_port q) 0 (ports t) s (λ p x. rw (none p))

  store-none : (s : List ℕ) → store_results t q s ≡ s
  unfolding store_results store_result
  store-none s = each_none (store_result t q s) 0 (rules t) s (λ r x. rw (evaluated-none s r))

  visits-none : (s : List ℕ) → rule_visits t q s ≡ 0
  unfolding rule_visits visits_by
  visits-none s = sum-none (visits_by t q s) 0 (rules t) (λ r. rw (evaluated-none s r))

  chosen_none : (s : List ℕ) (l : ℕ) → chosen t q s l ≡ false
  unfolding chosen chooses
  chosen_none s l = any_none (chooses t q s l) 0 (rules t) (λ r. rw (evaluated-none s r))

  arbitrate-none : (os s : List ℕ) → arbitrate t q os s ≡ start os s
  unfolding arbitrate decide
  arbitrate-none os s =
      rw (unmark-none s, store-none s, visits-none s)
      (none-chosen t (chosen t q s) (order t) (start os s) (each-weaker _ (λ l. chosen t q s l ≡ false) (order t) (λ l z. chosen_none s l) (order-there t)))

none-marked : (t s : List ℕ) → any 0 (ports t) (marked_in t s) ≡ false → (p : ℕ) → marked_in t s p ≡ false
unfolding marked_in
none-marked t s h p =
    split (ltb p (ports t)) (λ e. any_at (marked_in t s) 0 (ports t) p h (omega arith) (let z : p < ports t = ltb-true _ _ e in omega arith)) (λ e. rw e)

pub nothing-marked : (t os s T : List ℕ) → any 0 (ports t) (marked_in t s) ≡ false
    → Ran os (arbitrate t (marked_in t s) os s) s T T nothing
nothing-marked t os s T h = rw (arbitrate-none t (marked_in t s) (none-marked t s h) os s) (ran-none os s T)
