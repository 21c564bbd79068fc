-- What the facts of an accepted table say of an item by its kind, and of the list that a rule starts. Assumes nothing.
use mathlib.Core.Path.{◌≡◌}
use mathlib.Core.Bool.{Bool, true, false, cond, ◌||◌, not, and-false}
use mathlib.Core.List.{List}
use Prim.Native.Nat.{ℕ, ◌≤◌, ◌<◌}
use native.Mathlib.Omega.{arith}
use lib.Dec.{leb, ltb, eqb}
use borrow.Author.Tests.{ltb-true, leb-true, eqb-true, eq-eqb}
use Rattle.rulebook.specs.Words.{implies, between}
use Rattle.rulebook.specs.Table.{ports, networks, rules, lists, port_kind, port_event, port_timer, true_list, false_list, no_list, triggered, item_kind, item_a}
use Rattle.rulebook.specs.Table.{item_b, item_clear, item_start, item_stop, item_ask, item_list, item_rule}
use Rattle.rulebook.specs.Expressions.{deepest, holds}
use Rattle.rulebook.specs.Reasons.{item_fields, item_names, port_of_kind, list_or_none}
use Rattle.rulebook.specs.Lists.{value_in, result_in, list_for, choice}
use Rattle.laws.specs.Facts.{RuleFacts}
use Rattle.laws.proofs.Tests.{split, clash, part_of, and_left, and_right}

module _ (t : List ℕ) (i : ℕ) (h : item_names t i ≡ true) where
  pub clear-there : item_kind t i ≡ item_clear → port_of_kind t port_event (item_a t i) ≡ true
  unfolding item_names
  clear-there k = rw k at (part_of (implies (eqb (item_kind t i) item_clear) (port_of_kind t port_event (item_a t i))) (λ e. rw (item_names, e) at h))

  timer-there : implies (between item_start item_stop (item_kind t i)) (port_of_kind t port_timer (item_a t i)) ≡ true
  unfolding item_names
  timer-there = part_of _ (λ e. rw (item_names, e, and-false) at h)

  pub start-there : item_kind t i ≡ item_start → port_of_kind t port_timer (item_a t i) ≡ true
  start-there k = rw k at timer-there

  pub stop-there : item_kind t i ≡ item_stop → port_of_kind t port_timer (item_a t i) ≡ true
  stop-there k = rw k at timer-there

  pub ask-there : item_kind t i ≡ item_ask → item_a t i < networks t
  unfolding item_names
  ask-there k = ltb-true _ _ (rw k at (part_of (implies (eqb (item_kind t i) item_ask) (ltb (item_a t i) (networks t))) (λ e. rw (item_names, e, and-false) at h)))

  pub list-there : item_kind t i ≡ item_list → item_a t i < lists t
  unfolding item_names
  list-there k = ltb-true _ _ (rw k at (part_of (implies (eqb (item_kind t i) item_list) (ltb (item_a t i) (lists t))) (λ e. rw (item_names, e, and-false) at h)))

  pub rule-there : item_kind t i ≡ item_rule → item_a t i < rules t
  unfolding item_names
  rule-there k = ltb-true _ _ (rw k at (part_of (implies (eqb (item_kind t i) item_rule) (ltb (item_a t i) (rules t))) (λ e. rw (item_names, e, and-false) at h)))

pub clear-alone : (t : List ℕ) (i : ℕ) → item_fields t i ≡ true → item_kind t i ≡ item_clear → item_b t i ≡ 0
unfolding item_fields
clear-alone t i h k =
    eqb-true _ _ (rw k at (part_of (implies (between item_clear item_stop (item_kind t i)) (eqb (item_b t i) 0)) (λ e. rw (item_fields, e, and-false) at h)))

pub mode_small : (t : List ℕ) (i : ℕ) → item_fields t i ≡ true → item_kind t i ≡ item_ask → item_b t i ≤ 2
unfolding item_fields
mode_small t i h k = leb-true _ _ (rw k at (part_of (implies (eqb (item_kind t i) item_ask) (leb (item_b t i) 2)) (λ e. rw (item_fields, e, and-false) at h)))

pub port-there : (t : List ℕ) (kind p : ℕ) → port_of_kind t kind p ≡ true → p < ports t
unfolding port_of_kind
port-there t kind p h = ltb-true _ _ (and_left _ (eqb (port_kind t p) kind) h)

pub kind-is : (t : List ℕ) (kind p : ℕ) → port_of_kind t kind p ≡ true → port_kind t p ≡ kind
unfolding port_of_kind
kind-is t kind p h = eqb-true _ _ (and_right (ltb p (ports t)) _ h)

-- the list that a rule starts

pub result-small : (t s : List ℕ) (r : ℕ) → result_in t s r ≤ 1
unfolding result_in
result-small t s r = go (holds deepest t (value_in s) _)
  where
    go : (b : Bool) → cond b 1 0 ≤ 1
    go true = omega arith
    go false = omega arith

-- it is none, or the rule's list for the result
pub choice-cases {ℓ} : {A : Type ℓ} (t : List ℕ) (r previous result : ℕ)
    → (choice t r previous result ≡ no_list → A) → (choice t r previous result ≡ true_list t r → A) → (choice t r previous result ≡ false_list t r → A) → A
unfolding choice
choice-cases t r previous result none a b =
    split (eqb (triggered t (list_for t r result)) 0 || not (eqb result previous))
    (λ e. split (eqb result 1) (λ f. a (rw (e, f))) (λ f. b (rw (e, f))))
    (λ e. none (rw e))

pub there-or-none : (t : List ℕ) (l : ℕ) → list_or_none t l ≡ true → eqb l no_list ≡ false → l < lists t
unfolding list_or_none
there-or-none t l h n = ltb-true l (lists t) (rw n at h)

pub choice-there : (t : List ℕ) (r previous result : ℕ) → RuleFacts t r → eqb (choice t r previous result) no_list ≡ false → choice t r previous result < lists t
choice-there t r previous result f n =
    choice-cases t r previous result (λ e. clash (eq-eqb _ _ e) n)
    (λ e. rw e (there-or-none t (true_list t r) f.when_true (rw e at n)))
    (λ e. rw e (there-or-none t (false_list t r) f.when_false (rw e at n)))
