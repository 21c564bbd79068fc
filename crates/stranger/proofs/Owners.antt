-- What "owners do not clash" says of the things that an item names and of the list that a rule starts. Assumes nothing.
use mathlib.Core.Path.{◌≡◌, refl}
use mathlib.Core.Bool.{true, false, not, and-false}
use mathlib.Core.List.{List}
use Prim.Native.Nat.{ℕ}
use lib.Dec.{eqb}
use borrow.Author.Tests.{eqb-true, eq-eqb, not-true}
use Rattle.rulebook.specs.Words.{implies, between}
use Rattle.rulebook.specs.Table.{port_owner, network_owner, rule_owner, list_owner, true_list, false_list, no_list, item_kind, item_a, item_clear, item_stop, item_ask}
use Rattle.rulebook.specs.Table.{item_list, item_rule, platform, stranger}
use Rattle.rulebook.specs.Reasons.{rule_owned, item_owned}
use Rattle.rulebook.specs.Lists.{choice_in}
use Rattle.laws.proofs.Tests.{clash, part_of, and_right, implies-elim, or_elim}
use Rattle.laws.proofs.Items.{choice-cases}

-- Nobody is a stranger to himself, the platform to nobody.

pub self-known : (o : ℕ) → stranger o o ≡ false
unfolding stranger
self-known o = rw (eq-eqb o o refl)

pub platform-known : (o : ℕ) → stranger o platform ≡ false
unfolding stranger
platform-known o = and-false (not (eqb platform o))

pub no-platform : (o w : ℕ) → stranger o w ≡ true → eqb w platform ≡ false
unfolding stranger
no-platform o w h = not-true _ (and_right (not (eqb w o)) _ h)

module _ (t : List ℕ) (w i : ℕ) (h : item_owned t w i ≡ true) where
  pub list-owned : item_kind t i ≡ item_list → list_owner t (item_a t i) ≡ w
  unfolding item_owned
  list-owned k = eqb-true _ _ (implies-elim (eqb (item_kind t i) item_list) _ (part_of _ (λ e. rw (item_owned, e) at h)) (eq-eqb _ _ k))

  pub rule-owned : item_kind t i ≡ item_rule → rule_owner t (item_a t i) ≡ w
  unfolding item_owned
  rule-owned k = eqb-true _ _ (implies-elim (eqb (item_kind t i) item_rule) _ (part_of _ (λ e. rw (item_owned, e, and-false) at h)) (eq-eqb _ _ k))

  pub port-owned : eqb w platform ≡ false → between item_clear item_stop (item_kind t i) ≡ true → port_owner t (item_a t i) ≡ w
  unfolding item_owned
  port-owned n k =
      eqb-true _ _ (implies-elim (between item_clear item_stop (item_kind t i)) _
      (or_elim (eqb w platform) (implies (between item_clear item_stop (item_kind t i)) (eqb (port_owner t (item_a t i)) w))
      (part_of _ (λ e. rw (item_owned, e, and-false) at h)) n) k)

  pub network-owned : eqb w platform ≡ false → item_kind t i ≡ item_ask → network_owner t (item_a t i) ≡ w
  unfolding item_owned
  network-owned n k =
      eqb-true _ _ (implies-elim (eqb (item_kind t i) item_ask) _
      (or_elim (eqb w platform) (implies (eqb (item_kind t i) item_ask) (eqb (network_owner t (item_a t i)) w))
      (part_of _ (λ e. rw (item_owned, e, and-false) at h)) n) (eq-eqb _ _ k))

-- the list that a rule starts has the rule's owner
pub choice-owned : (t s : List ℕ) (r : ℕ) → rule_owned t r ≡ true → eqb (choice_in t s r) no_list ≡ false → list_owner t (choice_in t s r) ≡ rule_owner t r
unfolding rule_owned choice_in
choice-owned t s r h n =
    choice-cases t r _ _ (λ e. clash (eq-eqb _ _ e) n)
    (λ e. rw e (eqb-true _ _
    (or_elim (eqb (true_list t r) no_list) (eqb (list_owner t (true_list t r)) (rule_owner t r)) (part_of _ (λ d. rw (rule_owned, d, and-false) at h)) (rw e at n))))
    (λ e. rw e (eqb-true _ _
    (or_elim (eqb (false_list t r) no_list) (eqb (list_owner t (false_list t r)) (rule_owner t r)) (part_of _ (λ d. rw (rule_owned, d, and-false) at h))
    (rw e at n))))
