-- Arbitrations from states that o cannot tell apart, of ports that agree except on strangers', are alike to o if what the calls met agrees; so
-- an arbitration of a stranger's port, held against an arbitration of no port, is unseen. Assumes nothing.
use mathlib.Core.Path.{◌≡◌, refl, sym, ◌∙◌, ap}
use mathlib.Core.Bool.{Bool, true, false, and-false}
use mathlib.Core.List.{List, [], ◌∷◌}
use Prim.Native.Nat.{ℕ, zero, suc, ◌≤◌, ◌<◌}
use native.Mathlib.Omega.{arith}
use lib.Dec.{eqb}
use borrow.Author.Tests.{eqb-true, ne_eqb}
use Rattle.rulebook.specs.Words.{any}
use Rattle.rulebook.specs.Table.{ports, rules, lists, port_owner, rule_owner, rule_expression, no_list, list_owner, left, right, stranger}
use Rattle.rulebook.specs.Expressions.{deepest, operator, expression_mentions, mentions}
use Rattle.rulebook.specs.State.{rule_index}
use Rattle.rulebook.specs.Lists.{Run, start, choice_in, set_result}
use Rattle.rulebook.specs.Arbitration.{unmark_port, unmark_ports, evaluated, store_result, store_results, chooses, chosen, order, run_if, run_chosen, decide}
use Rattle.rulebook.specs.Arbitration.{visits_by, rule_visits, arbitrate}
use Rattle.laws.specs.Facts.{Facts}
use Rattle.laws.proofs.Visits.{sum-within}
use Rattle.laws.proofs.Tests.{split, clash, and-one-false}
use Rattle.laws.proofs.Walks.{any_some, each_keeps, each-alike}
use Rattle.laws.proofs.Cases.{if-chosen, if-not}
use Rattle.laws.specs.Sequence.{Each}
use Rattle.laws.proofs.Order.{order-there}
use Rattle.laws.proofs.Runs.{list-keeps}
use Rattle.stranger.specs.View.{SameView}
use Rattle.stranger.specs.Outcomes.{met}
use Rattle.stranger.proofs.More.{pick, pick-both, any_same}
use Rattle.stranger.proofs.View.{same-view-refl, view-around, write-hidden, write-alike, port-word, rule-word}
use Rattle.stranger.proofs.Outcomes.{left_by, Told, told-kept}
use Rattle.stranger.proofs.Alike.{Alike, alike_refl, start-alike, visits-alike, AlikeIf, if-around}
use Rattle.stranger.proofs.Evaluation.{result-alike, choice-alike, evaluated-alike}
use Rattle.stranger.proofs.Owners.{choice-owned}
use Rattle.stranger.proofs.Lists.{list-unseen, list-follows}

-- two choices of ports that agree on the ports of o and of the platform
abbrev pub PortsAgree : List ℕ → ℕ → (ℕ → Bool) → (ℕ → Bool) → Type 0
PortsAgree t o q₁ q₂ = (p : ℕ) → p < ports t → stranger o (port_owner t p) ≡ false → q₁ p ≡ q₂ p

module _ (t : List ℕ) (f : Facts t) (o : ℕ) where
  -- What a stranger's port, rule or list adds, on one side.

  unmark-hidden : (q : ℕ → Bool) (p : ℕ) (s : List ℕ) → p < ports t → stranger o (port_owner t p) ≡ true → SameView t o s (unmark_port q p s)
  unfolding unmark_port
  unmark-hidden q p s b h =
      pick (SameView t o s) (q p) (λ e. write-hidden t o s p _ (port-word t o p b ∙ h)) (λ e. same-view-refl t o s)

  store-hidden : (q : ℕ → Bool) (s : List ℕ) (r : ℕ) (stored : List ℕ) → r < rules t → stranger o (rule_owner t r) ≡ true
      → SameView t o stored (store_result t q s r stored)
  unfolding store_result set_result
  store-hidden q s r stored b h =
      pick (SameView t o stored) (evaluated t q s r) (λ e. write-hidden t o stored (rule_index t r) _ (rule-word t o r b ∙ h)) (λ e. same-view-refl t o stored)

  -- a stranger's rule chooses strangers' lists alone
  chooses_none : (q : ℕ → Bool) (s : List ℕ) (l r : ℕ) → l < lists t → r < rules t → stranger o (list_owner t l) ≡ false → stranger o (rule_owner t r) ≡ true
      → chooses t q s l r ≡ false
  unfolding chooses
  chooses_none q s l r b c h k =
      and-one-false (evaluated t q s r) (eqb (choice_in t s r) l) (λ e d.
      let here : choice_in t s r ≡ l = eqb-true _ _ d in
      let cap : lists t ≤ 255 = f.counts.lists in
      let some : eqb (choice_in t s r) no_list ≡ false = rw here (ne_eqb l no_list (λ z. omega arith)) in
      clash (rw (← choice-owned t s r (f.rule r c).owned some, here) at k) h)

  if-unseen : (os : List ℕ) (c : ℕ → Bool) (l : ℕ) (x : Run) → l < lists t → stranger o (list_owner t l) ≡ true → Alike t o os os x (run_if t c l x)
  if-unseen os c l x b h =
      split (c l) (λ e. rw (if-chosen t c l x e) (list-unseen t f o os deepest l x b h)) (λ e. rw (if-not t c l x e) (alike_refl t o os x))

  if-told : (os : List ℕ) (c : ℕ → Bool) (l : ℕ) (x : Run) → l < lists t → Told os x → Told os (run_if t c l x)
  if-told os c l x b p =
      split (c l) (λ e. rw (if-chosen t c l x e) (list-keeps t f (Told os) (told-kept t os) deepest l x b p)) (λ e. rw (if-not t c l x e) p)

  -- The lists that are chosen, in the order that the table alone gives: both sides go through it in step.

  if-alike : (os₁ os₂ : List ℕ) (c₁ c₂ : ℕ → Bool) (l : ℕ) (x y : Run) → l < lists t → (stranger o (list_owner t l) ≡ false → c₁ l ≡ c₂ l)
      → Told os₁ x → Told os₂ y → AlikeIf t o os₁ os₂ x y → AlikeIf t o os₁ os₂ (run_if t c₁ l x) (run_if t c₂ l y)
  if-alike os₁ os₂ c₁ c₂ l x y b same p q a =
      split (stranger o (list_owner t l))
      (λ h. if-around t o os₁ os₂ x y a (if-unseen os₁ c₁ l x b h) (if-unseen os₂ c₂ l y b h))
      (λ h. split (c₁ l)
      (λ e. rw (if-chosen t c₁ l x e, if-chosen t c₂ l y (sym (same h) ∙ e)) (list-follows t f o os₁ os₂ deepest l x y b h p q a))
      (λ e. rw (if-not t c₁ l x e, if-not t c₂ l y (sym (same h) ∙ e)) a))

  run-alike : (os₁ os₂ : List ℕ) (c₁ c₂ : ℕ → Bool) (ls : List ℕ) (x y : Run) → Each (λ l. l < lists t) ls
      → ((l : ℕ) → l < lists t → stranger o (list_owner t l) ≡ false → c₁ l ≡ c₂ l)
      → Told os₁ x → Told os₂ y → AlikeIf t o os₁ os₂ x y → AlikeIf t o os₁ os₂ (run_chosen t c₁ ls x) (run_chosen t c₂ ls y)
  unfolding run_chosen
  run-alike os₁ os₂ c₁ c₂ [] x y e same p q a = a
  run-alike os₁ os₂ c₁ c₂ (l ∷ ls) x y e same p q a =
      run-alike os₁ os₂ c₁ c₂ ls _ _ e.1 same (if-told os₁ c₁ l x e.0 p) (if-told os₂ c₂ l y e.0 q)
      (if-alike os₁ os₂ c₁ c₂ l x y e.0 (same l e.0) p q a)

  module _ (q₁ q₂ : ℕ → Bool) (agree : PortsAgree t o q₁ q₂) {s₁ s₂ : List ℕ} (v : SameView t o s₁ s₂) where
    unmark-alike : SameView t o (unmark_ports t q₁ s₁) (unmark_ports t q₂ s₂)
    unfolding unmark_ports unmark_port
    unmark-alike =
        each-alike (SameView t o) (unmark_port q₁) (unmark_port q₂) 0 (ports t) _ _
        (λ p x y a b w. split (stranger o (port_owner t p))
        (λ h. view-around t o w (unmark-hidden q₁ p x (omega arith) h) (unmark-hidden q₂ p y (omega arith) h))
        (λ h. rw (agree p (omega arith) h) (pick-both (SameView t o) (q₂ p) (λ e. write-alike t o p _ _ (λ k. rw (w.same p k)) w) (λ e. w)))) v

    store-alike : SameView t o (store_results t q₁ s₁) (store_results t q₂ s₂)
    unfolding store_results store_result set_result
    store-alike =
        each-alike (SameView t o) (store_result t q₁ s₁) (store_result t q₂ s₂) 0 (rules t) _ _
        (λ r x y a b w. let there : r < rules t = omega arith in
        split (stranger o (rule_owner t r))
        (λ h. view-around t o w (store-hidden q₁ s₁ r x there h) (store-hidden q₂ s₂ r y there h))
        (λ h. rw (evaluated-alike t f o r there h v q₁ q₂ agree, result-alike t f o r there h v)
        (pick-both (SameView t o) (evaluated t q₂ s₂ r) (λ e. write-alike t o (rule_index t r) _ _ (λ k. refl) w) (λ e. w)))) v

    chosen-alike : (l : ℕ) → l < lists t → stranger o (list_owner t l) ≡ false → chosen t q₁ s₁ l ≡ chosen t q₂ s₂ l
    unfolding chosen chooses
    chosen-alike l b h =
        any_same (chooses t q₁ s₁ l) (chooses t q₂ s₂ l) 0 (rules t)
        (λ r a c. let there : r < rules t = omega arith in
        split (stranger o (rule_owner t r))
        (λ k. chooses_none q₁ s₁ l r b there h k ∙ sym (chooses_none q₂ s₂ l r b there h k))
        (λ k. rw (evaluated-alike t f o r there k v q₁ q₂ agree, choice-alike t f o r there k v)))

    decide-alike : (os₁ os₂ : List ℕ) → AlikeIf t o os₁ os₂ (decide t q₁ os₁ s₁) (decide t q₂ os₂ s₂)
    unfolding decide left_by
    decide-alike os₁ os₂ =
        run-alike os₁ os₂ _ _ (order t) _ _ (order-there t) chosen-alike (record { outcomes = refl }) (record { outcomes = refl })
        (λ g. visits-alike t o _ _ (start-alike t o store-alike))

  pub arbitrate-alike : (q₁ q₂ : ℕ → Bool) → PortsAgree t o q₁ q₂ → (os₁ os₂ : List ℕ) {s₁ s₂ : List ℕ} → SameView t o s₁ s₂
      → AlikeIf t o os₁ os₂ (arbitrate t q₁ os₁ s₁) (arbitrate t q₂ os₂ s₂)
  unfolding arbitrate
  arbitrate-alike q₁ q₂ agree os₁ os₂ v = decide-alike q₁ q₂ agree (unmark-alike q₁ q₂ agree v) os₁ os₂

-- An arbitration of no port does nothing.

unfoldable nothing : ℕ → Bool
nothing p = false

module _ (t : List ℕ) where
  mentions-nothing : (d e : ℕ) → mentions d t nothing e ≡ false
  unfolding mentions expression_mentions nothing
  mentions-nothing zero e = refl
  mentions-nothing (suc d) e =
      split (operator t e) (λ op. rw (op, expression_mentions, mentions-nothing d (left t e), mentions-nothing d (right t e), and-false))
      (λ op. rw (op, expression_mentions))

  evaluated-nothing : (s : List ℕ) (r : ℕ) → evaluated t nothing s r ≡ false
  unfolding evaluated
  evaluated-nothing s r = rw (mentions-nothing deepest (rule_expression t r), and-false)

  chosen-nothing : (s : List ℕ) (l : ℕ) → chosen t nothing s l ≡ false
  unfolding chosen chooses
  chosen-nothing s l =
      split (any 0 (rules t) (chooses t nothing s l))
      (λ e. let r = any_some (chooses t nothing s l) 0 (rules t) e in clash r.holds (rw (evaluated-nothing s r.at)))
      (λ e. e)

  visits-nothing : (s : List ℕ) → rule_visits t nothing s ≡ 0
  unfolding rule_visits visits_by
  visits-nothing s =
      let a =
      sum-within (visits_by t nothing s) 0 0 (rules t) (λ r. rw (evaluated-nothing s r) (omega arith)) in
      omega arith

  run-nothing : (s : List ℕ) (ls : List ℕ) (x : Run) → run_chosen t (chosen t nothing s) ls x ≡ x
  unfolding run_chosen
  run-nothing s [] x = refl
  run-nothing s (l ∷ ls) x = rw (if-not t (chosen t nothing s) l x (chosen-nothing s l)) (run-nothing s ls x)

  arbitrate-nothing : (os s : List ℕ) → arbitrate t nothing os s ≡ start os s
  unfolding arbitrate decide unmark_ports unmark_port store_results store_result nothing
  arbitrate-nothing os s =
      run-nothing _ (order t) _
      ∙ rw visits-nothing
      (ap (start os) (each_keeps (λ x. x ≡ unmark_ports t nothing s) (store_result t nothing (unmark_ports t nothing s)) 0 (rules t) _
      (λ r x a b e. rw (evaluated-nothing (unmark_ports t nothing s) r) e) refl
      ∙ each_keeps (λ x. x ≡ s) (unmark_port nothing) 0 (ports t) s (λ p x a b e. e) refl))

-- an arbitration of strangers' ports alone: held against one of no port, which meets nothing, it agrees as far as that goes
pub arbitrate-hidden : (t : List ℕ) (f : Facts t) (o : ℕ) (q : ℕ → Bool) → ((p : ℕ) → p < ports t → stranger o (port_owner t p) ≡ false → q p ≡ false)
    → (os s : List ℕ)
    → Alike t o os os (start os s) (arbitrate t q os s)
unfolding nothing met
arbitrate-hidden t f o q h os s =
    (rw (arbitrate-nothing t os s) at (arbitrate-alike t f o nothing q (λ p b k. sym (h p b k)) os os (same-view-refl t o s))) tt
