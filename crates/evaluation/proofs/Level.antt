-- One level of an evaluation, by what the code reads of the expression's word. Assumes nothing.
use Prim.Native.Nat.{ℕ, suc, ◌+◌, ◌-◌, ◌/◌, ◌%◌}
use mathlib.Core.Path.{◌≡◌, refl, ap, sym, ◌∙◌}
use mathlib.Core.Bool.{Bool, true, false, not}
use mathlib.Core.List.{List}
use native.Mathlib.Omega.{arith}
use lib.Dec.{eqb}
use borrow.Author.Tests.{not-true, not-false}
use Rattle.rulebook.specs.Words.{field}
use Rattle.rulebook.specs.Table.{expression_word, expression_kind, left, right, operator_not}
use Rattle.rulebook.specs.Expressions as Expressions
use Rattle.rulebook.specs.Expressions.{operator_kind, operator, joined, expression_holds, holds, settled, visited}
use Rattle.rulebook.proofs.Visits.{condition-visited, not-visited, settled-visited, open-visited}
use Rattle.evaluation.specs.Condition.{condition_word, word_met}
use Rattle.evaluation.specs.Found.{in_word, Evaluates}
use Rattle.evaluation.proofs.Word.{held-told, visits-told}
use Rattle.evaluation.proofs.Skipping.{settled-alike}

holds-condition : (t : List ℕ) (v : ℕ → ℕ) (below : ℕ → Bool) (e : ℕ) → operator t e ≡ false → expression_holds t v below e ≡ Expressions.condition t v e
unfolding expression_holds
holds-condition t v below e h = rw (h, expression_holds)

holds-operator : (t : List ℕ) (v : ℕ → ℕ) (below : ℕ → Bool) (e : ℕ) → operator t e ≡ true
    → expression_holds t v below e ≡ joined (expression_kind t e) (below (left t e)) (below (right t e))
unfolding expression_holds
holds-operator t v below e h = rw (h, expression_holds)

holds-level : (t : List ℕ) (v : ℕ → ℕ) (e d n : ℕ) → d ≡ suc n → holds d t v e ≡ expression_holds t v (holds n t v) e
unfolding holds
holds-level t v e d n h = rw h

joined-not : (k : ℕ) (a b : Bool) → k ≡ operator_not → joined k a b ≡ not a
unfolding joined
joined-not k a b h = rw h

condition-met : (t : List ℕ) (v : ℕ → ℕ) (e : ℕ) → Expressions.condition t v e ≡ word_met v (expression_word t e)
unfolding Expressions.condition
condition-met t v e = refl

-- expression e has the word w, and there is a level left
module _ (t : List ℕ) (e d w : ℕ) (more : d ≡ 0 → ⊥) (hw : w ≡ expression_word t e) (v : ℕ → ℕ) where
  level : d ≡ suc (d - 1)
  level = omega arith

  abbrev operates : Bool
  operates = operator_kind (field 0 4 w)

  joined-holds : condition_word w ≡ false
      → holds d t v e ≡ joined (field 0 4 w) (holds (d - 1) t v (field 4 14 w)) (holds (d - 1) t v (field 18 14 w))
  unfolding operator
  joined-holds h = rw hw (holds-level t v e d (d - 1) level ∙ holds-operator t v (holds (d - 1) t v) e (rw hw at (not-false operates h)))

  one-level : visited d t v e ≡ visited (suc (d - 1)) t v e
  one-level = ap (λ (n : ℕ). visited n t v e) level

  -- what is told of the expression
  evaluates : (h : Bool) (n : ℕ) → h ≡ holds d t v e → n ≡ visited d t v e → (r : ℕ) → r ≡ in_word h n → Evaluates t v e d r
  evaluates h n hh hn r hr = hr ∙ rw (hh, hn)

  -- the exits of the code, where evaluating the left argument l reports a and evaluating the right one r reports b
  pub condition-evaluates : (h : Bool) → condition_word w ≡ true → h ≡ word_met v w → (x : ℕ) → x ≡ in_word h 1 → Evaluates t v e d x
  unfolding operator
  condition-evaluates h is hh =
      let c : operator t e ≡ false = rw hw at (not-true operates is) in
      evaluates h 1
      (hh ∙ sym (holds-level t v e d (d - 1) level ∙ holds-condition t v (holds (d - 1) t v) e c ∙ condition-met t v e ∙ rw hw))
      (sym (one-level ∙ condition-visited (d - 1) t v e c))

  module _ (k l a : ℕ) (op : condition_word w ≡ false) (hk : k ≡ field 0 4 w) (hl : l ≡ field 4 14 w) (ha : Evaluates t v l (d - 1) a) where
    abbrev gives : Bool
    gives = eqb (a % 2) 1

    left-gives : gives ≡ holds (d - 1) t v l
    left-gives = held-told t v l (d - 1) a ha

    left-visits : a / 2 ≡ visited (d - 1) t v l
    left-visits = visits-told t v l (d - 1) a ha

    operates-here : operator t e ≡ true
    unfolding operator
    operates-here = rw hw at (not-false operates op)

    kind-is : expression_kind t e ≡ k
    kind-is = rw hw at (sym hk)

    left_is : left t e ≡ l
    left_is = rw hw at (sym hl)

    left-held : holds d t v e ≡ joined k gives (holds (d - 1) t v (field 18 14 w))
    left-held = joined-holds op ∙ rw (← hk, ← hl, ← left-gives)

    pub not-evaluates : k ≡ operator_not → (x : ℕ) → x ≡ in_word (not gives) (1 + a / 2) → Evaluates t v e d x
    not-evaluates negates =
        evaluates (not gives) (1 + a / 2) (sym (left-held ∙ joined-not k _ _ negates))
        (sym (one-level ∙ not-visited (d - 1) t v e operates-here (kind-is ∙ negates) ∙ rw (left_is, left-visits)))

    pub settled-evaluates : (h : Bool) → settled k gives ≡ true → h ≡ joined k gives false → (x : ℕ) → x ≡ in_word h (1 + a / 2) → Evaluates t v e d x
    settled-evaluates h is hh =
        evaluates h (1 + a / 2) (hh ∙ sym (left-held ∙ settled-alike k gives _ false is))
        (sym (one-level ∙ settled-visited (d - 1) t v e operates-here (rw (kind-is, left_is, ← left-gives) is) ∙ rw (left_is, left-visits)))

    pub both-evaluate : (h : Bool) (r b : ℕ) → (k ≡ operator_not → ⊥) → settled k gives ≡ false → r ≡ field 18 14 w → Evaluates t v r (d - 1) b
        → h ≡ joined k gives (eqb (b % 2) 1) → (x : ℕ) → x ≡ in_word h (1 + a / 2 + b / 2) → Evaluates t v e d x
    both-evaluate h r b two unsettled hr hb hh =
        let right_is : right t e ≡ r = rw hw at (sym hr) in
        evaluates h (1 + a / 2 + b / 2) (hh ∙ sym (left-held ∙ rw (← hr, ← held-told t v r (d - 1) b hb)))
        (sym (one-level
        ∙ open-visited (d - 1) t v e operates-here (λ n. two (sym kind-is ∙ n)) (rw (kind-is, left_is, ← left-gives) unsettled)
        ∙ rw (left_is, right_is, left-visits, visits-told t v r (d - 1) b hb)))
