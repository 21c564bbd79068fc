-- One level of depth and of mention, by what the code reads of the expression's word. Assumes nothing.
use Prim.Native.Nat.{ℕ, suc, ◌-◌}
use mathlib.Core.Path.{◌≡◌, ap, sym, ◌∙◌}
use mathlib.Core.Bool.{Bool, true, false, ◌&&◌, ◌||◌, not}
use mathlib.Core.List.{List}
use native.Mathlib.Omega.{arith}
use lib.Dec.{eqb}
use borrow.Author.Tests.{eq-eqb, ne_eqb}
use Rattle.rulebook.specs.Words.{field}
use Rattle.rulebook.specs.Table.{expression_word, expression_kind, condition_port, left, right, operator_not}
use Rattle.rulebook.specs.Expressions.{operator_kind, operator, is_not, expression_nests, expression_within, expression_mentions, mentions}

nests-condition : (t : List ℕ) (below : ℕ → Bool) (e : ℕ) → operator t e ≡ false → expression_nests t below e ≡ true
unfolding expression_nests
nests-condition t below e h = rw (h, expression_nests)

nests-operator : (t : List ℕ) (below : ℕ → Bool) (e : ℕ) → operator t e ≡ true
    → expression_nests t below e ≡ (below (left t e) && (is_not t e || below (right t e)))
unfolding expression_nests
nests-operator t below e h = rw (h, expression_nests)

mentions-condition : (t : List ℕ) (q below : ℕ → Bool) (e : ℕ) → operator t e ≡ false → expression_mentions t q below e ≡ q (condition_port t e)
unfolding expression_mentions
mentions-condition t q below e h = rw (h, expression_mentions)

mentions-operator : (t : List ℕ) (q below : ℕ → Bool) (e : ℕ) → operator t e ≡ true
    → expression_mentions t q below e ≡ (below (left t e) || not (is_not t e) && below (right t e))
unfolding expression_mentions
mentions-operator t q below e h = rw (h, expression_mentions)

within_level : (t : List ℕ) (e d n : ℕ) → d ≡ suc n → expression_within d t e ≡ expression_nests t (expression_within n t) e
unfolding expression_within
within_level t e d n h = rw h

mentions-level : (t : List ℕ) (q : ℕ → Bool) (e d n : ℕ) → d ≡ suc n → mentions d t q e ≡ expression_mentions t q (mentions n t q) e
unfolding mentions
mentions-level t q e d n h = rw h

-- expression e has the word w of kind k, of an operator if o says so, and there is a level left
module _ (t : List ℕ) (e d w k : ℕ) (o : Bool) (more : d ≡ 0 → ⊥) (hw : w ≡ expression_word t e) (hk : k ≡ field 0 4 w)
    (ho : o ≡ operator_kind k) where
  level : d ≡ suc (d - 1)
  level = omega arith

  is-kind : k ≡ expression_kind t e
  is-kind = hk ∙ ap (field 0 4) hw

  is-operator : o ≡ operator t e
  unfolding operator
  is-operator = ho ∙ ap operator_kind is-kind

  condition : o ≡ false → operator t e ≡ false
  condition h = sym is-operator ∙ h

  operates : o ≡ true → operator t e ≡ true
  operates h = sym is-operator ∙ h

  pub within-condition : o ≡ false → expression_within d t e ≡ true
  within-condition h = within_level t e d (d - 1) level ∙ nests-condition t (expression_within (d - 1) t) e (condition h)

  within-operator : o ≡ true
      → expression_within d t e ≡ (expression_within (d - 1) t (field 4 14 w) && (eqb k operator_not || expression_within (d - 1) t (field 18 14 w)))
  within-operator h =
      rw (is-kind, hw)
      (within_level t e d (d - 1) level ∙ nests-operator t (expression_within (d - 1) t) e (operates h))

  -- the exits of the code, where l is the left argument, within if b says so, and r the right one
  module _ (l r : ℕ) (b : Bool) (op : o ≡ true) (hl : l ≡ field 4 14 w) (hb : b ≡ expression_within (d - 1) t l) where
    pub within-left-fails : b ≡ false → false ≡ expression_within d t e
    within-left-fails down = sym (rw (← hl, ← hb, down) at (within-operator op))

    pub within-not : b ≡ true → k ≡ operator_not → true ≡ expression_within d t e
    within-not up not-kind = sym (rw (← hl, ← hb, up, eq-eqb k operator_not not-kind) at (within-operator op))

    pub within-right : b ≡ true → (k ≡ operator_not → ⊥) → r ≡ field 18 14 w → expression_within (d - 1) t r ≡ expression_within d t e
    within-right up other hr = sym (rw (← hl, ← hb, up, ne_eqb k operator_not other, ← hr) at (within-operator op))

  module _ (q : ℕ → Bool) where
    pub mention-condition : o ≡ false → mentions d t q e ≡ q (field 4 8 w)
    mention-condition h = rw hw (mentions-level t q e d (d - 1) level ∙ mentions-condition t q (mentions (d - 1) t q) e (condition h))

    mention-operator : o ≡ true
        → mentions d t q e ≡ (mentions (d - 1) t q (field 4 14 w) || not (eqb k operator_not) && mentions (d - 1) t q (field 18 14 w))
    mention-operator h =
        rw (is-kind, hw)
        (mentions-level t q e d (d - 1) level ∙ mentions-operator t q (mentions (d - 1) t q) e (operates h))

    module _ (l r : ℕ) (b : Bool) (op : o ≡ true) (hl : l ≡ field 4 14 w) (hb : b ≡ mentions (d - 1) t q l) where
      pub mention-left : b ≡ true → true ≡ mentions d t q e
      mention-left up = sym (rw (← hl, ← hb, up) at (mention-operator op))

      pub mention-not : b ≡ false → k ≡ operator_not → false ≡ mentions d t q e
      mention-not down not-kind = sym (rw (← hl, ← hb, down, eq-eqb k operator_not not-kind) at (mention-operator op))

      pub mention-right : b ≡ false → (k ≡ operator_not → ⊥) → r ≡ field 18 14 w → mentions (d - 1) t q r ≡ mentions d t q e
      mention-right down other hr = sym (rw (← hl, ← hb, down, ne_eqb k operator_not other, ← hr) at (mention-operator op))
