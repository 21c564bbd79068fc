-- Q-5's laws: what an expression of kind 9 gives, and when its word stands. Assumes nothing.
use Prim.Native.Nat.{ℕ, zero, suc, ◌+◌, ◌≤◌, ◌<◌}
use mathlib.Core.Path.{◌≡◌, refl, sym, ◌∙◌}
use mathlib.Core.Bool.{Bool, true, false, ◌||◌, not, and-true}
use mathlib.Core.List.{List}
use native.Mathlib.Omega.{arith}
use lib.Dec.{leb, ltb, eqb}
use borrow.Author.Tests.{eqb-true, eqb-false, lt-ltb, le-ltb, le-leb, lt-leb, ltb-true, ltb-false}
use Rattle.rulebook.specs.Words.{any}
use Rattle.rulebook.specs.Table.{expression_kind, condition_port, condition_value, condition_zero, condition_equal, condition_at_or_above, port_mode}
use Rattle.rulebook.specs.Expressions.{operator, expression_nests, expression_within, expression_mentions, mentions, met, condition, expression_holds, holds}
use Rattle.rulebook.specs.Reasons.{expression_fields, expression_names, port_of_kind}

-- "not below the given one" is at or above it
not-below : (value given : ℕ) (b : Bool) → ltb value given ≡ b → not b ≡ leb given value
not-below value given true h = sym (lt-leb given value (ltb-true value given h))
not-below value given false h = sym (le-leb given value (ltb-false value given h))

-- What Q-5 says of expression e: "for mode ports only", the value free, and a condition wherever an operator is told from one.
pub record AtOrAbove (t : List ℕ) (e : ℕ) : Type 0 where
  pub fields : expression_fields t e ≡ eqb (condition_zero t e) 0
  pub names : expression_names t e ≡ port_of_kind t port_mode (condition_port t e)
  pub nests : (d : ℕ) → expression_within (suc d) t e ≡ true
  pub mentions : (d : ℕ) (q : ℕ → Bool) → mentions (suc d) t q e ≡ q (condition_port t e)
  pub holds : (d : ℕ) (v : ℕ → ℕ) → holds (suc d) t v e ≡ leb (condition_value t e) (v (condition_port t e))

pub at-or-above : (t : List ℕ) (e : ℕ) → expression_kind t e ≡ condition_at_or_above → AtOrAbove t e
unfolding expression_fields expression_names port_of_kind operator expression_nests expression_within expression_mentions mentions condition expression_holds holds
at-or-above t e k =
    record {
      fields = rw (k, and-true, and-true);
      names = rw (k, and-true, and-true);
      nests = λ d. rw (k, expression_nests);
      mentions = λ d q. rw (k, expression_mentions);
      holds = λ d v. rw (k, expression_holds, condition, k) (not-below (v (condition_port t e)) (condition_value t e) _ refl);
    }

-- "reason 5 then starts at kind 10"
pub kinds-end : (t : List ℕ) (e : ℕ) → condition_at_or_above < expression_kind t e → expression_fields t e ≡ false
unfolding expression_fields
kinds-end t e h = rw (lt-leb (expression_kind t e) condition_at_or_above h)

-- a level that the value does not stand at says what the next one says
next_level : (value given : ℕ) (b : Bool) → ltb value given ≡ b → (value ≡ given → ⊥) → not b ≡ met condition_at_or_above value (suc given)
next_level value given true e h = let s : value < given = ltb-true value given e in rw (lt-ltb value (suc given) (omega arith))
next_level value given false e h = let s : given ≤ value = ltb-false value given e in rw (le-ltb value (suc given) (omega arith))

-- One condition for an equality each with the values from the given one on, past the port's value: what nests too deep as a chain
-- of ORs.
pub as-equalities : (value given count : ℕ) → value < given + count → met condition_at_or_above value given ≡ any given count (met condition_equal value)
unfolding any
as-equalities value given zero h = rw (lt-ltb value given (omega arith))
as-equalities value given (suc n) h = from (eqb value given) refl (as-equalities value (suc given) n (omega arith)) where
  from : (b : Bool) → eqb value given ≡ b → met condition_at_or_above value (suc given) ≡ any (suc given) n (met condition_equal value)
      → met condition_at_or_above value given ≡ (b || any (suc given) n (met condition_equal value))
  from true e rest = let s : value ≡ given = eqb-true value given e in rw (le-ltb value given (omega arith))
  from false e rest = next_level value given (ltb value given) refl (eqb-false value given e) ∙ rest
