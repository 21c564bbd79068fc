-- What a rule does depends only on the ports that it mentions; a rule of o or of the platform mentions no stranger's port. So in
-- states that o cannot tell apart such a rule is evaluated alike, gives the same result and starts the same list. Assumes nothing.
use mathlib.Core.Path.{◌≡◌, refl, ◌∙◌}
use mathlib.Core.Bool.{Bool, true, false, ◌&&◌, not, and-false}
use mathlib.Core.List.{List}
use Prim.Native.Nat.{ℕ, zero, suc, ◌<◌}
use lib.Dec.{eqb}
use borrow.Author.Tests.{eqb-true, not-true}
use Rattle.rulebook.specs.Words.{word}
use Rattle.rulebook.specs.Table.{ports, expressions, rules, port_owner, expression_kind, condition_port, left, right, rule_owner, rule_expression, platform}
use Rattle.rulebook.specs.Table.{stranger, operator_not}
use Rattle.rulebook.specs.Expressions.{deepest, operator, is_not, expression_mentions, mentions, condition, joined, expression_holds, holds}
use Rattle.rulebook.specs.State.{rule_index}
use Rattle.rulebook.specs.Reasons.{strangers_port, rule_owned}
use Rattle.rulebook.specs.Lists.{value_in, undefined_in, unready, result_in, choice_in}
use Rattle.rulebook.specs.Arbitration.{evaluated}
use Rattle.laws.specs.Facts.{Facts}
use Rattle.laws.proofs.Expressions.{left_there, right_there, port-named}
use Rattle.laws.proofs.Tests.{split, clash, part_of, or-none}
use Rattle.stranger.specs.View.{SameView}
use Rattle.stranger.proofs.View.{port-word, rule-word}

-- The expressions in which no port of q's is mentioned, down to their conditions.

pub record Unmentioned (t : List ℕ) (q : ℕ → Bool) (P : ℕ → ℕ → Type 0) : Type 0 where
  pub none : (e : ℕ) → P zero e
  pub condition : (d e : ℕ) → operator t e ≡ false → condition_port t e < ports t → q (condition_port t e) ≡ false → P (suc d) e
  pub operator : (d e : ℕ) → operator t e ≡ true → P d (left t e) → (is_not t e ≡ false → P d (right t e)) → P (suc d) e

pub unmentioned : (t : List ℕ) (f : Facts t) (q : ℕ → Bool) (P : ℕ → ℕ → Type 0) → Unmentioned t q P → (d e : ℕ) → e < expressions t
    → mentions d t q e ≡ false → P d e
unfolding mentions expression_mentions
unmentioned t f q P u zero e b h = u.none e
unmentioned t f q P u (suc d) e b h =
    split (operator t e)
    (λ op. let both = or-none (mentions d t q (left t e)) (not (is_not t e) && mentions d t q (right t e)) (rw (op, expression_mentions) at h) in
    u.operator d e op (unmentioned t f q P u d (left t e) (left_there t f e b op) both.0)
    (λ n. unmentioned t f q P u d (right t e) (right_there t f e b op n) (rw n at both.1)))
    (λ op. u.condition d e op (port-named t f e b op) (rw (op, expression_mentions) at h))

module _ (t : List ℕ) (f : Facts t) (q : ℕ → Bool) (d e : ℕ) (b : e < expressions t) (h : mentions d t q e ≡ false) where
  mentions-alike : (q₁ q₂ : ℕ → Bool) → ((p : ℕ) → p < ports t → q p ≡ false → q₁ p ≡ q₂ p) → mentions d t q₁ e ≡ mentions d t q₂ e
  unfolding mentions expression_mentions
  mentions-alike q₁ q₂ same =
      unmentioned t f q (λ d e. mentions d t q₁ e ≡ mentions d t q₂ e)
      (record {
        none = λ e. refl;
        condition = λ d e op c k. rw (op, expression_mentions) (same _ c k);
        operator = λ d e op l r. rw (op, expression_mentions) (split (is_not t e) (λ n. rw (n, l)) (λ n. rw (n, l, r n)));
      }) d e b h

  holds-alike : (v₁ v₂ : ℕ → ℕ) → ((p : ℕ) → p < ports t → q p ≡ false → v₁ p ≡ v₂ p) → holds d t v₁ e ≡ holds d t v₂ e
  unfolding holds expression_holds condition joined
  holds-alike v₁ v₂ same =
      unmentioned t f q (λ d e. holds d t v₁ e ≡ holds d t v₂ e)
      (record {
        none = λ e. refl;
        condition = λ d e op c k. rw (op, expression_holds, same _ c k);
        operator = λ d e op l r. rw (op, expression_holds) (split (is_not t e) (λ n. rw (l, eqb-true (expression_kind t e) operator_not n)) (λ n. rw (l, r n)));
      }) d e b h

-- no stranger to w, who is none to o, is a stranger to o
stranger-within : (o w x : ℕ) → stranger o w ≡ false → stranger w x ≡ false → stranger o x ≡ false
unfolding stranger
stranger-within o w x h k =
    split (eqb x platform) (λ e. rw (e, and-false)) (λ e. split (eqb x w) (λ d. rw (eqb-true x w d) h) (λ d. clash (rw (e, d)) k))

module _ (t : List ℕ) (f : Facts t) (o r : ℕ) (b : r < rules t) (own : stranger o (rule_owner t r) ≡ false) where
  unmentioned-strangers : mentions deepest t (strangers_port t (rule_owner t r)) (rule_expression t r) ≡ false
  unfolding rule_owned
  unmentioned-strangers = not-true _ (part_of _ (λ e. rw (rule_owned, e) at (f.rule r b).owned))

  own-port : (p : ℕ) → strangers_port t (rule_owner t r) p ≡ false → stranger o (port_owner t p) ≡ false
  unfolding strangers_port
  own-port p h = stranger-within o (rule_owner t r) (port_owner t p) own h

  mention-alike : (q₁ q₂ : ℕ → Bool) → ((p : ℕ) → p < ports t → stranger o (port_owner t p) ≡ false → q₁ p ≡ q₂ p)
      → mentions deepest t q₁ (rule_expression t r) ≡ mentions deepest t q₂ (rule_expression t r)
  mention-alike q₁ q₂ same =
      mentions-alike t f _ deepest _ (f.rule r b).expression unmentioned-strangers q₁ q₂ (λ p c h. same p c (own-port p h))

  module _ {s₁ s₂ : List ℕ} (v : SameView t o s₁ s₂) where
    port-alike : (p : ℕ) → p < ports t → stranger o (port_owner t p) ≡ false → word s₁ p ≡ word s₂ p
    port-alike p c h = v.same p (port-word t o p c ∙ h)

    pub unready-alike : unready t s₁ r ≡ unready t s₂ r
    unfolding unready undefined_in
    unready-alike = mention-alike _ _ (λ p c h. rw (port-alike p c h))

    pub result-alike : result_in t s₁ r ≡ result_in t s₂ r
    unfolding result_in value_in
    result-alike =
        rw (holds-alike t f _ deepest _ (f.rule r b).expression unmentioned-strangers (value_in s₁) (value_in s₂) (λ p c h. rw (port-alike p c (own-port p h))))

    pub choice-alike : choice_in t s₁ r ≡ choice_in t s₂ r
    unfolding choice_in
    choice-alike = rw (result-alike, v.same (rule_index t r) (rule-word t o r b ∙ own))

    pub evaluated-alike : (q₁ q₂ : ℕ → Bool) → ((p : ℕ) → p < ports t → stranger o (port_owner t p) ≡ false → q₁ p ≡ q₂ p)
        → evaluated t q₁ s₁ r ≡ evaluated t q₂ s₂ r
    unfolding evaluated
    evaluated-alike q₁ q₂ same = rw (mention-alike q₁ q₂ same, unready-alike)
