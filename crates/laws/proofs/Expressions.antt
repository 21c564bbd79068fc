-- What an accepted table's expressions name is there: the arguments of its operators and the ports of its conditions; and what an
-- expression mentions. Assumes nothing.
use mathlib.Core.Path.{◌≡◌, refl, ap}
use mathlib.Core.Bool.{Bool, true, false, ◌&&◌, not, and-false}
use mathlib.Core.Logic.{⊎_elim}
use mathlib.Core.List.{List}
use Prim.Native.Nat.{ℕ, zero, suc, ◌<◌}
use borrow.Author.Tests.{ltb-true}
use Rattle.rulebook.specs.Table.{ports, expressions, condition_port, left, right}
use Rattle.rulebook.specs.Expressions.{operator, is_not, expression_mentions, mentions}
use Rattle.rulebook.specs.Reasons.{expression_names}
use Rattle.laws.specs.Facts.{Facts}
use Rattle.laws.proofs.Tests.{split, part_of, implies-elim, and_left, and_right, and_both, or_some, or-intro}

module _ (t : List ℕ) (f : Facts t) (e : ℕ) (b : e < expressions t) where
  pub left_there : operator t e ≡ true → left t e < expressions t
  unfolding expression_names
  left_there h = ltb-true _ _ (implies-elim (operator t e) _ (part_of _ (λ d. rw (expression_names, d) at (f.expression e b).0)) h)

  pub right_there : operator t e ≡ true → is_not t e ≡ false → right t e < expressions t
  unfolding expression_names
  right_there h n =
      ltb-true _ _ (implies-elim (operator t e && not (is_not t e)) _ (part_of _ (λ d. rw (expression_names, d, and-false) at (f.expression e b).0))
      (and_both _ _ h (ap not n)))

  pub port-named : operator t e ≡ false → condition_port t e < ports t
  unfolding expression_names
  port-named h = ltb-true _ _ (implies-elim (not (operator t e)) _ (part_of _ (λ d. rw (expression_names, d, and-false) at (f.expression e b).0)) (ap not h))

-- so it mentions none of q's ports where no port that is there is one of them
pub mentions-none : (t : List ℕ) → Facts t → (q : ℕ → Bool) → ((p : ℕ) → p < ports t → q p ≡ false) → (d e : ℕ) → e < expressions t
    → mentions d t q e ≡ false
unfolding mentions expression_mentions
mentions-none t f q none zero e b = refl
mentions-none t f q none (suc d) e b =
    split (operator t e)
    (λ op. let on-left = mentions-none t f q none d (left t e) (left_there t f e b op) in
    split (is_not t e) (λ n. rw (op, expression_mentions, on-left, n))
    (λ n. rw (op, expression_mentions, on-left, n, mentions-none t f q none d (right t e) (right_there t f e b op n))))
    (λ op. rw (op, expression_mentions) (none _ (port-named t f e b op)))

-- what mentions a port of q₁ mentions one of q₂, where q₂ has all of q₁'s
pub mentions-more : (t : List ℕ) (q₁ q₂ : ℕ → Bool) → ((p : ℕ) → q₁ p ≡ true → q₂ p ≡ true) → (d e : ℕ) → mentions d t q₁ e ≡ true → mentions d t q₂ e ≡ true
unfolding mentions expression_mentions
mentions-more t q₁ q₂ more zero e h = h
mentions-more t q₁ q₂ more (suc d) e h =
    split (operator t e)
    (λ op. rw (op, expression_mentions)
    (⊎_elim (λ a. rw (mentions-more t q₁ q₂ more d (left t e) a))
    (λ a. or-intro (mentions d t q₂ (left t e)) _
    (λ z. and_both (not (is_not t e)) _ (and_left _ (mentions d t q₁ (right t e)) a)
    (mentions-more t q₁ q₂ more d (right t e) (and_right (not (is_not t e)) _ a))))
    (or_some (mentions d t q₁ (left t e)) (not (is_not t e) && mentions d t q₁ (right t e)) (rw (op, expression_mentions) at h))))
    (λ op. rw (op, expression_mentions) (more _ (rw (op, expression_mentions) at h)))
