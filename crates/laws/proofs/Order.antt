-- The order in which chosen lists run: each list number once, larger priority first, then lower number. Assumes nothing.
use mathlib.Core.Path.{◌≡◌, refl, sym, ◌∙◌, ap, ap₂}
use mathlib.Core.Bool.{cond}
use mathlib.Core.Logic.{inl, inr}
use mathlib.Core.List.{List, [], ◌∷◌, ◌++◌}
use Prim.Native.Nat.{ℕ, zero, suc, ◌+◌, ◌≤◌, ◌<◌}
use native.Mathlib.Omega.{arith}
use native.Mathlib.Nat.{zero-add, add-zero}
use lib.Dec.{eqb, ltb}
use borrow.Author.Tests.{eqb-true, eqb-false, eq-eqb, ne_eqb, lt-ltb, le-ltb, ltb-true, ltb-false}
use Rattle.rulebook.specs.Words.{sum}
use Rattle.rulebook.specs.Table.{lists, priority}
use Rattle.rulebook.specs.Arbitration.{of_priority, order_below, order}
use Rattle.laws.specs.Sequence.{Before, Each, InOrder, times}
use Rattle.laws.proofs.Tests.{split}
use Rattle.laws.proofs.Walks.{here-or-later, sum_same}
use Rattle.laws.proofs.Fields.{digit-small}

pub each_both : (P : ℕ → Type 0) (xs ys : List ℕ) → Each P xs → Each P ys → Each P (xs ++ ys)
each_both P [] ys a b = b
each_both P (x ∷ xs) ys a b = (a.0, each_both P xs ys a.1 b)

pub each-weaker : (P Q : ℕ → Type 0) (xs : List ℕ) → ((x : ℕ) → P x → Q x) → Each P xs → Each Q xs
each-weaker P Q [] f a = tt
each-weaker P Q (x ∷ xs) f a = (f x a.0, each-weaker P Q xs f a.1)

-- the lists of one priority: numbers from l on, all of that priority
pub record OfPriority (t : List ℕ) (k l n x : ℕ) : Type 0 where
  pub priority : priority t x ≡ k
  pub from : l ≤ x
  pub below : x < l + n

of-later : (t : List ℕ) (k l n x : ℕ) → OfPriority t k (suc l) n x → OfPriority t k l (suc n) x
of-later t k l n x o =
    record { priority = o.priority; from = let a : suc l ≤ x = o.from in omega arith; below = let b : x < suc l + n = o.below in omega arith }

pub of-priority : (t : List ℕ) (k l n : ℕ) → Each (OfPriority t k l n) (of_priority t k l n)
unfolding of_priority
of-priority t k l zero = tt
of-priority t k l (suc n) =
    split (eqb (priority t l) k)
    (λ e. rw (e, of_priority) (
      record { priority = eqb-true _ _ e; from = omega arith; below = omega arith },
      each-weaker _ _ (of_priority t k (suc l) n) (of-later t k l n) (of-priority t k (suc l) n),
    ))
    (λ e. rw (e, of_priority) (each-weaker _ _ (of_priority t k (suc l) n) (of-later t k l n) (of-priority t k (suc l) n)))

-- the lists of priority below k
pub record PriorityBelow (t : List ℕ) (k x : ℕ) : Type 0 where
  pub priority : priority t x < k
  pub there : x < lists t

pub order_below_lem : (t : List ℕ) (k : ℕ) → Each (PriorityBelow t k) (order_below k t)
unfolding order_below
order_below_lem t zero = tt
order_below_lem t (suc k) =
    each_both _ (of_priority t k 0 (lists t)) (order_below k t)
    (each-weaker (OfPriority t k 0 (lists t)) _ (of_priority t k 0 (lists t))
    (λ x o. record { priority = let e : priority t x ≡ k = o.priority in omega arith; there = let b : x < 0 + lists t = o.below in omega arith })
    (of-priority t k 0 (lists t)))
    (each-weaker (PriorityBelow t k) _ (order_below k t)
    (λ x o. record { priority = let e : priority t x < k = o.priority in omega arith; there = o.there }) (order_below_lem t k))

pub order-there : (t : List ℕ) → Each (λ l. l < lists t) (order t)
unfolding order
order-there t = each-weaker _ _ (order_below 256 t) (λ x o. o.there) (order_below_lem t 256)

-- a sum over the order is the sum over all lists: each is there once

unfoldable pub sum_over : (ℕ → ℕ) → List ℕ → ℕ
sum_over f [] = 0
sum_over f (x ∷ xs) = f x + sum_over f xs

sum_both : (f : ℕ → ℕ) (xs ys : List ℕ) → sum_over f (xs ++ ys) ≡ sum_over f xs + sum_over f ys
unfolding sum_over
sum_both f [] ys = omega arith
sum_both f (x ∷ xs) ys = let e : sum_over f (xs ++ ys) ≡ sum_over f xs + sum_over f ys = sum_both f xs ys in omega arith

-- f of a list of priority k, or below k, and 0 of the others
only_at : List ℕ → (ℕ → ℕ) → ℕ → ℕ → ℕ
only_at t f k l = cond (eqb (priority t l) k) (f l) 0

only_below : List ℕ → (ℕ → ℕ) → ℕ → ℕ → ℕ
only_below t f k l = cond (ltb (priority t l) k) (f l) 0

priority-sum : (t : List ℕ) (f : ℕ → ℕ) (k l n : ℕ) → sum_over f (of_priority t k l n) ≡ sum l n (only_at t f k)
unfolding sum_over of_priority sum only_at
priority-sum t f k l zero = refl
priority-sum t f k l (suc n) =
    split (eqb (priority t l) k) (λ e. rw (e, of_priority) (ap (λ (m : ℕ). f l + m) (priority-sum t f k (suc l) n)))
    (λ e. rw (e, of_priority) (priority-sum t f k (suc l) n ∙ sym (zero-add _)))

one-priority-more : (t : List ℕ) (f : ℕ → ℕ) (k l : ℕ) → only_at t f k l + only_below t f k l ≡ only_below t f (suc k) l
unfolding only_at only_below
one-priority-more t f k l =
    split (ltb (priority t l) k)
    (λ e. let a : priority t l < k = ltb-true _ _ e in rw (e, lt-ltb (priority t l) (suc k) (omega arith), ne_eqb (priority t l) k (λ z. omega arith))
    (zero-add (f l)))
    (λ e. let a : k ≤ priority t l = ltb-false _ _ e in
    split (eqb (priority t l) k)
    (λ d. let b : priority t l ≡ k = eqb-true _ _ d in rw (e, d, lt-ltb (priority t l) (suc k) (omega arith)) (add-zero (f l)))
    (λ d. let b : (priority t l ≡ k → ⊥) = eqb-false _ _ d in rw (e, d, le-ltb (priority t l) (suc k) (omega arith))))

sum-two : (f g : ℕ → ℕ) (i n : ℕ) → sum i n f + sum i n g ≡ sum i n (λ j. f j + g j)
unfolding sum
sum-two f g i zero = refl
sum-two f g i (suc n) = let e : sum (suc i) n f + sum (suc i) n g ≡ sum (suc i) n (λ j. f j + g j) = sum-two f g (suc i) n in omega arith

sum-none : (f : ℕ → ℕ) (i n : ℕ) → ((j : ℕ) → f j ≡ 0) → sum i n f ≡ 0
unfolding sum
sum-none f i zero h = refl
sum-none f i (suc n) h = let a : f i ≡ 0 = h i in let b : sum (suc i) n f ≡ 0 = sum-none f (suc i) n h in omega arith

none_below : (t : List ℕ) (f : ℕ → ℕ) (l : ℕ) → only_below t f 0 l ≡ 0
unfolding only_below
none_below t f l = rw (le-ltb (priority t l) 0 (omega arith))

below-sum : (t : List ℕ) (f : ℕ → ℕ) (k : ℕ) → sum_over f (order_below k t) ≡ sum 0 (lists t) (only_below t f k)
unfolding sum_over order_below
below-sum t f zero = sym (sum-none (only_below t f 0) 0 (lists t) (λ j. none_below t f j))
below-sum t f (suc k) =
    sum_both f (of_priority t k 0 (lists t)) (order_below k t)
    ∙ ap₂ ◌+◌ (priority-sum t f k 0 (lists t)) (below-sum t f k)
    ∙ sum-two (only_at t f k) (only_below t f k) 0 (lists t)
    ∙ sum_same (λ j. only_at t f k j + only_below t f k j) (only_below t f (suc k)) 0 (lists t) (λ j a b. one-priority-more t f k j)

pub order-sum : (t : List ℕ) (f : ℕ → ℕ) → sum_over f (order t) ≡ sum 0 (lists t) f
unfolding order only_below
order-sum t f =
    below-sum t f 256
    ∙ sum_same (only_below t f 256) f 0 (lists t) (λ j a b. rw (lt-ltb (priority t j) 256 (digit-small _ 256 _ (omega arith))))

-- each list once

is : ℕ → ℕ → ℕ
is x y = cond (eqb x y) 1 0

times-sum : (x : ℕ) (ys : List ℕ) → times x ys ≡ sum_over (is x) ys
unfolding times sum_over is
times-sum x [] = refl
times-sum x (y ∷ ys) = ap (λ (n : ℕ). cond (eqb x y) 1 0 + n) (times-sum x ys)

none_of : (x i n : ℕ) → x < i → sum i n (is x) ≡ 0
unfolding sum is
none_of x i zero h = refl
none_of x i (suc n) h = let e : sum (suc i) n (is x) ≡ 0 = none_of x (suc i) n (omega arith) in rw (ne_eqb x i (λ z. omega arith), e)

one_of : (x i n : ℕ) → i ≤ x → x < i + n → sum i n (is x) ≡ 1
unfolding sum is
one_of x i zero a b = absurd (omega arith)
one_of x i (suc n) a b =
    here-or-later i n x a b (λ e. let z : sum (suc i) n (is x) ≡ 0 = none_of x (suc i) n (omega arith) in rw (eq-eqb x i e, z))
    (λ c d. let z : sum (suc i) n (is x) ≡ 1 = one_of x (suc i) n c d in rw (ne_eqb x i (λ y. omega arith), z))

pub once : (t : List ℕ) (l : ℕ) → l < lists t → times l (order t) ≡ 1
once t l h = times-sum l (order t) ∙ order-sum t (is l) ∙ one_of l 0 (lists t) (omega arith) (omega arith)

-- in order

all-before : (t : List ℕ) (xs ys : List ℕ) → Each (λ x. Each (Before t x) ys) xs → InOrder t xs → InOrder t ys → InOrder t (xs ++ ys)
all-before t [] ys a b c = c
all-before t (x ∷ xs) ys a b c = (each_both (Before t x) xs ys b.0 a.0, all-before t xs ys a.1 b.1 c)

priority-in-order : (t : List ℕ) (k l n : ℕ) → InOrder t (of_priority t k l n)
unfolding of_priority
priority-in-order t k l zero = tt
priority-in-order t k l (suc n) =
    split (eqb (priority t l) k)
    (λ e. rw (e, of_priority) (
      each-weaker (OfPriority t k (suc l) n) _ (of_priority t k (suc l) n) (λ x o. inr (eqb-true _ _ e ∙ sym o.priority, o.from))
          (of-priority t k (suc l) n),
      priority-in-order t k (suc l) n,
    ))
    (λ e. rw (e, of_priority) (priority-in-order t k (suc l) n))

below-in-order : (t : List ℕ) (k : ℕ) → InOrder t (order_below k t)
unfolding order_below
below-in-order t zero = tt
below-in-order t (suc k) =
    all-before t (of_priority t k 0 (lists t)) (order_below k t)
    (each-weaker (OfPriority t k 0 (lists t)) _ (of_priority t k 0 (lists t))
    (λ x o. each-weaker (PriorityBelow t k) _ (order_below k t)
    (λ y u. inl (let a : priority t x ≡ k = o.priority in let b : priority t y < k = u.priority in omega arith)) (order_below_lem t k))
    (of-priority t k 0 (lists t)))
    (priority-in-order t k 0 (lists t)) (below-in-order t k)

pub in_order : (t : List ℕ) → InOrder t (order t)
unfolding order
in_order t = below-in-order t 256
