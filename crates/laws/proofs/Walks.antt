-- The walks over the n numbers i, i + 1, ..: what each says of every number, and by what it is shown. Assumes nothing.
use mathlib.Core.Path.{◌≡◌, refl, sym, ◌∙◌, ap}
use mathlib.Core.Bool.{Bool, true, false}
use mathlib.Core.Logic.{⊎_elim}
use Prim.Native.Nat.{ℕ, zero, suc, ◌+◌, ◌≤◌, ◌<◌}
use native.Mathlib.Omega.{arith}
use native.Mathlib.Nat.{zero-add, add-zero, suc-add, add-suc}
use lib.ListN.{length, get_or}
use lib.Dec.{eqb}
use borrow.Author.Tests.{eqb-true, eqb-false}
use Rattle.rulebook.specs.Words.{first, all, any, sum, listed, each, until}
use Rattle.laws.proofs.Tests.{split, clash, and_left, and_right, and_both, or-none, or_some}

-- the first number of a walk, or one of the rest
pub here-or-later {ℓ} : {A : Type ℓ} (i n j : ℕ) → i ≤ j → j < i + suc n → (j ≡ i → A) → (suc i ≤ j → j < suc i + n → A) → A
here-or-later i n j a b f g =
    split (eqb j i) (λ e. f (eqb-true j i e))
    (λ e. let ne : (j ≡ i → ⊥) = eqb-false j i e in g (omega arith) (omega arith))

pub all-at : (p : ℕ → Bool) (i n j : ℕ) → all i n p ≡ true → i ≤ j → j < i + n → p j ≡ true
unfolding all
all-at p i zero j h a b = absurd (omega arith)
all-at p i (suc n) j h a b =
    here-or-later i n j a b (λ e. rw e (and_left (p i) (all (suc i) n p) h))
    (all-at p (suc i) n j (and_right (p i) (all (suc i) n p) h))

pub all_from : (p : ℕ → Bool) (i n : ℕ) → ((j : ℕ) → i ≤ j → j < i + n → p j ≡ true) → all i n p ≡ true
unfolding all
all_from p i zero f = refl
all_from p i (suc n) f =
    and_both (p i) (all (suc i) n p) (f i (omega arith) (omega arith))
    (all_from p (suc i) n (λ j a b. f j (omega arith) (omega arith)))

pub any_at : (p : ℕ → Bool) (i n j : ℕ) → any i n p ≡ false → i ≤ j → j < i + n → p j ≡ false
unfolding any
any_at p i zero j h a b = absurd (omega arith)
any_at p i (suc n) j h a b =
    here-or-later i n j a b (λ e. rw e (or-none (p i) (any (suc i) n p) h).0)
    (any_at p (suc i) n j (or-none (p i) (any (suc i) n p) h).1)

-- some number of the walk at which p holds
pub record Somewhere (p : ℕ → Bool) (i n : ℕ) : Type 0 where
  pub at : ℕ
  pub from : i ≤ at
  pub below : at < i + n
  pub holds : p at ≡ true

somewhere-later : (p : ℕ → Bool) (i n : ℕ) → Somewhere p (suc i) n → Somewhere p i (suc n)
somewhere-later p i n w = record { at = w.at; from = omega arith; below = omega arith; holds = w.holds }

pub any_some : (p : ℕ → Bool) (i n : ℕ) → any i n p ≡ true → Somewhere p i n
unfolding any
any_some p i zero h = clash h refl
any_some p i (suc n) h =
    ⊎_elim (λ e. record { at = i; from = omega arith; below = omega arith; holds = e })
    (λ e. somewhere-later p i n (any_some p (suc i) n e)) (or_some (p i) (any (suc i) n p) h)

-- the first number at which p holds: none before it, and at it p holds unless it is past the walk

pub first-least : (p : ℕ → Bool) (i n : ℕ) → i ≤ first i n p
unfolding first
first-least p i zero = omega arith
first-least p i (suc n) =
    split (p i) (λ e. rw (e, first) (omega arith)) (λ e. rw (e, first) (let h : suc i ≤ first (suc i) n p = first-least p (suc i) n in omega arith))

pub first-most : (p : ℕ → Bool) (i n : ℕ) → first i n p ≤ i + n
unfolding first
first-most p i zero = omega arith
first-most p i (suc n) =
    split (p i) (λ e. rw (e, first) (omega arith)) (λ e. rw (e, first) (let h : first (suc i) n p ≤ suc i + n = first-most p (suc i) n in omega arith))

pub first_holds : (p : ℕ → Bool) (i n : ℕ) → first i n p < i + n → p (first i n p) ≡ true
unfolding first
first_holds p i zero h = absurd (omega arith)
first_holds p i (suc n) h =
    split (p i) (λ e. rw (e, first) e)
    (λ e. let k : first (suc i) n p < i + suc n = rw (e, first) at h in rw (e, first) (first_holds p (suc i) n (omega arith)))

pub first-before : (p : ℕ → Bool) (i n j : ℕ) → i ≤ j → j < first i n p → p j ≡ false
unfolding first
first-before p i zero j a b = absurd (omega arith)
first-before p i (suc n) j a b =
    split (p i) (λ e. let k : j < i = rw (e, first) at b in absurd (omega arith))
    (λ e. let k : j < first (suc i) n p = rw (e, first) at b in
    let m : first (suc i) n p ≤ suc i + n = first-most p (suc i) n in
    here-or-later i n j a (omega arith) (λ x. rw x e) (λ c d. first-before p (suc i) n j c k))

-- what every turn keeps, the whole walk keeps, to its end or until it stops; of one value, and of two side by side

pub each_keeps {ℓ} : {A : Type 0} (P : A → Type ℓ) (f : ℕ → A → A) (i n : ℕ) (a : A) → ((j : ℕ) (x : A) → i ≤ j → j < i + n → P x → P (f j x)) → P a
    → P (each i n f a)
unfolding each
each_keeps P f i zero a k h = h
each_keeps P f i (suc n) a k h =
    each_keeps P f (suc i) n (f i a) (λ j x b c. k j x (omega arith) (omega arith)) (k i a (omega arith) (omega arith) h)

module _ {A : Type 0} (last : ℕ → A → Bool) (f : ℕ → A → A) (i n : ℕ) (a : A) where
  pub until-last : last i a ≡ true → until i (suc n) last f a ≡ f i a
  unfolding until
  until-last e = rw (e, until)

  pub until-next : last i a ≡ false → until i (suc n) last f a ≡ until (suc i) n last f (f i a)
  unfolding until
  until-next e = rw (e, until)

pub until-keeps {ℓ} : {A : Type 0} (P : A → Type ℓ) (last : ℕ → A → Bool) (f : ℕ → A → A) (i n : ℕ) (a : A)
    → ((j : ℕ) (x : A) → i ≤ j → j < i + n → P x → P (f j x)) → P a → P (until i n last f a)
unfolding until
until-keeps P last f i zero a k h = h
until-keeps P last f i (suc n) a k h =
    let one = k i a (omega arith) (omega arith) h in
    split (last i a) (λ e. rw (until-last last f i n a e) one)
    (λ e. rw (until-next last f i n a e) (until-keeps P last f (suc i) n (f i a) (λ j x b c. k j x (omega arith) (omega arith)) one))

-- two walks whose turns are the same
pub until-same : {A : Type 0} (last : ℕ → A → Bool) (f g : ℕ → A → A) (i n : ℕ) (a : A) → ((j : ℕ) (x : A) → i ≤ j → j < i + n → f j x ≡ g j x)
    → until i n last f a ≡ until i n last g a
unfolding until
until-same last f g i zero a k = refl
until-same last f g i (suc n) a k =
    let one = k i a (omega arith) (omega arith) in
    split (last i a) (λ e. until-last last f i n a e ∙ one ∙ sym (until-last last g i n a e))
    (λ e. until-next last f i n a e
    ∙ ap (until (suc i) n last f) one
    ∙ until-same last f g (suc i) n (g i a) (λ j x b c. k j x (omega arith) (omega arith))
    ∙ sym (until-next last g i n a e))

pub each-alike {ℓ} : {A B : Type 0} (R : A → B → Type ℓ) (f : ℕ → A → A) (g : ℕ → B → B) (i n : ℕ) (a : A) (b : B)
    → ((j : ℕ) (x : A) (y : B) → i ≤ j → j < i + n → R x y → R (f j x) (g j y)) → R a b → R (each i n f a) (each i n g b)
unfolding each
each-alike R f g i zero a b k h = h
each-alike R f g i (suc n) a b k h =
    each-alike R f g (suc i) n (f i a) (g i b) (λ j x y c d. k j x y (omega arith) (omega arith)) (k i a b (omega arith) (omega arith) h)

-- a walk is its front and then its back, turn by turn
pub each_part : {A : Type 0} (f : ℕ → A → A) (i n m : ℕ) (a : A) → each i (n + m) f a ≡ each (i + n) m f (each i n f a)
unfolding each
each_part f i zero m a = simp (zero-add, add-zero)
each_part f i (suc n) m a = rw (suc-add n m, each_part f (suc i) n m (f i a), suc-add i n, add-suc i n)

-- a walk by its turn n
pub each_at : {A : Type 0} (f : ℕ → A → A) (n m : ℕ) (a : A) → each 0 (n + suc m) f a ≡ each (suc n) m f (f n (each 0 n f a))
unfolding each
each_at f n m a = each_part f 0 n (suc m) a ∙ rw (zero-add n)

pub sum-most : (f g : ℕ → ℕ) (i n : ℕ) → ((j : ℕ) → i ≤ j → j < i + n → f j ≤ g j) → sum i n f ≤ sum i n g
unfolding sum
sum-most f g i zero h = omega arith
sum-most f g i (suc n) h =
    let a : f i ≤ g i = h i (omega arith) (omega arith) in
    let b : sum (suc i) n f ≤ sum (suc i) n g = sum-most f g (suc i) n (λ j c d. h j (omega arith) (omega arith)) in
    omega arith

pub sum_same : (f g : ℕ → ℕ) (i n : ℕ) → ((j : ℕ) → i ≤ j → j < i + n → f j ≡ g j) → sum i n f ≡ sum i n g
unfolding sum
sum_same f g i zero h = refl
sum_same f g i (suc n) h =
    let a : f i ≡ g i = h i (omega arith) (omega arith) in
    let b : sum (suc i) n f ≡ sum (suc i) n g = sum_same f g (suc i) n (λ j c d. h j (omega arith) (omega arith)) in
    omega arith

pub listed-length : (f : ℕ → ℕ) (i n : ℕ) → length (listed i n f) ≡ n
unfolding listed
listed-length f i zero = refl
listed-length f i (suc n) = ap suc (listed-length f (suc i) n)

pub listed_at : (f : ℕ → ℕ) (i n j : ℕ) → j < n → get_or (listed i n f) j 0 ≡ f (i + j)
unfolding listed
listed_at f i zero j h = absurd (omega arith)
listed_at f i (suc n) zero h = rw add-zero
listed_at f i (suc n) (suc j) h = rw (listed_at f (suc i) n j (omega arith), suc-add i j, add-suc i j)
