-- The order of chosen lists: the best of those whose flags are up is the first that the rulebook's fixed order runs. Assumes nothing.
use Prim.Native.Nat.{ℕ, zero, suc, ◌+◌, ◌<◌, ◌≤◌}
use mathlib.Core.Path.{◌≡◌, refl, sym, ap, ◌∙◌}
use mathlib.Core.Bool.{Bool, true, false, cond}
use mathlib.Core.Logic.{◌⊎◌, inl, inr, ⊎_elim}
use mathlib.Core.List.{List, [], ◌∷◌}
use native.Mathlib.Omega.{arith}
use lib.ListN.{length, set, get_or-eq_default}
use lib.Seq.{set_out, get_or-set_same, get_or-set_other}
use lib.Dec.{leb, ltb, eqb}
use borrow.Author.Tests.{eqb-true, eqb-false, leb-true, leb-false, ltb-true, ltb-false}
use Rattle.rulebook.specs.Words.{sum}
use Rattle.rulebook.specs.Table.{lists, priority}
use Rattle.rulebook.specs.Expressions.{deepest}
use Rattle.rulebook.specs.Lists.{Run, run_list}
use Rattle.rulebook.specs.Arbitration.{order, run_if, run_chosen}
use Rattle.words.specs.Flags.{flagged}
use Rattle.laws.specs.Sequence.{Before, Each, InOrder, times}
use Rattle.laws.proofs.Tests.{split, clash}
use Rattle.laws.proofs.Walks.{here-or-later, sum_same}
use Rattle.laws.proofs.Cases.{if-chosen, if-not}
use Rattle.laws.proofs.Order.{each-weaker, order-there, once, in_order}
use Rattle.arbitration.specs.Picking.{better, Best}

-- The loop for the best.

here-or-before : (k n : ℕ) → k < n + 1 → (k ≡ n) ⊎ (k < n)
here-or-before k n h = split (eqb k n) (λ e. inl (eqb-true k n e)) (λ e. inr (let z : (k ≡ n → ⊥) = eqb-false k n e in omega arith))

pub best_none : (t flags : List ℕ) (l : ℕ) → lists t ≤ l → Best t flags 0 l
best_none t flags l h = record { up = λ b. absurd (omega arith); below = λ b. absurd (omega arith); first = λ k b u. absurd (omega arith) }

module _ (t flags : List ℕ) (n l : ℕ) (b : Best t flags n l) (inside : n < lists t) where
  -- n is no better: its flag is down, or l stands before it
  stays : (flagged flags n ≡ true → (l < lists t) × Before t l n) → Best t flags (n + 1) l
  stays h =
      record {
        up = b.up;
        below = λ z. let y : l < n = b.below z in omega arith;
        first = λ k z u. ⊎_elim
            (λ e. let v : flagged flags n ≡ true = rw e at u in ((h v).0, inr (rw e (h v).1)))
            (λ y. b.first k y u) (here-or-before k n z);
      }

  -- n is better: its flag is up, and no list so far, or l stands after it
  takes : flagged flags n ≡ true → (l < lists t → priority t l < priority t n) → Best t flags (n + 1) n
  takes up h =
      record {
        up = λ z. up;
        below = λ z. omega arith;
        first = λ k z u. (
          inside,
          ⊎_elim (λ e. inl e)
              (λ y. let p : priority t l < priority t n = h (b.first k y u).0 in
              inr (inl (⊎_elim (λ e. rw e p) (λ w. ⊎_elim (λ lower. omega arith) (λ same. let q = same.0 in omega arith) w) (b.first k y u).1)))
              (here-or-before k n z),
        );
      }

  after : priority t n ≤ priority t l → l < n → Before t l n
  after p y =
      split (eqb (priority t l) (priority t n)) (λ e. inr (eqb-true _ _ e, y))
      (λ e. inl (let z : (priority t l ≡ priority t n → ⊥) = eqb-false _ _ e in omega arith))

  pub best-more : Best t flags (n + 1) (better t flags n l)
  unfolding better
  best-more =
      split (flagged flags n)
      (λ up. split (leb (lists t) l)
      (λ e. let none : lists t ≤ l = leb-true _ _ e in rw (up, e) (takes up (λ z. absurd (omega arith))))
      (λ e. let some : l < lists t = leb-false _ _ e in
      split (ltb (priority t l) (priority t n))
      (λ d. rw (up, e, d) (takes up (λ z. ltb-true _ _ d)))
      (λ d. let p : priority t n ≤ priority t l = ltb-false _ _ d in let y : l < n = b.below some in
      rw (up, e, d) (stays (λ u. (some, after p y))))))
      (λ down. rw down (stays (λ u. clash u down)))

-- The run of the fixed order, when its first chosen list is known.

not-both : (t : List ℕ) (a b : ℕ) → Before t a b → Before t b a → ⊥
not-both t a b (inl h) (inl k) = omega arith
not-both t a b (inl h) (inr k) = let e = k.0 in omega arith
not-both t a b (inr h) (inl k) = let e = h.0 in omega arith
not-both t a b (inr h) (inr k) = let e = h.1 in let d = k.1 in omega arith

self : (t : List ℕ) (a b : ℕ) → a ≡ b → Before t a b → ⊥
self t a b e h = not-both t a b h (rw (e) (rw e at h))

same_if : (t : List ℕ) (c d : ℕ → Bool) (l : ℕ) (x : Run) → c l ≡ d l → run_if t c l x ≡ run_if t d l x
same_if t c d l x h =
    split (d l) (λ e. if-chosen t c l x (h ∙ e) ∙ sym (if-chosen t d l x e)) (λ e. if-not t c l x (h ∙ e) ∙ sym (if-not t d l x e))

same_chosen : (t : List ℕ) (c d : ℕ → Bool) (ls : List ℕ) (x : Run) → Each (λ k. c k ≡ d k) ls → run_chosen t c ls x ≡ run_chosen t d ls x
unfolding run_chosen
same_chosen t c d [] x h = refl
same_chosen t c d (l ∷ ls) x h = ap (run_chosen t c ls) (same_if t c d l x h.0) ∙ same_chosen t c d ls (run_if t d l x) h.1

pub none-chosen : (t : List ℕ) (c : ℕ → Bool) (ls : List ℕ) (x : Run) → Each (λ k. c k ≡ false) ls → run_chosen t c ls x ≡ x
unfolding run_chosen
none-chosen t c [] x h = refl
none-chosen t c (l ∷ ls) x h = ap (run_chosen t c ls) (if-not t c l x h.0) ∙ none-chosen t c ls x h.1

each_of : (P : ℕ → Type 0) (l : ℕ) (ys : List ℕ) → 1 ≤ times l ys → Each P ys → P l
unfolding times
each_of P l [] m h = absurd (omega arith)
each_of P l (y ∷ ys) m h =
    split (eqb l y) (λ e. rw (eqb-true l y e) h.0) (λ e. each_of P l ys (let z : 1 ≤ 0 + times l ys = rw e at m in omega arith) h.1)

-- l is the first of those that c holds of, and d holds of the others
module _ (t : List ℕ) (c d : ℕ → Bool) (l : ℕ) (up : c l ≡ true) (down : d l ≡ false) (others : (k : ℕ) → (k ≡ l → ⊥) → d k ≡ c k)
    (first : (k : ℕ) → k < lists t → c k ≡ true → (k ≡ l) ⊎ Before t l k) where
  pub first_runs : (ls : List ℕ) (x : Run) → InOrder t ls → Each (λ k. k < lists t) ls → 1 ≤ times l ls
      → run_chosen t c ls x ≡ run_chosen t d ls (run_list deepest t l x)
  unfolding run_chosen times
  first_runs [] x i e m = absurd (omega arith)
  first_runs (y ∷ ys) x i e m =
      split (eqb l y)
      (λ h. let s : y ≡ l = sym (eqb-true l y h) in
      ap (run_chosen t c ys) (if-chosen t c y x (rw s up) ∙ ap (λ (k : ℕ). run_list deepest t k x) s)
      ∙ same_chosen t c d ys (run_list deepest t l x)
      (each-weaker (Before t y) (λ k. c k ≡ d k) ys (λ k b. sym (others k (λ z. self t y k (s ∙ sym z) b))) i.0)
      ∙ sym (ap (run_chosen t d ys) (if-not t d y (run_list deepest t l x) (rw s down))))
      (λ h. let later : 1 ≤ times l ys = (let z : 1 ≤ 0 + times l ys = rw h at m in omega arith) in
      let not-it : (y ≡ l → ⊥) = (λ z. eqb-false l y h (sym z)) in
      split (c y)
      (λ u. absurd (⊎_elim not-it (λ b. not-both t y l (each_of (Before t y) l ys later i.0) b) (first y e.0 u)))
      (λ u.
      ap (run_chosen t c ys) (if-not t c y x u)
      ∙ first_runs ys x i.1 e.1 later
      ∙ sym (ap (run_chosen t d ys) (if-not t d y (run_list deepest t l x) (others y not-it ∙ u)))))

-- The loop over the chosen lists.

lowered : (flags : List ℕ) (l k : ℕ) → (k ≡ l → ⊥) → flagged (set flags l 0) k ≡ flagged flags k
unfolding flagged
lowered flags l k h = rw (get_or-set_other flags l k 0 0 h)

down-now : (flags : List ℕ) (l : ℕ) → flagged (set flags l 0) l ≡ false
unfolding flagged
down-now flags l =
    split (ltb l (length flags)) (λ e. rw (get_or-set_same flags l 0 0 (ltb-true _ _ e)))
    (λ e. let z : length flags ≤ l = ltb-false _ _ e in rw (set_out flags l 0 z, get_or-eq_default flags 0 z))

module _ (t flags : List ℕ) (l : ℕ) (b : Best t flags (lists t) l) where
  pub chosen-turn : l < lists t → (x : Run) → run_chosen t (flagged flags) (order t) x ≡ run_chosen t (flagged (set flags l 0)) (order t) (run_list deepest t l x)
  chosen-turn h x =
      first_runs t (flagged flags) (flagged (set flags l 0)) l (b.up h) (down-now flags l) (lowered flags l) (λ k z u. (b.first k z u).1) (order t) x
      (in_order t) (order-there t) (let z : times l (order t) ≡ 1 = once t l h in omega arith)

  pub chosen-end : lists t ≤ l → (x : Run) → run_chosen t (flagged flags) (order t) x ≡ x
  chosen-end h x =
      none-chosen t (flagged flags) (order t) x
      (each-weaker _ (λ k. flagged flags k ≡ false) (order t) (λ k z. split (flagged flags k) (λ u. absurd (past (b.first k z u).0 h)) (λ u. u))
      (order-there t))
    where
      past : l < lists t → lists t ≤ l → ⊥
      past a b = omega arith

-- the measure of that loop: how many flags are up

unfoldable pub up_in : List ℕ → ℕ → ℕ
up_in flags k = cond (flagged flags k) 1 0

sum-falls : (f g : ℕ → ℕ) (l i n : ℕ) → i ≤ l → l < i + n → g l < f l → ((k : ℕ) → (k ≡ l → ⊥) → g k ≡ f k) → sum i n g < sum i n f
unfolding sum
sum-falls f g l i zero a b h o = absurd (omega arith)
sum-falls f g l i (suc n) a b h o =
    here-or-later i n l a b
    (λ e.
    let s : sum (suc i) n g ≡ sum (suc i) n f = sum_same g f (suc i) n (λ j c d. o j (λ z. omega arith)) in
    let w : g i < f i = rw e at h in
    omega arith)
    (λ c d.
    let s : sum (suc i) n g < sum (suc i) n f = sum-falls f g l (suc i) n c d h o in
    let w : g i ≡ f i = o i (λ z. omega arith) in
    omega arith)

pub fewer : (flags : List ℕ) (l n : ℕ) → l < n → flagged flags l ≡ true → sum 0 n (up_in (set flags l 0)) < sum 0 n (up_in flags)
unfolding up_in
fewer flags l n h up =
    sum-falls (up_in flags) (up_in (set flags l 0)) l 0 n (omega arith) (omega arith)
    (rw (up, down-now flags l) (omega arith))
    (λ k z. rw (lowered flags l k z))
