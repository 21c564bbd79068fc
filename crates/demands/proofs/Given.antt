-- What a computed test of a result says of it. Assumes nothing.
use mathlib.Core.Path.{◌≡◌, refl, sym}
use mathlib.Core.Bool.{true, ◌&&◌}
use mathlib.Core.List.{List, [], ◌∷◌}
use Prim.Native.Nat.{ℕ}
use lib.Dec.{eqb}
use borrow.Author.Tests.{eqb-true}
use Rattle.rulebook.specs.Step.{Result}
use Rattle.rulebook.specs.Marked.{same, gives}
use Rattle.laws.proofs.Tests.{clash, and_left, and_right}

pub same-eq : (xs ys : List ℕ) → same xs ys ≡ true → xs ≡ ys
unfolding same
same-eq [] [] h = refl
same-eq [] (y ∷ ys) h = clash refl (sym h)
same-eq (x ∷ xs) [] h = clash refl (sym h)
same-eq (x ∷ xs) (y ∷ ys) h =
    let e = eqb-true x y (and_left (eqb x y) (same xs ys) h) in let d = same-eq xs ys (and_right (eqb x y) (same xs ys) h) in rw (e, d)

pub record Given (r : Result) (k : ℕ) (s ws : List ℕ) (v : ℕ) : Type 0 where
  pub answer : r.answer ≡ k
  pub state : r.state ≡ s
  pub words : r.words ≡ ws
  pub visits : r.visits ≡ v

pub given : (r : Result) (k : ℕ) (s ws : List ℕ) (v : ℕ) → gives r k s ws v ≡ true → Given r k s ws v
unfolding gives
given r k s ws v h =
    let p = and_left (eqb r.answer k && same r.state s && same r.words ws) _ h in
    let q = and_left (eqb r.answer k && same r.state s) _ p in
    record {
      answer = eqb-true _ _ (and_left (eqb r.answer k) _ q);
      state = same-eq _ _ (and_right (eqb r.answer k) _ q);
      words = same-eq _ _ (and_right (eqb r.answer k && same r.state s) _ p);
      visits = eqb-true _ _ (and_right (eqb r.answer k && same r.state s && same r.words ws) _ h);
    }
