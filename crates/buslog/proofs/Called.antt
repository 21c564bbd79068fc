-- The list of the interfaces: which of its names one is, and whether they are different. Assumes nothing.
use Prim.Native.Nat.{ℕ, suc, ◌+◌, ◌-◌, ◌<◌, ◌≤◌, min}
use mathlib.Core.Path.{◌≡◌, refl, sym, subst, ◌∙◌}
use mathlib.Core.Bool.{true, false, ◌&&◌}
use mathlib.Core.List.{List}
use native.Mathlib.Omega.{arith}
use borrow.Author.Tests.{eq-eqb, ne_eqb, eqb-true, eqb-false}
use Rattle.std.specs.Prelude.{Option, Some, None}
use Rattle.std.specs.Option.{is_some}
use Rattle.laws.proofs.Tests.{split, clash}
use lib.ListN.{length, take, drop, length-drop}
use lib.Dec.{eqb}
use Rattle.rulebook.specs.BusLog.{bytes_of, listed_name, stands, number_of, names_stand}
use Rattle.buslog.specs.Inside.{part, Finds, IsNumberOf}
use Rattle.buslog.proofs.Runs.{all-behind}
use Rattle.buslog.proofs.Equal.{same-so, same_not}
use Rattle.buslog.proofs.Spelling.{bytes-part, bytes-behind, drop-next}

-- i names are looked at, and p is the place behind them

module _ (called names : List ℕ) (k : ℕ) where
  pub record SoughtTo (p i : ℕ) : Type 0 where
    pub inside : p ≤ length names
    pub left : number_of called k names ≡ i + number_of called (k - i) (drop p names)

  module _ (p i : ℕ) (so : SoughtTo p i) where
    pub sought-all : k ≡ i → number_of called k names ≡ k
    unfolding number_of
    sought-all h = let q : k - i ≡ 0 = omega arith in omega (arith, rw q at so.left)

    module _ (h : i < k) (end : ℕ) (ends : end ≡ p + length (bytes_of listed_name (drop p names))) where
      not-all : k - i ≡ suc (k - (i + 1))
      not-all = omega arith

      pub sought-found : part names p end ≡ called → i ≡ number_of called k names
      unfolding number_of
      sought-found y =
          let is = same-so (part names p end) called y in
          let here : number_of called (k - i) (drop p names) ≡ 0 = rw (not-all, ← bytes-part listed_name names p end ends, is, number_of) in
          omega (arith, so.left, here)

      pub sought-more : (part names p end ≡ called → ⊥) → SoughtTo (min (end + 1) (length names)) (i + 1)
      unfolding number_of
      sought-more y =
          let is = same_not (part names p end) called y in
          let here : number_of called (k - i) (drop p names) ≡ suc (number_of called (k - (i + 1)) (drop (min (end + 1) (length names)) names)) =
          rw (not-all, ← bytes-part listed_name names p end ends, is, number_of, drop-next names end, bytes-behind listed_name names p end ends) in
          record { inside = omega arith; left = omega (arith, so.left, here) }

some-number : (called : List ℕ) (k : ℕ) (names : List ℕ) (r : Option ℕ) → IsNumberOf called k names r → is_some r ≡ true
    → number_of called k names ≡ k → ⊥
some-number called k names (Some i) e y all = omega (arith, e, all)
some-number called k names None e y all = clash y refl

no-number : (called : List ℕ) (k : ℕ) (names : List ℕ) (r : Option ℕ) → IsNumberOf called k names r → is_some r ≡ false → number_of called k names ≡ k
no-number called k names (Some i) e y = clash refl y
no-number called k names None e y = e

-- so many names are left from p on

module _ (names : List ℕ) (k : ℕ) where
  pub record StandTo (p left : ℕ) : Type 0 where
    pub inside : p ≤ length names
    pub same_left : names_stand k names ≡ names_stand left (drop p names)

  pub stand-end : (p left : ℕ) → StandTo p left → left ≤ 0 → eqb p (length names) ≡ names_stand k names
  unfolding names_stand
  stand-end p left so none =
      let z : left ≡ 0 = omega arith in
      let long : length (drop p names) ≡ length names - p = length-drop p names in
      split (eqb p (length names))
      (λ e. let q : length names - p ≡ 0 = omega (arith, eqb-true p (length names) e) in
      rw e (sym (so.same_left ∙ rw (z, long, eq-eqb (length names - p) 0 q))))
      (λ e. let q : length names - p ≡ 0 → ⊥ = λ (n : length names - p ≡ 0). eqb-false p (length names) e (omega (arith, so.inside)) in
      rw e (sym (so.same_left ∙ rw (z, long, ne_eqb (length names - p) 0 q))))

  module _ (p left : ℕ) (so : StandTo p left) (some : 0 < left) where
    one-left : left ≡ suc (left - 1)
    one-left = omega arith

    pub misspelt : stands listed_name (drop p names) ≡ false → false ≡ names_stand k names
    unfolding names_stand
    misspelt y = sym (so.same_left ∙ rw (one-left, y, names_stand))

    module _ (end : ℕ) (f : Finds listed_name names p end) (r : Option ℕ)
        (e : IsNumberOf (part names p end) (left - 1) (take (length names - (end + 1)) (drop (end + 1) names)) r)
      where
        its-number : IsNumberOf (part names p end) (left - 1) (drop (end + 1) names) r
        its-number = subst (λ (xs : List ℕ). IsNumberOf (part names p end) (left - 1) xs r) (all-behind names (end + 1)) e

        rest_of : (l m : ℕ) → l ≡ suc m
            → names_stand l (drop p names) ≡ eqb (number_of (part names p end) m (drop (end + 1) names)) m && names_stand m (drop (end + 1) names)
        unfolding names_stand
        rest_of l m e = rw (e, f.stood, f.bytes, f.next)

        turn : names_stand left (drop p names)
            ≡ eqb (number_of (part names p end) (left - 1) (drop (end + 1) names)) (left - 1) && names_stand (left - 1) (drop (end + 1) names)
        turn = rest_of left (left - 1) one-left

        pub stands-again : is_some r ≡ true → false ≡ names_stand k names
        stands-again y = sym (so.same_left ∙ turn ∙ rw (ne_eqb _ (left - 1) (some-number _ (left - 1) _ r its-number y)))

        pub stand-more : is_some r ≡ false → StandTo (end + 1) (left - 1)
        stand-more y =
            record {
              inside = omega (arith, f.inside);
              same_left = so.same_left ∙ turn ∙ rw (eq-eqb _ (left - 1) (no-number _ (left - 1) _ r its-number y));
            }
