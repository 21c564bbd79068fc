-- Where two recordings part, from a place on. Assumes nothing.
use Prim.Native.Nat.{ℕ, suc, ◌+◌, ◌<◌, ◌≤◌}
use mathlib.Core.Path.{◌≡◌, refl, sym, ap, ◌∙◌}
use mathlib.Core.List.{List, [], ◌∷◌}
use native.Mathlib.Numerals.{add-one}
use native.Mathlib.Omega.{arith}
use lib.ListN.{length, get_or, drop, drop_of_length-le}
use lib.Seq.{drop-cons}
use borrow.Author.Tests.{eq-eqb, ne_eqb, eqb-true}
use Rattle.std.proofs.Common.{true≢false, Bor, Option, Some, None, true, false, not, ◌==◌, IfSome, MatchOption}
use Rattle.std.specs.Option.{option_eq}
use Rattle.std.specs.List.{HoldsAt}
use Rattle.std.proofs.lemmas.Bool.{not-false}
use Rattle.std.proofs.lemmas.List.{get_or_default}
use Rattle.rulebook.specs.Hold.{parting}

-- the first k words are the same in both
abbrev pub Along : List ℕ → List ℕ → ℕ → Type 0
Along a b k = parting a b ≡ k + parting (drop k a) (drop k b)

pub along-begin : (a b : List ℕ) → Along a b 0
along-begin a b = omega arith

none_left : (xs : List ℕ) → parting xs [] ≡ 0
unfolding parting
none_left [] = refl
none_left (x ∷ xs) = refl

module _ (a b : List ℕ) (k : ℕ) (h : Along a b k) where
  pub ours-end : length a ≤ k → k ≡ parting a b
  unfolding parting
  ours-end e = let zero : parting (drop k a) (drop k b) ≡ 0 = rw (drop_of_length-le a e) in omega (arith, h, zero)

  pub theirs-end : length b ≤ k → k ≡ parting a b
  theirs-end e = let zero : parting (drop k a) (drop k b) ≡ 0 = rw (drop_of_length-le b e) (none_left (drop k a)) in omega (arith, h, zero)

  module _ (here : k < length a) (there : k < length b) where
    pub along-next : get_or a k 0 ≡ get_or b k 0 → Along a b (k + 1)
    unfolding parting
    along-next e =
        let next : parting (drop k a) (drop k b) ≡ suc (parting (drop (k + 1) a) (drop (k + 1) b)) =
        rw (drop-cons a k 0 here, drop-cons b k 0 there, add-one, eq-eqb (get_or a k 0) (get_or b k 0) e) in
        omega (arith, h, next)

    pub other-here : (get_or a k 0 ≡ get_or b k 0 → ⊥) → k ≡ parting a b
    unfolding parting
    other-here n =
        let zero : parting (drop k a) (drop k b) ≡ 0 =
        rw (drop-cons a k 0 here, drop-cons b k 0 there, ne_eqb (get_or a k 0) (get_or b k 0) n) in
        omega (arith, h, zero)

-- word k of b, where it has one, tested against a's: they part there, or go on

-- what `get` says of b's word k
abbrev pub Gets : List ℕ → ℕ → Option (Bor ℕ) → Type 0
Gets b k got = MatchOption got (length b ≤ k) (λ x. (k < length b) × HoldsAt (λ y. x.now ≡ y) b k)

module _ (a b : List ℕ) (k : ℕ) (h : Along a b k) (here : k < length a) (word : Bor ℕ) (is : word.now ≡ get_or a k 0) where
  pub differs : (got : Option (Bor ℕ)) → IfSome got (λ x. x.now ≡ get_or b k x.now) → Gets b k got
      → true ≡ not (option_eq (λ x y. x.now == y.now) got (Some word)) → k ≡ parting a b
  differs None l there e = theirs-end a b k h there
  differs (Some x) l there e =
      other-here a b k h here there.0 (λ same.
      let q : x.now ≡ word.now = l ∙ get_or_default b k x.now 0 there.0 ∙ sym same ∙ sym is in
      true≢false (e ∙ ap not (eq-eqb x.now word.now q)))

  pub agrees : (got : Option (Bor ℕ)) → IfSome got (λ x. x.now ≡ get_or b k x.now) → Gets b k got
      → false ≡ not (option_eq (λ x y. x.now == y.now) got (Some word)) → Along a b (k + 1)
  agrees None l there e = absurd (true≢false (sym e))
  agrees (Some x) l there e =
      let q : x.now ≡ word.now = eqb-true x.now word.now (not-false (x.now == word.now) (sym e)) in
      along-next a b k h here there.0 (sym is ∙ sym q ∙ l ∙ get_or_default b k x.now 0 there.0)
