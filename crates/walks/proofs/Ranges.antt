-- `any` and `all` of a range of numbers are the rulebook's walks. Assumes nothing.
use Rattle.std.proofs.Common.{arith, ap₂, ℕ, zero, suc, ◌+◌, ◌-◌, ◌≡◌, refl, ◌∙◌, Bool}
use Rattle.std.specs.declared.ops.Range.{Range}
use native.Mathlib.Numerals.{add-one}
use denote.Param.Members.{Mut}
use Rattle.std.proofs.iter.Yields.{nat_range_steps}
use Rattle.std.proofs.lemmas.Iterator.{YieldsList, YieldsList-from_range}
use Rattle.std.proofs.lemmas.Iterator.Search.{all_from_yields_List, any_from_yields_List}
use Rattle.std.specs.Fn.{Called}
use Rattle.std.specs.Iterator.{ChecksAll, ChecksAny}
use Rattle.std.specs.List.{list_all, list_any, range_with_len}
use Rattle.rulebook.specs.Words.{all, any}

all-in-range : (test : ℕ → Bool) (a n : ℕ) → list_all test (range_with_len a n) ≡ all a n test
unfolding all
all-in-range test a zero = refl
all-in-range test a (suc n) = rw (all-in-range test (a + 1) n, add-one)

any-in-range : (test : ℕ → Bool) (a n : ℕ) → list_any test (range_with_len a n) ≡ any a n test
unfolding any
any-in-range test a zero = refl
any-in-range test a (suc n) = rw (any-in-range test (a + 1) n, add-one)

-- What a call of `any` or `all` on the range of the n numbers from a on answered, where its closure computes a test.

abbrev Computes : {F : Type 0} → Mut F (ℕ × Unit {0}) Bool → F → (ℕ → Bool) → Type 0
Computes {F} g f test = (x : ℕ) (y : Bool) (h : F) → Called g f (x, tt) y h → (h ≡ f) × (y ≡ test x)

abbrev span : ℕ → ℕ → Range ℕ
span a b = record { start = a; end = b }

range-items : {s : Range ℕ} (a n : ℕ) → s.start ≡ a → s.end ≡ a + n → YieldsList nat_range_steps (λ x. x) s (range_with_len a n)
range-items {s} a n from to = YieldsList-from_range a (a + n) n (ap₂ span from to) (omega arith)

module _ {F : Type 0} {g : Mut F (ℕ × Unit {0}) Bool} {f : F} {s u : Range ℕ} {r : Bool} (test : ℕ → Bool) (a n : ℕ) where
  pub any-of_range : ChecksAny nat_range_steps g s f r u → s.start ≡ a → s.end ≡ a + n → Computes g f test → r ≡ any a n test
  any-of_range ran from to says = any_from_yields_List test u f r ran (range-items a n from to) says ∙ any-in-range test a n

  pub all-of_range : ChecksAll nat_range_steps g s f r u → s.start ≡ a → s.end ≡ a + n → Computes g f test → r ≡ all a n test
  all-of_range ran from to says = all_from_yields_List test u f r ran (range-items a n from to) says ∙ all-in-range test a n
