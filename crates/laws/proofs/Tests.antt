-- Tests: a Bool is true or false, and what `&&` and `||` say of their parts. Assumes nothing.
use mathlib.Core.Path.{◌≡◌, refl, sym, ◌∙◌}
use mathlib.Core.Bool.{Bool, true, false, cond, ◌&&◌, ◌||◌, true≢false}
use mathlib.Core.Logic.{◌⊎◌, inl, inr}
use Rattle.rulebook.specs.Words.{implies}

pub split {ℓ} : {A : Type ℓ} (b : Bool) → (b ≡ true → A) → (b ≡ false → A) → A
split true f g = f refl
split false f g = g refl

pub clash {ℓ} : {A : Type ℓ} {b : Bool} → b ≡ true → b ≡ false → A
clash h k = absurd (true≢false (sym h ∙ k))

-- Part b of a chain P that is true by h: if b were false, the chain would be. Used as `part_of _ (λ e. rw (P, e, and-false) at h)`;
-- of the first part, without and-false.
pub part_of : (b : Bool) → (b ≡ false → ◌≡◌ {A = Bool} false true) → b ≡ true
part_of b f = split b (λ e. e) (λ e. absurd (true≢false (sym (f e))))

pub and_left : (a b : Bool) → (a && b) ≡ true → a ≡ true
and_left true b h = refl
and_left false b h = h

pub and_right : (a b : Bool) → (a && b) ≡ true → b ≡ true
and_right true b h = h
and_right false b h = clash h refl

pub and_both : (a b : Bool) → a ≡ true → b ≡ true → (a && b) ≡ true
and_both a b h k = rw (h, k)

pub or-none : (a b : Bool) → (a || b) ≡ false → (a ≡ false) × (b ≡ false)
or-none true b h = clash refl h
or-none false b h = (refl, h)

pub or_some : (a b : Bool) → (a || b) ≡ true → (a ≡ true) ⊎ (b ≡ true)
or_some true b h = inl refl
or_some false b h = inr h

pub implies-elim : (a b : Bool) → implies a b ≡ true → a ≡ true → b ≡ true
implies-elim a b h e = rw e at h

pub implies-intro : (a b : Bool) → (a ≡ true → b ≡ true) → implies a b ≡ true
implies-intro true b f = f refl
implies-intro false b f = refl

-- one of two tests, by a third

pub cond_yes : (a b c : Bool) → cond a b c ≡ true → a ≡ true → b ≡ true
cond_yes a b c h e = rw e at h

pub cond_no : (a b c : Bool) → cond a b c ≡ true → a ≡ false → c ≡ true
cond_no a b c h e = rw e at h

pub cond-intro : (a b c : Bool) → (a ≡ true → b ≡ true) → (a ≡ false → c ≡ true) → cond a b c ≡ true
cond-intro true b c f g = f refl
cond-intro false b c f g = g refl

pub or-intro : (a b : Bool) → (a ≡ false → b ≡ true) → (a || b) ≡ true
or-intro true b f = refl
or-intro false b f = f refl

pub or_elim : (a b : Bool) → (a || b) ≡ true → a ≡ false → b ≡ true
or_elim a b h e = rw e at h

pub and-one-false : (a b : Bool) → (a ≡ true → b ≡ true → ⊥) → (a && b) ≡ false
and-one-false true true f = absurd (f refl refl)
and-one-false true false f = refl
and-one-false false b f = refl
