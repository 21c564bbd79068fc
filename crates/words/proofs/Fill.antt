-- A loop that fills an array of words, one store a turn. Assumes nothing.
use Prim.Native.Nat.{ℕ, zero, suc, ◌+◌, ◌<◌}
use mathlib.Core.Path.{◌≡◌, refl, sym, ◌∙◌}
use mathlib.Core.Bool.{Bool, true, false, cond, ◌||◌, not, or-true, or-false}
use mathlib.Core.List.{List}
use native.Mathlib.Omega.{arith}
use lib.ListN.{length, get_or, set, replicate}
use lib.Seq.{get_or-set_same, get_or-set_other}
use lib.Dec.{eqb}
use borrow.Author.Count.{below_more}
use borrow.Author.Tests.{eqb-true, eqb-false}
use Rattle.laws.proofs.Tests.{split}
use Rattle.words.specs.Flags.{flagged}

-- what holds of the words before l, and of v, holds of the words before l + 1 once v is stored at l
pub set_more : (P : ℕ → ℕ → Type 0) (ws : List ℕ) (l v : ℕ) → l < length ws → P l v → ((k : ℕ) → k < l → P k (get_or ws k 0))
    → (k : ℕ) → k < l + 1 → P k (get_or (set ws l v) k 0)
set_more P ws l v inside here before =
    below_more (λ k. P k (get_or (set ws l v) k 0)) l (λ k h. rw (get_or-set_other ws l k v 0 (omega arith)) (before k h))
    (rw (get_or-set_same ws l v 0 inside) here)

up_if : (b : Bool) → not (eqb (cond b 1 0) 0) ≡ b
up_if true = refl
up_if false = refl

-- the same of flags that are to say q
pub raise-more : (q : ℕ → Bool) (flags : List ℕ) (l v : ℕ) (b : Bool) → l < length flags → v ≡ cond b 1 0 → b ≡ q l
    → ((k : ℕ) → k < l → flagged flags k ≡ q k) → (k : ℕ) → k < l + 1 → flagged (set flags l v) k ≡ q k
unfolding flagged
raise-more q flags l v b inside hv hb before =
    set_more (λ k w. not (eqb w 0) ≡ q k) flags l v inside (rw hv (up_if b ∙ hb)) before

-- a flag put up
pub raised-flag : (flags : List ℕ) (l k : ℕ) → l < length flags → flagged (set flags l 1) k ≡ (flagged flags k || eqb l k)
unfolding flagged
raised-flag flags l k h =
    split (eqb l k)
    (λ e. let s : l ≡ k = eqb-true l k e in rw (e, or-true) (rw (← s, get_or-set_same flags l 1 0 h)))
    (λ e. rw (e, or-false, get_or-set_other flags l k 1 0 (λ z. eqb-false l k e (sym z))))

-- among zeros no flag is up

pub zero_word : (n l : ℕ) → ◌≡◌ {A = ℕ} (get_or (replicate n 0) l 0) 0
zero_word zero l = refl
zero_word (suc n) zero = refl
zero_word (suc n) (suc l) = zero_word n l

pub none-of-zeros : (n l : ℕ) → flagged (replicate n 0) l ≡ false
unfolding flagged
none-of-zeros n l = rw (zero_word n l)
