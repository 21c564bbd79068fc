-- The forms by their numbers: each has fields, and past the last there is none. Assumes nothing.
use Prim.Native.Nat.{ℕ, zero, suc, ◌≤◌, ◌<◌}
use mathlib.Core.Path.{◌≡◌, refl}
use mathlib.Core.List.{[]}
use native.Mathlib.Omega.{arith}
use lib.ListN.{length}
use Rattle.rulebook.specs.Listing.{form, forms, of}

-- a number past the forms
pub beyond : (f : ℕ) → 13 ≤ f → form f ≡ of [] []
unfolding form forms
beyond zero h = absurd (omega arith)
beyond (suc zero) h = absurd (omega arith)
beyond (suc (suc zero)) h = absurd (omega arith)
beyond (suc (suc (suc zero))) h = absurd (omega arith)
beyond (suc (suc (suc (suc zero)))) h = absurd (omega arith)
beyond (suc (suc (suc (suc (suc zero))))) h = absurd (omega arith)
beyond (suc (suc (suc (suc (suc (suc zero)))))) h = absurd (omega arith)
beyond (suc (suc (suc (suc (suc (suc (suc zero))))))) h = absurd (omega arith)
beyond (suc (suc (suc (suc (suc (suc (suc (suc zero)))))))) h = absurd (omega arith)
beyond (suc (suc (suc (suc (suc (suc (suc (suc (suc zero))))))))) h = absurd (omega arith)
beyond (suc (suc (suc (suc (suc (suc (suc (suc (suc (suc zero)))))))))) h = absurd (omega arith)
beyond (suc (suc (suc (suc (suc (suc (suc (suc (suc (suc (suc zero))))))))))) h = absurd (omega arith)
beyond (suc (suc (suc (suc (suc (suc (suc (suc (suc (suc (suc (suc zero)))))))))))) h = absurd (omega arith)
beyond (suc (suc (suc (suc (suc (suc (suc (suc (suc (suc (suc (suc (suc n))))))))))))) h = refl

-- each of the forms has fields
pub has-fields : (f : ℕ) → f < 13 → 1 ≤ length (form f).widths
unfolding form forms
has-fields zero h = omega arith
has-fields (suc zero) h = omega arith
has-fields (suc (suc zero)) h = omega arith
has-fields (suc (suc (suc zero))) h = omega arith
has-fields (suc (suc (suc (suc zero)))) h = omega arith
has-fields (suc (suc (suc (suc (suc zero))))) h = omega arith
has-fields (suc (suc (suc (suc (suc (suc zero)))))) h = omega arith
has-fields (suc (suc (suc (suc (suc (suc (suc zero))))))) h = omega arith
has-fields (suc (suc (suc (suc (suc (suc (suc (suc zero)))))))) h = omega arith
has-fields (suc (suc (suc (suc (suc (suc (suc (suc (suc zero))))))))) h = omega arith
has-fields (suc (suc (suc (suc (suc (suc (suc (suc (suc (suc zero)))))))))) h = omega arith
has-fields (suc (suc (suc (suc (suc (suc (suc (suc (suc (suc (suc zero))))))))))) h = omega arith
has-fields (suc (suc (suc (suc (suc (suc (suc (suc (suc (suc (suc (suc zero)))))))))))) h = omega arith
has-fields (suc (suc (suc (suc (suc (suc (suc (suc (suc (suc (suc (suc (suc f))))))))))))) h = absurd (omega arith)
