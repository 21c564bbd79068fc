-- Bytes laid into others: none, one more at the back, more behind; at the front. Assumes nothing.
use Prim.Native.Nat.{ℕ, suc, ◌+◌, ◌<◌, ◌≤◌}
use mathlib.Core.Path.{◌≡◌, ap, ◌∙◌}
use mathlib.Core.List.{List, [], ◌∷◌, ◌++◌, append_assoc, append-nil}
use native.Mathlib.Nat.{add-zero, zero-add}
use native.Mathlib.Omega.{arith}
use lib.ListN.{length, set, take, drop, length-append, length-set, length-drop, take-append-drop}
use lib.Seq.{take-set-le, drop-set-lt, drop-cons, get_or-set_same, length-take-le, take_at, drop-append-add, drop-drop, take-append_seam, drop-append_seam}
use Rattle.text.specs.Puts.{lay}

pub lay-none : (out : List ℕ) (at : ℕ) → lay out at [] ≡ out
unfolding lay
lay-none out at = simp (append-nil, add-zero, take-append-drop)

module _ (out : List ℕ) (at : ℕ) (xs : List ℕ) where
  -- what stands behind xs once g is stored there
  behind : (e g : ℕ) → e < length out → drop e (set out e g) ≡ g ∷ drop (suc e) out
  behind e g h =
      rw (drop-cons (set out e g) e 0 (rw length-set h), get_or-set_same out e g 0 h, drop-set-lt (suc e) out e g (omega arith))

  pub lay-back : (k g : ℕ) → length xs ≡ k → at + k < length out → lay (set out (at + k) g) at xs ≡ lay out at (xs ++ g ∷ [])
  unfolding lay
  lay-back k g e h =
      let q : at + length (xs ++ g ∷ []) ≡ suc (at + k) = simp length-append (omega arith) in
      rw (q, e, take-set-le at out (at + k) g (omega arith), behind (at + k) g h)
      (simp append_assoc)

  pub length-lay : at + length xs ≤ length out → length (lay out at xs) ≡ length out
  unfolding lay
  length-lay h = simp (length-append, length-drop) (rw (length-take-le at out (omega arith)) (omega arith))

  front : at + length xs ≤ length out → length (take at out ++ xs) ≡ at + length xs
  front h = simp length-append (rw (length-take-le at out (omega arith)))

  pub lay-more : (ys : List ℕ) → at + length xs ≤ length out → lay (lay out at xs) (at + length xs) ys ≡ lay out at (xs ++ ys)
  unfolding lay
  lay-more ys h =
      let p = front h in
      let q : at + length (xs ++ ys) ≡ at + length xs + length ys = simp length-append (omega arith) in
      let r : drop (at + length xs + length ys) (take at out ++ xs ++ drop (at + length xs) out) ≡ drop (at + length xs + length ys) out =
      rw (← p)
      (drop-append-add (take at out ++ xs) (drop (length (take at out ++ xs)) out) (length ys)
      ∙ drop-drop (length ys) (length (take at out ++ xs)) out)
      in
      rw (q, take_at (take at out ++ xs) (drop (at + length xs) out) (at + length xs) p, r) (simp append_assoc)

-- what was laid at the front stands there, and all behind it as before

pub front-laid : (out xs : List ℕ) → take (length xs) (lay out 0 xs) ≡ xs
unfolding lay
front-laid out xs = take-append_seam xs _

pub behind-laid : (out xs : List ℕ) → drop (length xs) (lay out 0 xs) ≡ drop (length xs) out
unfolding lay
behind-laid out xs = drop-append_seam xs (drop (0 + length xs) out) ∙ ap (λ (i : ℕ). drop i out) (zero-add (length xs))
