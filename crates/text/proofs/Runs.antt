-- The lines of a run of words, laid one by one. Assumes nothing.
use Prim.Native.Nat.{ℕ, ◌+◌, ◌-◌, ◌*◌, ◌<◌, ◌≤◌, min}
use mathlib.Core.Path.{◌≡◌, sym, ap, ◌∙◌}
use mathlib.Core.List.{List, [], ◌∷◌, ◌++◌, append_assoc, append-nil}
use native.Mathlib.Numerals.{add-one}
use native.Mathlib.Omega.{arith}
use lib.ListN.{length, get_or, take, length-take, length-drop}
use Rattle.std.proofs.Common.{refl, ◌⊎◌, inl, inr}
use Rattle.std.proofs.lemmas.List.{take_min, drop_all}
use Rattle.std.proofs.lemmas.Slice.{between_is}
use Rattle.std.specs.List.{slice_range}
use lib.Seq.{get_or-take, get_or-drop, take-suc, length-take-le}
use Rattle.text.specs.Lines.{hex_line, hex_lines}
use Rattle.text.specs.Puts.{lay, Put, run}
use Rattle.text.proofs.Digits.{length-hex, length-hexes}
use Rattle.text.proofs.Lay.{lay-none, lay-more}
use Rattle.text.proofs.Puts.{laid}

pub length_run : (ws : List ℕ) (from to : ℕ) → length (run ws from to) ≡ min to (length ws) - from
length_run ws from to = simp (length-drop, length-take)

pub run_at : (ws : List ℕ) (from to i : ℕ) → from + i < to → get_or (run ws from to) i 0 ≡ get_or ws (from + i) 0
run_at ws from to i h = rw (get_or-drop, get_or-take)

-- the run read as a range that ends within the words, and where there is no such range
pub run-range : (ws : List ℕ) (from to end : ℕ) {part : List ℕ} → end ≡ min to (length ws) → part ≡ slice_range ws from end → part ≡ run ws from to
run-range ws from to end e p = p ∙ between_is ws from end ∙ rw (e, take_min) refl

pub run-empty : (ws : List ℕ) (from to end : ℕ) → end ≡ min to (length ws) → (end < from) ⊎ (length ws < end) → [] ≡ run ws from to
run-empty ws from to end e (inl h) = sym (drop_all from (take to ws) (simp length-take (omega arith)))
run-empty ws from to end e (inr h) = absurd (omega arith)

hexes-last : (ws : List ℕ) (w : ℕ) → hex_lines (ws ++ w ∷ []) ≡ hex_lines ws ++ hex_line w
unfolding hex_lines
hexes-last [] w = append-nil (hex_line w)
hexes-last (v ∷ ws) w = rw (hexes-last ws w) (sym (append_assoc (hex_line v) (hex_lines ws) (hex_line w)))

module _ (before : List ℕ) (at : ℕ) (ws : List ℕ) where
  pub none-laid : before ≡ lay before at (hex_lines (take 0 ws))
  unfolding hex_lines
  none-laid = sym (lay-none before at)

  -- the line of the i-th word is put after those of the words before it
  module _ (i : ℕ) (inside : i < length ws) (room : at + 9 * (i + 1) ≤ length before) (out : List ℕ) (same : length out ≡ length before)
      (next : ℕ) (after : List ℕ) (put : Put (hex_line (get_or ws i 0)) out (at + 9 * i) next after) where
    this : (next ≡ at + 9 * i + length (hex_line (get_or ws i 0))) × (after ≡ lay out (at + 9 * i) (hex_line (get_or ws i 0)))
    this = laid (hex_line (get_or ws i 0)) out (at + 9 * i) next after put (rw length-hex (omega arith))

    pub next-laid : next ≡ at + 9 * (i + 1)
    next-laid = omega (arith, this.0, length-hex (get_or ws i 0))

    length-laid : length (hex_lines (take i ws)) ≡ 9 * i
    length-laid = length-hexes (take i ws) ∙ ap (λ (n : ℕ). 9 * n) (length-take-le i ws (omega arith))

    pub one-laid : out ≡ lay before at (hex_lines (take i ws)) → after ≡ lay before at (hex_lines (take (i + 1) ws))
    one-laid e =
        let m = lay-more before at (hex_lines (take i ws)) (hex_line (get_or ws i 0)) (rw length-laid (omega arith)) in
        rw (add-one, take-suc ws i 0 inside, hexes-last (take i ws) (get_or ws i 0)) (this.1 ∙ rw (length-laid, ← e) at m)
