-- Q-13's last sentence: a panel is the same wherever the operator's things and words are. Assumes nothing.
use Prim.Native.Nat.{ℕ, zero, suc, ◌+◌, ◌<◌}
use mathlib.Core.Path.{◌≡◌, refl, sym, ◌∙◌}
use mathlib.Core.Bool.{Bool, true, false, cond, not}
use mathlib.Core.List.{List, [], ◌∷◌, ◌++◌}
use native.Mathlib.Nat.{add-zero}
use native.Mathlib.Omega.{arith}
use lib.ListN.{length, take, drop}
use lib.Dec.{ltb, eqb}
use borrow.Author.Tests.{eqb-true}
use Rattle.rulebook.specs.Words.{word}
use Rattle.rulebook.specs.Lists.{trace_owner, own}
use Rattle.rulebook.specs.Step.{refused_state}
use Rattle.text.specs.Puts.{lay}
use Rattle.text.proofs.Lay.{front-laid, behind-laid}
use Rattle.panel.specs.Printed.{by_part, count, owner, shown_word, numeral, line, line_at, lines, part_lines, panel, answer}
use Rattle.panel.specs.Printed.{the_ports, the_networks, the_sources, the_trace, operator}
use Rattle.panel.specs.Promises.{ShowsIn}
use Rattle.panel.specs.Same.{SameThings, SameWords, PrintsAlike}

-- lines go by what each is
lines_same : (f g : ℕ → List ℕ) (i j n : ℕ) → ((k : ℕ) → k < n → f (i + k) ≡ g (j + k)) → lines i n f ≡ lines j n g
unfolding lines
lines_same f g i j zero h = refl
lines_same f g i j (suc n) h =
    let first : f i ≡ g j = simp add-zero at (h 0 (omega arith)) in
    let next : (k : ℕ) → k < n → f (suc i + k) ≡ g (suc j + k) =
    λ k low.
    let a : i + suc k ≡ suc i + k = omega arith in
    let b : j + suc k ≡ suc j + k = omega arith in
    rw (a, b) at (h (suc k) (omega arith)) in
    rw (first, lines_same f g (suc i) (suc j) n next)

-- a line goes by whether the word is the operator's, and then by the word
line_same : (b₁ b₂ : Bool) (part i w₁ w₂ : ℕ) → b₁ ≡ b₂ → (b₁ ≡ true → w₁ ≡ w₂) → cond b₁ (line part i w₁) [] ≡ cond b₂ (line part i w₂) []
line_same true b₂ part i w₁ w₂ e h = rw (← e, h refl)
line_same false b₂ part i w₁ w₂ e h = rw (← e)

-- the lines of a part of two panels
module _ (part o : ℕ) (t₁ s₁ ws₁ t₂ s₂ ws₂ : List ℕ) where
  part_same : count part t₁ ws₁ ≡ count part t₂ ws₂
      → ((i : ℕ) → i < count part t₁ ws₁ → eqb (owner part t₁ ws₁ i) o ≡ eqb (owner part t₂ ws₂ i) o)
      → ((i : ℕ) → i < count part t₁ ws₁ → owner part t₁ ws₁ i ≡ o → shown_word part t₁ s₁ ws₁ i ≡ shown_word part t₂ s₂ ws₂ i)
      → part_lines part o t₁ s₁ ws₁ ≡ part_lines part o t₂ s₂ ws₂
  unfolding part_lines line_at
  part_same counts owners words =
      rw (← counts)
      (lines_same (line_at part o t₁ s₁ ws₁) (line_at part o t₂ s₂ ws₂) 0 0 (count part t₁ ws₁)
      (λ k low. line_same _ _ part (0 + k) _ _ (owners (0 + k) (omega arith)) (λ e. words (0 + k) (omega arith) (eqb-true _ _ e))))

-- the trace's lines are those of the operator's words

unfoldable trace_lines : List ℕ → List ℕ
trace_lines [] = []
trace_lines (w ∷ ws) = line the_trace 0 w ++ trace_lines ws

-- a trace word's line has no number
same_number : (i j w : ℕ) → line the_trace i w ≡ line the_trace j w
unfolding line numeral by_part
same_number i j w = refl

-- the line of a trace word, where it is the operator's
at-trace : (o : ℕ) (t s ws : List ℕ) (i : ℕ) → line_at the_trace o t s ws i ≡ cond (eqb (trace_owner (word ws i)) o) (line the_trace 0 (word ws i)) []
unfolding line_at owner shown_word by_part
at-trace o t s ws i = rw (same_number i 0 (word ws i))

own_first : (o w : ℕ) (ws : List ℕ) (b : Bool) → cond b (line the_trace 0 w) [] ++ trace_lines (own o ws) ≡ trace_lines (cond b (w ∷ own o ws) (own o ws))
unfolding trace_lines
own_first o w ws true = refl
own_first o w ws false = refl

traced-from : (o : ℕ) (t s ws : List ℕ) → lines 0 (length ws) (line_at the_trace o t s ws) ≡ trace_lines (own o ws)
unfolding lines own trace_lines
traced-from o t s [] = refl
traced-from o t s (w ∷ ws) =
    let behind : (k : ℕ) → word (w ∷ ws) (1 + k) ≡ word ws (0 + k) = λ k. let a : 1 + k ≡ suc (0 + k) = omega arith in rw a in
    let later : lines 1 (length ws) (line_at the_trace o t s (w ∷ ws)) ≡ trace_lines (own o ws) =
    lines_same (line_at the_trace o t s (w ∷ ws)) (line_at the_trace o t s ws) 1 0 (length ws)
    (λ k low. at-trace o t s (w ∷ ws) (1 + k) ∙ rw (behind k) (sym (at-trace o t s ws (0 + k))))
    ∙ traced-from o t s ws in
    rw (at-trace o t s (w ∷ ws) 0, later) (own_first o w ws (eqb (trace_owner w) o))

traced : (o : ℕ) (t s ws : List ℕ) → part_lines the_trace o t s ws ≡ trace_lines (own o ws)
unfolding part_lines count by_part
traced o t s ws = traced-from o t s ws

-- the panels of two tables, states and traces
module _ (o : ℕ) (t₁ s₁ ws₁ t₂ s₂ ws₂ : List ℕ) (things : SameThings o t₁ t₂) (words : SameWords o t₁ s₁ ws₁ t₂ s₂ ws₂) where
  same-ports : part_lines the_ports o t₁ s₁ ws₁ ≡ part_lines the_ports o t₂ s₂ ws₂
  unfolding count owner shown_word by_part
  same-ports = part_same the_ports o t₁ s₁ ws₁ t₂ s₂ ws₂ things.ports things.own_ports words.ports

  same-networks : part_lines the_networks o t₁ s₁ ws₁ ≡ part_lines the_networks o t₂ s₂ ws₂
  unfolding count owner shown_word by_part
  same-networks = part_same the_networks o t₁ s₁ ws₁ t₂ s₂ ws₂ things.networks things.own_networks words.networks

  same-sources : part_lines the_sources o t₁ s₁ ws₁ ≡ part_lines the_sources o t₂ s₂ ws₂
  unfolding count owner shown_word by_part
  same-sources = part_same the_sources o t₁ s₁ ws₁ t₂ s₂ ws₂ things.sources things.own_sources words.sources

  pub same-panel : panel o t₁ s₁ ws₁ ≡ panel o t₂ s₂ ws₂
  unfolding panel
  same-panel =
      rw (same-ports, same-networks, same-sources, traced o t₁ s₁ ws₁, traced o t₂ s₂ ws₂, words.trace)

-- The bytes that were laid, how many, and those behind them.

module _ {o : ℕ} {t s ws out : List ℕ} {k n : ℕ} {out' : List ℕ} (h : ShowsIn o t s ws out k n out') (z : k ≡ 0) where
  pub laid-count : n ≡ length (panel o t s ws)
  laid-count = rw (sym h.answer ∙ z) at h.count

  laid-all : out' ≡ lay out 0 (panel o t s ws)
  laid-all = rw (sym h.answer ∙ z) at h.bytes

  pub laid-bytes : take n out' ≡ panel o t s ws
  laid-bytes = rw (laid-count, laid-all) (front-laid out (panel o t s ws))

  pub laid-behind : drop n out' ≡ drop n out
  laid-behind = rw (laid-count, laid-all) (behind-laid out (panel o t s ws))

-- the answer, where table and state stand
answered : (o : ℕ) (t s ws : List ℕ) (room : ℕ) → refused_state t s ≡ 0
    → answer o t s ws room ≡ cond (not (operator o)) 9 (cond (ltb room (length (panel o t s ws))) 11 0)
unfolding answer
answered o t s ws room fits = rw fits

pub prints-alike : {o : ℕ} {t s ws out : List ℕ} {k n : ℕ} {out' : List ℕ} → ShowsIn o t s ws out k n out' → PrintsAlike o t s ws out k n out'
prints-alike {o} {t} {s} {ws} {out} h t₂ s₂ ws₂ out₂ k₂ n₂ out₂' fits fits₂ things words h₂ =
    let same = same-panel o t s ws t₂ s₂ ws₂ things words in
    record {
      answer = λ e.
          h.answer ∙ answered o t s ws (length out) fits ∙ rw (same, e) (sym (answered o t₂ s₂ ws₂ (length out₂) fits₂)) ∙ sym h₂.answer;
      bytes = λ z z₂. laid-bytes h z ∙ same ∙ sym (laid-bytes h₂ z₂);
    }
