-- A play is single calls: those that its events taken make, one after the other in the rest of the trace; and such calls give one result.
-- Assumes nothing.
use mathlib.Core.Path.{◌≡◌, refl, sym, ap, ◌∙◌}
use mathlib.Core.Logic.{◌⊎◌, ⊎_elim}
use mathlib.Core.Bool.{true}
use mathlib.Core.List.{List, [], ◌∷◌, ◌++◌, append_assoc}
use Prim.Native.Nat.{ℕ, suc, ◌+◌, ◌%◌, ◌≤◌}
use native.Mathlib.Numerals.{one-add}
use native.Mathlib.Omega.{arith}
use lib.ListN.{length, take, drop, length-append, length-drop}
use lib.Seq.{take-append_seam, drop-append_seam, drop-drop}
use Rattle.rulebook.specs.Reasons.{accepted}
use Rattle.rulebook.specs.State.{fits}
use Rattle.rulebook.specs.Events.{happen}
use Rattle.rulebook.specs.Step.{Result, refused_state, step}
use Rattle.rulebook.specs.Play.{Play, onto, play_on}
use Rattle.laws.proofs.Play.{by-standing, stood-table, stood-state, step-unadmitted, step-full, step-refused, step-done, none-heeded, play-cases, later}
use Rattle.manager.specs.Promises.{TakesEventIn, PlaysIn}
use Rattle.demands.specs.Plays.{SingleCalls, added}
use Rattle.demands.specs.Plays as plays
use Rattle.demands.proofs.Plays.{told, untold}

-- what event e does from state s with the outcomes os, as a result
abbrev gives : List ℕ → List ℕ → ℕ → List ℕ → Result
gives t os e s = let x = happen t e os s in record { answer = 0; state = x.state; words = x.words; visits = x.visits }

-- a call whose step is known
pub call-of : (t s trace os : List ℕ) (e : ℕ) (r : Result) → step t s (length trace) os e ≡ r
    → TakesEventIn t s trace os e r.answer (length r.words) r.visits r.state (r.words ++ drop (length r.words) trace)
call-of t s trace os e r h = rw h (record { answer = refl; count = refl; visits = refl; state = refl; words = refl })

-- the calls that play p of es from s makes of this trace
abbrev CallsOf : (t es s : List ℕ) → Play → List ℕ → Type 0
CallsOf t es s p trace =
    SingleCalls t s trace es p.answer p.taken (length p.words) (p.visits % 18446744073709551616) p.state
    (p.words ++ drop (length p.words) trace)

-- what was left out as whole multiples before is left out in the end
pub added-late : (v w : ℕ) → added v (w % 18446744073709551616) ≡ (v + w) % 18446744073709551616
added-late v w = omega arith

-- one event in front of calls in the rest of the trace
one_more : (t : List ℕ) (e : ℕ) (es s trace : List ℕ) (ws : List ℕ) (v : ℕ) (s₁ : List ℕ) (p : Play)
    → TakesEventIn t s trace [] e 0 (length ws) v s₁ (ws ++ drop (length ws) trace)
    → CallsOf t es s₁ p (drop (length ws) trace)
    → CallsOf t (e ∷ es) s (onto 1 ws v p) trace
one_more t e es s trace ws v s₁ p call calls =
    let d : SingleCalls t s₁ (drop (length ws) (ws ++ drop (length ws) trace)) es p.answer p.taken (length p.words)
    (p.visits % 18446744073709551616) p.state (p.words ++ drop (length p.words) (drop (length ws) trace)) = rw (drop-append_seam ws (drop (length ws) trace)) calls in
    let c : SingleCalls t s trace (e ∷ es) p.answer (suc p.taken) (length ws + length p.words) (added v (p.visits % 18446744073709551616)) p.state
    (take (length ws) (ws ++ drop (length ws) trace) ++ (p.words ++ drop (length p.words) (drop (length ws) trace))) = plays.taken e call refl d in
    rw (one-add, length-append, append_assoc, ← drop-drop, ← added-late) (rw (take-append_seam ws (drop (length ws) trace)) at c)

module _ (t : List ℕ) (ok : accepted t ≡ true) where
  pub calls-of : (es s : List ℕ) (room : ℕ) → fits t s ≡ true → (trace : List ℕ) → length trace ≡ room → CallsOf t es s (play_on t es s room) trace
  calls-of =
      play-cases t ok (λ es s room p. (trace : List ℕ) → length trace ≡ room → CallsOf t es s p trace)
      (λ s room f trace l. plays.none)
      (λ e es s room f h trace l. plays.refused e (call-of t s trace [] e _ (step-full t s (length trace) [] e ok f (omega arith))) (λ z. omega arith))
      (λ e es s room f h n a b trace l.
      plays.refused e (call-of t s trace [] e _ (step-refused t s (length trace) [] e ok f (omega arith) n)) n)
      (λ e es s room k i trace l.
      one_more t e es s trace (happen t e [] s).words (happen t e [] s).visits (happen t e [] s).state (later t ok e es s room)
      (call-of t s trace [] e _
      (step-done t s (length trace) [] e ok k.state (let h = k.enough in omega arith) k.event ∙ ap (λ (os : List ℕ). gives t os e s) (none-heeded t)))
      (i (drop (length (happen t e [] s).words) trace) (rw (length-drop, l))))

-- Such calls give one result.

pub one-result : {t s trace es : List ℕ} {k k' n n' m m' v v' : ℕ} {a a' w w' : List ℕ} → SingleCalls t s trace es k n m v a w
    → SingleCalls t s trace es k' n' m' v' a' w' → (k ≡ k') × (n ≡ n') × (m ≡ m') × (v ≡ v') × (a ≡ a') × (w ≡ w')
one-result plays.none plays.none = (refl, refl, refl, refl, refl, refl)
one-result (plays.refused e p n) (plays.refused d q l) =
    (p.answer ∙ sym q.answer, refl, p.count ∙ sym q.count, p.visits ∙ sym q.visits, p.state ∙ sym q.state, p.words ∙ sym q.words)
one-result (plays.refused e p n) (plays.taken d q z c) = absurd (n (p.answer ∙ sym q.answer ∙ z))
one-result (plays.taken e p z c) (plays.refused d q n) = absurd (n (q.answer ∙ sym p.answer ∙ z))
one-result (plays.taken e {m₁ = m₁} {v₁ = v₁} {s₁ = s₁} {trace₁ = w₁} p z c) (plays.taken d {m₁ = m₂} {v₁ = v₂} {s₁ = s₂} {trace₁ = w₂} q y b) =
    let states : s₂ ≡ s₁ = q.state ∙ sym p.state in
    let counts : m₂ ≡ m₁ = q.count ∙ sym p.count in
    let visits : v₂ ≡ v₁ = q.visits ∙ sym p.visits in
    let traces : w₂ ≡ w₁ = q.words ∙ sym p.words in
    let i = one-result c (rw (states, counts, traces) at b) in
    rw (counts, visits, traces)
    (i.0, ap suc i.1, ap (λ (x : ℕ). m₁ + x) i.2, ap (added v₁) i.3, i.4, ap (λ (x : List ℕ). take m₁ w₁ ++ x) i.5)

-- Of any result of a play.

module _ (t s trace es : List ℕ) (k n m v : ℕ) (s' trace' : List ℕ) (p : PlaysIn t s trace es k n m v s' trace') where
  stood-calls : refused_state t s ≡ 0 → SingleCalls t s trace es k n m v s' trace'
  stood-calls z =
      let x = told t s trace es k n m v s' trace' p z in
      rw (x.answer, x.taken, x.count, x.visits, x.state, x.words) (calls-of t (stood-table t s z) es s (length trace) (stood-state t s z) trace refl)

  unstood-call : (refused_state t s ≡ 0 → ⊥) → (fs : List ℕ) → 1 ≤ length fs → SingleCalls t s trace fs k n m v s' trace'
  unstood-call un [] b = absurd (omega arith)
  unstood-call un (e ∷ fs) b =
      let x = untold t s trace es k n m v s' trace' p un in
      rw (x.answer, x.taken, x.count, x.visits, x.state, x.words)
      (plays.refused e (call-of t s trace [] e _ (step-unadmitted t s un (length trace) [] e)) un)

  pub play-calls : (refused_state t s ≡ 0) ⊎ (1 ≤ length es) → SingleCalls t s trace es k n m v s' trace'
  play-calls = ⊎_elim stood-calls (λ b. by-standing t s stood-calls (λ un. unstood-call un es b))
