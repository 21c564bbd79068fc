-- What is judged of an event, and the supplier's state taken over. Assumes nothing.
use Prim.Native.Nat.{ℕ, ◌-◌, ◌<◌, ◌≤◌, min}
use mathlib.Core.Path.{◌≡◌, refl, sym, ◌∙◌}
use mathlib.Core.Bool.{true, false}
use mathlib.Core.List.{List, ◌++◌, append-nil}
use native.Mathlib.Omega.{arith}
use lib.ListN.{length, take, drop, length-drop, drop_of_length-le}
use lib.Seq.{take_all}
use borrow.Author.Tests.{eq-eqb, ne_eqb, le-leb, lt-leb}
use Rattle.rulebook.specs.Step.{refused_state}
use Rattle.rulebook.specs.Hold.{beside}
use Rattle.hold.specs.declared.Verdict.{Verdict}
use Rattle.hold.specs.declared.Verdict.TheVariants.{AsOrdered, Refused, TracesPart, TheirsStops, OursStops, StatesPart}
use Rattle.hold.specs.Promises.{number_of, given_by, TellsVerdict}
use Rattle.telling.specs.declared.Judgement.TheVariants.{AnswersPart, Words}
use Rattle.hold.proofs.Verdicts.{front-least, tail-least}
use Rattle.text.specs.Lines.{decimal_line}
use Rattle.telling.specs.Told.{held_event, states_label, verdict_label, verdict_line, labelled, side}
use Rattle.telling.specs.Promises.{Judges, Adopts}

-- what stands behind the first n
pub all-behind : (n : ℕ) (l : List ℕ) → take (length l - n) (drop n l) ≡ drop n l
all-behind n l = take_all (length l - n) (drop n l) (omega (arith, length-drop n l))

module _ (answer : ℕ) (ws state : List ℕ) (said : ℕ) (theirs : List ℕ) {cut : ℕ} (is : cut ≡ min (length state) (length theirs)) where
  pub cut_inside : cut ≤ length theirs
  cut_inside = omega (arith, is)

  pub answers-differ : (answer ≡ said → ⊥) → Judges answer ws state said theirs (record { judgement = AnswersPart; cut = cut })
  unfolding held_event
  answers-differ n = let other = ne_eqb answer said n in record { verdict = rw other; number = rw other; cut = is }

  pub cut-trace : take (length theirs - cut) (drop cut theirs) ≡ drop (length state) theirs
  cut-trace = all-behind cut theirs ∙ rw is (tail-least theirs (length state))

  pub cut-state : take cut theirs ≡ take (length state) theirs
  cut-state = rw is (front-least theirs (length state))

  pub compared : {v : Verdict} → answer ≡ said → TellsVerdict (beside ws state (take (length theirs - cut) (drop cut theirs)) (take cut theirs)) v
      → Judges answer ws state said theirs (record { judgement = Words v; cut = cut })
  unfolding held_event
  compared e h =
      let same = eq-eqb answer said e in
      let told = rw (cut-trace, cut-state) at h in
      record { verdict = rw same told.verdict; number = rw same told.number; cut = is }

-- the label of a verdict that is none of the traces'
pub states-labelled : (v : Verdict) → ((k : ℕ) → v ≡ TracesPart k → ⊥) → ((k : ℕ) → v ≡ TheirsStops k → ⊥) → ((k : ℕ) → v ≡ OursStops k → ⊥)
    → verdict_label (number_of v) ≡ states_label
unfolding verdict_label
states-labelled AsOrdered f g h = refl
states-labelled (Refused a) f g h = refl
states-labelled (TracesPart k) f g h = absurd (f k refl)
states-labelled (TheirsStops k) f g h = absurd (g k refl)
states-labelled (OursStops k) f g h = absurd (h k refl)
states-labelled (StatesPart k) f g h = refl

-- the line of a verdict of the words
pub words-line : (v : Verdict) → verdict_line (number_of v) (given_by v) ≡ verdict_label (number_of v) ++ decimal_line (given_by v)
unfolding verdict_line
words-line AsOrdered = refl
words-line (Refused a) = refl
words-line (TracesPart k) = refl
words-line (TheirsStops k) = refl
words-line (OursStops k) = refl
words-line (StatesPart k) = refl

-- its sides have no answer
pub words-side : (label : List ℕ) (v : Verdict) (answer : ℕ) (ws : List ℕ) → side label (number_of v) answer ws ≡ labelled label ws
unfolding side
words-side label AsOrdered answer ws = refl
words-side label (Refused a) answer ws = refl
words-side label (TracesPart k) answer ws = refl
words-side label (TheirsStops k) answer ws = refl
words-side label (OursStops k) answer ws = refl
words-side label (StatesPart k) answer ws = refl

-- the supplier's state, where it fits

module _ (t s ws : List ℕ) where
  pub too_short : length ws < length s → Adopts t s ws false s
  too_short h = record { fits = rw (lt-leb (length s) (length ws) h); state = refl }

  module _ (h : length s ≤ length ws) {k : ℕ} (is : k ≡ refused_state t (take (length s) ws)) where
    pub not-fitting : (k ≡ 0 → ⊥) → Adopts t s ws false s
    not-fitting n =
        record { fits = rw (le-leb (length s) (length ws) h, ne_eqb (refused_state t (take (length s) ws)) 0 (λ z. n (is ∙ z))); state = refl }

    pub adopted : {s' : List ℕ} {i : ℕ} → k ≡ 0 → length s ≤ i → i ≤ length s → s' ≡ take i ws ++ drop i s → Adopts t s ws true s'
    adopted {s'} {i} z past in-side e =
        let all : i ≡ length s = omega arith in
        record {
          fits = rw (le-leb (length s) (length ws) h, eq-eqb (refused_state t (take (length s) ws)) 0 (sym is ∙ z));
          state = e ∙ rw (all, drop_of_length-le s {i = length s} (omega arith)) (append-nil (take (length s) ws));
        }
