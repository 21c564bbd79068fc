-- One event taken, held against the supplier's recording and told: what is in order behind it, and from which state it goes on. Assumes nothing.
use Rattle.std.proofs.Common.{◌≡◌, ℕ, ◌≤◌, Bool, true, false, cond, not, ◌&&◌, eqb, leb, List, length, take, sym, refl, ap, ◌∙◌, arith, length-take-le, eqb-true, leb-true}
use lib.Seq.{take-append_seam}
use borrow.Author.Tests.{eqb-false}
use Rattle.rulebook.specs.State.{fits}
use Rattle.rulebook.specs.Step.{Result, refused_state}
use Rattle.rulebook.specs.Hold.{as_ordered}
use Rattle.laws.proofs.Tests.{split, and_left, and_right}
use Rattle.laws.proofs.Play.{stood-state}
use Rattle.session.specs.Printed.{taken}
use Rattle.session.specs.Promises.{Ready}
use Rattle.session.proofs.Steps.{next-long, traced-long, next-ready, words-few}
use Rattle.telling.specs.Told.{held_event, event_line, told_lines}
use Rattle.telling.specs.Promises.{Took, result, Room, Tells}
use Rattle.audit.specs.declared.Told.{Told}
use Rattle.audit.specs.Kept.{Going, most_words, told_bytes}
use Rattle.audit.specs.Held.{ordered, fitting, on_from, Followed, HeldOne}

-- a state that is gone on from is as long as ours, and fits as ours does
module _ (t s ws : List ℕ) where
  on-long : length (on_from t s ws) ≡ length s
  on-long =
      split (fitting t s ws)
      (λ h. rw h (length-take-le _ _ (leb-true _ _ (and_left (leb (length s) (length ws)) (eqb (refused_state t (take (length s) ws)) 0) h))))
      (λ h. rw h)

  on_fits : fits t s ≡ true → fits t (on_from t s ws) ≡ true
  on_fits ours =
      split (fitting t s ws)
      (λ h.
      rw h
      (stood-state t (take (length s) ws)
      (eqb-true _ _ (and_right (leb (length s) (length ws)) (eqb (refused_state t (take (length s) ws)) 0) h))))
      (λ h. rw h ours)

-- the same where it may not go on from there
module _ (t s ws : List ℕ) where
  behind-long : (b : Bool) → length (cond b (on_from t s ws) s) ≡ length s
  behind-long true = on-long t s ws
  behind-long false = refl

  behind-fits : (b : Bool) → fits t s ≡ true → fits t (cond b (on_from t s ws) s) ≡ true
  behind-fits true ours = on_fits t s ws ours
  behind-fits false ours = ours

-- Nothing is told exactly of an event that is as ordered.

module _ (n e : ℕ) (r : Result) (said : ℕ) (ws : List ℕ) where
  none_told : length (told_lines n e r said ws) ≡ 0 → eqb (held_event r said ws).verdict as_ordered ≡ true
  unfolding told_lines event_line
  none_told z =
      split (eqb (held_event r said ws).verdict as_ordered) (λ h. h)
      (λ h. let some = rw h at z in absurd (omega arith))

  some-told : (length (told_lines n e r said ws) ≡ 0 → ⊥) → eqb (held_event r said ws).verdict as_ordered ≡ false
  unfolding told_lines
  some-told z = split (eqb (held_event r said ws).verdict as_ordered) (λ h. absurd (z (rw h))) (λ h. h)

held_same : (r : Result) (said : ℕ) (ws : List ℕ) → held_event (result r.answer r.words r.state) said ws ≡ held_event r said ws
unfolding held_event
held_same r said ws = refl

-- Behind our step.
module _ {t s trace : List ℕ} (g : Going t s trace) {e k m : ℕ} {s₁ trace₁ : List ℕ} (took : Took t e s trace k m s₁ trace₁)
  where
    trace-long : length trace₁ ≡ length trace
    trace-long = rw took.words (traced-long t s trace e g.ready)

    state-long : length s₁ ≡ length s
    state-long = rw took.state (next-long t s trace e g.ready)

    pub took-inside : m ≤ length trace₁
    took-inside = let few = words-few t s trace e g.ready in let room = g.ready.enough in omega (arith, trace-long, took.count)

    front : take m trace₁ ≡ (taken t s e).words
    front = rw (took.count, took.words) (take-append_seam (taken t s e).words _)

    took-ready : Ready t s₁ trace₁
    took-ready = rw (took.state, took.words) (next-ready t s trace e g.ready)

    pub took-room : {ws out : List ℕ} → length ws ≤ most_words → told_bytes ≤ length out → Room (take m trace₁) s₁ ws out
    took-room read bytes =
        let few = g.few in
        let small = g.small in
        record {
          few = omega (arith, length-take-le m trace₁ took-inside, took-inside, trace-long);
          small = omega (arith, state-long);
          read = read;
          bytes = bytes;
        }

    -- the verdict is that on our step
    verdict-is : (said : ℕ) (ws : List ℕ) → held_event (result k (take m trace₁) s₁) said ws ≡ held_event (taken t s e) said ws
    verdict-is said ws = rw (took.answer, front, took.state) (held_same (taken t s e) said ws)

    module _ {n said : ℕ} {ws out : List ℕ} {bytes : ℕ} {out₁ : List ℕ} (tells : Tells n e k (take m trace₁) s₁ said ws out bytes out₁) where
      none : bytes ≡ 0 → ordered t s e said ws ≡ true
      none z = rw (verdict-is said ws) at (none_told n e (result k (take m trace₁) s₁) said ws (let p = tells.lines.place in omega arith))

      some : (bytes ≡ 0 → ⊥) → ordered t s e said ws ≡ false
      some z = rw (verdict-is said ws) at (some-told n e (result k (take m trace₁) s₁) said ws (λ q. z (let p = tells.lines.place in omega arith)))

      ordered-is : eqb bytes 0 ≡ ordered t s e said ws
      ordered-is =
          split (eqb bytes 0) (λ z. z ∙ sym (none (eqb-true bytes 0 z))) (λ z. z ∙ sym (some (eqb-false bytes 0 z)))

      -- followed, with so many bytes lent
      module _ {all : Bool} {r : Told} {s₂ : List ℕ} (long : length (take bytes out₁) ≡ bytes) (f : Followed t s₁ ws (take bytes out₁) all r s₂) where
        -- all is in order, whichever state it goes on from
        pub held-going : Going t s₂ trace₁
        held-going =
            let few = g.few in
            let small = g.small in
            record {
              ready = record {
                table = g.ready.table;
                state = rw f.state (behind-fits t s₁ ws (r.parted && all) took-ready.state);
                enough = took-ready.enough;
              };
              small = rw f.state (omega (arith, behind-long t s₁ ws (r.parted && all), state-long));
              few = omega (arith, trace-long);
            }

        from-ours : (p a : Bool) → cond (p && a) (on_from t s₁ ws) s₁ ≡ cond (p && (a && fitting t s ws)) (take (length s) ws) (taken t s e).state
        from-ours true true = rw (state-long, took.state)
        from-ours true false = took.state
        from-ours false a = took.state

        pub held_one : HeldOne t e s said ws all r s₂
        held_one =
            record {
              state = f.state ∙ from-ours r.parted all;
              parts = λ p. some (λ z. f.parts p (long ∙ z));
              told = λ p. f.told p ∙ ap (λ (n : ℕ). not (eqb n 0)) long ∙ ap not ordered-is;
              stops = f.stops;
            }
