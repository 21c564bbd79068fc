-- Parts one after the other, each from the state that the one before left, make one play of their events. Assumes nothing.
use Rattle.std.proofs.Common.{◌≡◌, ℕ, ◌+◌, ◌≤◌, List, [], ◌++◌, length, take, drop, sym, refl, ap, ◌∙◌, subst, arith, length-drop, take-append-drop, take_all, take-add}
use Rattle.rulebook.specs.Step.{refused_state}
use Rattle.rulebook.specs.Play.{Play, play_on, play}
use Rattle.laws.proofs.Play.{stood-table, stood-state, play-stands, taken-alone}
use Rattle.day.specs.declared.Part.{Part}
use Rattle.day.specs.Printed.{in64, whole}
use Rattle.day.specs.Promises.{room_of, PlaysPart}
use Rattle.day.proofs.Playing.{whole_is, whole-on, whole-none}
use Rattle.day.proofs.Whole.{part-takes, part-stands, part-within}
use Rattle.play.specs.Kept.{Room, Ready, Told, TookSome}

-- The events that a play took, played alone: all are done.

-- play p, as if it had ended with its last event
abbrev done : Play → Play
done p = record { answer = 0; taken = p.taken; state = p.state; words = p.words; visits = p.visits }

whole-alone : (t s es : List ℕ) (room : ℕ) → refused_state t s ≡ 0 → (let p = play t s room es in whole t s (take p.taken es) ≡ done p)
whole-alone t s es room z =
    let first = take (play_on t es s room).taken es in
    let same = taken-alone t (stood-table t s z) es s room (stood-state t s z) in
    let all = play-stands t s z room first ∙ same in
    rw (play-stands t s z room es) (sym (whole_is t s first room (λ f. never (sym (ap (λ (p : Play). p.answer) all) ∙ f))) ∙ all)
  where
    never : ◌≡◌ {A = ℕ} 0 3 → ⊥
    never f = omega arith

-- What is told of a play that is known: one play after another, and no events.

tells : {t s es : List ℕ} {n v k : ℕ} {s' : List ℕ} (p : Play) → whole t s es ≡ p → n ≡ p.taken → v ≡ in64 p.visits → k ≡ p.answer → s' ≡ p.state
    → Told t s es n v k s'
tells p is a d b c =
    record {
      taken = a ∙ ap (λ (q : Play). q.taken) (sym is);
      visits = d ∙ ap (λ (q : Play). in64 q.visits) (sym is);
      number = b ∙ ap (λ (q : Play). q.answer) (sym is);
      state = c ∙ ap (λ (q : Play). q.state) (sym is);
    }

-- what was told of two parts, added and told again, is told of both
added : (a b : ℕ) → in64 (in64 a + in64 b) ≡ in64 (a + b)
added a b = omega arith

pub told-on : {t s s₁ xs ys : List ℕ} {a v b w k : ℕ} {s₂ : List ℕ} → Told t s xs a v 0 s₁ → Told t s₁ ys b w k s₂
    → Told t s (xs ++ ys) (a + b) (in64 (v + w)) k s₂
told-on {t} {s} {s₁} {xs} {ys} {a} {v} {b} {w} {k} {s₂} first next =
    let then = subst (λ (u : List ℕ). Told t u ys b w k s₂) first.state next in
    tells _ (whole-on t s xs ys (sym first.number))
    (ap (λ (m : ℕ). m + b) first.taken ∙ ap (λ (m : ℕ). (whole t s xs).taken + m) then.taken)
    (rw (first.visits, then.visits) (added (whole t s xs).visits _))
    then.number
    then.state

pub told_none : (t s : List ℕ) → refused_state t s ≡ 0 → Told t s [] 0 0 0 s
told_none t s z = tells _ (whole-none t s z) refl refl refl refl

-- visits that are said in another way
pub told-as : {t s es : List ℕ} {n v w k : ℕ} {s' : List ℕ} → w ≡ v → Told t s es n v k s' → Told t s es n w k s'
told-as is told = record { taken = told.taken; visits = is ∙ told.visits; number = told.number; state = told.state }

-- all of the events are some first ones of them
pub all-some : {t s es : List ℕ} {n v k : ℕ} {s' : List ℕ} → Told t s es n v k s' → TookSome t s es n v k s'
all-some {es = es} told = record { count = length es; told = rw (take_all (length es) es (omega arith)) told }

-- A part: it leaves the state of the events that it took; one that is not full has played them all.

module _ (t s trace es out : List ℕ) {r : Part} {s₁ w₁ o₁ : List ℕ} (part : PlaysPart t s trace es out r s₁ w₁ o₁) where
  part-took : refused_state t s ≡ 0 → Told t s (take r.taken es) r.taken r.visits 0 s₁
  part-took z = rw part.taken (tells _ (whole-alone t s es (room_of trace out) z) refl part.visits refl part.state)

  part-whole : (r.number ≡ 3 → ⊥) → Told t s es r.taken r.visits r.number s₁
  part-whole other =
      tells _ (sym (whole_is t s es (room_of trace out) (λ f. other (part.number ∙ f)))) part.taken part.visits part.number part.state

-- Parts one after the other: n of the events es are taken, and all of them done; the next part is lent those that are left.
module _ (t s₀ es : List ℕ) (n v : ℕ) {s trace left out : List ℕ} {r : Part} {s₁ w₁ o₁ : List ℕ} (are : left ≡ drop n es)
    (so_far : Told t s₀ (take n es) n v 0 s) (part : PlaysPart t s trace left out r s₁ w₁ o₁) where
  pub parts-took : refused_state t s ≡ 0 → Told t s₀ (take (n + r.taken) es) (n + r.taken) (in64 (v + r.visits)) 0 s₁
  parts-took z = rw (take-add n r.taken es, ← are) (told-on so_far (part-took t s trace left out part z))

  pub parts_whole : (r.number ≡ 3 → ⊥) → Told t s₀ es (n + r.taken) (in64 (v + r.visits)) r.number s₁
  parts_whole other = rw (are, take-append-drop n es) at (told-on so_far (part-whole t s trace left out part other))

  pub parts_within : n ≤ length es → n + r.taken ≤ length es
  parts_within h = let w = rw (are, length-drop) at (part-within t s trace left out part) in omega arith

-- What a part leaves is ready for the next.

pub room-again : {t trace out trace₁ out₁ : List ℕ} → Room t trace out → length trace₁ ≡ length trace → length out₁ ≡ length out → Room t trace₁ out₁
room-again room long wide = record { words = let w = room.words in omega arith; lines = let l = room.lines in omega arith }

module _ {t s trace : List ℕ} (es : List ℕ) {out : List ℕ} {r : Part} {s₁ w₁ o₁ : List ℕ} (ready : Ready t s trace out)
    (part : PlaysPart t s trace es out r s₁ w₁ o₁) where
  pub ready-again : length w₁ ≡ length trace → length o₁ ≡ length out → Ready t s₁ w₁ o₁
  ready-again long wide = record { stands = part-stands t s trace es out part ready.stands; room = room-again ready.room long wide }

  pub full-took : r.number ≡ 3 → 1 ≤ r.taken
  full-took = part-takes t s trace es out part ready.stands ready.room.words ready.room.lines
