-- A whole log: nothing is told of it exactly if it is ours, and what calls print, one after the other, is what is told of it. Assumes nothing.
use Prim.Native.Nat.{ℕ, suc}
use mathlib.Core.Path.{◌≡◌, refl, sym, ap, ◌∙◌}
use mathlib.Core.Bool.{Bool, true, false}
use mathlib.Core.List.{List, [], ◌∷◌, ◌++◌, append-nil}
use native.Mathlib.Nat.{zero-add}
use native.Mathlib.Omega.{arith}
use lib.ListN.{length, take, drop}
use lib.Seq.{take-append_seam}
use borrow.Author.Tests.{eq-eqb}
use Rattle.rulebook.specs.Step.{Result}
use Rattle.rulebook.specs.Hold.{as_ordered}
use Rattle.laws.proofs.Tests.{split}
use Rattle.text.specs.Puts.{PutAt}
use Rattle.text.proofs.Lay.{front-laid}
use Rattle.events.specs.Answers as answers
use Rattle.session.specs.Printed.{taken}
use Rattle.telling.specs.Told.{held_event, sides, told_lines}
use Rattle.telling.specs.Promises.{Took, result, Tells}
use Rattle.telling.specs.Log.{Recorded, as_ours, onward, onward_line, log_lines, own_log, OwnLog}
use Rattle.telling.specs.Log.{Holding, ended, missing, same, stopped, parted}
use Rattle.telling.proofs.Exactly.{nothing-told, yes-ours}

-- what `session::take` tells of our step
pub reports-took : (t s : List ℕ) {trace : List ℕ} (e : ℕ) {k n v a m : ℕ} {s' trace' : List ℕ} → answers.Tells (taken t s e) trace k n v s' trace' → a ≡ k
    → m ≡ n → Took t e s trace a m s' trace'
reports-took t s e told number count =
    record { answer = number ∙ told.answer; count = count ∙ told.count; state = told.state; words = told.words }

-- of two lists that are nothing together each is nothing

none_first : (a b : List ℕ) → a ++ b ≡ [] → a ≡ []
none_first [] b e = refl
none_first (x ∷ a) b e = absurd (omega (arith, ap (λ (l : List ℕ). length l) e))

none-second : (a b : List ℕ) → a ++ b ≡ [] → b ≡ []
none-second [] b e = e
none-second (x ∷ a) b e = absurd (omega (arith, ap (λ (l : List ℕ). length l) e))

-- our own recording
abbrev ours : Result → Recorded
ours r = record { answer = r.answer; words = r.state ++ r.words }

own_same : (r : Result) → as_ours r (ours r) ≡ true
own_same r = eq-eqb _ as_ordered (yes-ours r r.answer (r.state ++ r.words) refl refl)

own-accepted : (all : Bool) (i : ℕ) (t s es : List ℕ) → log_lines all i t s es (own_log t s es) ≡ []
unfolding log_lines own_log
own-accepted all i t s [] = refl
own-accepted all i t s (e ∷ es) =
    let r = taken t s e in
    rw (own_same r, (nothing-told r r.answer (r.state ++ r.words) i e).where-ours (refl, refl)) (own-accepted all (suc i) t r.state es)

own_alone : (all : Bool) (i : ℕ) (t s es : List ℕ) (xs : List Recorded) → length xs ≡ length es → log_lines all i t s es xs ≡ [] → xs ≡ own_log t s es
unfolding log_lines own_log
own_alone all i t s [] [] l h = refl
own_alone all i t s [] (x ∷ xs) l h = absurd (omega (arith, l))
own_alone all i t s (e ∷ es) [] l h = absurd (omega (arith, l))
own_alone all i t s (e ∷ es) (x ∷ xs) l h =
    let r = taken t s e in
    let mine = (nothing-told r x.answer x.words i e).only-ours (none_first _ _ h) in
    let yes : as_ours r x ≡ true = eq-eqb _ as_ordered (yes-ours r x.answer x.words mine.0 mine.1) in
    let rest = none-second (told_lines i e r x.answer x.words) _ h in
    let later = own_alone all (suc i) t r.state es xs (omega (arith, l)) (rw yes at rest) in
    let first : x ≡ ours r = rw (mine.0, mine.1) in
    rw (← first, ← later)

pub own-log : (i : ℕ) (t s es : List ℕ) → OwnLog i t s es
own-log i t s es = record { accepted = λ all. own-accepted all i t s es; alone = λ all xs l h. own_alone all i t s es xs l h }

-- What calls print is what is told.

-- what is told goes by the answer, the words and the state alone
told_same : (i e : ℕ) (r : Result) (answer : ℕ) (ws : List ℕ) → told_lines i e (result r.answer r.words r.state) answer ws ≡ told_lines i e r answer ws
unfolding told_lines held_event sides
told_same i e r answer ws = refl

module _ (t s trace : List ℕ) (i e : ℕ) (x : Recorded) {k n : ℕ} {s₁ trace₁ : List ℕ} (took : Took t e s trace k n s₁ trace₁) where
  abbrev r : Result
  r = taken t s e

  abbrev told : List ℕ
  told = told_lines i e r x.answer x.words

  front : take n trace₁ ≡ r.words
  front = rw (took.words, took.count) (take-append_seam r.words (drop (length r.words) trace))

  module _ {bytes : ℕ} {out out₁ : List ℕ} (tells : Tells i e k (take n trace₁) s₁ x.answer x.words out bytes out₁) where
    laid : PutAt told out 0 bytes out₁
    laid = rw (front, took.answer, took.state, told_same i e r x.answer x.words) at tells.lines

    long : bytes ≡ length told
    long = laid.place ∙ zero-add (length told)

    printed : take bytes out₁ ≡ told
    printed = rw (laid.bytes, long) (front-laid out told)

  -- nothing laid is nothing told, and then the recording is ours
  same-told : {out out₁ : List ℕ} → Tells i e k (take n trace₁) s₁ x.answer x.words out 0 out₁ → (told ≡ []) × (as_ours r x ≡ true)
  same-told tells =
      let none = sym (printed tells) in
      let mine = (nothing-told r x.answer x.words i e).only-ours none in
      (none, eq-eqb _ as_ordered (yes-ours r x.answer x.words mine.0 mine.1))

  other-told : {bytes : ℕ} {out out₁ : List ℕ} → Tells i e k (take n trace₁) s₁ x.answer x.words out (suc bytes) out₁ → as_ours r x ≡ false
  unfolding told_lines
  other-told {bytes} tells =
      split (as_ours r x)
      (λ q. let none : told ≡ [] = rw q in absurd (omega (arith, long tells, ap (λ (l : List ℕ). length l) none)))
      (λ q. q)

pub calls-tell : {t : List ℕ} {all : Bool} {i : ℕ} {s es : List ℕ} {xs : List Recorded} {ls : List ℕ} → Holding t all i s es xs ls
    → ls ≡ log_lines all i t s es xs
unfolding log_lines onward onward_line
calls-tell ended = refl
calls-tell missing = refl
calls-tell {t} {all} {i} {s} {es = e ∷ es} {xs = x ∷ xs} (same took tells h) =
    let nothing = same-told t s _ i e x took tells in
    rw (nothing.0, nothing.1, ← took.state) (calls-tell h)
calls-tell {t} {all} {i} {s} {es = e ∷ es} {xs = x ∷ xs} (stopped took tells) =
    rw (other-told t s _ i e x took tells, ← printed t s _ i e x took tells) (sym (append-nil _))
calls-tell {t} {all} {i} {s} {es = e ∷ es} {xs = x ∷ xs} (parted took tells adopts h) =
    rw (other-told t s _ i e x took tells, ← printed t s _ i e x took tells, ← took.state, ← adopts.fits, ← adopts.state, ← calls-tell h)
