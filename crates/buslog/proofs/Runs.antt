-- Runs of bytes of one kind. Assumes nothing.
use Prim.Native.Nat.{ℕ, zero, suc, ◌+◌, ◌-◌, ◌<◌, ◌≤◌}
use mathlib.Core.Path.{◌≡◌, refl, ap, ◌∙◌}
use mathlib.Core.Bool.{Bool, true, false}
use mathlib.Core.List.{List, [], ◌∷◌}
use native.Mathlib.Omega.{arith}
use native.Mathlib.Numerals.{add-one}
use Rattle.laws.proofs.Tests.{split}
use lib.ListN.{length, get_or, take, drop, length-drop}
use lib.Seq.{drop-cons, drop-nil, take_all, length-take-le}
use Rattle.rulebook.specs.BusLog.{run}
use Rattle.buslog.specs.Inside.{part}

-- nothing is left from the end on
pub none_left : (text : List ℕ) (p : ℕ) → length text ≤ p → drop p text ≡ []
none_left [] p h = drop-nil p
none_left (b ∷ bs) zero h = absurd (omega arith)
none_left (b ∷ bs) (suc p) h = none_left bs p (omega arith)

module _ (has : ℕ → Bool) where
  pub run_more : (b : ℕ) (bs : List ℕ) → has b ≡ true → run has (b ∷ bs) ≡ b ∷ run has bs
  unfolding run
  run_more b bs e = rw (e, run)

  pub run-stops : (b : ℕ) (bs : List ℕ) → has b ≡ false → run has (b ∷ bs) ≡ []
  unfolding run
  run-stops b bs e = rw (e, run)

  pub run_none : run has [] ≡ []
  unfolding run
  run_none = refl

  -- the run is the front of the text
  pub run-front : (xs : List ℕ) → take (length (run has xs)) xs ≡ run has xs
  unfolding run
  run-front [] = refl
  run-front (b ∷ bs) = split (has b) (λ e. rw (e, run) (ap (λ (ys : List ℕ). b ∷ ys) (run-front bs))) (λ e. rw (e, run))

  pub run-within : (xs : List ℕ) → length (run has xs) ≤ length xs
  unfolding run
  run-within [] = omega arith
  run-within (b ∷ bs) = let so = run-within bs in split (has b) (λ e. rw (e, run) (omega arith)) (λ e. rw (e, run) (omega arith))

  module _ (text : List ℕ) where
    pub step-on : (p : ℕ) → p < length text → drop p text ≡ get_or text p 0 ∷ drop (p + 1) text
    step-on p h = rw (add-one, drop-cons text p 0 h)

    -- so far the run goes up to `end`
    pub record RunsTo (at end : ℕ) : Type 0 where
      pub inside : end ≤ length text
      pub same : at + length (run has (drop at text)) ≡ end + length (run has (drop end text))

    pub goes_on : (at end : ℕ) → end < length text → has (get_or text end 0) ≡ true → RunsTo at end → RunsTo at (end + 1)
    goes_on at end h e so =
        let more : length (run has (drop end text)) ≡ suc (length (run has (drop (end + 1) text))) =
        ap (λ (xs : List ℕ). length (run has xs)) (step-on end h) ∙ ap length (run_more (get_or text end 0) (drop (end + 1) text) e) in
        record { inside = omega arith; same = omega (arith, so.same, more) }

    pub stops-here : (at end : ℕ) → end < length text → has (get_or text end 0) ≡ false → RunsTo at end → end ≡ at + length (run has (drop at text))
    stops-here at end h e so =
        let more : length (run has (drop end text)) ≡ 0 =
        ap (λ (xs : List ℕ). length (run has xs)) (step-on end h) ∙ ap length (run-stops (get_or text end 0) (drop (end + 1) text) e) in
        omega (arith, so.same, more)

    pub stops-last : (at end : ℕ) → length text ≤ end → RunsTo at end → end ≡ at + length (run has (drop at text))
    stops-last at end h so =
        let more : length (run has (drop end text)) ≡ 0 = ap (λ (xs : List ℕ). length (run has xs)) (none_left text end h) ∙ ap length run_none in
        omega (arith, so.same, more)

-- the part of a text behind a place
pub all-behind : (text : List ℕ) (at : ℕ) → take (length text - at) (drop at text) ≡ drop at text
all-behind text at = take_all (length text - at) (drop at text) (omega (arith, length-drop at text))

pub length-part : (text : List ℕ) (at end : ℕ) → end < length text → length (part text at end) ≡ end - at
length-part text at end h = length-take-le (end - at) (drop at text) (omega (arith, length-drop at text))
