-- Each verdict is given exactly when its case holds. Assumes nothing.
use Prim.Native.Nat.{ℕ, zero, suc, ◌<◌, ◌≤◌}
use mathlib.Core.Path.{◌≡◌, refl, sym, ap, subst, ◌∙◌}
use mathlib.Core.Logic.{◌⊎◌, inl, inr}
use mathlib.Core.List.{List, [], ◌∷◌}
use native.Mathlib.Omega.{arith}
use lib.ListN.{length, get_or, take, drop}
use lib.Seq.{take_all}
use lib.Dec.{eqb}
use borrow.Author.Tests.{eqb-true, eqb-false, eq-eqb, ne_eqb, lt-ltb, le-ltb}
use Rattle.rulebook.specs.Step.{Result}
use Rattle.rulebook.specs.Hold.{Held, parting, held_states, held_traces, beside, held_by, told, as_ordered, states_part}
use Rattle.laws.proofs.Tests.{split}
use Rattle.text.proofs.Digits.{below}
use Rattle.hold.specs.Cases.{PartAt, StopsAt, Apart, Case, refuses, traces, theirs-stop, ours-stop, states, yes, Exactly, Yes}

-- what `parting` finds

pub same-front : (a b : List ℕ) → take (parting a b) a ≡ take (parting a b) b
unfolding parting
same-front [] b = refl
same-front (x ∷ a) [] = refl
same-front (x ∷ a) (y ∷ b) = split (eqb x y) (λ e. rw (e, eqb-true x y e, same-front a b)) (λ e. rw e)

pub within-ours : (a b : List ℕ) → parting a b ≤ length a
unfolding parting
within-ours [] b = omega arith
within-ours (x ∷ a) [] = omega arith
within-ours (x ∷ a) (y ∷ b) = split (eqb x y) (λ e. rw e (omega (arith, within-ours a b))) (λ e. rw e (omega arith))

pub within-theirs : (a b : List ℕ) → parting a b ≤ length b
unfolding parting
within-theirs [] b = omega arith
within-theirs (x ∷ a) [] = omega arith
within-theirs (x ∷ a) (y ∷ b) = split (eqb x y) (λ e. rw e (omega (arith, within-theirs a b))) (λ e. rw e (omega arith))

differs : (a b : List ℕ) → parting a b < length a → parting a b < length b → get_or a (parting a b) 0 ≡ get_or b (parting a b) 0 → ⊥
unfolding parting
differs [] b h k e = omega (arith, h)
differs (x ∷ a) [] h k e = omega (arith, k)
differs (x ∷ a) (y ∷ b) h k e =
    split (eqb x y)
    (λ q. differs a b (omega (arith, rw q at h)) (omega (arith, rw q at k)) (rw q at e))
    (λ q. eqb-false x y q (rw q at e))

-- and that it finds it

part-here : (a b : List ℕ) (k : ℕ) → PartAt a b k → parting a b ≡ k
unfolding parting
part-here [] b k p = absurd (omega (arith, p.here))
part-here (x ∷ a) [] k p = absurd (omega (arith, p.there))
part-here (x ∷ a) (y ∷ b) zero p = rw (ne_eqb x y p.differ)
part-here (x ∷ a) (y ∷ b) (suc k) p =
    let head : x ≡ y = ap (λ (l : List ℕ). get_or l 0 0) p.same in
    let rest : PartAt a b k =
    record { same = ap (λ (l : List ℕ). drop 1 l) p.same; here = omega (arith, p.here); there = omega (arith, p.there); differ = p.differ } in
    rw (eq-eqb x y head) (ap suc (part-here a b k rest))

stop-here : (a b : List ℕ) (k : ℕ) → StopsAt a b k → parting a b ≡ k
unfolding parting
stop-here [] b k p = sym p.all
stop-here (x ∷ a) [] k p = absurd (omega (arith, p.more))
stop-here (x ∷ a) (y ∷ b) zero p = absurd (omega (arith, p.all))
stop-here (x ∷ a) (y ∷ b) (suc k) p =
    let head : x ≡ y = sym (ap (λ (l : List ℕ). get_or l 0 0) p.same) in
    let rest : StopsAt a b k = record { all = omega (arith, p.all); same = ap (λ (l : List ℕ). drop 1 l) p.same; more = omega (arith, p.more) } in
    rw (eq-eqb x y head) (ap suc (stop-here a b k rest))

parting-sym : (a b : List ℕ) → parting a b ≡ parting b a
unfolding parting
parting-sym [] [] = refl
parting-sym [] (y ∷ b) = refl
parting-sym (x ∷ a) [] = refl
parting-sym (x ∷ a) (y ∷ b) =
    split (eqb x y)
    (λ e. rw (e, eq-eqb y x (sym (eqb-true x y e)), parting-sym a b))
    (λ e. rw (e, ne_eqb y x (λ q. eqb-false x y e (sym q))))

same-all : (a : List ℕ) → parting a a ≡ length a
unfolding parting
same-all [] = refl
same-all (x ∷ a) = rw (eq-eqb x x refl, same-all a)

-- the same from the other side
module _ (a b : List ℕ) where
  part-found : parting a b < length a → parting a b < length b → PartAt a b (parting a b)
  part-found h k = record { same = same-front a b; here = h; there = k; differ = differs a b h k }

  -- b stops early
  stop-found : parting a b < length a → length b ≤ parting a b → StopsAt b a (parting a b)
  stop-found h k =
      record { all = omega (arith, within-theirs a b); same = same-front a b ∙ take_all (parting a b) b k; more = h }

  -- a does
  stop-found-ours : length a ≤ parting a b → parting a b < length b → StopsAt a b (parting a b)
  stop-found-ours k h =
      record { all = omega (arith, within-ours a b); same = sym (same-front a b) ∙ take_all (parting a b) a k; more = h }

  none_found : length a ≤ parting a b → length b ≤ parting a b → b ≡ a
  none_found h k = sym (take_all (parting a b) b k) ∙ sym (same-front a b) ∙ take_all (parting a b) a h

  apart-here : (k : ℕ) → Apart a b k → (parting a b ≡ k) × ((k < length a) ⊎ (k < length b))
  apart-here k (inl p) = (part-here a b k p, inl p.here)
  apart-here k (inr (inl p)) = (stop-here a b k p, inr p.more)
  apart-here k (inr (inr p)) = (parting-sym a b ∙ stop-here b a k p, inl p.more)

-- the states
module _ (a b : List ℕ) where
  states-told : (k : ℕ) → Apart a b k → held_states (parting a b) a b ≡ told states_part k []
  unfolding held_states
  states-told k p = where-told (apart-here a b k p) where
    where-told : (parting a b ≡ k) × ((k < length a) ⊎ (k < length b)) → held_states (parting a b) a b ≡ told states_part k []
    where-told (e, inl h) = rw (e, lt-ltb k (length a) h)
    where-told (e, inr h) = below k (length a) (λ q. rw (e, lt-ltb k (length a) q)) (λ q. rw (e, le-ltb k (length a) q, lt-ltb k (length b) h))

  states-same : b ≡ a → held_states (parting a b) a b ≡ told as_ordered 0 []
  unfolding held_states
  states-same e = rw (e, same-all a, le-ltb (length a) (length a) (omega arith))

module _ (r : Result) (theirs their_state : List ℕ) where
  abbrev ours : List ℕ
  ours = r.words

  case-told : (v k : ℕ) (p : List ℕ) → Case r theirs their_state v k p → held_by r theirs their_state ≡ told v k p
  unfolding held_by beside held_traces
  case-told v k p (refuses n) = rw (ne_eqb r.answer 0 n)
  case-told v k p (traces z q) =
      rw (eq-eqb r.answer 0 z, part-here ours theirs k q, lt-ltb k (length ours) q.here, lt-ltb k (length theirs) q.there)
  case-told v k p (theirs-stop z q) =
      rw (
        eq-eqb r.answer 0 z,
        parting-sym ours theirs ∙ stop-here theirs ours k q,
        lt-ltb k (length ours) q.more,
        le-ltb k (length theirs) (omega (arith, q.all)),
      )
  case-told v k p (ours-stop z q) =
      rw (eq-eqb r.answer 0 z, stop-here ours theirs k q, le-ltb k (length ours) (omega (arith, q.all)), lt-ltb k (length theirs) q.more)
  case-told v k p (states z e q) =
      rw (eq-eqb r.answer 0 z, e, same-all ours, le-ltb (length ours) (length ours) (omega arith)) (states-told r.state their_state k q)
  case-told v k p (yes z e f) =
      rw (eq-eqb r.answer 0 z, e, same-all ours, le-ltb (length ours) (length ours) (omega arith)) (states-same r.state their_state f)

  abbrev pub CaseOf : Held → Type 0
  CaseOf h = Case r theirs their_state h.verdict h.number h.part

  module _ (z : r.answer ≡ 0) where
    states-found : theirs ≡ ours → CaseOf (held_states (parting r.state their_state) r.state their_state)
    unfolding held_states
    states-found e =
        let s = r.state in
        let k = parting s their_state in
        below k (length s)
        (λ h. below k (length their_state)
        (λ q. rw (lt-ltb k (length s) h) (states z e (inl (part-found s their_state h q))))
        (λ q. rw (lt-ltb k (length s) h) (states z e (inr (inr (stop-found s their_state h q))))))
        (λ h. below k (length their_state)
        (λ q. rw (le-ltb k (length s) h, lt-ltb k (length their_state) q) (states z e (inr (inl (stop-found-ours s their_state h q)))))
        (λ q. rw (le-ltb k (length s) h, le-ltb k (length their_state) q) (yes z e (none_found s their_state h q))))

    beside-found : CaseOf (beside ours r.state theirs their_state)
    unfolding beside held_traces
    beside-found =
        let k = parting ours theirs in
        below k (length ours)
        (λ h. below k (length theirs)
        (λ q. rw (lt-ltb k (length ours) h, lt-ltb k (length theirs) q) (traces z (part-found ours theirs h q)))
        (λ q. rw (lt-ltb k (length ours) h, le-ltb k (length theirs) q) (theirs-stop z (stop-found ours theirs h q))))
        (λ h. below k (length theirs)
        (λ q. rw (le-ltb k (length ours) h, lt-ltb k (length theirs) q) (ours-stop z (stop-found-ours ours theirs h q)))
        (λ q. rw (le-ltb k (length ours) h, le-ltb k (length theirs) q) (states-found (none_found ours theirs h q))))

  pub case-found : CaseOf (held_by r theirs their_state)
  unfolding held_by
  case-found =
      split (eqb r.answer 0)
      (λ e. rw e (beside-found (eqb-true r.answer 0 e)))
      (λ e. rw e (refuses (eqb-false r.answer 0 e)))

  pub exactly : (v k : ℕ) (p : List ℕ) → Exactly r theirs their_state v k p
  exactly v k p = record { told-where = case-told v k p; only-there = λ e. subst (λ (h : Held). CaseOf h) e case-found }

  yes-case : (v k : ℕ) (p : List ℕ) → Case r theirs their_state v k p → v ≡ as_ordered → (r.answer ≡ 0) × (theirs ≡ r.words) × (their_state ≡ r.state)
  yes-case v k p (refuses n) e = absurd (omega (arith, e))
  yes-case v k p (traces z q) e = absurd (omega (arith, e))
  yes-case v k p (theirs-stop z q) e = absurd (omega (arith, e))
  yes-case v k p (ours-stop z q) e = absurd (omega (arith, e))
  yes-case v k p (states z f q) e = absurd (omega (arith, e))
  yes-case v k p (yes z f g) e = (z, f, g)

  pub yes-exactly : Yes r theirs their_state
  yes-exactly = record {
    said-where = λ h. ap (λ (x : Held). x.verdict) (case-told as_ordered 0 [] (yes h.0 h.1 h.2));
    only-where = λ e. yes-case _ _ _ case-found e;
  }
