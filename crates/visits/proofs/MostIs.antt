-- The largest counts are the largest: no event has more, the one named has so many, and every earlier one has fewer. They are within
-- the bounds that are printed beside them. Assumes nothing.
use Prim.Native.Nat.{ℕ, suc, ◌+◌, ◌<◌, ◌≤◌}
use mathlib.Core.Path.{◌≡◌, refl, sym, subst, ap, ◌∙◌}
use mathlib.Core.Bool.{true}
use mathlib.Core.List.{List, [], ◌∷◌, ◌++◌, map, append_assoc, append-nil}
use native.Mathlib.Omega.{arith}
use lib.ListN.{length, get_or, length-append, get_or-append}
use lib.Seq.{get_or-append_seam}
use lib.Dec.{ltb}
use borrow.Author.Tests.{ltb-true, ltb-false}
use Rattle.rulebook.specs.Reasons.{accepted, bound}
use Rattle.rulebook.specs.Step.{Result}
use Rattle.laws.proofs.Tests.{split}
use Rattle.laws.proofs.Steps.{words-within}
use Rattle.laws.proofs.Visits.{step-within}
use Rattle.session.specs.Printed.{taken}
use Rattle.text.proofs.Digits.{below}
use Rattle.visits.specs.declared.Largest.{Largest}
use Rattle.visits.specs.declared.Most.{Most}
use Rattle.visits.specs.Printed.{results, trace_count, visit_count, nothing, larger, counted, most_after, visits_bound}
use Rattle.visits.specs.Largest.{FirstLargest, IsMost}

none-largest : FirstLargest [] (record { count = 0; event = 0 })
none-largest =
    record {
      most = λ i h. absurd (omega arith);
      inside = λ h. absurd (omega arith);
      has = λ h. refl;
      first = λ i h. absurd (omega arith);
      none = λ h. (refl, refl);
    }

-- One count more.
module _ (xs : List ℕ) (n : ℕ) where
  abbrev more : List ℕ
  more = xs ++ n ∷ []

  longer : length more ≡ length xs + 1
  longer = length-append xs (n ∷ [])

  earlier : (i : ℕ) → i < length xs → get_or more i 0 ≡ get_or xs i 0
  earlier i h = get_or-append xs (n ∷ []) 0 i h

  last : get_or more (length xs) 0 ≡ n
  last = get_or-append_seam xs n [] 0

  each : (m : ℕ) → ((i : ℕ) → i < length xs → get_or xs i 0 ≤ m) → n ≤ m → (i : ℕ) → i < length more → get_or more i 0 ≤ m
  each m h l i b =
      below i (length xs) (λ k. rw (earlier i k) (h i k)) (λ k. let e : i ≡ length xs = (let z = longer in omega arith) in rw (e, last) l)

  -- it is above all before it
  above : (l : Largest) → FirstLargest xs l → l.count < n → FirstLargest more (record { count = n; event = length xs })
  above l p h =
      record {
        most = each n (λ i b. let q = p.most i b in omega arith) (omega arith);
        inside = λ z. omega (arith, longer);
        has = λ z. last;
        first = λ i b. rw (earlier i b) (let q = p.most i b in omega arith);
        none = λ z. absurd (omega (arith, longer));
      }

  -- it is not, and so the first of them is named as before
  not-above : (l : Largest) → FirstLargest xs l → n ≤ l.count → FirstLargest more l
  not-above l p h =
      record {
        most = each l.count p.most h;
        inside = λ z. below 0 (length xs) (λ some. let q = p.inside some in omega (arith, longer)) (λ none. let q = (empty none).1 in omega (arith, longer));
        has = λ z. below 0 (length xs) (λ some. earlier l.event (p.inside some) ∙ p.has some) alone;
        first =
            λ i b.
            below 0 (length xs)
            (λ some. rw (earlier i (let q = p.inside some in omega arith)) (p.first i b))
            (λ none. let q = (empty none).1 in absurd (omega arith));
        none = λ z. absurd (omega (arith, longer));
      }
    where
      empty : length xs ≤ 0 → (l.count ≡ 0) × (l.event ≡ 0)
      empty none = p.none (omega arith)

      alone : length xs ≤ 0 → get_or more l.event 0 ≡ l.count
      alone none =
          let here : l.event ≡ length xs = (let q = (empty none).1 in omega arith) in
          let zero : n ≡ l.count = (let q = (empty none).0 in omega arith) in
          rw (here, last) zero

  pub one_more : (l : Largest) → FirstLargest xs l → FirstLargest more (larger l (length xs) n)
  unfolding larger
  one_more l p =
      split (ltb l.count n)
      (λ h. rw h (above l p (ltb-true l.count n h)))
      (λ h. rw h (not-above l p (ltb-false l.count n h)))

-- All counts of events.

map_more : (f : Result → ℕ) (rs : List Result) (r : Result) → map f (rs ++ r ∷ []) ≡ map f rs ++ f r ∷ []
map_more f [] r = refl
map_more f (q ∷ rs) r = ap (λ (l : List ℕ). f q ∷ l) (map_more f rs r)

map-long : (f : Result → ℕ) (rs : List Result) → length (map f rs) ≡ length rs
map-long f [] = refl
map-long f (q ∷ rs) = ap suc (map-long f rs)

counted_is : (rs : List Result) (m : Most) (r : Result) → IsMost rs m → IsMost (rs ++ r ∷ []) (counted m (trace_count r) (visit_count r))
unfolding counted
counted_is rs m r p =
    record {
      events = rw p.events (sym (length-append rs (r ∷ [])));
      trace = rw (map_more trace_count rs r, p.events, ← map-long trace_count rs) (one_more (map trace_count rs) (trace_count r) m.trace p.trace);
      visits = rw (map_more visit_count rs r, p.events, ← map-long visit_count rs) (one_more (map visit_count rs) (visit_count r) m.visits p.visits);
    }

after_is : (rs qs : List Result) (m : Most) → IsMost qs m → IsMost (qs ++ rs) (most_after m rs)
unfolding most_after
after_is [] qs m p = rw append-nil p
after_is (r ∷ rs) qs m p =
    rw append_assoc at (after_is rs (qs ++ r ∷ []) (counted m (trace_count r) (visit_count r)) (counted_is qs m r p))

-- the counts that `cost` prints at its end
pub most-is : (rs : List Result) → IsMost rs (most_after nothing rs)
most-is rs = after_is rs [] nothing (record { events = refl; trace = none-largest; visits = none-largest })

-- They are within what is printed beside them.

larger-within : (l : Largest) (i n most : ℕ) → l.count ≤ most → n ≤ most → (larger l i n).count ≤ most
unfolding larger
larger-within l i n most p q = split (ltb l.count n) (λ h. rw h q) (λ h. rw h p)

within-after : (t : List ℕ) → accepted t ≡ true → (es s : List ℕ) (m : Most) → m.trace.count ≤ bound t → m.visits.count ≤ visits_bound t
    → ((most_after m (results t s es)).trace.count ≤ bound t) × ((most_after m (results t s es)).visits.count ≤ visits_bound t)
unfolding results most_after counted
within-after t ok [] s m p q = (p, q)
within-after t ok (e ∷ es) s m p q =
    within-after t ok es (taken t s e).state (counted m (trace_count (taken t s e)) (visit_count (taken t s e)))
    (larger-within m.trace m.events _ (bound t) p (words-within t s (bound t) [] e ok))
    (larger-within m.visits m.events _ (visits_bound t) q (step-within t s (bound t) [] e))

pub most-within : (t s es : List ℕ) → accepted t ≡ true
    → ((most_after nothing (results t s es)).trace.count ≤ bound t) × ((most_after nothing (results t s es)).visits.count ≤ visits_bound t)
most-within t s es ok = within-after t ok es s nothing (omega arith) (omega arith)
