-- Q-9's one-step laws: what a call reads, what stops a list, what edition 1 sees of either, where answer 8 stands. Assumes nothing.
use Prim.Native.Nat.{ℕ, zero, suc, ◌+◌, ◌≤◌, ◌<◌}
use mathlib.Core.Path.{◌≡◌, refl}
use mathlib.Core.Bool.{Bool, true, false, and-false}
use mathlib.Core.Logic.{◌⊎◌, inl, inr}
use mathlib.Core.List.{List, [], ◌∷◌, ◌++◌}
use native.Mathlib.Omega.{arith}
use borrow.Author.Tests.{eqb-true, eqb-false, ne_eqb, lt-leb}
use lib.ListN.{length, drop}
use lib.Dec.{eqb}
use Rattle.rulebook.specs.Words.{word, field, all, each, until}
use Rattle.rulebook.specs.Table.{edition, list_owner, first_item, item_count, item_word, item_kind, abort, a_size, item_a, item_b, item_call}
use Rattle.rulebook.specs.Reasons.{known_edition, item_fields}
use Rattle.rulebook.specs.Lists.{Run, emit, trace_word, trace_list_start, unread, act, stops, run_item, run_items}
use Rattle.rulebook.specs.Step.{well_formed, good_or_failed, outcomes_known, first_fault, refused_event, heeded, step}

split : {A : Type 0} (b : Bool) → (b ≡ true → A) → (b ≡ false → A) → A
split true f g = f refl
split false f g = g refl

-- "an item's a field becomes abort(1), a(11)"; edition 1 keeps a(12) and has no abort

module _ (t : List ℕ) (i : ℕ) where
  pub second-abort : edition t ≡ 2 → abort t i ≡ field 4 1 (item_word t i)
  unfolding abort
  second-abort e = rw e

  pub second-a : edition t ≡ 2 → item_a t i ≡ field 5 11 (item_word t i)
  unfolding a_size
  second-a e = rw e

  pub first-abort : edition t ≡ 1 → abort t i ≡ 0
  unfolding abort
  first-abort e = rw e

  pub first-a : edition t ≡ 1 → item_a t i ≡ field 4 12 (item_word t i)
  unfolding a_size
  first-a e = rw e

  -- "abort only in outside calls"
  pub abort-elsewhere : abort t i ≡ 1 → (item_kind t i ≡ item_call → ⊥) → item_fields t i ≡ false
  unfolding item_fields
  abort-elsewhere a n = rw (a, ne_eqb (item_kind t i) item_call n, and-false)

-- "an edition other than 1 or 2"
pub editions : (t : List ℕ) → known_edition t ≡ true → (edition t ≡ 1) ⊎ (edition t ≡ 2)
unfolding known_edition
editions t h = split (eqb (edition t) 1) (λ e. inl (eqb-true _ _ e)) (λ e. inr (eqb-true _ _ (rw e at h)))

module _ (t : List ℕ) (i : ℕ) (x : Run) where
  -- a call reads the next outcome, abort or not, and its word stands as ever, without the abort
  pub call-reads : (o : ℕ) → item_kind t i ≡ item_call → (act t o i x).outcomes ≡ drop 1 x.outcomes
  unfolding act unread
  call-reads o k = rw k

  pub call-tells : (o : ℕ) → item_kind t i ≡ item_call → (act t o i x).words ≡ x.words ++ (trace_word item_call o (item_a t i) (item_b t i) ∷ [])
  unfolding act
  call-tells o k = rw k

  -- no other item reads any
  pub others-read-none : (o : ℕ) → (item_kind t i ≡ item_call → ⊥) → (act t o i x).outcomes ≡ x.outcomes
  unfolding act unread
  others-read-none o n = rw (ne_eqb (item_kind t i) item_call n)

  module _ (n : ℕ) (f : ℕ → Run → Run) where
    goes_on : stops t i x ≡ false → until i (suc n) (stops t) f x ≡ until (suc i) n (stops t) f (f i x)
    unfolding until
    goes_on e = rw (e, until)

    -- "A failed call with abort stops the list that holds it, after its trace word": it is done, and nothing behind it
    pub abort-stops : item_kind t i ≡ item_call → abort t i ≡ 1 → word x.outcomes 0 ≡ 1 → until i (suc n) (stops t) f x ≡ f i x
    abort-stops k a h = unfold until in rw (stopped, until)
      where
        stopped : stops t i x ≡ true
        stopped = unfold stops in rw (k, a, h)

    -- a failed call without abort does not
    pub no-abort-goes-on : abort t i ≡ 0 → until i (suc n) (stops t) f x ≡ until (suc i) n (stops t) f (f i x)
    no-abort-goes-on a = goes_on (unfold stops in rw (a, and-false))

    -- nor does one that is good
    pub good-goes-on : word x.outcomes 0 ≡ 0 → until i (suc n) (stops t) f x ≡ until (suc i) n (stops t) f (f i x)
    good-goes-on h = goes_on (unfold stops in rw (h, and-false))

    -- "past their end every call is good"
    pub past-end-good : x.outcomes ≡ [] → until i (suc n) (stops t) f x ≡ until (suc i) n (stops t) f (f i x)
    past-end-good h = good-goes-on (rw h)

    -- "an outer list goes on": neither the item that names a list nor a rule item stops the list that holds it, whatever it did
    pub outer-goes-on : (item_kind t i ≡ item_call → ⊥) → until i (suc n) (stops t) f x ≡ until (suc i) n (stops t) f (f i x)
    outer-goes-on d = goes_on (unfold stops in rw (ne_eqb (item_kind t i) item_call d))

-- "edition 1 tables act as if all calls were good": every item of a list is done, as in document 01, and the step goes by none of the
-- outcomes lent

never-stops : {A : Type 0} (last : ℕ → A → Bool) (f : ℕ → A → A) (i n : ℕ) (a : A) → ((j : ℕ) (x : A) → last j x ≡ false) → until i n last f a ≡ each i n f a
unfolding until each
never-stops last f i zero a h = refl
never-stops last f i (suc n) a h = rw (h i a, until) (never-stops last f (suc i) n (f i a) h)

module _ (t : List ℕ) (e : edition t ≡ 1) where
  pub first-items : (below : ℕ → Run → Run) (l : ℕ) (x : Run)
      → run_items below t l x ≡ each (first_item t l) (item_count t l) (run_item below t (list_owner t l)) (emit (trace_word trace_list_start (list_owner t l) l 0) x)
  unfolding run_items
  first-items below l x = never-stops (stops t) _ (first_item t l) (item_count t l) _ (λ j y. unfold stops in rw (first-abort t j e, and-false))

  pub first-heeds-none : (os : List ℕ) → heeded t os ≡ []
  unfolding heeded
  first-heeds-none os = rw e

  pub first_step : (s : List ℕ) (room : ℕ) (os : List ℕ) (w : ℕ) → outcomes_known os ≡ true → step t s room os w ≡ step t s room [] w
  unfolding step first_fault heeded outcomes_known all
  first_step s room os w h = rw (e, h)

-- "An outcome word above 1 is answer 8, checked after answer 4 over all lent words", and before 5 and 6

unknown-at : (os : List ℕ) (i n j : ℕ) → i ≤ j → j < i + n → good_or_failed os j ≡ false → all i n (good_or_failed os) ≡ false
unfolding all
unknown-at os i zero j a c d = absurd (omega arith)
unknown-at os i (suc n) j a c d =
    split (eqb j i) (λ e. rw (← eqb-true j i e, d))
    (λ e. let ne : (j ≡ i → ⊥) = eqb-false j i e in rw (unknown-at os (suc i) n j (omega arith) (omega arith) d, and-false))

pub above-one : (os : List ℕ) (k : ℕ) → k < length os → 1 < word os k → outcomes_known os ≡ false
unfolding outcomes_known good_or_failed
above-one os k b h = unknown-at os 0 (length os) k (omega arith) (omega arith) (lt-leb (word os k) 1 h)

module _ (t os : List ℕ) (w : ℕ) where
  pub eight-after-four : well_formed w ≡ false → refused_event t os w ≡ 4
  unfolding refused_event
  eight-after-four h = rw h

  pub eight-before-five : well_formed w ≡ true → outcomes_known os ≡ false → refused_event t os w ≡ 8
  unfolding refused_event
  eight-before-five h k = rw (h, k)
