-- The frame of a run: a run from x is what x has written in front of the run from x's state and unread outcomes alone. Room and visits of
-- each part of a run follow from it. Assumes nothing.
use mathlib.Core.Path.{◌≡◌, refl, sym, ◌∙◌, ap}
use mathlib.Core.Bool.{Bool}
use mathlib.Core.List.{List, [], ◌∷◌, ◌++◌, append-nil, append_assoc}
use Prim.Native.Nat.{ℕ, zero, suc, ◌+◌}
use native.Mathlib.Nat.{zero-add, add-zero, add_assoc}
use lib.Dec.{eqb}
use Rattle.rulebook.specs.Words.{until}
use Rattle.rulebook.specs.Table.{no_list, list_owner, first_item, item_count, item_kind, item_a, item_rule}
use Rattle.rulebook.specs.State.{undefined_result}
use Rattle.rulebook.specs.Lists.{Run, start, become, emit, leave, visit, trace_word, trace_list_start, effect, unread, act, stops, unready, result_in}
use Rattle.rulebook.specs.Lists.{visits_in, choice_in, set_result, judge}
use Rattle.rulebook.specs.Lists.{run_choice, run_rule, run_item, run_items, run_list}
use Rattle.rulebook.specs.Arbitration.{run_if, run_chosen}
use Rattle.laws.proofs.Tests.{split}
use Rattle.laws.proofs.Walks.{until-last, until-next}
use Rattle.laws.proofs.Cases.{item-list, item-rule, item-act, item-cases, rule-unready, rule-ready, choice-none, choice-some, if-chosen, if-not}

-- the run that has only just started where x is
abbrev pub afresh : Run → Run
afresh x = start x.outcomes x.state

-- run y, with what x has written in front
abbrev pub over : Run → Run → Run
over x y = record { state = y.state; words = x.words ++ y.words; outcomes = y.outcomes; visits = x.visits + y.visits }

abbrev pub Framed : (Run → Run) → Type 0
Framed f = (x : Run) → f x ≡ over x (f (afresh x))

pub framed-words : {f : Run → Run} → Framed f → (x : Run) → (f x).words ≡ x.words ++ (f (afresh x)).words
framed-words h x = ap (λ (y : Run). y.words) (h x)

-- nothing done, a word written with the state and the outcomes changed by what they are

pub framed-none : Framed (λ x. x)
framed-none x = rw (append-nil, add-zero)

pub framed-put : (e : List ℕ → List ℕ) (w : List ℕ → ℕ) (u : List ℕ → List ℕ)
    → Framed (λ x. leave (u x.outcomes) (become (e x.state) (emit (w x.state) x)))
framed-put e w u x = rw add-zero

-- a word written and a number of visits made, both by what the state is, which is changed
framed-judged : (e : List ℕ → List ℕ) (w n : List ℕ → ℕ) → Framed (λ x. visit (n x.state) (become (e x.state) (emit (w x.state) x)))
framed-judged e w n x = rw zero-add

-- one after the other

over-over : (x y z : Run) → over (over x y) z ≡ over x (over y z)
over-over x y z = rw (append_assoc, add_assoc)

pub framed_then : (f g : Run → Run) → Framed f → Framed g → Framed (λ x. g (f x))
framed_then f g a b x =
    b (f x)
    ∙ ap (λ (y : Run). over y (g (afresh y))) (a x)
    ∙ over-over x (f (afresh x)) _
    ∙ ap (over x) (sym (b (f (afresh x))))

-- a choice that state and outcomes decide
pub framed-by : (f : Run → Run) → ((x : Run) → (g : Run → Run) × Framed g × (f x ≡ g x) × (f (afresh x) ≡ g (afresh x))) → Framed f
framed-by f c x = let d = c x in d.2 ∙ d.1 x ∙ ap (over x) (sym d.3)

stops-afresh : (t : List ℕ) (i : ℕ) (x : Run) → stops t i (afresh x) ≡ stops t i x
unfolding stops
stops-afresh t i x = refl

pub framed-until : (t : List ℕ) (f : ℕ → Run → Run) (i n : ℕ) → ((j : ℕ) → Framed (f j)) → Framed (until i n (stops t) f)
unfolding until
framed-until t f i zero h = framed-none
framed-until t f i (suc n) h =
    framed-by (until i (suc n) (stops t) f)
    (λ x. split (stops t i x)
    (λ e. (f i, h i, until-last (stops t) f i n x e, until-last (stops t) f i n (afresh x) (stops-afresh t i x ∙ e)))
    (λ e. (
      λ y. until (suc i) n (stops t) f (f i y),
      framed_then (f i) (until (suc i) n (stops t) f) (h i) (framed-until t f (suc i) n h),
      until-next (stops t) f i n x e,
      until-next (stops t) f i n (afresh x) (stops-afresh t i x ∙ e),
    )))

module _ (t : List ℕ) (below : ℕ → Run → Run) (h : (l : ℕ) → Framed (below l)) (o : ℕ) where
  pub act-framed : (i : ℕ) → Framed (act t o i)
  unfolding act
  act-framed i = framed-put (effect t i) (λ s. trace_word (item_kind t i) o (item_a t i) _) (unread t i)

  judge-framed : (r : ℕ) → Framed (judge t o r)
  unfolding judge
  judge-framed r = framed-judged (λ s. set_result t r (result_in t s r) s) (λ s. trace_word item_rule o r (result_in t s r)) (λ s. visits_in t s r)

  pub choice-framed : (l : ℕ) → Framed (run_choice below l)
  choice-framed l =
      framed-by (run_choice below l)
      (λ x. split (eqb l no_list) (λ e. (λ y. y, framed-none, choice-none below l x e, choice-none below l _ e))
      (λ e. (below l, h l, choice-some below l x e, choice-some below l _ e)))

  pub rule-framed : (r : ℕ) → Framed (run_rule below t o r)
  rule-framed r =
      framed-by (run_rule below t o r)
      (λ x. split (unready t x.state r)
      (λ e. (
        emit (trace_word item_rule o r undefined_result),
        framed-put (λ s. s) (λ s. trace_word item_rule o r undefined_result) (λ os. os),
        rule-unready below t o r x e,
        rule-unready below t o r _ e,
      ))
      (λ e. (
        λ y. run_choice below (choice_in t x.state r) (judge t o r y),
        framed_then (judge t o r) (run_choice below (choice_in t x.state r)) (judge-framed r) (choice-framed _),
        rule-ready below t o r x e,
        rule-ready below t o r _ e,
      )))

  pub item-framed : (i : ℕ) → Framed (run_item below t o i)
  item-framed i =
      framed-by (run_item below t o i)
      (λ x. item-cases below t o i
      (λ e g. (below (item_a t i), h (item_a t i), item-list below t o i x g, item-list below t o i _ g))
      (λ e g k. (run_rule below t o (item_a t i), rule-framed (item_a t i), item-rule below t o i x g k, item-rule below t o i _ g k))
      (λ g k. (act t o i, act-framed i, item-act below t o i x g k, item-act below t o i _ g k)))

pub list-framed : (t : List ℕ) (d l : ℕ) → Framed (run_list d t l)
unfolding run_list run_items
list-framed t zero l = framed-none
list-framed t (suc d) l =
    framed_then (emit (trace_word trace_list_start (list_owner t l) l 0))
    (until (first_item t l) (item_count t l) (stops t) (run_item (run_list d t) t (list_owner t l)))
    (framed-put (λ s. s) (λ s. trace_word trace_list_start (list_owner t l) l 0) (λ os. os))
    (framed-until t _ (first_item t l) (item_count t l) (item-framed t (run_list d t) (list-framed t d) (list_owner t l)))

pub if-framed : (t : List ℕ) (c : ℕ → Bool) (l : ℕ) → Framed (run_if t c l)
if-framed t c l =
    framed-by (run_if t c l)
    (λ x. split (c l) (λ e. (run_list _ t l, list-framed t _ l, if-chosen t c l x e, if-chosen t c l _ e))
    (λ e. (λ y. y, framed-none, if-not t c l x e, if-not t c l _ e)))

pub chosen-framed : (t : List ℕ) (c : ℕ → Bool) (ls : List ℕ) → Framed (run_chosen t c ls)
unfolding run_chosen
chosen-framed t c [] = framed-none
chosen-framed t c (l ∷ ls) = framed_then (run_if t c l) (run_chosen t c ls) (if-framed t c l) (chosen-framed t c ls)
