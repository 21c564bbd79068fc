-- What the code reads of an item, a list and a rule decides how its run goes. Assumes nothing.
use Prim.Native.Nat.{ℕ, zero, suc, ◌+◌, ◌-◌, ◌≤◌, ◌<◌}
use mathlib.Core.Path.{◌≡◌, refl, sym, ap, ◌∙◌}
use mathlib.Core.Bool.{Bool, true, false, ◌&&◌, and-false}
use mathlib.Core.List.{List, [], ◌∷◌}
use native.Mathlib.Nat.{zero-add}
use native.Mathlib.Omega.{arith}
use Rattle.std.specs.Prelude.{min}
use lib.ListN.{length, drop, set}
use lib.Dec.{eqb}
use borrow.Author.Tests.{eq-eqb, ne_eqb}
use Rattle.rulebook.specs.Words.{word, until}
use Rattle.rulebook.specs.Table.{first_item, item_count, item_kind, item_a}
use Rattle.rulebook.specs.Reasons.{rule_nests, item_nests, list_within}
use Rattle.rulebook.specs.Lists.{Run, start, emit, trace_word, trace_list_start, result_in, visits_in, previous_in, choice}
use Rattle.rulebook.specs.Lists.{choice_in, set_result, effect, unread, act, stops, judge, run_rule, run_item, run_items, run_list}
use Rattle.walks.proofs.Walks.{whole}
use Rattle.laws.proofs.Tests.{clash}
use Rattle.laws.proofs.Nesting.{nests-list, nests-rule, nests-choice, within-item}
use Rattle.laws.proofs.Cases.{item-list, item-rule, item-act}
use Rattle.laws.proofs.Frame.{Framed, framed-until, item-framed, list-framed}
use Rattle.words.specs.declared.sections.Item.{Item}
use Rattle.words.specs.declared.sections.List.{List as ListRead}
use Rattle.words.specs.Sections.{ItemAt, ListAt}
use Rattle.lists.specs.Runs.{Safe, Ran, ReadOn, Stops, one_word}

-- a run of one word, written at the front of the trace
first_word : (T : List ℕ) (w : ℕ) → 1 ≤ length T → set T 0 w ≡ w ∷ drop 1 T
first_word [] w h = absurd (omega arith)
first_word (x ∷ T) w h = refl

pub one-ran : (os : List ℕ) (read visits : ℕ) (x : Run) (s T T' : List ℕ) (w : ℕ) → x.words ≡ w ∷ [] → Safe x T → s ≡ x.state → T' ≡ set T 0 w
    → drop read os ≡ x.outcomes → read ≤ length os → visits ≡ x.visits → Ran os x s T T' (one_word read visits)
one-ran os read visits x s T T' w hw safe hs h_t ho hr hv =
    let l : length x.words ≡ 1 = ap length hw in
    let r : length x.words ≤ length T = safe.room in
    record {
      state = hs;
      words = rw (l, hw) (h_t ∙ first_word T w (omega arith));
      count = sym l;
      outcomes = ho;
      inside = hr;
      visits = hv;
    }

-- item i as read
module _ (t : List ℕ) (i : ℕ) (x : Item) (is : ItemAt t i x) where
  kind-is : x.kind ≡ item_kind t i
  kind-is = is.kind.value

  names-it : x.a ≡ item_a t i
  names-it = is.a.value

  abbrev k : ℕ
  k = x.kind

  -- the word of an item that acts
  pub act-word : (o v : ℕ) (os s : List ℕ) → v ≡ trace_word k o x.a x.b → (act t o i (start os s)).words ≡ v ∷ []
  unfolding act
  act-word o v os s hv = rw (hv, kind-is, names-it, is.b.value)

  -- the outcomes that it leaves
  pub act-outcomes : (o : ℕ) (os : List ℕ) (r : ℕ) (s : List ℕ) → ReadOn k os r → drop r os ≡ (act t o i (start os s)).outcomes
  unfolding act unread
  act-outcomes o os r s h = rw kind-is at h.left

  -- whether it stops its list, by the outcome that is next
  pub stops-by : (os : List ℕ) (b : Bool) → b ≡ (eqb k 0 && eqb x.abort 1 && eqb (word os 0) 1) → Stops t i os b
  unfolding stops
  stops-by os b hb y h = rw (h, ← kind-is, ← is.abort.value) (sym hb)

  module _ (d o : ℕ) (y : Run) where
    pub runs-list : k ≡ 5 → run_item (run_list d t) t o i y ≡ run_list d t x.a y
    runs-list h = rw names-it (item-list (run_list d t) t o i y (eq-eqb _ 5 (sym kind-is ∙ h)))

    pub runs-rule : (k ≡ 5 → ⊥) → k ≡ 6 → run_item (run_list d t) t o i y ≡ run_rule (run_list d t) t o x.a y
    runs-rule n h = rw names-it (item-rule (run_list d t) t o i y (ne_eqb _ 5 (λ e. n (kind-is ∙ e))) (eq-eqb _ 6 (sym kind-is ∙ h)))

    pub runs-act : (k ≡ 5 → ⊥) → (k ≡ 6 → ⊥) → run_item (run_list d t) t o i y ≡ act t o i y
    runs-act n m = item-act (run_list d t) t o i y (ne_eqb _ 5 (λ e. n (kind-is ∙ e))) (ne_eqb _ 6 (λ e. m (kind-is ∙ e)))

  -- what it names nests within the levels that it nests within
  module _ (d : ℕ) (n : item_nests t (list_within d t) i ≡ true) where
    pub list-fits : k ≡ 5 → list_within d t x.a ≡ true
    list-fits h = rw names-it (sym (nests-list t (list_within d t) i (eq-eqb _ 5 (sym kind-is ∙ h))) ∙ n)

    pub rule_fits : (k ≡ 5 → ⊥) → k ≡ 6 → rule_nests t (list_within d t) x.a ≡ true
    rule_fits m h =
        rw names-it (sym (nests-rule t (list_within d t) i (ne_eqb _ 5 (λ e. m (kind-is ∙ e))) (eq-eqb _ 6 (sym kind-is ∙ h))) ∙ n)

-- so the list l that rule r starts
pub choice-fits : (t s : List ℕ) (d r l : ℕ) → l ≡ choice_in t s r → (l ≡ 255 → ⊥) → rule_nests t (list_within d t) r ≡ true → list_within d t l ≡ true
unfolding choice_in
choice-fits t s d r l is some n = rw is (nests-choice t (list_within d t) r _ _ n (ne_eqb _ 255 (λ z. some (is ∙ z))))

-- a rule that is judged: the list that it starts, its word and the state after it
module _ (t s : List ℕ) (o r result : ℕ) (hr : result ≡ result_in t s r) where
  pub judge-chooses : (previous l : ℕ) → previous ≡ previous_in t s r → l ≡ choice t r previous result → l ≡ choice_in t s r
  unfolding choice_in
  judge-chooses previous l hp hl = hl ∙ rw (hp, hr)

  pub judge-word : (v : ℕ) → v ≡ trace_word 6 o r result → (judge t o r (start [] s)).words ≡ v ∷ []
  unfolding judge
  judge-word v hv = rw (hv, hr)

  pub judge-state : (s' : List ℕ) → s' ≡ set_result t r result s → s' ≡ (judge t o r (start [] s)).state
  unfolding judge
  judge-state s' h = h ∙ rw hr

pub judge-visits : (t s : List ℕ) (o r n : ℕ) → n ≡ visits_in t s r → n ≡ (judge t o r (start [] s)).visits
unfolding judge
judge-visits t s o r n h = h ∙ sym (zero-add (visits_in t s r))

pub judge-outcomes : (t s : List ℕ) (o r : ℕ) → [] ≡ (judge t o r (start [] s)).outcomes
unfolding judge
judge-outcomes t s o r = refl

pub act-visits : (t : List ℕ) (o i : ℕ) (os s : List ℕ) → 0 ≡ (act t o i (start os s)).visits
unfolding act
act-visits t o i os s = refl

pub act-state : (t : List ℕ) (o i : ℕ) (os s : List ℕ) → effect t i s ≡ (act t o i (start os s)).state
unfolding act
act-state t o i os s = refl

-- a call reads the next outcome, where there is one
next-read : (os : List ℕ) → drop (min (length os) 1) os ≡ drop 1 os
next-read [] = refl
next-read (x ∷ os) = let e : min (length (x ∷ os)) 1 ≡ 1 = omega arith in rw e

pub reads-next : (os : List ℕ) (k r : ℕ) → k ≡ 0 → r ≡ min (length os) 1 → ReadOn k os r
reads-next os k r e h = record { left = rw (e, h) (next-read os); inside = omega arith }

pub reads_none : (os : List ℕ) (k : ℕ) → (k ≡ 0 → ⊥) → ReadOn k os 0
reads_none os k n = record { left = rw (ne_eqb k 0 n); inside = omega arith }

-- an outcome that does not say failed stops no list, whatever the item is
pub good-next : (t os : List ℕ) (i w : ℕ) → w ≡ word os 0 → (w ≡ 1 → ⊥) → Stops t i os false
unfolding stops
good-next t os i w is n x e = rw (e, ne_eqb (word os 0) 1 (λ z. n (is ∙ z)), and-false)

-- The items from `first` up to `end` of a list of owner o, as the rulebook's `run_items` goes through them; a list that they name has d
-- levels left.
abbrev pub items_from : List ℕ → ℕ → ℕ → ℕ → ℕ → Run → Run
items_from t d o first end x = until first (end - first) (stops t) (run_item (run_list d t) t o) x

-- A list that nests within the levels left has one left, and its items nest within those behind it.
module _ (t : List ℕ) (d l : ℕ) (h : list_within d t l ≡ true) where
  pub level-left : 1 ≤ d
  unfolding list_within
  level-left = go d h
    where
      go : (k : ℕ) → list_within k t l ≡ true → 1 ≤ k
      go zero e = clash e refl
      go (suc n) e = omega arith

  one_more : d ≡ suc (d - 1)
  one_more = let more = level-left in omega arith

  pub item-fits : (i : ℕ) → first_item t l ≤ i → i < first_item t l + item_count t l → item_nests t (list_within (d - 1) t) i ≡ true
  item-fits i = within-item t (d - 1) l i (sym (ap (λ (k : ℕ). list_within k t l) one_more) ∙ h)

  -- list l as read
  pub list-runs : (x : ListRead) (y : Run) → ListAt t l x
      → run_list d t l y ≡ items_from t (d - 1) x.owner x.first_item (x.first_item + x.item_count) (emit (trace_word trace_list_start x.owner l 0) y)
  unfolding run_items run_list
  list-runs x y is =
      ap (λ (k : ℕ). run_list k t l y) one_more ∙ rw (whole, is.owner.value, is.first-item.value, is.item_count.value)

pub items-framed : (t : List ℕ) (d o first end : ℕ) → Framed (items_from t d o first end)
items-framed t d o first end = framed-until t _ first (end - first) (item-framed t (run_list d t) (list-framed t d) o)
