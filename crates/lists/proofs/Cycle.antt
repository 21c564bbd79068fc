-- The cycle of lists, items and rules along a lent trace and lent outcomes: what each call asks of the next, and what it has when that is back.
-- Assumes nothing.
use Prim.Native.Nat.{ℕ, ◌+◌, ◌-◌, ◌<◌, ◌≤◌}
use mathlib.Core.Path.{◌≡◌, refl, sym, ap, ◌∙◌}
use mathlib.Core.Bool.{Bool, true, false}
use mathlib.Core.List.{List, [], ◌++◌}
use lib.ListN.{length, drop, set}
use lib.Seq.{drop-drop}
use native.Mathlib.Numerals.{one-add}
use native.Mathlib.Omega.{arith}
use borrow.Author.Tests.{eq-eqb, ne_eqb}
use borrow.Rule.Slice.PartMut.{mid_of, put_mid}
use Rattle.words.specs.declared.sections.List.{List as ListRead}
use Rattle.words.specs.Sections.{ListAt}
use Rattle.rulebook.specs.Reasons.{list_within}
use Rattle.rulebook.specs.Lists.{Run, start, emit, trace_word, trace_list_start, stops, unready, choice_in, judge, run_choice, run_rule, run_item, run_list}
use Rattle.walks.proofs.Walks.{until-here, until-turn, until_end}
use Rattle.laws.proofs.Tests.{split}
use Rattle.laws.proofs.Cases.{rule-unready, rule-ready, choice-none, choice-some}
use Rattle.laws.proofs.Frame.{Framed, afresh, framed-words, framed-none, choice-framed, item-framed, list-framed}
use Rattle.lists.specs.declared.Written.{Written}
use Rattle.lists.specs.Runs.{Safe, Ran, Addable, Stops, one_word, plus, read_behind}
use Rattle.lists.proofs.Along.{unread, unread-is, joined, sofar, Along, begin-safe, along-as, along-end, along-ran, along-addable, along-readable, next-safe, next}
use Rattle.lists.proofs.Items.{items_from, one-ran, list-runs, items-framed}

-- a run that is said in another way
pub safe-as : (x y : Run) (T : List ℕ) → x ≡ y → Safe x T → Safe y T
safe-as x y T e safe = rw e at safe

pub ran-as : (os : List ℕ) (x y : Run) (s T T' : List ℕ) (w : Written) → x ≡ y → Ran os y s T T' w → Ran os x s T T' w
ran-as os x y s T T' w e ran = rw e ran

-- the part of a trace behind what w counts, and the trace with that part anew
abbrev pub behind : Written → List ℕ → List ℕ
behind w T = mid_of w.count (length T - w.count) T

abbrev pub anew : Written → List ℕ → List ℕ → List ℕ
anew w T part = put_mid w.count (length T - w.count) T part

-- f is all that is left to run, behind what w counts
module _ (os : List ℕ) (whole : Run) (f : Run → Run) (framed : Framed f) (before s T : List ℕ) (w : Written) (a : Along os whole f before s T w)
    (safe : Safe whole before) where
  pub last-safe : Safe (f (start (drop w.read os) s)) (behind w T)
  last-safe = next-safe os whole f (λ x. x) framed framed-none before s T w a safe

  module _ (s' part : List ℕ) (v : Written) (r : Ran (drop w.read os) (f (start (drop w.read os) s)) s' (behind w T) part v) where
    pub last-along : Along os whole (λ x. x) before s' (anew w T part) (joined w v)
    last-along = next os whole f (λ x. x) framed framed-none before s T w a safe s' part v r

    pub last-ran : Ran os whole s' before (anew w T part) (joined w v)
    last-ran = along-end os whole (λ x. x) before s' _ (joined w v) (λ x. refl) last-along

    -- behind one that has read nothing
    pub last-ran-first : w.read ≡ 0 → Ran os whole s' before (anew w T part) (plus w v)
    last-ran-first none =
        let r = last-ran in
        let same : w.read + v.read ≡ v.read = omega (arith, none) in
        record {
          state = r.state;
          words = r.words;
          count = r.count;
          outcomes = ap (λ (n : ℕ). drop n os) (sym same) ∙ r.outcomes;
          inside = omega (arith, r.inside, same);
          visits = r.visits;
        }

    pub last-addable : length before < 18446744073709551616 → Addable w v
    last-addable h =
        let both = along-addable os whole (λ x. x) framed-none before s' (anew w T part) w v last-along safe h in
        record { count = both.count; visits = both.visits }

-- A run that has written w into the trace T lent to it, which is T' by then, and goes on in a loop that knows T' alone. What the loop has
-- run of T' is run of T.
pub record Begun (os : List ℕ) (whole : Run) (rest : Run → Run) (T s T' : List ℕ) (w : Written) : Type 0 where
  pub along : Along os whole rest T' s T' w
  pub safe : Safe whole T'
  pub lent : (s' T'' : List ℕ) (v : Written) → Ran os whole s' T' T'' v → Ran os whole s' T T'' v

-- so a list as read, whose first word v is written
module _ (t os : List ℕ) (d l v : ℕ) (x : ListRead) (s T T' : List ℕ) (h : list_within d t l ≡ true) (is : ListAt t l x)
    (hv : v ≡ trace_word trace_list_start x.owner l 0) (h_t : T' ≡ set T 0 v) (safe : Safe (run_list d t l (start os s)) T) where
  abbrev items : Run → Run
  items = items_from t (d - 1) x.owner x.first_item (x.first_item + x.item_count)

  abbrev first : Run
  first = emit (trace_word trace_list_start x.owner l 0) (start os s)

  run : run_list d t l (start os s) ≡ items first
  run = list-runs t d l h x (start os s) is

  framed : Framed items
  framed = items-framed t (d - 1) x.owner x.first_item (x.first_item + x.item_count)

  on-lent : Along os (run_list d t l (start os s)) items T s T' (one_word 0 0)
  on-lent =
      along-ran os _ _ framed first run T s T' (one_word 0 0) safe
      (one-ran os 0 0 first s T T' v (rw hv) (begin-safe _ _ framed first run T safe) refl h_t refl (omega arith) refl)

  -- behind all its words, so behind the first one, the two traces are the same
  behind-words : let n = length (run_list d t l (start os s)).words in drop n T' ≡ drop n T
  behind-words =
      let more = length (items (afresh first)).words in
      rw (ap length (ap (λ (y : Run). y.words) run ∙ framed-words framed first) ∙ sym (one-add more))
      (sym (drop-drop more 1 T') ∙ ap (drop more) on-lent.kept ∙ drop-drop more 1 T)

  pub list-begun : Begun os (run_list d t l (start os s)) items T s T' (one_word 0 0)
  list-begun =
      record {
        along = record { run = on-lent.run; kept = refl; inside = on-lent.inside; read = on-lent.read; long = refl };
        safe = record { room = rw on-lent.long safe.room; few = safe.few };
        lent = λ s' T'' w r. record {
          state = r.state;
          words = r.words ∙ ap (λ (rest : List ℕ). (run_list d t l (start os s)).words ++ rest) behind-words;
          count = r.count;
          outcomes = r.outcomes;
          inside = r.inside;
          visits = r.visits;
        };
      }

-- the items from i on: the one that stops the list, one that does not, and the end
module _ (t os : List ℕ) (d o i end : ℕ) (whole : Run) (before s T : List ℕ) (w : Written) (a : Along os whole (items_from t d o i end) before s T w) where
  abbrev item : Run → Run
  item = run_item (run_list d t) t o i

  abbrev here : Run
  here = sofar os s T w

  item-frame : Framed item
  item-frame = item-framed t (run_list d t) (list-framed t d) o i

  items-last : i < end → stops t i here ≡ true → Along os whole item before s T w
  items-last h e = along-as os whole (items_from t d o i end) item before s T w (until-here i end (stops t) (run_item (run_list d t) t o) here h e) a

  items-turn : i < end → stops t i here ≡ false → Along os whole (λ x. items_from t d o (i + 1) end (item x)) before s T w
  items-turn h e = along-as os whole (items_from t d o i end) _ before s T w (until-turn i end (stops t) (run_item (run_list d t) t o) here h e) a

  pub items-end : end ≤ i → Ran os whole s before T w
  items-end h = along-end os whole (items_from t d o i end) before s T w (λ x. until_end i end (stops t) (run_item (run_list d t) t o) x h) a

  module _ (inside : i < end) (safe : Safe whole before) where
    pub item-safe : Safe (item (start (unread os w.read) s)) (behind w T)
    item-safe =
        rw (unread-is os w.read)
        (split (stops t i here) (λ e. last-safe os whole item item-frame before s T w (items-last inside e) safe)
        (λ e. next-safe os whole item (items_from t d o (i + 1) end) item-frame (items-framed t d o (i + 1) end) before s T w (items-turn inside e) safe))

    module _ (b : Bool) (st : Stops t i (unread os w.read) b) (s' part : List ℕ) (v : Written)
        (r : Ran (unread os w.read) (item (start (unread os w.read) s)) s' (behind w T) part v) where
      left : Ran (drop w.read os) (item (start (drop w.read os) s)) s' (behind w T) part v
      left = rw (unread-is os w.read) at r

      decides : stops t i here ≡ b
      decides = st here (sym (unread-is os w.read))

      pub item-last : b ≡ true → Along os whole (λ x. x) before s' (anew w T part) (joined w v)
      item-last e = last-along os whole item item-frame before s T w (items-last inside (decides ∙ e)) safe s' part v left

      pub item-next : b ≡ false → Along os whole (items_from t d o (i + 1) end) before s' (anew w T part) (joined w v)
      item-next e =
          next os whole item (items_from t d o (i + 1) end) item-frame (items-framed t d o (i + 1) end) before s T w (items-turn inside (decides ∙ e))
          safe s' part v left

      pub item-addable : length before < 18446744073709551616 → Addable w (read_behind w.read v)
      item-addable h =
          split b (λ e. along-addable os whole (λ x. x) framed-none before s' (anew w T part) w v (item-last e) safe h)
          (λ e. along-addable os whole (items_from t d o (i + 1) end) (items-framed t d o (i + 1) end) before s' (anew w T part) w v (item-next e) safe h)

      pub item-readable : length os < 18446744073709551616 → w.read + v.read < 18446744073709551616
      item-readable g =
          split b (λ e. along-readable os whole (λ x. x) before s' (anew w T part) w v (item-last e) g)
          (λ e. along-readable os whole (items_from t d o (i + 1) end) before s' (anew w T part) w v (item-next e) g)

-- a rule item
module _ (t os : List ℕ) (d o r : ℕ) (s T : List ℕ) (safe : Safe (run_rule (run_list d t) t o r (start os s)) T) where
  pub rule-undefined : unready t s r ≡ true → (v : ℕ) (T' : List ℕ) → v ≡ trace_word 6 o r 2 → T' ≡ set T 0 v
      → Ran os (run_rule (run_list d t) t o r (start os s)) s T T' (one_word 0 0)
  rule-undefined u v T' hv h_t =
      let run = rule-unready (run_list d t) t o r (start os s) u in
      ran-as os _ _ s T T' (one_word 0 0) run
      (one-ran os 0 0 (emit (trace_word 6 o r 2) (start os s)) s T T' v (rw hv) (safe-as _ _ T run safe) refl h_t refl (omega arith) refl)

  module _ (u : unready t s r ≡ false) where
    judged : run_rule (run_list d t) t o r (start os s) ≡ run_choice (run_list d t) (choice_in t s r) (judge t o r (start os s))
    judged = rule-ready (run_list d t) t o r (start os s) u

    -- it reads no outcome, so `judge` is called with none
    pub judge-safe : Safe (judge t o r (start [] s)) T
    unfolding judge
    judge-safe =
        let y = begin-safe _ _ (choice-framed t (run_list d t) (list-framed t d) o (choice_in t s r)) (judge t o r (start os s)) judged T safe in
        record { room = y.room; few = y.few }

    module _ (l n : ℕ) (hl : l ≡ choice_in t s r) (s' T' : List ℕ) (none : Ran [] (judge t o r (start [] s)) s' T T' (one_word 0 n)) where
      j : Ran os (judge t o r (start os s)) s' T T' (one_word 0 n)
      unfolding judge
      j = record { state = none.state; words = none.words; count = none.count; outcomes = refl; inside = omega arith; visits = none.visits }

      pub rule-done : l ≡ 255 → Ran os (run_rule (run_list d t) t o r (start os s)) s' T T' (one_word 0 n)
      rule-done e = ran-as os _ _ s' T T' (one_word 0 n) (judged ∙ choice-none (run_list d t) (choice_in t s r) _ (eq-eqb _ 255 (sym hl ∙ e))) j

      pub rule-begun : (l ≡ 255 → ⊥) → Along os (run_rule (run_list d t) t o r (start os s)) (run_list d t l) T s' T' (one_word 0 n)
      rule-begun some =
          along-ran os _ (run_list d t l) (list-framed t d l) (judge t o r (start os s))
          (judged ∙ choice-some (run_list d t) (choice_in t s r) _ (ne_eqb _ 255 (λ e. some (hl ∙ e))) ∙ rw hl) T s' T' (one_word 0 n) safe j
