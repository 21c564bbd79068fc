-- The lists that an arbitration runs are the chosen ones, each once and in order; and what each event arbitrates. Assumes nothing.
use mathlib.Core.Path.{◌≡◌, refl, sym, ◌∙◌, ap}
use mathlib.Core.Bool.{Bool, true, false, cond, ◌&&◌, ◌||◌, not, or-true}
use mathlib.Core.Logic.{◌⊎◌, inl, inr, ⊎_elim}
use mathlib.Core.List.Memᴰ
use mathlib.Core.List.{List, [], ◌∷◌, ◌++◌, append-nil, append_assoc, Memᴰ}
use Prim.Native.Nat.{ℕ, ◌+◌, ◌-◌, ◌≤◌, ◌<◌}
use native.Mathlib.Omega.{arith}
use native.Mathlib.Nat.{zero-add}
use lib.Dec.{ltb, eqb}
use borrow.Author.Tests.{ltb-true, ltb-false, eqb-true, eqb-false, eq-eqb, ne_eqb, not-true}
use Rattle.rulebook.specs.Words.{until}
use Rattle.rulebook.specs.Table.{rules, lists, deferred, nested_only, rule_expression, list_owner, first_item, item_count, triggered, no_list}
use Rattle.rulebook.specs.Expressions.{deepest, mentions}
use Rattle.rulebook.specs.Lists.{Run, start, emit, visit, result_in, previous_in, list_for, choice, choice_in, stops, run_item, run_items, run_list}
use Rattle.rulebook.specs.Arbitration.{unmark_ports, store_results, rule_visits, evaluated, chooses, chosen, order, run_chosen, decide, arbitrate}
use Rattle.rulebook.specs.Events.{event_kind, event_index, event_value, event_tick, event_mode, event_request, event_wakeup, request, arbitrate_marked, tick, happen}
use Rattle.laws.specs.Facts.{Facts}
use Rattle.laws.specs.Sequence.{Before, Each, InOrder, times}
use Rattle.laws.specs.Chosen.{Chosen, run_all, start_word, WrittenBy, by_none, by_first, before_lists, ListsRan}
use Rattle.laws.specs.Chosen.{sets_port, value_set, Arbitrated, all_marked, one_port, no_port}
use Rattle.laws.proofs.Tests.{split, clash, and_left, and_right, or_some}
use Rattle.laws.proofs.Walks.{any_at, any_some}
use Rattle.laws.proofs.Fields.{digit-small}
use Rattle.laws.proofs.Cases.{if-chosen, if-not}
use Rattle.laws.proofs.Order.{order-there, once, in_order}
use Rattle.laws.proofs.Frame.{afresh, over, framed-words, framed-until, item-framed, list-framed, chosen-framed}
use Rattle.laws.proofs.Happen.{happen-cases}

-- Those members of a list that c holds of, in its order.

unfoldable kept : (ℕ → Bool) → List ℕ → List ℕ
kept c [] = []
kept c (l ∷ ls) = elim (c l) [ true ↦ l ∷ kept c ls | false ↦ kept c ls ]

each-kept : (P Q : ℕ → Type 0) (c : ℕ → Bool) → ((l : ℕ) → P l → c l ≡ true → Q l) → (ls : List ℕ) → Each P ls → Each Q (kept c ls)
unfolding kept
each-kept P Q c f [] a = tt
each-kept P Q c f (l ∷ ls) a =
    split (c l) (λ e. rw (e, kept) (f l a.0 e, each-kept P Q c f ls a.1)) (λ e. rw (e, kept) (each-kept P Q c f ls a.1))

kept-in-order : (t : List ℕ) (c : ℕ → Bool) (ls : List ℕ) → InOrder t ls → InOrder t (kept c ls)
unfolding kept
kept-in-order t c [] a = tt
kept-in-order t c (l ∷ ls) a =
    split (c l) (λ e. rw (e, kept) (each-kept (Before t l) _ c (λ k h d. h) ls a.0, kept-in-order t c ls a.1))
    (λ e. rw (e, kept) (kept-in-order t c ls a.1))

kept-times : (c : ℕ → Bool) (l : ℕ) (ls : List ℕ) → c l ≡ true → times l (kept c ls) ≡ times l ls
unfolding kept times
kept-times c l [] h = refl
kept-times c l (k ∷ ls) h =
    split (c k) (λ e. rw (e, kept) (ap (λ (n : ℕ). cond (eqb l k) 1 0 + n) (kept-times c l ls h)))
    (λ e. rw (e, kept, ne_eqb l k (λ z. clash (rw z at h) e)) (kept-times c l ls h ∙ sym (zero-add _)))

runs-kept : (t : List ℕ) (c : ℕ → Bool) (ls : List ℕ) (x : Run) → run_chosen t c ls x ≡ run_all t (kept c ls) x
unfolding run_chosen kept
runs-kept t c [] x = refl
runs-kept t c (l ∷ ls) x =
    split (c l) (λ e. rw (e, kept, if-chosen t c l x e) (runs-kept t c ls _)) (λ e. rw (e, kept, if-not t c l x e) (runs-kept t c ls x))

-- The words of lists run one after the other.

below : ℕ
below = deepest - 1

-- what list l writes after its start word, from where x is
item_words : List ℕ → ℕ → Run → List ℕ
item_words t l x = (until (first_item t l) (item_count t l) (stops t) (run_item (run_list below t) t (list_owner t l)) (afresh x)).words

list-words : (t : List ℕ) (l : ℕ) (x : Run) → (run_list deepest t l x).words ≡ x.words ++ (start_word t l ∷ item_words t l x)
unfolding run_list run_items item_words below
list-words t l x =
    let item = item-framed t (run_list below t) (list-framed t below) (list_owner t l) in
    framed-words (framed-until t (run_item (run_list below t) t (list_owner t l)) (first_item t l) (item_count t l) item) (emit (start_word t l) x)
    ∙ append_assoc x.words (start_word t l ∷ []) _

-- the words of a run from x are x's, and then list by list
pub record Behind (t ls : List ℕ) (x : Run) : Type 0 where
  pub more : List ℕ
  pub words : (run_all t ls x).words ≡ x.words ++ more
  pub written : WrittenBy t ls more

pub behind : (t ls : List ℕ) (x : Run) → Behind t ls x
behind t [] x = record { more = []; words = sym (append-nil x.words); written = by_none }
behind t (l ∷ ls) x =
    let b = behind t ls (run_list deepest t l x) in
    record {
      more = start_word t l ∷ (item_words t l x ++ b.more);
      words = b.words ∙ ap (λ (ws : List ℕ). ws ++ b.more) (list-words t l x) ∙ append_assoc x.words _ _;
      written = by_first (item_words t l x) b.written;
    }

-- a list that stands among those that ran has its start word among the words
starts : (t : List ℕ) (l : ℕ) {ls ws : List ℕ} → WrittenBy t ls ws → 1 ≤ times l ls → Memᴰ (start_word t l) ws
unfolding times
starts t l by_none h = absurd (omega arith)
starts t l (by_first {l = k} {ls = ls} ws w) h =
    split (eqb l k) (λ e. Memᴰ.head (ap (start_word t) (eqb-true l k e)))
    (λ e. Memᴰ.tail (Memᴰ.append_right ws (starts t l w (let n : 1 ≤ 0 + times l ls = rw e at h in omega arith))))

-- Chosen by a rule is chosen by the test, and the other way round.

module _ (t : List ℕ) (f : Facts t) (q : ℕ → Bool) (s : List ℕ) where
  -- a rule's list, and why it is chosen
  chosen-because : (l r : ℕ) → l < lists t → choice_in t s r ≡ l
      → (l ≡ list_for t r (result_in t s r)) × ((triggered t l ≡ 0) ⊎ (result_in t s r ≡ previous_in t s r → ⊥))
  unfolding choice_in choice
  chosen-because l r a h =
      split (eqb (triggered t (list_for t r (result_in t s r))) 0 || not (eqb (result_in t s r) (previous_in t s r)))
      (λ e. let is : list_for t r (result_in t s r) ≡ l = rw e at h in
      (sym is, ⊎_elim (λ d. inl (rw (sym is) (eqb-true _ _ d))) (λ d. inr (eqb-false _ _ (not-true _ d))) (or_some _ _ e)))
      (λ e. let is : no_list ≡ l = rw e at h in let most : lists t ≤ 255 = f.counts.lists in absurd (omega arith))

  rule-chooses : (l r : ℕ) → l < lists t → r < rules t → chooses t q s l r ≡ true → Chosen t q s l
  unfolding chooses evaluated
  rule-chooses l r a b h =
      let ev = and_left (evaluated t q s r) (eqb (choice_in t s r) l) h in
      let both = and_left (eqb (nested_only t r) 0 && mentions deepest t q (rule_expression t r)) _ ev in
      let why = chosen-because l r a (eqb-true _ _ (and_right (evaluated t q s r) _ h)) in
      record {
        list = a;
        rule = r;
        there = b;
        not_nested = eqb-true _ _ (and_left (eqb (nested_only t r) 0) _ both);
        arbitrated = and_right (eqb (nested_only t r) 0) _ both;
        ready = not-true _ (and_right (eqb (nested_only t r) 0 && mentions deepest t q (rule_expression t r)) _ ev);
        its_list = why.0;
        because = why.1;
      }

  chosen-rule : (l : ℕ) → l < lists t → chosen t q s l ≡ true → Chosen t q s l
  unfolding chosen
  chosen-rule l a h = let w = any_some (chooses t q s l) 0 (rules t) h in let b = w.below in rule-chooses l w.at a (omega arith) w.holds

  picks : (l r : ℕ) → l ≡ list_for t r (result_in t s r) → (triggered t l ≡ 0) ⊎ (result_in t s r ≡ previous_in t s r → ⊥) → choice_in t s r ≡ l
  unfolding choice_in choice
  picks l r is why =
      let cause : (eqb (triggered t (list_for t r (result_in t s r))) 0 || not (eqb (result_in t s r) (previous_in t s r))) ≡ true
      = rw (sym is) (⊎_elim (λ e. rw e) (λ n. rw (ne_eqb (result_in t s r) (previous_in t s r) n) (or-true (eqb (triggered t l) 0))) why) in
      rw cause (sym is)

  chosen-test : (l : ℕ) → Chosen t q s l → chosen t q s l ≡ true
  unfolding chosen chooses evaluated
  chosen-test l c =
      let b = c.there in
      let does : chooses t q s l c.rule ≡ true
      = rw (c.not_nested, c.arbitrated, c.ready) (eq-eqb _ _ (picks l c.rule c.its_list c.because)) in
      split (chosen t q s l) (λ e. e) (λ e. clash does (any_at (chooses t q s l) 0 (rules t) c.rule e (omega arith) (omega arith)))

-- Every arbitration of an accepted table.

module _ (t : List ℕ) (f : Facts t) (q : ℕ → Bool) (os s : List ℕ) where
  pub lists-ran : ListsRan t q os s (arbitrate t q os s).state (arbitrate t q os s).words
  unfolding arbitrate decide
  lists-ran =
      let u = unmark_ports t q s in
      let c = chosen t q u in
      let x = start os (store_results t q u) in
      let ls = kept c (order t) in
      -- what the rules' evaluations have visited changes neither state nor words
      let is : arbitrate t q os s ≡ over (visit (rule_visits t q u) x) (run_all t ls x) =
      chosen-framed t c (order t) (visit (rule_visits t q u) x) ∙ ap (over (visit (rule_visits t q u) x)) (runs-kept t c (order t) x) in
      let one : (l : ℕ) → Chosen t q u l → times l ls ≡ 1 = λ l h. kept-times c l (order t) (chosen-test t f q u l h) ∙ once t l h.list in
      let b = behind t ls x in
      let ws : WrittenBy t ls (arbitrate t q os s).words = rw (ap (λ (y : Run). y.words) is, b.words) b.written in
      record {
        ran = ls;
        ordered = kept-in-order t c (order t) (in_order t);
        once = one;
        no_other = each-kept (λ l. l < lists t) _ c (chosen-rule t f q u) (order t) (order-there t);
        state = ap (λ (y : Run). y.state) is;
        words = ap (λ (y : Run). y.words) is;
        trace = ws;
        started = λ l h. starts t l ws (let n = one l h in omega arith);
      }

-- Every event that an accepted table takes.

module _ (t : List ℕ) (f : Facts t) (os s : List ℕ) where
  deferred-or-not : (p : ℕ) → (deferred t p ≡ 1 → ⊥) → deferred t p ≡ 0
  deferred-or-not p n = let b : deferred t p < 2 = digit-small _ 2 _ (omega arith) in omega arith

  port-set : (e value : ℕ) → sets_port e ≡ true → value_set e ≡ value → (event_kind e ≡ event_tick → ⊥)
      → Arbitrated t e os s (request t (event_index e) value os s).state (request t (event_index e) value os s).words
  unfolding request
  port-set e value k v n =
      split (eqb (deferred t (event_index e)) 1)
      (λ d. rw d (no_port n (λ z. eqb-true _ _ d) refl))
      (λ d. rw d (one_port k (deferred-or-not _ (eqb-false _ _ d)) (rw v (lists-ran t f _ os _))))

  pub happen-arbitrates : (e : ℕ) → Arbitrated t e os s (happen t e os s).state (happen t e os s).words
  unfolding tick arbitrate_marked
  happen-arbitrates e =
      happen-cases (λ x. Arbitrated t e os s x.state x.words) t e os s
      (λ k. all_marked k (lists-ran t f _ os _))
      (λ k. port-set e (event_value e) (rw k) (rw k) (λ z. omega arith))
      (λ k. port-set e 1 (rw k) (rw k) (λ z. omega arith))
      other
    where
      other : {u : List ℕ} → event_wakeup ≤ event_kind e → Arbitrated t e os s u []
      other h =
          let neither : sets_port e ≡ false = rw (ne_eqb (event_kind e) event_mode (λ y. omega arith), ne_eqb (event_kind e) event_request (λ y. omega arith)) in
          no_port (λ z. omega arith) (λ z. clash z neither) refl

-- No second way: what ran is settled by the choice and the order, so two arbitrations of the same ports in the same state agree.

member : (P : ℕ → Type 0) (l : ℕ) (ls : List ℕ) → Each P ls → 1 ≤ times l ls → P l
unfolding times
member P l [] a h = absurd (omega arith)
member P l (k ∷ ls) a h =
    split (eqb l k) (λ e. rw (eqb-true l k e) a.0)
    (λ e. member P l ls a.1 (let n : 1 ≤ 0 + times l ls = rw e at h in omega arith))

one_way : (t : List ℕ) (a b : ℕ) → Before t a b → Before t b a → ⊥
one_way t a b (inl x) (inl y) = omega arith
one_way t a b (inl x) (inr y) = let e = y.0 in omega arith
one_way t a b (inr x) (inl y) = let e = x.0 in omega arith
one_way t a b (inr x) (inr y) = let c = x.1 in let d = y.1 in omega arith

heads : (l : ℕ) (ls : List ℕ) → times l (l ∷ ls) ≡ 1 + times l ls
unfolding times
heads l ls = rw (eq-eqb l l refl)

tails : (l k : ℕ) (ls : List ℕ) → (l ≡ k → ⊥) → times l (k ∷ ls) ≡ times l ls
unfolding times
tails l k ls n = rw (ne_eqb l k n) (zero-add _)

-- of two lists that have the same members, the first of one is the first of the other
same_head : (t : List ℕ) (x y : ℕ) (xs ys : List ℕ) → InOrder t (x ∷ xs) → InOrder t (y ∷ ys) → ((l : ℕ) → times l (x ∷ xs) ≡ times l (y ∷ ys)) → x ≡ y
same_head t x y xs ys a b h =
    split (eqb x y) (eqb-true x y)
    (λ e. let n = eqb-false x y e in
    let later : 1 ≤ times x ys = let i = h x in let j = heads x xs in let k = tails x y ys n in omega arith in
    let sooner : 1 ≤ times y xs = let i = h y in let j = heads y ys in let k = tails y x xs (λ z. n (sym z)) in omega arith in
    absurd (one_way t x y (member (Before t x) y xs a.0 sooner) (member (Before t y) x ys b.0 later)))

same-order : (t xs ys : List ℕ) → InOrder t xs → InOrder t ys → ((l : ℕ) → times l xs ≡ times l ys) → xs ≡ ys
unfolding times
same-order t [] [] a b h = refl
same-order t [] (y ∷ ys) a b h = let n = h y in let m = heads y ys in absurd (omega arith)
same-order t (x ∷ xs) [] a b h = let n = h x in let m = heads x xs in absurd (omega arith)
same-order t (x ∷ xs) (y ∷ ys) a b h =
    let e : x ≡ y = same_head t x y xs ys a b h in
    let rest : (l : ℕ) → times l xs ≡ times l ys
    = λ l. let n : cond (eqb l y) 1 0 + times l xs ≡ cond (eqb l y) 1 0 + times l ys = rw e at (h l) in omega arith in
    rw (e, same-order t xs ys a.1 b.1 rest)

module _ (t : List ℕ) (q : ℕ → Bool) (os s : List ℕ) {s₁ ws₁ s₂ ws₂ : List ℕ} (a : ListsRan t q os s s₁ ws₁) (b : ListsRan t q os s s₂ ws₂) where
  as-often : (l : ℕ) → times l a.ran ≡ times l b.ran
  as-often l =
      split (ltb 0 (times l a.ran)) (λ e. both (member _ l a.ran a.no_other (ltb-true _ _ e)))
      (λ e. split (ltb 0 (times l b.ran)) (λ d. both (member _ l b.ran b.no_other (ltb-true _ _ d)))
      (λ d. let n = ltb-false 0 (times l a.ran) e in let m = ltb-false 0 (times l b.ran) d in omega arith))
    where
      both : Chosen t q (unmark_ports t q s) l → times l a.ran ≡ times l b.ran
      both c = a.once l c ∙ sym (b.once l c)

  same_lists : a.ran ≡ b.ran
  same_lists = same-order t a.ran b.ran a.ordered b.ordered as-often

  pub one-way-to-run : (s₁ ≡ s₂) × (ws₁ ≡ ws₂)
  one-way-to-run = (
    a.state ∙ ap (λ (ls : List ℕ). (run_all t ls (before_lists t q os s)).state) same_lists ∙ sym b.state,
    a.words ∙ ap (λ (ls : List ℕ). (run_all t ls (before_lists t q os s)).words) same_lists ∙ sym b.words,
  )
