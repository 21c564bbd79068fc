-- The rounds by falling depth: once the round of a list's depth is done, what it names is up where it is up itself. Assumes nothing.
use Prim.Native.Nat.{ℕ, ◌+◌, ◌<◌, ◌≤◌}
use mathlib.Core.Path.{◌≡◌, refl, sym, ◌∙◌}
use mathlib.Core.Bool.{Bool, true, false, ◌&&◌, and-false, or-true}
use mathlib.Core.Logic.{⊎_elim}
use mathlib.Core.List.{List}
use native.Mathlib.Omega.{arith}
use native.Mathlib.Numerals.{add-one}
use lib.Dec.{leb, eqb}
use lib.ListN.{length}
use borrow.Author.Tests.{eqb-true, eqb-false, eq-eqb, ne_eqb, leb-true}
use Rattle.rulebook.specs.Words.{word}
use Rattle.rulebook.specs.Table.{rules, lists, nested_only, no_list, at_list}
use Rattle.rulebook.specs.Expressions.{deepest}
use Rattle.rulebook.specs.Reasons.{nesting, list_within, rule_reaches, reached}
use Rattle.rulebook.proofs.Reached.{any-there}
use Rattle.words.specs.Flags.{flagged}
use Rattle.laws.specs.Sequence.{RuleNames, NamesList}
use Rattle.laws.specs.Reached.{Reached, by_rule, by_list}
use Rattle.laws.proofs.Tests.{split, clash, and_left, and_right, and_both, or_some}
use Rattle.laws.proofs.Walks.{any_some}
use Rattle.laws.proofs.Fields.{digit-small}
use Rattle.laws.proofs.Facts.{at-list}
use Rattle.laws.proofs.Reached.{rule-reaches, rule-reaches←, named-within, chain-there, reached-exactly}
use Rattle.nesting.specs.Depths.{found_by, Depths}
use Rattle.nesting.proofs.Levels.{within_more, found-yes}
use Rattle.reach.specs.Raised.{is_list, list_has, starts_list, passes_on, Gained, Started, Closed, Judged}
use Rattle.reach.proofs.Raised.{gained-as, gained-none, list-names, names-list}

-- List l in the round of depth d + 1, as the code finds it: w is its depth, b its flag.

module _ (t depths flags : List ℕ) (d l w : ℕ) (is : w ≡ word depths l) where
  pub pass-none : length flags ≡ 256 → (w ≡ d + 1 → ⊥) → Gained (passes_on t depths flags d l) flags flags
  unfolding passes_on
  pass-none long ne = gained-none (passes_on t depths flags d l) flags long (λ k. rw (ne_eqb (word depths l) (d + 1) (rw is at ne)))

  module _ (b : Bool) (up : b ≡ flagged flags l) where
    pub pass-down : length flags ≡ 256 → b ≡ false → Gained (passes_on t depths flags d l) flags flags
    unfolding passes_on
    pass-down long e = gained-none (passes_on t depths flags d l) flags long (λ k. rw (sym up ∙ e, and-false))

    pub pass_all : (after : List ℕ) → w ≡ d + 1 → b ≡ true → Gained (list_has t l) flags after → Gained (passes_on t depths flags d l) flags after
    unfolding passes_on
    pass_all after e y g =
        gained-as _ (passes_on t depths flags d l) flags after (λ k s. rw (eq-eqb (word depths l) (d + 1) (sym is ∙ e), sym up ∙ y)) g

-- The round of depth d + 1, once the lists before l are passed.

pub record Passed (d l : ℕ) (t flags : List ℕ) : Type 0 where
  pub long : length flags ≡ 256
  pub sound : (k : ℕ) → k < no_list → flagged flags k ≡ true → Reached t k
  pub started : (r k : ℕ) → r < rules t → nested_only t r ≡ 0 → RuleNames t r k → flagged flags k ≡ true
  pub old : (k x : ℕ) → k < lists t → x < no_list → list_within (d + 1) t k ≡ false → NamesList t k x → flagged flags k ≡ true → flagged flags x ≡ true
  pub new : (k x : ℕ) → k < l → k < lists t → x < no_list → list_within d t k ≡ false → NamesList t k x → flagged flags k ≡ true → flagged flags x ≡ true

pub round-starts : (d : ℕ) (t flags : List ℕ) → Closed (d + 1) t flags → Passed d 0 t flags
round-starts d t flags c = record { long = c.long; sound = c.sound; started = c.started; old = c.closed; new = λ k x h. absurd (omega arith) }

-- a rule's list has a number below 255
rule-names-small : (t : List ℕ) (r l : ℕ) → RuleNames t r l → l < no_list
rule-names-small t r l n =
    let small : l < 256 = ⊎_elim (λ e. rw e (digit-small _ 256 _ (omega arith))) (λ e. rw e (digit-small _ 256 _ (omega arith))) n.1 in
    let isnt = eqb-false l no_list n.0 in
    omega arith

module _ (d l : ℕ) (t depths flags after : List ℕ) (few : lists t ≤ no_list) (there : l < lists t) (shallow : d < 7) (found : Depths deepest t depths)
    (a : Passed d l t flags) (g : Gained (passes_on t depths flags d l) flags after) where
  stays : (k : ℕ) → k < no_list → flagged flags k ≡ true → flagged after k ≡ true
  stays k b h = g.says k b ∙ rw h

  -- what list l puts up
  passed : (k : ℕ) → passes_on t depths flags d l k ≡ true → (flagged flags l ≡ true) × NamesList t l k × (list_within d t k ≡ true)
  unfolding passes_on found_by
  passed k h =
      let both = and_left (eqb (word depths l) (d + 1) && flagged flags l) (list_has t l k) h in
      let deep = eqb-true (word depths l) (d + 1) (and_left (eqb (word depths l) (d + 1)) (flagged flags l) both) in
      let named = list-names t l k (and_right (eqb (word depths l) (d + 1) && flagged flags l) (list_has t l k) h) in
      let within : list_within (d + 1) t l ≡ true =
      sym (found.says (d + 1) l (omega arith)) ∙ found-yes (d + 1) (word depths l) (omega arith) (omega arith) in
      (and_right (eqb (word depths l) (d + 1)) (flagged flags l) both, named, named-within t d l k (rw add-one at within) named)

  -- a list deeper than that was up before
  was-up : (k : ℕ) → k < no_list → list_within d t k ≡ false → flagged after k ≡ true → flagged flags k ≡ true
  was-up k b deep h =
      ⊎_elim (λ e. e) (λ e. clash (passed k e).2 deep) (or_some (flagged flags k) (passes_on t depths flags d l k) (sym (g.says k b) ∙ h))

  deeper : (k : ℕ) → list_within (d + 1) t k ≡ false → list_within d t k ≡ false
  deeper k h = split (list_within d t k) (λ e. clash (rw add-one (within_more t d k e)) h) (λ e. e)

  -- list l itself
  passes : (x : ℕ) → x < no_list → list_within d t l ≡ false → NamesList t l x → flagged flags l ≡ true → flagged after x ≡ true
  unfolding passes_on found_by
  passes x b deep n up =
      split (eqb (word depths l) (d + 1))
      (λ e. g.says x b ∙ rw (e, up, names-list t l x n, or-true))
      (λ e.
      let isnt = eqb-false (word depths l) (d + 1) e in
      let not_yet : list_within (d + 1) t l ≡ false =
      split (list_within (d + 1) t l)
      (λ y.
      let here : (leb 1 (word depths l) && leb (word depths l) (d + 1)) ≡ true = found.says (d + 1) l (omega arith) ∙ y in
      let some = leb-true 1 (word depths l) (and_left _ (leb (word depths l) (d + 1)) here) in
      let most = leb-true (word depths l) (d + 1) (and_right (leb 1 (word depths l)) _ here) in
      clash (sym (found.says d l (omega arith)) ∙ found-yes d (word depths l) some (omega arith)) deep)
      (λ y. y) in
      stays x b (a.old l x there b not_yet n up))

  pub round-turn : Passed d (l + 1) t after
  round-turn =
      record {
        long = g.long;
        sound = λ k b h.
            ⊎_elim (λ e. a.sound k b e)
            (λ e. let p = passed k e in by_list (a.sound l (omega arith) p.0) p.1)
            (or_some (flagged flags k) (passes_on t depths flags d l k) (sym (g.says k b) ∙ h));
        started = λ r k b s n. stays k (rule-names-small t r k n) (a.started r k b s n);
        old = λ k x b s deep n h. stays x s (a.old k x b s deep n (was-up k (omega arith) (deeper k deep) h));
        new = λ k x c b s deep n h.
            split (eqb k l) (λ e. let is = eqb-true k l e in passes x s (rw is at deep) (rw is at n) (rw is at (was-up k (omega arith) deep h)))
            (λ e. let isnt = eqb-false k l e in stays x s (a.new k x (omega arith) b s deep n (was-up k (omega arith) deep h)));
      }

pub round-ends : (d l : ℕ) (t flags : List ℕ) → lists t ≤ l → Passed d l t flags → Closed d t flags
round-ends d l t flags all a =
    record { long = a.long; sound = a.sound; started = a.started; closed = λ k x b s deep n h. a.new k x (omega arith) b s deep n h }

-- Before the first round: no list is deeper than seven.

module _ (t depths : List ℕ) (j : Judged t depths) where
  pub no-round : (flags : List ℕ) → Started t flags → Closed deepest t flags
  unfolding starts_list is_list nesting
  no-round flags s =
      record {
        long = s.long;
        sound = λ l b up.
            let w = any_some (starts_list t l) 0 (rules t) (sym (s.says l b) ∙ up) in
            let free = and_left (eqb (nested_only t w.at) 0) (rule_reaches t (is_list l) w.at) w.holds in
            let n = rule-reaches t (is_list l) w.at (and_right (eqb (nested_only t w.at) 0) _ w.holds) in
            by_rule w.at (omega (arith, w.below)) (eqb-true (nested_only t w.at) 0 free) (rw (eqb-true n.0 l n.2) at n.1);
        started = λ r l b free n.
            s.says l (rule-names-small t r l n)
            ∙ any-there (starts_list t l) 0 (rules t) r (omega arith) (omega arith)
            (and_both _ _ (eq-eqb (nested_only t r) 0 free) (rule-reaches← t (is_list l) r l n (eq-eqb l l refl)));
        closed = λ l x b c deep n up. clash (at-list t j.whole nesting j.nested l b) deep;
      }

  -- After the last: every list that names one has had its round, so all that is reached is up.

  module _ (flags : List ℕ) (c : Closed 1 t flags) where
    there : (l : ℕ) → Reached t l → l < lists t
    there = chain-there t j.whole j.named j.nested

    up-reached : (l : ℕ) → Reached t l → flagged flags l ≡ true
    unfolding list_within
    up-reached l (by_rule r b free n) = c.started r l b free n
    up-reached x (by_list {l = l} q n) =
        let names : list_within 1 t l ≡ false = split (list_within 1 t l) (λ e. clash (named-within t 0 l x e n) refl) (λ e. e) in
        let few = j.sorted.few in
        let inside = there x (by_list q n) in
        c.closed l x (there l q) (omega arith) names n (up-reached l q)

    pub up-exactly : (l : ℕ) → l < lists t → flagged flags l ≡ reached t (at_list l)
    up-exactly l b =
        let few = j.sorted.few in
        let chain = reached-exactly t j.whole j.named j.nested l in
        split (flagged flags l) (λ e. e ∙ sym (chain.1 (c.sound l (omega arith) e)))
        (λ e. split (reached t (at_list l)) (λ d. clash (up-reached l (chain.0 d)) e) (λ d. e ∙ sym d))
