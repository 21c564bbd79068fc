-- One level of lists, by what the code reads, and the rounds that find them. Assumes nothing.
use Prim.Native.Nat.{ℕ, zero, suc, ◌+◌, ◌-◌, ◌<◌, ◌≤◌}
use mathlib.Core.Path.{◌≡◌, refl, sym, ap, fun_ext, ◌∙◌}
use mathlib.Core.Bool.{Bool, true, false, ◌&&◌, ◌||◌}
use mathlib.Core.List.{List}
use native.Mathlib.Omega.{arith}
use lib.Dec.{ltb, leb, eqb}
use lib.ListN.{length, get_or, set, length-set, replicate}
use lib.Seq.{get_or-set_same, get_or-set_other}
use borrow.Author.Tests.{lt-ltb, le-ltb, ltb-true, ltb-false, eq-eqb, ne_eqb, eqb-true, eqb-false, le-leb, leb-true, leb-false}
use native.Mathlib.Nat.{add-zero, add-suc}
use native.Mathlib.Numerals.{add-one}
use Rattle.rulebook.specs.Words.{all, word}
use Rattle.rulebook.specs.Table.{lists, item_kind, item_a, item_list, item_rule, no_list, true_list, false_list, first_item, item_count}
use Rattle.rulebook.specs.Reasons.{rule_nests, item_nests, list_nests, list_within}
use Rattle.words.proofs.Fill.{zero_word}
use Rattle.laws.proofs.Nesting.{nests-list, nests-rule, nests-act}
use Rattle.laws.proofs.Tests.{split, clash, and_left, and_right, and_both, and-one-false, or-none, or-intro, or_elim}
use Rattle.nesting.specs.Depths.{found_by, next_depth, Depths}

module _ (t : List ℕ) (below : ℕ → Bool) (l : ℕ) where
  pub list-absent : lists t ≤ l → false ≡ list_nests t below l
  unfolding list_nests
  list-absent b = rw (le-ltb l (lists t) b)

  pub list-present : l < lists t → list_nests t below l ≡ all (first_item t l) (item_count t l) (item_nests t below)
  unfolding list_nests
  list-present b = rw (lt-ltb l (lists t) b)

-- What is found with fewer lists below is found with more.

module _ (t : List ℕ) (p q : ℕ → Bool) (more : (n : ℕ) → p n ≡ true → q n ≡ true) where
  or-more : (a : Bool) (n : ℕ) → (a || p n) ≡ true → (a || q n) ≡ true
  or-more a n h = or-intro a (q n) (λ e. more n (or_elim a (p n) h e))

  rule-more : (r : ℕ) → rule_nests t p r ≡ true → rule_nests t q r ≡ true
  unfolding rule_nests
  rule-more r h =
      let on-true = and_left (eqb (true_list t r) no_list || p (true_list t r)) (eqb (false_list t r) no_list || p (false_list t r)) h in
      let on-false = and_right (eqb (true_list t r) no_list || p (true_list t r)) (eqb (false_list t r) no_list || p (false_list t r)) h in
      and_both _ _ (or-more (eqb (true_list t r) no_list) (true_list t r) on-true) (or-more (eqb (false_list t r) no_list) (false_list t r) on-false)

  item-more : (i : ℕ) → item_nests t p i ≡ true → item_nests t q i ≡ true
  item-more i h =
      split (eqb (item_kind t i) item_list) (λ e. rw (nests-list t q i e) (more (item_a t i) (sym (nests-list t p i e) ∙ h)))
      (λ e.
      split (eqb (item_kind t i) item_rule) (λ f. rw (nests-rule t q i e f) (rule-more (item_a t i) (sym (nests-rule t p i e f) ∙ h)))
      (λ f. nests-act t q i e f))

  items_more : (i n : ℕ) → all i n (item_nests t p) ≡ true → all i n (item_nests t q) ≡ true
  unfolding all
  items_more i zero h = refl
  items_more i (suc n) h =
      and_both _ _ (item-more i (and_left (item_nests t p i) (all (suc i) n (item_nests t p)) h))
      (items_more (suc i) n (and_right (item_nests t p i) (all (suc i) n (item_nests t p)) h))

  list-more : (l : ℕ) → list_nests t p l ≡ true → list_nests t q l ≡ true
  unfolding list_nests
  list-more l h =
      let there = and_left (ltb l (lists t)) (all (first_item t l) (item_count t l) (item_nests t p)) h in
      let named = and_right (ltb l (lists t)) (all (first_item t l) (item_count t l) (item_nests t p)) h in
      and_both _ _ there (items_more (first_item t l) (item_count t l) named)

pub within_more : (t : List ℕ) (d l : ℕ) → list_within d t l ≡ true → list_within (suc d) t l ≡ true
unfolding list_within
within_more t zero l h = clash h refl
within_more t (suc d) l h = list-more t (list_within d t) (list_within (suc d) t) (within_more t d) l h

pub within-absent : (t : List ℕ) (d l : ℕ) → lists t ≤ l → list_within d t l ≡ false
unfolding list_within list_nests
within-absent t zero l h = refl
within-absent t (suc d) l h = rw (le-ltb l (lists t) h)

-- A word that says a depth.

pub found-yes : (e w : ℕ) → 1 ≤ w → w ≤ e → (leb 1 w && leb w e) ≡ true
found-yes e w a b = and_both (leb 1 w) (leb w e) (le-leb 1 w a) (le-leb w e b)

found-zero : (e w : ℕ) → w ≡ 0 → (leb 1 w && leb w e) ≡ false
found-zero e w z = rw z

found-late : (e w : ℕ) → e < w → (leb 1 w && leb w e) ≡ false
found-late e w b = and-one-false (leb 1 w) (leb w e) (λ x y. absurd (let le = leb-true w e y in omega arith))

-- past the depth of a word nothing changes
found-same : (d e w : ℕ) → w ≤ d → d ≤ e → (leb 1 w && leb w e) ≡ (leb 1 w && leb w d)
found-same d e w a b = ap (λ (x : Bool). leb 1 w && x) (le-leb w e (omega arith) ∙ sym (le-leb w d a))

-- Round d + 1, once the lists before l are passed: their words are those of depth d + 1, the others' are those of depth d.

pub record Passed (d l : ℕ) (t depths : List ℕ) : Type 0 where
  pub long : length depths ≡ 256
  pub small : (k : ℕ) → word depths k ≤ d + 1
  pub old : (k : ℕ) → l ≤ k → word depths k ≤ d
  pub says : (e k : ℕ) → e ≤ d → found_by depths e k ≡ list_within e t k
  pub new : (k : ℕ) → k < l → found_by depths (d + 1) k ≡ list_within (d + 1) t k

-- what a store at l leaves of every word
pub set_all : (P : ℕ → ℕ → Type 0) (ws : List ℕ) (l v : ℕ) → l < length ws → P l v → ((k : ℕ) → (k ≡ l → ⊥) → P k (get_or ws k 0))
    → (k : ℕ) → P k (get_or (set ws l v) k 0)
set_all P ws l v inside here other k =
    split (eqb k l) (λ e. let is = eqb-true k l e in rw (is, get_or-set_same ws l v 0 inside) here)
    (λ e. let isnt = eqb-false k l e in rw (get_or-set_other ws l k v 0 isnt) (other k isnt))

pub round-starts : (d : ℕ) (t depths : List ℕ) → Depths d t depths → Passed d 0 t depths
round-starts d t depths a =
    record {
      long = a.long;
      small = λ k. let few = a.small k in omega arith;
      old = λ k _. a.small k;
      says = a.says;
      new = λ k h. absurd (omega arith);
    }

-- the word v of list l after the round
record Next (d l : ℕ) (t depths : List ℕ) (v : ℕ) : Type 0 where
  pub small : v ≤ d + 1
  pub says : (e : ℕ) → e ≤ d → (leb 1 v && leb v e) ≡ list_within e t l
  pub new : (leb 1 v && leb v (d + 1)) ≡ list_within (d + 1) t l

level-is : (d l : ℕ) (t depths : List ℕ) → Passed d l t depths → list_nests t (found_by depths d) l ≡ list_within (d + 1) t l
unfolding list_within
level-is d l t depths a = rw add-one (ap (λ (q : ℕ → Bool). list_nests t q l) (fun_ext (λ k. a.says d k (omega arith))))

next-is : (d l : ℕ) (t depths : List ℕ) → Passed d l t depths → Next d l t depths (next_depth t depths d l)
unfolding next_depth found_by
next-is d l t depths a =
    let few : word depths l ≤ d = a.old l (omega arith) in
    let level = level-is d l t depths a in
    split (eqb (word depths l) 0)
    (λ z.
    let none = eqb-true (word depths l) 0 z in
    let before : (e : ℕ) → e ≤ d → false ≡ list_within e t l = λ e h. sym (found-zero e (word depths l) none) ∙ a.says e l h in
    split (list_nests t (found_by depths d) l)
    (λ n.
    rw (z, n)
    (record {
      small = omega arith;
      says = λ e h. found-late e (d + 1) (omega arith) ∙ before e h;
      new = found-yes (d + 1) (d + 1) (omega arith) (omega arith) ∙ sym n ∙ level;
    }))
    (λ n.
    rw (z, n)
    (record {
      small = omega arith;
      says = λ e h. found-zero e 0 refl ∙ before e h;
      new = found-zero (d + 1) 0 refl ∙ sym n ∙ level;
    })))
    (λ z.
    let some = eqb-false (word depths l) 0 z in
    let within : list_within d t l ≡ true = sym (a.says d l (omega arith)) ∙ found-yes d (word depths l) (omega arith) few in
    rw z
    (record {
      small = omega arith;
      says = λ e h. a.says e l h;
      new = found-yes (d + 1) (word depths l) (omega arith) (omega arith) ∙ sym (rw add-one (within_more t d l within));
    }))

pub round-turn : (d l v : ℕ) (t depths : List ℕ) → l < 256 → Passed d l t depths → v ≡ next_depth t depths d l → Passed d (l + 1) t (set depths l v)
unfolding found_by
round-turn d l v t depths few a is =
    let n : Next d l t depths v = rw is (next-is d l t depths a) in
    let inside : l < length depths = rw a.long few in
    record {
      long = simp length-set a.long;
      small = set_all (λ k w. w ≤ d + 1) depths l v inside n.small (λ k _. a.small k);
      old = set_all (λ k w. l + 1 ≤ k → w ≤ d) depths l v inside (λ h. absurd (omega arith)) (λ k _ h. a.old k (omega arith));
      says = λ e k h. set_all (λ k w. (leb 1 w && leb w e) ≡ list_within e t k) depths l v inside (n.says e h) (λ k _. a.says e k h) k;
      new =
          set_all (λ k w. k < l + 1 → (leb 1 w && leb w (d + 1)) ≡ list_within (d + 1) t k) depths l v inside (λ _. n.new)
          (λ k isnt h. a.new k (omega arith));
    }

pub round-ends : (d l : ℕ) (t depths : List ℕ) → lists t ≤ l → Passed d l t depths → Depths (d + 1) t depths
unfolding found_by
round-ends d l t depths all a =
    record {
      long = a.long;
      small = a.small;
      says =
          λ e k h.
          split (leb e d) (λ y. a.says e k (leb-true e d y))
          (λ y.
          let top : e ≡ d + 1 = let more = leb-false e d y in omega arith in
          rw top
          (split (ltb k l) (λ z. a.new k (ltb-true k l z))
          (λ z.
          let past : l ≤ k = ltb-false k l z in
          found-same d (d + 1) (word depths k) (a.old k past) (omega arith)
          ∙ a.says d k (omega arith)
          ∙ within-absent t d k (omega arith)
          ∙ sym (within-absent t (d + 1) k (omega arith)))));
    }

-- a round that found none has left all words at most d
pub round-none : (d l : ℕ) (t depths : List ℕ) → Passed d l t depths → ((k : ℕ) → word depths k ≤ d) → Depths d t depths
round-none d l t depths a few = record { long = a.long; small = few; says = a.says }

pub still-none : (d l v : ℕ) (t depths : List ℕ) → l < 256 → Passed d l t depths → v ≡ next_depth t depths d l → (more : Bool)
    → (more ≡ false → (k : ℕ) → word depths k ≤ d) → (more || eqb v (d + 1)) ≡ false → (k : ℕ) → word (set depths l v) k ≤ d
still-none d l v t depths few a is more before h =
    let both = or-none more (eqb v (d + 1)) h in
    let isnt = eqb-false v (d + 1) both.1 in
    let n : Next d l t depths v = rw is (next-is d l t depths a) in
    let small = n.small in
    set_all (λ k w. w ≤ d) depths l v (rw a.long few) (omega arith) (λ k _. before both.0 k)

pub no-round : (t : List ℕ) → Depths 0 t (replicate 256 0)
unfolding found_by list_within
no-round t =
    record {
      long = refl;
      small = λ l. let none = zero_word 256 l in omega arith;
      says = λ e l h. let z : e ≡ 0 = omega arith in rw z (found-zero 0 (word (replicate 256 0) l) (zero_word 256 l));
    }

-- Once a round finds none, the levels above are all the same.

module _ (d : ℕ) (t depths : List ℕ) (old : Depths d t depths) (new : Depths (d + 1) t depths) where
  same-level : (l : ℕ) → list_within (d + 1) t l ≡ list_within d t l
  unfolding found_by
  same-level l =
      sym (new.says (d + 1) l (omega arith)) ∙ found-same d (d + 1) (word depths l) (old.small l) (omega arith) ∙ old.says d l (omega arith)

  same-levels : (k l : ℕ) → list_within (d + k) t l ≡ list_within d t l
  unfolding list_within
  same-levels zero l = rw add-zero
  same-levels (suc k) l =
      rw add-suc (ap (λ (q : ℕ → Bool). list_nests t q l) (fun_ext (same-levels k)) ∙ (rw add-one at (same-level l)))

  pub settled : (e : ℕ) → d ≤ e → Depths e t depths
  unfolding found_by
  settled e h =
      record {
        long = old.long;
        small = λ l. let few = old.small l in omega arith;
        says =
            λ f l g.
            split (leb f d) (λ y. old.says f l (leb-true f d y))
            (λ y.
            let more = leb-false f d y in
            let is : d + (f - d) ≡ f = omega arith in
            found-same d f (word depths l) (old.small l) (omega arith)
            ∙ old.says d l (omega arith)
            ∙ sym (rw is at (same-levels (f - d) l)));
      }

-- The word of a list after a round, as the code finds it: w is the word before.

module _ (t depths : List ℕ) (d l w : ℕ) (is : w ≡ word depths l) where
  pub depth-kept : (w ≡ 0 → ⊥) → w ≡ next_depth t depths d l
  unfolding next_depth
  depth-kept some = is ∙ sym (rw (ne_eqb (word depths l) 0 (rw is at some)))

  module _ (nests : Bool) (judged : nests ≡ list_nests t (found_by depths d) l) (none : w ≡ 0) where
    pub depth-found : nests ≡ true → d + 1 ≡ next_depth t depths d l
    unfolding next_depth
    depth-found y = rw (eq-eqb (word depths l) 0 (sym is ∙ none), sym judged ∙ y)

    pub depth-open : nests ≡ false → 0 ≡ next_depth t depths d l
    unfolding next_depth
    depth-open y = rw (eq-eqb (word depths l) 0 (sym is ∙ none), sym judged ∙ y)
