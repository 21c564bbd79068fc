-- The check gives 0 exactly if all ten rules hold, and reason k at place p exactly if no earlier reason holds and p is the lowest
-- word that breaks rule k. By induction on the rules in their order: no law here knows how many they are or how they are numbered,
-- but `Rules`, which names them. Assumes nothing.
use mathlib.Core.Path.{◌≡◌, refl, sym, ◌∙◌, ap}
use mathlib.Core.Bool.{Bool, true, false, ◌&&◌}
use mathlib.Core.Logic.{◌↔◌}
use mathlib.Core.List.{List, [], ◌∷◌}
use Prim.Native.Nat.{ℕ, ◌≤◌, ◌<◌}
use native.Mathlib.Omega.{arith}
use lib.ListN.{length}
use lib.Dec.{ltb, eqb}
use borrow.Author.Tests.{ltb-true, ltb-false, lt-ltb, eqb-true, eqb-false, not-false}
use Rattle.rulebook.specs.Words.{first}
use Rattle.rulebook.specs.Table.{Part, part}
use Rattle.rulebook.specs.Reasons.{Verdict, verdict, breaks, lowest, Link, of_table, of_words, reason_of, reasons, or_next, first_of, check, accepted}
use Rattle.laws.specs.Acceptance.{Everywhere, Rules, broken, GivenBy, here, later, Given}
use Rattle.laws.proofs.Tests.{split, clash, and_both, and_left, and_right}
use Rattle.laws.proofs.Walks.{first_holds, first-before}

reason-of : {v u : Verdict} → v ≡ u → v.reason ≡ u.reason
reason-of e = ap (λ (w : Verdict). w.reason) e

place_of : {v u : Verdict} → v ≡ u → v.place ≡ u.place
place_of e = ap (λ (w : Verdict). w.place) e

-- One rule: it holds and is broken nowhere, or it fails at the lowest word that breaks it.

abbrev pub Holds : List ℕ → Link → Type 0
Holds t (of_table k rule) = rule t ≡ true
Holds t (of_words k rule) = Everywhere rule t

pub table-passes : (t : List ℕ) (k : ℕ) (rule : List ℕ → Bool) (next : Verdict) → rule t ≡ true → or_next t (of_table k rule) next ≡ next
unfolding or_next
table-passes t k rule next h = rw h

pub table-fails : (t : List ℕ) (k : ℕ) (rule : List ℕ → Bool) (next : Verdict) → rule t ≡ false → or_next t (of_table k rule) next ≡ verdict k 0
unfolding or_next
table-fails t k rule next h = rw h

pub words-pass : (t : List ℕ) (k : ℕ) (rule : List ℕ → Part → Bool) (next : Verdict) → length t ≤ lowest rule t → or_next t (of_words k rule) next ≡ next
unfolding or_next
words-pass t k rule next h = split (ltb (lowest rule t) (length t)) (λ e. let lt = ltb-true (lowest rule t) (length t) e in absurd (omega arith)) (λ e. rw e)

pub words-fail : (t : List ℕ) (k : ℕ) (rule : List ℕ → Part → Bool) (next : Verdict) → lowest rule t < length t
    → or_next t (of_words k rule) next ≡ verdict k (lowest rule t)
unfolding or_next
words-fail t k rule next h = rw (lt-ltb (lowest rule t) (length t) h)

data Judged (t : List ℕ) (link : Link) : Type 0 where
  holds : Holds t link → ((i : ℕ) → broken link t i ≡ false) → ((next : Verdict) → or_next t link next ≡ next) → Judged t link
  fails : (p : ℕ) → broken link t p ≡ true → ((j : ℕ) → j < p → broken link t j ≡ false)
      → ((next : Verdict) → or_next t link next ≡ verdict (reason_of link) p) → Judged t link

word_kept : (rule : List ℕ → Part → Bool) (t : List ℕ) (k i : ℕ) → (i < length t → breaks rule t i ≡ false) → broken (of_words k rule) t i ≡ false
unfolding broken
word_kept rule t k i h = split (ltb i (length t)) (λ e. rw (e, h (ltb-true i (length t) e))) (λ e. rw e)

everywhere : (rule : List ℕ → Part → Bool) (t : List ℕ) → ((i : ℕ) → i < length t → breaks rule t i ≡ false) → Everywhere rule t
unfolding breaks
everywhere rule t h i lt = not-false (rule t (part t i)) (h i lt)

judged : (t : List ℕ) (link : Link) → Judged t link
unfolding broken lowest
judged t (of_table k rule) =
    split (rule t) (λ e. holds e (λ i. rw e) (λ next. table-passes t k rule next e))
    (λ e. fails 0 (rw e) (λ j lt. absurd (omega arith)) (λ next. table-fails t k rule next e))
judged t (of_words k rule) =
    split (ltb (lowest rule t) (length t))
    (λ e. let lt : first 0 (length t) (breaks rule t) < length t = ltb-true _ _ e in
    fails (lowest rule t) (and_both _ _ e (first_holds (breaks rule t) 0 (length t) (omega arith)))
    (λ j c. word_kept rule t k j (λ d. first-before (breaks rule t) 0 (length t) j (omega arith) c))
    (λ next. words-fail t k rule next lt))
    (λ e. let ge : length t ≤ first 0 (length t) (breaks rule t) = ltb-false _ _ e in
    let kept : (i : ℕ) → i < length t → breaks rule t i ≡ false = (λ i lt. first-before (breaks rule t) 0 (length t) i (omega arith) (omega arith)) in
    holds (everywhere rule t kept) (λ i. word_kept rule t k i (kept i)) (λ next. words-pass t k rule next ge))

-- Reasons.

given-one : (t : List ℕ) (k p : ℕ) (link : Link) (links : List Link) (next : Verdict) → or_next t link next ≡ verdict k p
    → (next ≡ verdict k p → GivenBy t k p links) → Judged t link → GivenBy t k p (link ∷ links)
given-one t k p link links next e below (holds h u pass) = later u (below (sym (pass next) ∙ e))
given-one t k p link links next e below (fails q b low is) =
    let same : verdict (reason_of link) q ≡ verdict k p = sym (is next) ∙ e in
    let at : q ≡ p = place_of same in
    here (reason-of same) (rw at at b) (rw at at low)

given-of : (t : List ℕ) (k p : ℕ) → 1 ≤ k → (links : List Link) → first_of t links ≡ verdict k p → GivenBy t k p links
unfolding first_of
given-of t k p one [] e = let z : 0 ≡ k = reason-of e in absurd (omega arith)
given-of t k p one (link ∷ links) e = given-one t k p link links (first_of t links) e (given-of t k p one links) (judged t link)

order-cases {ℓ} : {A : Type ℓ} (m n : ℕ) → (m < n → A) → (n < m → A) → (m ≡ n → A) → A
order-cases m n f g h =
    split (ltb m n) (λ e. f (ltb-true m n e))
    (λ e. split (ltb n m) (λ d. g (ltb-true n m d))
    (λ d. let a : n ≤ m = ltb-false m n e in let b : m ≤ n = ltb-false n m d in h (omega arith)))

passed : (t : List ℕ) (link : Link) (next : Verdict) → ((i : ℕ) → broken link t i ≡ false) → Judged t link → or_next t link next ≡ next
passed t link next u (holds h v pass) = pass next
passed t link next u (fails q b low is) = clash b (u q)

stopped : (t : List ℕ) (p : ℕ) (link : Link) (next : Verdict) → broken link t p ≡ true → ((j : ℕ) → j < p → broken link t j ≡ false) → Judged t link
    → or_next t link next ≡ verdict (reason_of link) p
stopped t p link next b low (holds h u pass) = clash b (u p)
stopped t p link next b low (fails q c lower is) =
    order-cases p q (λ lt. clash b (lower p lt)) (λ lt. clash c (low q lt)) (λ e. is next ∙ rw e)

verdict-of : (t : List ℕ) (k p : ℕ) {links : List Link} → GivenBy t k p links → first_of t links ≡ verdict k p
unfolding first_of
verdict-of t k p (here {link = link} r b low) = stopped t p link _ b low (judged t link) ∙ rw r
verdict-of t k p (later {link = link} u g) = passed t link _ u (judged t link) ∙ verdict-of t k p g

pub reason-exactly : (t : List ℕ) (k p : ℕ) → 1 ≤ k → (check t ≡ verdict k p) ↔ Given t k p
unfolding check
reason-exactly t k p one = (given-of t k p one reasons, verdict-of t k p)

-- The ten rules as statements.

data All (t : List ℕ) : List Link → Type 0 where
  none : All t []
  and : {link : Link} {links : List Link} → Holds t link → All t links → All t (link ∷ links)

-- a test that holds of each rule's number
abbrev numbers_pass : (ℕ → Bool) → List Link → Bool
numbers_pass q [] = true
numbers_pass q (link ∷ links) = q (reason_of link) && numbers_pass q links

all_one : (t : List ℕ) (link : Link) (links : List Link) (next : Verdict) → 1 ≤ reason_of link → (or_next t link next).reason ≡ 0
    → (next.reason ≡ 0 → All t links) → Judged t link → All t (link ∷ links)
all_one t link links next one z below (holds h u pass) = and h (below (sym (reason-of (pass next)) ∙ z))
all_one t link links next one z below (fails q b low is) = let e : reason_of link ≡ 0 = sym (reason-of (is next)) ∙ z in absurd (omega arith)

-- no rule has reason 0
all_of : (t : List ℕ) (links : List Link) → numbers_pass (ltb 0) links ≡ true → (first_of t links).reason ≡ 0 → All t links
unfolding first_of
all_of t [] n z = none
all_of t (link ∷ links) n z =
    all_one t link links (first_of t links) (ltb-true 0 (reason_of link) (and_left (ltb 0 (reason_of link)) (numbers_pass (ltb 0) links) n)) z
    (all_of t links (and_right (ltb 0 (reason_of link)) (numbers_pass (ltb 0) links) n)) (judged t link)

unbroken : (t : List ℕ) (link : Link) → Holds t link → (i : ℕ) → broken link t i ≡ false
unfolding broken breaks
unbroken t (of_table k rule) h i = rw h
unbroken t (of_words k rule) h i = word_kept rule t k i (λ lt. rw (h i lt))

unbroken-holds : (t : List ℕ) (link : Link) → ((i : ℕ) → broken link t i ≡ false) → Judged t link → Holds t link
unbroken-holds t link u (holds h v pass) = h
unbroken-holds t link u (fails q b low is) = clash b (u q)

all_pass : (t : List ℕ) {links : List Link} → All t links → first_of t links ≡ verdict 0 0
unfolding first_of
all_pass t none = refl
all_pass t (and {link = link} h a) = passed t link _ (unbroken t link h) (judged t link) ∙ all_pass t a

rules-of : (t : List ℕ) → All t reasons → Rules t
rules-of t (and a (and b (and c (and d (and e (and f (and g (and h (and i (and j none)))))))))) =
    record { header = a; edition = b; counts = c; exact = d; fields = e; named = f; nested = g; owned = h; reached = i; cost = j }

of-rules : (t : List ℕ) → Rules t → All t reasons
of-rules t r =
    and r.header (and r.edition (and r.counts (and r.exact
    (and r.fields (and r.named (and r.nested (and r.owned (and r.reached (and r.cost none)))))))))

pub accepted-exactly : (t : List ℕ) → (accepted t ≡ true) ↔ Rules t
unfolding check
accepted-exactly t =
    (λ h. rules-of t (all_of t reasons refl (eqb-true (check t).reason 0 h)), λ r. rw (all_pass t (of-rules t r)))

-- What the check's answer says: its reason is given at its place, and an accepted table has no place.

pub reason-given : (t : List ℕ) → ((check t).reason ≡ 0 → ⊥) → Given t (check t).reason (check t).place
reason-given t n = (reason-exactly t (check t).reason (check t).place (one (check t).reason n)).0 refl
  where
    one : (k : ℕ) → (k ≡ 0 → ⊥) → 1 ≤ k
    one k n = split (eqb k 0) (λ e. absurd (n (eqb-true k 0 e))) (λ e. let g = eqb-false k 0 e in omega arith)

pub no_place_lem : (t : List ℕ) → (check t).reason ≡ 0 → (check t).place ≡ 0
unfolding check
no_place_lem t z = place_of (all_pass t (all_of t reasons refl z))

-- What a reason that is given says: its number is some rule's, and what stands before its rule holds.

given-number : (t : List ℕ) (k p : ℕ) (q : ℕ → Bool) (links : List Link) → numbers_pass q links ≡ true → GivenBy t k p links → q k ≡ true
given-number t k p q [] h x = elim x [ ]
given-number t k p q (link ∷ links) h (here r b low) = rw r at (and_left (q (reason_of link)) (numbers_pass q links) h)
given-number t k p q (link ∷ links) h (later u g) = given-number t k p q links (and_right (q (reason_of link)) (numbers_pass q links) h) g

pub number-given : (t : List ℕ) (k p : ℕ) (q : ℕ → Bool) → numbers_pass q reasons ≡ true → Given t k p → q k ≡ true
number-given t k p q h g = given-number t k p q reasons h g

-- the first rule holds, and the rest of the chain is left, where the reason is another's
pub kept-first : (t : List ℕ) (k p : ℕ) (link : Link) {links : List Link} → (reason_of link ≡ k → ⊥) → GivenBy t k p (link ∷ links)
    → Holds t link × GivenBy t k p links
kept-first t k p link isnt (here r b low) = absurd (isnt r)
kept-first t k p link isnt (later u g) = (unbroken-holds t link u (judged t link), g)
