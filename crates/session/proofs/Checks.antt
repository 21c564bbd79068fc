-- What the table check's answer says of sizes and places. Assumes nothing.
use Prim.Native.Nat.{ℕ, ◌≤◌}
use mathlib.Core.Path.{◌≡◌, refl, ap, ◌∙◌}
use mathlib.Core.Bool.{Bool, true, false}
use mathlib.Core.List.{List, [], ◌∷◌}
use native.Mathlib.Omega.{arith}
use lib.ListN.{length}
use lib.Dec.{ltb}
use borrow.Author.Tests.{ltb-true, ltb-false}
use Rattle.rulebook.specs.Table.{Part, table_length}
use Rattle.rulebook.specs.Reasons.{has_header, known_edition, counts_inside, exact_length, own_fields, names, nesting, owners, reached, affordable, bound}
use Rattle.rulebook.specs.Reasons.{accepted, lowest, Link, of_table, of_words, first_of, check}
use Rattle.rulebook.specs.State.{state_length}
use Rattle.laws.specs.Facts.{Counts}
use Rattle.laws.proofs.Tests.{split}
use Rattle.laws.proofs.Facts.{facts, counts_of, exact-of}
use Rattle.std.specs.Prelude.{Result}
use Rattle.tables.specs.declared.Fault.{Fault}
use Rattle.tables.specs.Finding.{Finding, finding, promised}
use Rattle.session.specs.Promises.{Stands, IsRefused}
use Rattle.tables.proofs.Chain.{from-header, from-edition, from-counts, from-length, from_fields, from-names, from-nesting, from-owners}
use Rattle.tables.proofs.Chain.{from-reached, from-cost, none_left, kept, broken, kept-by-all, broken-at}

pub longest : (t : List ℕ) → Counts t → table_length t ≤ 3185
longest t c =
    let a = c.ports in
    let b = c.networks in
    let d = c.sources in
    let e = c.expressions in
    let f = c.rules in
    let g = c.lists in
    let h = c.items in
    omega arith

-- places: each rule's is inside the table, of which no more than its longest length is judged word by word

small : (t : List ℕ) (k : ℕ) (rule : List ℕ → Bool) (links : List Link) → (first_of t links).place ≤ 3185 → (first_of t (of_table k rule ∷ links)).place ≤ 3185
small t k rule links h = split (rule t) (λ e. rw (kept t k rule links e) h) (λ e. rw (broken t k rule links e) (omega arith))

inside : (t : List ℕ) (k : ℕ) (rule : List ℕ → Part → Bool) (links : List Link) → length t ≤ 3185 → (first_of t links).place ≤ 3185
    → (first_of t (of_words k rule ∷ links)).place ≤ 3185
inside t k rule links l h =
    split (ltb (lowest rule t) (length t))
    (λ e. let b = ltb-true (lowest rule t) (length t) e in rw (broken-at t k rule links _ _ refl refl b) (omega arith))
    (λ e. let b = ltb-false (lowest rule t) (length t) e in rw (kept-by-all t k rule links _ _ refl refl b) h)

fields-small : (t : List ℕ) → length t ≤ 3185 → (first_of t from_fields).place ≤ 3185
fields-small t l =
    inside t 5 own_fields from-names l
    (inside t 6 names from-nesting l
    (inside t 7 nesting from-owners l
    (inside t 8 owners from-reached l
    (inside t 10 reached from-cost l
    (small t 9 affordable [] (rw (none_left t) (omega arith)))))))

counts-small : (t : List ℕ) → (first_of t from-counts).place ≤ 3185
counts-small t =
    split (counts_inside t)
    (λ c. rw (kept t 3 counts_inside from-length c)
    (split (exact_length t)
    (λ e. rw (kept t 4 exact_length from_fields e) (fields-small t (exact e c)))
    (λ e. rw (broken t 4 exact_length from_fields e) (omega arith))))
    (λ c. rw (broken t 3 counts_inside from-length c) (omega arith))
  where
    exact : exact_length t ≡ true → counts_inside t ≡ true → length t ≤ 3185
    exact e c = let l = longest t (counts_of t c) in omega (arith, exact-of t e)

pub place-small : (t : List ℕ) → (check t).place ≤ 3185
place-small t = rw (from-header t) (small t 1 has_header from-edition (small t 2 known_edition from-counts (counts-small t)))

pub state-small : (t : List ℕ) → accepted t ≡ true → state_length t ≤ 360
state-small t h =
    let c = (facts t h).counts in let a = c.ports in let b = c.networks in let d = c.sources in let f = c.rules in omega arith

-- What opening a session answers: the reason of a table that is refused, or the sizes.

module _ (t : List ℕ) (r : Result ℕ Fault) (tells : finding r ≡ promised t) {k i : ℕ} (kr : k ≡ (finding r).reason) (ir : i ≡ (finding r).place) where
  pub place_is : i ≡ (check t).place
  unfolding promised
  place_is = ir ∙ ap (λ (x : Finding). x.place) tells

  pub refuses : accepted t ≡ false → IsRefused t (record { reason = k; place = i })
  unfolding promised
  refuses unlike = record { reason = kr ∙ ap (λ (x : Finding). x.reason) tells; place = place_is; refused = unlike }

pub stands : (t : List ℕ) {n b : ℕ} → accepted t ≡ true → n ≡ state_length t → b ≡ bound t → Stands t (record { state = n; trace = b })
stands t ok en eb =
    let cost = (facts t ok).cost in
    let few = state-small t ok in
    record { accepted = ok; state = en; trace = eb; small_state = omega arith; small_trace = omega arith }
