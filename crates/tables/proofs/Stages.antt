-- Reasons 5 to 10 one after the other, of a table that none of reasons 1 to 4 refuses: n is its length, and each scan gives the first word that breaks
-- its rule. Assumes nothing.
use Prim.Native.Nat.{ℕ, ◌<◌, ◌≤◌, min}
use mathlib.Core.Path.{◌≡◌, refl, sym, ◌∙◌}
use mathlib.Core.List.{List}
use lib.ListN.{length}
use borrow.Author.Tests.{eqb-true}
use Rattle.rulebook.specs.Listing.{shape_reason}
use Rattle.rulebook.specs.Table.{table_length, lists, no_list}
use Rattle.rulebook.specs.Reasons.{exact_length, own_fields, names, nesting, owners, reached, bound, lowest, Link, first_of, check}
use Rattle.laws.specs.Facts.{Nested}
use Rattle.laws.proofs.Facts.{counts_of}
use Rattle.nesting.specs.Depths.{Depths}
use Rattle.reach.specs.Raised.{Judged}
use Rattle.tables.specs.Finding.{refused, promised}
use Rattle.tables.proofs.Chain.{from-names, from-nesting, from-owners, from-reached, from-cost, none_left}
use Rattle.tables.proofs.Chain.{kept, broken, kept-by-all, broken-at, refuses, dear, cheap, accepts, kept-everywhere, no-deep-list}
use Rattle.tables.proofs.Shapes.{kept_of, left-fields}

abbrev Left : List ℕ → List Link → Type 0
Left t links = check t ≡ first_of t links

module _ (t : List ℕ) (shaped : shape_reason t ≡ 0) where
  pub whole : length t ≡ table_length t
  unfolding exact_length
  whole = eqb-true _ _ (kept_of t shaped).exact

  pub few-lists : lists t ≤ no_list
  few-lists = (counts_of t (kept_of t shaped).counts).lists

  module _ {n : ℕ} (end : n ≡ table_length t) {fault : ℕ} (of-fields : fault ≡ lowest own_fields t) where
    long : length t ≡ n
    long = whole ∙ sym end

    pub misfit : fault < n → refused 5 fault ≡ promised t
    misfit h = refuses t 5 fault refl (left-fields t shaped ∙ broken-at t 5 own_fields _ _ _ long of-fields h)

    module _ (fields : n ≤ fault) {misname : ℕ} (of-names : misname ≡ lowest names t) where
      left-names : Left t from-names
      left-names = left-fields t shaped ∙ kept-by-all t 5 own_fields _ _ _ long of-fields fields

      pub misnamed : misname < n → refused 6 misname ≡ promised t
      misnamed h = refuses t 6 misname refl (left-names ∙ broken-at t 6 names _ _ _ long of-names h)

      module _ (named : n ≤ misname) {deep : ℕ} (of-nesting : deep ≡ lowest nesting t) where
        left-nesting : Left t from-nesting
        left-nesting = left-names ∙ kept-by-all t 6 names _ _ _ long of-names named

        pub too-deep : deep < n → refused 7 deep ≡ promised t
        too-deep h = refuses t 7 deep refl (left-nesting ∙ broken-at t 7 nesting _ _ _ long of-nesting h)

        module _ (shallow : n ≤ deep) where
          left-owners : Left t from-owners
          left-owners = left-nesting ∙ kept-by-all t 7 nesting _ _ _ long of-nesting shallow

          pub nested : Nested t
          nested = no-deep-list t whole (kept-everywhere nesting t _ _ long of-nesting shallow)

          pub judged : {depths : List ℕ} → Depths 7 t depths → Judged t depths
          judged found =
              record {
                sorted = record { few = few-lists; found = found };
                whole = whole;
                named = kept-everywhere names t _ _ long of-names named;
                nested = kept-everywhere nesting t _ _ long of-nesting shallow;
              }

          module _ {clash : ℕ} (of-owners : clash ≡ lowest owners t) where
            pub clashes : clash < n → refused 8 clash ≡ promised t
            clashes h = refuses t 8 clash refl (left-owners ∙ broken-at t 8 owners _ _ _ long of-owners h)

            module _ (owned : n ≤ clash) {lone : ℕ} (of-reached : lone ≡ lowest reached t) where
              left-reached : Left t from-reached
              left-reached = left-owners ∙ kept-by-all t 8 owners _ _ _ long of-owners owned

              pub unreached : lone < n → refused 10 lone ≡ promised t
              unreached h = refuses t 10 lone refl (left-reached ∙ broken-at t 10 reached _ _ _ long of-reached h)

              module _ (all : n ≤ lone) {b : ℕ} (of-cost : b ≡ min 4097 (bound t)) where
                left-cost : Left t from-cost
                left-cost = left-reached ∙ kept-by-all t 10 reached _ _ _ long of-reached all

                pub too-dear : 4096 < b → refused 9 0 ≡ promised t
                too-dear h = refuses t 9 0 refl (left-cost ∙ broken t 9 _ _ (dear t b of-cost h))

                pub affords : b ≤ 4096 → record { reason = 0; place = 0; bound = b } ≡ promised t
                affords h = accepts t b (left-cost ∙ kept t 9 _ _ (cheap t b of-cost h) ∙ none_left t) of-cost h
