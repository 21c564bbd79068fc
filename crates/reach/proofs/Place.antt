-- Rule 10 is broken by lists alone: the scan of the table is a scan of the lists, by their flags. Assumes nothing.
use Prim.Native.Nat.{ℕ, ◌+◌, ◌-◌, ◌<◌, ◌≤◌}
use mathlib.Core.Path.{◌≡◌, sym, ap, ◌∙◌}
use mathlib.Core.Bool.{true, false, not}
use mathlib.Core.List.{List}
use native.Mathlib.Omega.{arith}
use lib.ListN.{length}
use Rattle.rulebook.specs.Words.{first}
use Rattle.rulebook.specs.Table.{table_length, lists, items, lists_from, items_from, part}
use Rattle.rulebook.specs.Reasons.{reached, breaks, lowest}
use Rattle.walks.proofs.Walks.{first_past, first-none, first-here, first-turn, same_first}
use Rattle.words.specs.Flags.{flagged}
use Rattle.laws.proofs.Parts.{part-list, no-list-before, in-items}
use Rattle.laws.proofs.Started.{no-list}
use Rattle.reach.specs.Raised.{Judged, Closed}
use Rattle.reach.proofs.Rounds.{up-exactly}

module _ (t depths : List ℕ) (j : Judged t depths) where
  kept-before : (i : ℕ) → 0 ≤ i → i < 0 + lists_from t → breaks reached t i ≡ false
  unfolding breaks
  kept-before i a b = ap not (no-list t (part t i) (λ l. no-list-before t i l (omega arith)))

  kept-after : (i : ℕ) → items_from t ≤ i → breaks reached t i ≡ false
  unfolding breaks reached
  kept-after i a = rw (in-items t i (omega arith))

  -- where the loop begins
  pub lists-start : lowest reached t ≡ first (lists_from t + 0) (table_length t - (lists_from t + 0)) (breaks reached t)
  unfolding lowest
  lists-start =
      let long : length t ≡ lists_from t + (lists t + items t) = omega (arith, j.whole) in
      rw long
      (first_past 0 (lists_from t) (lists t + items t) (breaks reached t) kept-before
      ∙ same_first (breaks reached t) (omega arith) (omega arith))

  -- a turn: list l's flag is read
  module _ (flags : List ℕ) (c : Closed 1 t flags) (l : ℕ) (there : l < lists t) where
    judged : breaks reached t (lists_from t + l) ≡ not (flagged flags l)
    unfolding breaks
    judged = rw (part-list t l (omega arith)) (ap not (sym (up-exactly t depths j flags c l (omega arith))))

    inside : lists_from t + l < table_length t
    inside = omega arith

    pub list-breaks : flagged flags l ≡ false → first (lists_from t + l) (table_length t - (lists_from t + l)) (breaks reached t) ≡ lists_from t + l
    list-breaks e = first-here (lists_from t + l) (table_length t) (breaks reached t) inside (judged ∙ ap not e)

    pub list-keeps : flagged flags l ≡ true
        → first (lists_from t + l) (table_length t - (lists_from t + l)) (breaks reached t)
        ≡ first (lists_from t + (l + 1)) (table_length t - (lists_from t + (l + 1))) (breaks reached t)
    list-keeps e =
        first-turn (lists_from t + l) (table_length t) (breaks reached t) inside (judged ∙ ap not e) ∙ same_first (breaks reached t) (omega arith) (omega arith)

  -- past the lists
  pub lists-end : (l : ℕ) → l ≡ lists t → first (lists_from t + l) (table_length t - (lists_from t + l)) (breaks reached t) ≡ table_length t
  lists-end l e =
      same_first {i = lists_from t + l} {j = items_from t} {m = table_length t - (lists_from t + l)} {n = items t} (breaks reached t) (omega arith) (omega arith)
      ∙ first-none (items_from t) (items t) (breaks reached t) kept-after
      ∙ omega arith
