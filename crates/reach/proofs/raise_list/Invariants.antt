-- The loop's invariant: what the items of the whole list put up is what is up, or what the rest of them put up.
use Rattle.std.proofs.Common.{◌≡◌, ℕ, ◌-◌, ◌<◌, ◌||◌, length}
use Rattle.rulebook.specs.Words.{any}
use Rattle.rulebook.specs.Table.{no_list, first_item, item_count}
use Rattle.rulebook.specs.Reasons.{item_reaches}
use Rattle.words.specs.Flags.{flagged}
use Rattle.reach.specs.Raised.{is_list}
use Rattle.reach.proofs.raise_list.Given as goal

abbrev pub invariant-loop-i : goal.invariant-loop-i
invariant-loop-i l =
    let t = l.t.words in
    let rest = l.i-iterator in
    record {
      long : length l.flags ≡ 256;
      says : (k : ℕ) → k < no_list
          → (flagged l.initial.flags k || any (first_item t l.l) (item_count t l.l) (item_reaches t (is_list k)))
          ≡ (flagged l.flags k || any rest.start (rest.end - rest.start) (item_reaches t (is_list k)));
    }
