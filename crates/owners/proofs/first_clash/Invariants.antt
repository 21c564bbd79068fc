-- What the whole scan gives is what the rest of it gives, from this place or from this list on; inside a list, what its items say is what the rest of
-- them says.
use Rattle.std.proofs.Common.{◌≡◌, ◌+◌, ◌-◌}
use Rattle.rulebook.specs.Words as Words
use Rattle.rulebook.specs.Table.{table_length, lists_from}
use Rattle.rulebook.specs.Reasons.{item_owned, owners, breaks, lowest}
use Rattle.owners.proofs.first_clash.Given as goal

abbrev pub invariant-loop-i : goal.invariant-loop-i
invariant-loop-i l =
    let t = l.t.words in
    lowest owners t ≡ Words.first l.i (table_length t - l.i) (breaks owners t)

abbrev pub invariant-loop-i-2 : goal.invariant-loop-i-2
invariant-loop-i-2 l =
    let keeps = item_owned l.t.words l.list.owner in
    Words.all l.list.first_item l.list.item_count keeps ≡ Words.all l.i (l.i-end - l.i) keeps

abbrev pub invariant-loop-l : goal.invariant-loop-l
invariant-loop-l l =
    let t = l.t.words in
    let place = lists_from t + l.l in
    lowest owners t ≡ Words.first place (table_length t - place) (breaks owners t)
