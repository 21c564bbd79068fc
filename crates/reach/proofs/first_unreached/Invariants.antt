-- The loop's invariant: what the whole scan gives is what the rest of it gives from this list on.
use Rattle.std.proofs.Common.{◌≡◌, ◌+◌, ◌-◌}
use Rattle.rulebook.specs.Words.{first}
use Rattle.rulebook.specs.Table.{lists_from, table_length}
use Rattle.rulebook.specs.Reasons.{reached, breaks, lowest}
use Rattle.reach.proofs.first_unreached.Given as goal

abbrev pub invariant-loop-l : goal.invariant-loop-l
invariant-loop-l l =
    let t = l.t.words in
    let place = lists_from t + l.l in
    lowest reached t ≡ first place (table_length t - place) (breaks reached t)
