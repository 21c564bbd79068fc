-- The marked table and the first events of its run, as bytes of two files, and what they cost: a request, a tick, a bus-off, a malformed
-- event, the request again, which visits as much as the first and is not named, and a byte too many; and what is printed of no event.
-- Computed on the definitions. Assumes nothing.
use Prim.Native.Nat.{ℕ}
use mathlib.Core.Path.{◌≡◌, refl}
use mathlib.Core.List.{List, [], ◌∷◌}
use Rattle.rulebook.specs.Words.{digit, first, all, any, sum, listed, each, until}
use Rattle.rulebook.specs.Table.{part, abort, a_size, by_item, stranger}
use Rattle.rulebook.specs.Expressions.{operator, expression_nests, expression_within, expression_mentions, mentions, condition, expression_holds, holds}
use Rattle.rulebook.specs.Expressions.{settled, skips_right, expression_visited, visited}
use Rattle.rulebook.specs.Reasons.{has_header, known_edition, counts_inside, exact_length, port_fields, expression_fields, item_fields, own_fields}
use Rattle.rulebook.specs.Reasons.{network_has, held, may_show, expression_names, list_or_none, item_names, names, item_nests, list_nests, list_within}
use Rattle.rulebook.specs.Reasons.{nesting, strangers_port, rule_owned, item_owned, owners, rule_reaches, item_reaches, list_reaches, reaches_within}
use Rattle.rulebook.specs.Reasons.{reached_by, reached, item_cost, list_cost, cost_within, bound, affordable, breaks, lowest, or_next, first_of, check}
use Rattle.rulebook.specs.State.{thing, owner_of, pack_port, pack_rule, pack_network, port_fits, rule_fits, network_fits, thing_fits, fits_at, fits, fresh_port}
use Rattle.rulebook.specs.State.{fresh_thing, fresh_at, fresh}
use Rattle.rulebook.specs.Lists.{trace_word, set_port, set_network, effect, unread, act, stops, value_in, undefined_in, unready, result_in, choice}
use Rattle.rulebook.specs.Lists.{choice_in, set_result, visits_in, judge}
use Rattle.rulebook.specs.Lists.{run_item, run_items, run_list}
use Rattle.rulebook.specs.Arbitration.{unmark_port, unmark_ports, evaluated, store_result, store_results, chooses, chosen, of_priority, order_below, order}
use Rattle.rulebook.specs.Arbitration.{visits_by, rule_visits, run_if, run_chosen, decide, arbitrate}
use Rattle.rulebook.specs.Events.{only, request, shown, move_network, takes, wait, off_bus, bus_off, counted_network, ticked_network, tick_network}
use Rattle.rulebook.specs.Events.{tick_timer, tick_things, marked_in, arbitrate_marked, tick, changed, happen}
use Rattle.rulebook.specs.Step.{well_formed, named, present, suited, known, sent_by_owner, good_or_failed, outcomes_known, refused_state, first_fault}
use Rattle.rulebook.specs.Step.{conclude, heeded, step}
use Rattle.text.specs.Words.{words_of}
use Rattle.text.specs.Lines.{hex_digit, digits, places_in, places, decimal}
use Rattle.visits.specs.Printed.{results, labelled, cost_line, cost_lines, larger, counted, most_after, which, largest_line, most_lines, cost_of, cost_printed}

abbrev table : List ℕ
table =
    0x01 ∷ 0x02 ∷ 0x01 ∷ 0x00 ∷ 0x00 ∷ 0x01 ∷ 0x00 ∷ 0x01 ∷ 0x00 ∷ 0x01 ∷ 0x00 ∷ 0x02 ∷ 0x01 ∷ 0x00 ∷ 0x00 ∷ 0x00
    ∷ 0x21 ∷ 0x00 ∷ 0x00 ∷ 0x00 ∷ 0x10 ∷ 0x10 ∷ 0x20 ∷ 0x00 ∷ 0x03 ∷ 0x0A ∷ 0x00 ∷ 0x05 ∷ 0x00 ∷ 0x00 ∷ 0x50 ∷ 0x00
    ∷ 0x10 ∷ 0x00 ∷ 0x00 ∷ 0xFF ∷ 0x18 ∷ 0x38 ∷ 0x00 ∷ 0x02 ∷ 0x40 ∷ 0x00 ∷ 0x00 ∷ 0x02 ∷ 0x00 ∷ 0x00 ∷ 0x12 ∷ 0x34 ∷ []

abbrev events : List ℕ
events =
    0x11 ∷ 0x00 ∷ 0x05 ∷ 0x00 ∷ 0x00 ∷ 0x00 ∷ 0x00 ∷ 0x00 ∷ 0x51 ∷ 0x00 ∷ 0x00 ∷ 0x00 ∷ 0x21 ∷ 0x00 ∷ 0x05 ∷ 0x00
    ∷ 0x11 ∷ 0x00 ∷ 0x05 ∷ 0x00 ∷ 0x00 ∷ []

-- `event 0 answer 0 trace 3 visits 1`, `event 1 answer 0 trace 0 visits 0`, `event 2 answer 0 trace 0 visits 0`, `event 3 answer 4 trace 0
-- visits 0`, `event 4 answer 0 trace 0 visits 1`, `most trace 3 event 0 bound 3`, `most visits 1 event 0 bound 508`
abbrev lines : List ℕ
lines =
    101 ∷ 118 ∷ 101 ∷ 110 ∷ 116 ∷ 32 ∷ 48 ∷ 32 ∷ 97 ∷ 110 ∷ 115 ∷ 119 ∷ 101 ∷ 114 ∷ 32 ∷ 48 ∷ 32
    ∷ 116 ∷ 114 ∷ 97 ∷ 99 ∷ 101 ∷ 32 ∷ 51 ∷ 32 ∷ 118 ∷ 105 ∷ 115 ∷ 105 ∷ 116 ∷ 115 ∷ 32 ∷ 49 ∷ 10
    ∷ 101 ∷ 118 ∷ 101 ∷ 110 ∷ 116 ∷ 32 ∷ 49 ∷ 32 ∷ 97 ∷ 110 ∷ 115 ∷ 119 ∷ 101 ∷ 114 ∷ 32 ∷ 48 ∷ 32
    ∷ 116 ∷ 114 ∷ 97 ∷ 99 ∷ 101 ∷ 32 ∷ 48 ∷ 32 ∷ 118 ∷ 105 ∷ 115 ∷ 105 ∷ 116 ∷ 115 ∷ 32 ∷ 48 ∷ 10
    ∷ 101 ∷ 118 ∷ 101 ∷ 110 ∷ 116 ∷ 32 ∷ 50 ∷ 32 ∷ 97 ∷ 110 ∷ 115 ∷ 119 ∷ 101 ∷ 114 ∷ 32 ∷ 48 ∷ 32
    ∷ 116 ∷ 114 ∷ 97 ∷ 99 ∷ 101 ∷ 32 ∷ 48 ∷ 32 ∷ 118 ∷ 105 ∷ 115 ∷ 105 ∷ 116 ∷ 115 ∷ 32 ∷ 48 ∷ 10
    ∷ 101 ∷ 118 ∷ 101 ∷ 110 ∷ 116 ∷ 32 ∷ 51 ∷ 32 ∷ 97 ∷ 110 ∷ 115 ∷ 119 ∷ 101 ∷ 114 ∷ 32 ∷ 52 ∷ 32
    ∷ 116 ∷ 114 ∷ 97 ∷ 99 ∷ 101 ∷ 32 ∷ 48 ∷ 32 ∷ 118 ∷ 105 ∷ 115 ∷ 105 ∷ 116 ∷ 115 ∷ 32 ∷ 48 ∷ 10
    ∷ 101 ∷ 118 ∷ 101 ∷ 110 ∷ 116 ∷ 32 ∷ 52 ∷ 32 ∷ 97 ∷ 110 ∷ 115 ∷ 119 ∷ 101 ∷ 114 ∷ 32 ∷ 48 ∷ 32
    ∷ 116 ∷ 114 ∷ 97 ∷ 99 ∷ 101 ∷ 32 ∷ 48 ∷ 32 ∷ 118 ∷ 105 ∷ 115 ∷ 105 ∷ 116 ∷ 115 ∷ 32 ∷ 49 ∷ 10
    ∷ 109 ∷ 111 ∷ 115 ∷ 116 ∷ 32 ∷ 116 ∷ 114 ∷ 97 ∷ 99 ∷ 101 ∷ 32 ∷ 51 ∷ 32
    ∷ 101 ∷ 118 ∷ 101 ∷ 110 ∷ 116 ∷ 32 ∷ 48 ∷ 32 ∷ 98 ∷ 111 ∷ 117 ∷ 110 ∷ 100 ∷ 32 ∷ 51 ∷ 10
    ∷ 109 ∷ 111 ∷ 115 ∷ 116 ∷ 32 ∷ 118 ∷ 105 ∷ 115 ∷ 105 ∷ 116 ∷ 115 ∷ 32 ∷ 49 ∷ 32
    ∷ 101 ∷ 118 ∷ 101 ∷ 110 ∷ 116 ∷ 32 ∷ 48 ∷ 32 ∷ 98 ∷ 111 ∷ 117 ∷ 110 ∷ 100 ∷ 32 ∷ 53 ∷ 48 ∷ 56 ∷ 10 ∷ []

-- `most trace 0 event none bound 3`, `most visits 0 event none bound 508`
abbrev none : List ℕ
none =
    109 ∷ 111 ∷ 115 ∷ 116 ∷ 32 ∷ 116 ∷ 114 ∷ 97 ∷ 99 ∷ 101 ∷ 32 ∷ 48 ∷ 32
    ∷ 101 ∷ 118 ∷ 101 ∷ 110 ∷ 116 ∷ 32 ∷ 110 ∷ 111 ∷ 110 ∷ 101 ∷ 32 ∷ 98 ∷ 111 ∷ 117 ∷ 110 ∷ 100 ∷ 32 ∷ 51 ∷ 10
    ∷ 109 ∷ 111 ∷ 115 ∷ 116 ∷ 32 ∷ 118 ∷ 105 ∷ 115 ∷ 105 ∷ 116 ∷ 115 ∷ 32 ∷ 48 ∷ 32
    ∷ 101 ∷ 118 ∷ 101 ∷ 110 ∷ 116 ∷ 32 ∷ 110 ∷ 111 ∷ 110 ∷ 101 ∷ 32 ∷ 98 ∷ 111 ∷ 117 ∷ 110 ∷ 100 ∷ 32 ∷ 53 ∷ 48 ∷ 56 ∷ 10 ∷ []

pub example : (cost_printed table events ≡ lines) × (cost_printed table [] ≡ none)
unfolding digit by_item first all any sum listed each until part abort a_size stranger operator expression_nests expression_within expression_mentions mentions condition expression_holds holds has_header known_edition counts_inside exact_length port_fields expression_fields item_fields own_fields network_has held may_show expression_names list_or_none item_names names item_nests list_nests list_within nesting strangers_port rule_owned item_owned owners rule_reaches item_reaches list_reaches reaches_within reached_by reached item_cost list_cost cost_within bound affordable breaks lowest or_next first_of check thing owner_of pack_port pack_rule pack_network port_fits rule_fits network_fits thing_fits fits_at fits fresh_port fresh_thing fresh_at fresh trace_word set_port set_network effect unread act stops value_in undefined_in unready result_in choice choice_in set_result run_item run_items run_list unmark_port unmark_ports evaluated store_result store_results chooses chosen of_priority order_below order run_if run_chosen decide arbitrate only request shown move_network takes wait off_bus bus_off counted_network ticked_network tick_network tick_timer tick_things marked_in arbitrate_marked tick changed happen well_formed named present suited known sent_by_owner good_or_failed outcomes_known first_fault conclude heeded step refused_state words_of hex_digit digits places_in places decimal settled skips_right expression_visited visited visits_in judge visits_by rule_visits results labelled cost_line cost_lines larger counted most_after which largest_line most_lines cost_of cost_printed
example = (refl, refl)
