-- The marked table and its first event, as bytes of two files, and what a day of it prints, alone and with an event behind it that is
-- refused: computed on the definitions. Assumes nothing.
use Prim.Native.Nat.{ℕ}
use mathlib.Core.Path.{◌≡◌, refl}
use mathlib.Core.List.{List, [], ◌∷◌, ◌++◌}
use Rattle.rulebook.specs.Words.{digit, first, all, any, sum, listed, each, until}
use Rattle.rulebook.specs.Table.{part, abort, a_size, by_item, stranger}
use Rattle.rulebook.specs.Expressions.{operator, expression_nests, expression_within, expression_mentions, mentions, condition, expression_holds, holds}
use Rattle.rulebook.specs.Expressions.{settled, skips_right, expression_visited, visited}
use Rattle.rulebook.specs.Reasons.{has_header, known_edition, counts_inside, exact_length, port_fields, expression_fields, item_fields, own_fields}
use Rattle.rulebook.specs.Reasons.{network_has, held, may_show, expression_names, list_or_none, item_names, names, item_nests, list_nests, list_within}
use Rattle.rulebook.specs.Reasons.{nesting, strangers_port, rule_owned, item_owned, owners, rule_reaches, item_reaches, list_reaches, reaches_within}
use Rattle.rulebook.specs.Reasons.{reached_by, reached, item_cost, list_cost, cost_within, bound, affordable, breaks, lowest, or_next, first_of, check}
use Rattle.rulebook.specs.State.{thing, owner_of, pack_port, pack_rule, pack_network, port_fits, rule_fits, network_fits, thing_fits, fits_at, fits, fresh_port}
use Rattle.rulebook.specs.State.{fresh_thing, fresh_at, fresh}
use Rattle.rulebook.specs.Lists.{trace_word, set_port, set_network, effect, unread, act, stops, value_in, undefined_in, unready, result_in, choice}
use Rattle.rulebook.specs.Lists.{visits_in, choice_in, set_result}
use Rattle.rulebook.specs.Lists.{run_item, run_items, run_list}
use Rattle.rulebook.specs.Arbitration.{unmark_port, unmark_ports, evaluated, store_result, store_results, chooses, chosen, of_priority, order_below, order}
use Rattle.rulebook.specs.Arbitration.{visits_by, rule_visits, run_if, run_chosen, decide, arbitrate}
use Rattle.rulebook.specs.Events.{only, request, shown, move_network, takes, wait, off_bus, bus_off, counted_network, ticked_network, tick_network}
use Rattle.rulebook.specs.Events.{tick_timer, tick_things, marked_in, arbitrate_marked, tick, changed, happen}
use Rattle.rulebook.specs.Step.{well_formed, named, present, suited, known, sent_by_owner, good_or_failed, outcomes_known, refused_state, first_fault, conclude}
use Rattle.rulebook.specs.Step.{heeded, step}
use Rattle.rulebook.specs.Play.{goes_on, play_on, play}
use Rattle.text.specs.Words.{words_of}
use Rattle.text.specs.Lines.{hex_digit, digits, places_in, places, decimal, hex_line}
use Rattle.day.specs.Printed.{trace_line, trace_lines, label, number, thing_line, lines_from, state_lines, end_lines, whole, day_lines, played}
use Rattle.day.specs.Printed as printed

abbrev table : List ℕ
table =
    0x01 ∷ 0x02 ∷ 0x01 ∷ 0x00 ∷ 0x00 ∷ 0x01 ∷ 0x00 ∷ 0x01 ∷ 0x00 ∷ 0x01 ∷ 0x00 ∷ 0x02 ∷ 0x01 ∷ 0x00 ∷ 0x00 ∷ 0x00
    ∷ 0x21 ∷ 0x00 ∷ 0x00 ∷ 0x00 ∷ 0x10 ∷ 0x10 ∷ 0x20 ∷ 0x00 ∷ 0x03 ∷ 0x0A ∷ 0x00 ∷ 0x05 ∷ 0x00 ∷ 0x00 ∷ 0x50 ∷ 0x00
    ∷ 0x10 ∷ 0x00 ∷ 0x00 ∷ 0xFF ∷ 0x18 ∷ 0x38 ∷ 0x00 ∷ 0x02 ∷ 0x40 ∷ 0x00 ∷ 0x00 ∷ 0x02 ∷ 0x00 ∷ 0x00 ∷ 0x12 ∷ 0x34 ∷ []

abbrev event : List ℕ
event = 0x11 ∷ 0x00 ∷ 0x05 ∷ 0x00 ∷ []

-- behind it a malformed event, a tick and a byte too many
abbrev more : List ℕ
more = 0x21 ∷ 0x00 ∷ 0x05 ∷ 0x00 ∷ 0x00 ∷ 0x00 ∷ 0x00 ∷ 0x00 ∷ 0x11 ∷ []

-- `trace F1000000`, `trace 41000002`, `trace 01001234`, `port 0 81400000`, `port 1 00000000`, `rule 0 40000000`, `network 0 80000000`,
-- `taken 1`, `visits 1`, and `answer` with this digit
abbrev lines : ℕ → List ℕ
lines answer =
    116 ∷ 114 ∷ 97 ∷ 99 ∷ 101 ∷ 32 ∷ 70 ∷ 49 ∷ 48 ∷ 48 ∷ 48 ∷ 48 ∷ 48 ∷ 48 ∷ 10
    ∷ 116 ∷ 114 ∷ 97 ∷ 99 ∷ 101 ∷ 32 ∷ 52 ∷ 49 ∷ 48 ∷ 48 ∷ 48 ∷ 48 ∷ 48 ∷ 50 ∷ 10
    ∷ 116 ∷ 114 ∷ 97 ∷ 99 ∷ 101 ∷ 32 ∷ 48 ∷ 49 ∷ 48 ∷ 48 ∷ 49 ∷ 50 ∷ 51 ∷ 52 ∷ 10
    ∷ 112 ∷ 111 ∷ 114 ∷ 116 ∷ 32 ∷ 48 ∷ 32 ∷ 56 ∷ 49 ∷ 52 ∷ 48 ∷ 48 ∷ 48 ∷ 48 ∷ 48 ∷ 10
    ∷ 112 ∷ 111 ∷ 114 ∷ 116 ∷ 32 ∷ 49 ∷ 32 ∷ 48 ∷ 48 ∷ 48 ∷ 48 ∷ 48 ∷ 48 ∷ 48 ∷ 48 ∷ 10
    ∷ 114 ∷ 117 ∷ 108 ∷ 101 ∷ 32 ∷ 48 ∷ 32 ∷ 52 ∷ 48 ∷ 48 ∷ 48 ∷ 48 ∷ 48 ∷ 48 ∷ 48 ∷ 10
    ∷ 110 ∷ 101 ∷ 116 ∷ 119 ∷ 111 ∷ 114 ∷ 107 ∷ 32 ∷ 48 ∷ 32 ∷ 56 ∷ 48 ∷ 48 ∷ 48 ∷ 48 ∷ 48 ∷ 48 ∷ 48 ∷ 10
    ∷ 116 ∷ 97 ∷ 107 ∷ 101 ∷ 110 ∷ 32 ∷ 49 ∷ 10
    ∷ 118 ∷ 105 ∷ 115 ∷ 105 ∷ 116 ∷ 115 ∷ 32 ∷ 49 ∷ 10
    ∷ 97 ∷ 110 ∷ 115 ∷ 119 ∷ 101 ∷ 114 ∷ 32 ∷ answer ∷ 10 ∷ []

pub example : (played table event ≡ lines 48) × (played table (event ++ more) ≡ lines 52)
unfolding digit by_item first all any sum listed each until part abort a_size stranger operator expression_nests expression_within expression_mentions mentions condition expression_holds holds settled skips_right expression_visited visited has_header known_edition counts_inside exact_length port_fields expression_fields item_fields own_fields network_has held may_show expression_names list_or_none item_names names item_nests list_nests list_within nesting strangers_port rule_owned item_owned owners rule_reaches item_reaches list_reaches reaches_within reached_by reached item_cost list_cost cost_within bound affordable breaks lowest or_next first_of check thing owner_of pack_port pack_rule pack_network port_fits rule_fits network_fits thing_fits fits_at fits fresh_port fresh_thing fresh_at fresh trace_word set_port set_network effect unread act stops value_in undefined_in unready result_in visits_in choice choice_in set_result run_item run_items run_list unmark_port unmark_ports evaluated store_result store_results visits_by rule_visits chooses chosen of_priority order_below order run_if run_chosen decide arbitrate only request shown move_network takes wait off_bus bus_off counted_network ticked_network tick_network tick_timer tick_things marked_in arbitrate_marked tick changed happen well_formed named present suited known sent_by_owner good_or_failed outcomes_known first_fault conclude heeded step refused_state goes_on play_on play words_of hex_digit digits places_in places decimal hex_line trace_line trace_lines label number printed.named thing_line lines_from state_lines end_lines whole day_lines played
example = (refl, refl)
