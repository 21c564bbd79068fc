-- The marked run's panel, computed on the definitions. Assumes nothing.
use mathlib.Core.Path.{◌≡◌, refl}
use mathlib.Core.Bool.{true}
use Rattle.rulebook.specs.Words.{digit, first, all, any, sum, listed, each, until}
use Rattle.rulebook.specs.Table.{part, abort, a_size, by_item, stranger}
use Rattle.rulebook.specs.Expressions.{settled, skips_right, expression_visited, visited}
use Rattle.rulebook.specs.Expressions.{operator, expression_nests, expression_within, expression_mentions, mentions, condition, expression_holds, holds}
use Rattle.rulebook.specs.Reasons.{has_header, known_edition, counts_inside, exact_length, port_fields, expression_fields, item_fields, own_fields}
use Rattle.rulebook.specs.Reasons.{network_has, held, may_show, expression_names, list_or_none, item_names, names, item_nests, list_nests, list_within}
use Rattle.rulebook.specs.Reasons.{nesting, strangers_port, rule_owned, item_owned, owners, rule_reaches, item_reaches, list_reaches, reaches_within}
use Rattle.rulebook.specs.Reasons.{reached_by, reached, item_cost, list_cost, cost_within, bound, affordable, breaks, lowest, or_next, first_of}
use Rattle.rulebook.specs.Reasons.{check}
use Rattle.rulebook.specs.State.{thing, owner_of, pack_port, pack_rule, pack_network, port_fits, rule_fits, network_fits, thing_fits, fits_at, fits}
use Rattle.rulebook.specs.State.{fresh_port, fresh_thing, fresh_at, fresh, fresh_answer, fresh_state}
use Rattle.rulebook.specs.Lists.{trace_word, set_port, set_network, effect, unread, act, stops, value_in, undefined_in, unready, result_in, visits_in, choice}
use Rattle.rulebook.specs.Lists.{choice_in, set_result, run_item, run_items, run_list}
use Rattle.rulebook.specs.Arbitration.{unmark_port, unmark_ports, evaluated, store_result, store_results, visits_by, rule_visits, chooses, chosen}
use Rattle.rulebook.specs.Arbitration.{of_priority, order_below, order, run_if, run_chosen, decide, arbitrate}
use Rattle.rulebook.specs.Events.{only, request, shown, move_network, takes, wait, off_bus, bus_off, counted_network, ticked_network, tick_network}
use Rattle.rulebook.specs.Events.{tick_timer, tick_things, marked_in, arbitrate_marked, tick, changed, happen}
use Rattle.rulebook.specs.Step.{well_formed, named, present, suited, known, sent_by_owner, good_or_failed, outcomes_known, first_fault, refused_state}
use Rattle.rulebook.specs.Step.{conclude, heeded, step}
use Rattle.rulebook.specs.Marked.{table, marked, after, same, at_fresh, after_request}
use Rattle.text.specs.Lines.{hex_digit, digits, places_in, places, decimal, hex_line}
use Rattle.panel.specs.Printed.{by_part, count, owner, shown_word, label, numeral, line, line_at, lines, part_lines, panel, answer}
use Rattle.panel.specs.Marked.{request_words, six_lines, marked_panel}

pub claim : marked_panel ≡ true
unfolding digit by_item first all any sum listed each until part abort a_size stranger operator expression_nests expression_within expression_mentions mentions condition expression_holds holds settled skips_right expression_visited visited has_header known_edition counts_inside exact_length port_fields expression_fields item_fields own_fields network_has held may_show expression_names list_or_none item_names names item_nests list_nests list_within nesting strangers_port rule_owned item_owned owners rule_reaches item_reaches list_reaches reaches_within reached_by reached item_cost list_cost cost_within bound affordable breaks lowest or_next first_of check thing owner_of pack_port pack_rule pack_network port_fits rule_fits network_fits thing_fits fits_at fits fresh_port fresh_thing fresh_at fresh fresh_answer fresh_state trace_word set_port set_network effect unread act stops value_in undefined_in unready result_in visits_in choice choice_in set_result run_item run_items run_list unmark_port unmark_ports evaluated store_result store_results visits_by rule_visits chooses chosen of_priority order_below order run_if run_chosen decide arbitrate only request shown move_network takes wait off_bus bus_off counted_network ticked_network tick_network tick_timer tick_things marked_in arbitrate_marked tick changed happen well_formed named present suited known sent_by_owner good_or_failed outcomes_known first_fault conclude heeded step table marked after same at_fresh after_request refused_state hex_digit digits places_in places decimal hex_line by_part count owner shown_word label numeral line line_at lines part_lines panel answer request_words six_lines marked_panel
claim = refl
