-- Q-14's reason for a rule of document 01: "A rule mentions only ports of its own owner or owner 0." A table that breaks it and nothing else is
-- refused, or operator 1 sees nothing of operator 2's request. Computed on the definitions. Assumes nothing.
use Prim.Native.Nat.{ℕ}
use mathlib.Core.Path.{◌≡◌, refl}
use mathlib.Core.Bool.{true, ◌||◌, not}
use mathlib.Core.List.{List, [], ◌∷◌}
use Rattle.rulebook.specs.Words.{digit, first, all, any, sum, listed, each, until}
use Rattle.rulebook.specs.Table.{part, abort, a_size, by_item, stranger}
use Rattle.rulebook.specs.Expressions.{settled, skips_right, expression_visited, visited}
use Rattle.rulebook.specs.Expressions.{operator, expression_nests, expression_within, expression_mentions, mentions, condition, expression_holds, holds}
use Rattle.rulebook.specs.Reasons.{has_header, known_edition, counts_inside, exact_length, port_fields, expression_fields, item_fields, own_fields}
use Rattle.rulebook.specs.Reasons.{network_has, held, may_show, expression_names, list_or_none, item_names, names, item_nests, list_nests, list_within}
use Rattle.rulebook.specs.Reasons.{nesting, strangers_port, rule_owned, item_owned, owners, rule_reaches, item_reaches, list_reaches, reaches_within}
use Rattle.rulebook.specs.Reasons.{reached_by, reached, item_cost, list_cost, cost_within, bound, affordable, breaks, lowest, or_next, first_of}
use Rattle.rulebook.specs.Reasons.{check, accepted}
use Rattle.rulebook.specs.State.{thing, owner_of, pack_port, pack_rule, pack_network, port_fits, rule_fits, network_fits, thing_fits, fits_at, fits}
use Rattle.rulebook.specs.State.{fresh_port, fresh_thing, fresh_at, fresh, fresh_answer, fresh_state}
use Rattle.rulebook.specs.Lists.{trace_word, set_port, set_network, effect, unread, act, stops, value_in, undefined_in, unready, result_in, visits_in, choice}
use Rattle.rulebook.specs.Lists.{choice_in, set_result, run_item, run_items, run_list, own}
use Rattle.rulebook.specs.Arbitration.{unmark_port, unmark_ports, evaluated, store_result, store_results, visits_by, rule_visits, chooses, chosen}
use Rattle.rulebook.specs.Arbitration.{of_priority, order_below, order, run_if, run_chosen, decide, arbitrate}
use Rattle.rulebook.specs.Events.{only, request, shown, move_network, takes, wait, off_bus, bus_off, counted_network, ticked_network, tick_network}
use Rattle.rulebook.specs.Events.{tick_timer, tick_things, marked_in, arbitrate_marked, tick, changed, happen}
use Rattle.rulebook.specs.Step.{well_formed, named, present, suited, known, sent_by_owner, good_or_failed, outcomes_known, first_fault}
use Rattle.rulebook.specs.Step.{conclude, heeded, step}
use Rattle.rulebook.specs.Marked.{same}

-- a deferred port of operator 2's, "it equals 5", and a rule on it, with a list that calls, of operator 1's
abbrev pub crossing : List ℕ
crossing = 0x01010000 ∷ 0x00010001 ∷ 0x00010001 ∷ 0x22000000 ∷ 0x00005000 ∷ 0x100000FF ∷ 0x10380001 ∷ 0x0000000A ∷ []

-- the trace words of the first tick behind these events, and of them operator 1's
unfoldable pub first_tick : List ℕ → List ℕ → List ℕ
first_tick s [] = (step crossing s 16 [] 0).words
first_tick s (e ∷ es) = first_tick (step crossing s 16 [] e).state es

unfoldable pub seen_by_one : List ℕ → List ℕ
seen_by_one es = own 1 (first_tick (fresh crossing) es)

-- operator 2's request sent and struck out
pub mentioned-by-none : (not (accepted crossing) || same (seen_by_one (0x12000500 ∷ [])) (seen_by_one [])) ≡ true
unfolding digit by_item first all any sum listed each until part abort a_size stranger operator expression_nests expression_within expression_mentions mentions
    condition expression_holds holds settled skips_right expression_visited visited has_header known_edition counts_inside exact_length port_fields
    expression_fields item_fields own_fields network_has held may_show expression_names list_or_none item_names names item_nests list_nests list_within nesting
    strangers_port rule_owned item_owned owners rule_reaches item_reaches list_reaches reaches_within reached_by reached item_cost list_cost cost_within bound
    affordable breaks lowest or_next first_of check thing owner_of pack_port pack_rule pack_network port_fits rule_fits network_fits thing_fits fits_at fits fresh_port
    fresh_thing fresh_at fresh fresh_answer fresh_state trace_word set_port set_network effect unread act stops value_in undefined_in unready result_in visits_in
    choice choice_in set_result run_item run_items run_list unmark_port unmark_ports evaluated store_result store_results visits_by rule_visits chooses chosen
    of_priority order_below order run_if run_chosen decide arbitrate only request shown move_network takes wait off_bus bus_off counted_network ticked_network
    tick_network tick_timer tick_things marked_in arbitrate_marked tick changed happen well_formed named present suited known sent_by_owner good_or_failed
    outcomes_known first_fault conclude heeded step same own first_tick seen_by_one
mentioned-by-none = refl
