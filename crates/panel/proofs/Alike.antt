-- Two tables, states and traces that differ in all that is not operator 1's: its last sentence speaks of them, and of many more. Computed on
-- the definitions. Assumes nothing.
use Prim.Native.Nat.{ℕ, zero, suc, ◌+◌, ◌<◌}
use mathlib.Core.Path.{◌≡◌, refl}
use mathlib.Core.List.{List, [], ◌∷◌}
use native.Mathlib.Omega.{arith}
use lib.ListN.{get_or}
use lib.Dec.{eqb}
use Rattle.rulebook.specs.Words.{digit, first, all, any, sum, listed, each, until}
use Rattle.rulebook.specs.Table.{part, abort, a_size, by_item, stranger}
use Rattle.rulebook.specs.Expressions.{settled, skips_right, expression_visited, visited}
use Rattle.rulebook.specs.Expressions.{operator, expression_nests, expression_within, expression_mentions, mentions, condition, expression_holds, holds}
use Rattle.rulebook.specs.Reasons.{has_header, known_edition, counts_inside, exact_length, port_fields, expression_fields, item_fields, own_fields}
use Rattle.rulebook.specs.Reasons.{network_has, held, may_show, expression_names, list_or_none, item_names, names, item_nests, list_nests, list_within}
use Rattle.rulebook.specs.Reasons.{nesting, strangers_port, rule_owned, item_owned, owners, rule_reaches, item_reaches, list_reaches, reaches_within}
use Rattle.rulebook.specs.Reasons.{reached_by, reached, item_cost, list_cost, cost_within, bound, affordable, breaks, lowest, or_next, first_of}
use Rattle.rulebook.specs.Reasons.{check}
use Rattle.rulebook.specs.State.{thing, owner_of, pack_port, pack_rule, pack_network, port_fits, rule_fits, network_fits, thing_fits, fits_at, fits}
use Rattle.rulebook.specs.State.{fresh_port, fresh_thing, fresh_at, fresh, fresh_answer, fresh_state}
use Rattle.rulebook.specs.Lists.{trace_word, set_port, set_network, effect, unread, act, stops, value_in, undefined_in, unready, result_in, visits_in, choice}
use Rattle.rulebook.specs.Lists.{choice_in, set_result, run_item, run_items, run_list, own}
use Rattle.rulebook.specs.Arbitration.{unmark_port, unmark_ports, evaluated, store_result, store_results, visits_by, rule_visits, chooses, chosen}
use Rattle.rulebook.specs.Arbitration.{of_priority, order_below, order, run_if, run_chosen, decide, arbitrate}
use Rattle.rulebook.specs.Events.{only, request, shown, move_network, takes, wait, off_bus, bus_off, counted_network, ticked_network, tick_network}
use Rattle.rulebook.specs.Events.{tick_timer, tick_things, marked_in, arbitrate_marked, tick, changed, happen}
use Rattle.rulebook.specs.Step.{well_formed, named, present, suited, known, sent_by_owner, good_or_failed, outcomes_known, first_fault, refused_state}
use Rattle.rulebook.specs.Step.{conclude, heeded, step}
use Rattle.panel.specs.Same.{SameThings, SameWords}

-- two ports, one of operator 1, and a rule of operator 1 on its port; the other port is operator 2's, or operator 3's and deferred

abbrev first-table : List ℕ
first-table = 0x01020000 ∷ 0x00010001 ∷ 0x00000000 ∷ 0x01000000 ∷ 0x02000000 ∷ 0x00005000 ∷ 0x1000FFFF ∷ []

abbrev second-table : List ℕ
second-table = 0x01020000 ∷ 0x00010001 ∷ 0x00000000 ∷ 0x01000000 ∷ 0x23000000 ∷ 0x00007000 ∷ 0x1400FFFF ∷ []

abbrev first-state : List ℕ
first-state = 0x81400000 ∷ 0x80800000 ∷ 0x40000000 ∷ []

abbrev second-state : List ℕ
second-state = 0x81400000 ∷ 0xC0C00000 ∷ 0x00000000 ∷ []

abbrev first-words : List ℕ
first-words = 0xF1000000 ∷ 0xF2000000 ∷ []

abbrev second-words : List ℕ
second-words = 0x03000001 ∷ 0xF1000000 ∷ 0xF0000000 ∷ []

pub stand : (refused_state first-table first-state ≡ 0) × (refused_state second-table second-state ≡ 0)
unfolding digit by_item first all any sum listed each until part abort a_size stranger operator expression_nests expression_within expression_mentions mentions condition expression_holds holds settled skips_right expression_visited visited has_header known_edition counts_inside exact_length port_fields expression_fields item_fields own_fields network_has held may_show expression_names list_or_none item_names names item_nests list_nests list_within nesting strangers_port rule_owned item_owned owners rule_reaches item_reaches list_reaches reaches_within reached_by reached item_cost list_cost cost_within bound affordable breaks lowest or_next first_of check thing owner_of pack_port pack_rule pack_network port_fits rule_fits network_fits thing_fits fits_at fits fresh_port fresh_thing fresh_at fresh fresh_answer fresh_state trace_word set_port set_network effect unread act stops value_in undefined_in unready result_in visits_in choice choice_in set_result run_item run_items run_list unmark_port unmark_ports evaluated store_result store_results visits_by rule_visits chooses chosen of_priority order_below order run_if run_chosen decide arbitrate only request shown move_network takes wait off_bus bus_off counted_network ticked_network tick_network tick_timer tick_things marked_in arbitrate_marked tick changed happen well_formed named present suited known sent_by_owner good_or_failed outcomes_known first_fault conclude heeded step refused_state
stand = (refl, refl)

pub things : SameThings 1 first-table second-table
unfolding digit
things =
    record {
      ports = refl;
      networks = refl;
      sources = refl;
      own_ports = λ p low. by-port p low;
      own_networks = λ n low. absurd (omega arith);
      own_sources = λ k low. absurd (omega arith);
    }
  where
    by-port : (p : ℕ) → p < 2 → eqb (digit 16777216 16 (get_or first-table (3 + p) 0)) 1 ≡ eqb (digit 16777216 16 (get_or second-table (3 + p) 0)) 1
    by-port zero low = refl
    by-port (suc zero) low = refl
    by-port (suc (suc p)) low = absurd (omega arith)

pub words : SameWords 1 first-table first-state first-words second-table second-state second-words
unfolding digit own
words =
    record {
      ports = λ p low mine. by-port p low mine;
      networks = λ n low mine. absurd (omega arith);
      sources = λ k low mine. absurd (omega arith);
      trace = refl;
    }
  where
    by-port : (p : ℕ) → p < 2 → digit 16777216 16 (get_or first-table (3 + p) 0) ≡ 1 → get_or first-state p 0 ≡ get_or second-state p 0
    by-port zero low mine = refl
    by-port (suc zero) low mine = absurd (omega arith)
    by-port (suc (suc p)) low mine = absurd (omega arith)
