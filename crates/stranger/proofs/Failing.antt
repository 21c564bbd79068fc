-- The tables computed. Assumes nothing.
use mathlib.Core.Path.{◌≡◌, refl, sym, ap}
use mathlib.Core.Bool.{true, ◌&&◌}
use mathlib.Core.List.{List, [], ◌∷◌}
use Prim.Native.Nat.{ℕ}
use native.Mathlib.Omega.{arith}
use lib.ListN.{length}
use Rattle.rulebook.specs.Words.{digit, first, all, any, sum, listed, each, until}
use Rattle.rulebook.specs.Table.{part, abort, a_size, by_item, stranger}
use Rattle.rulebook.specs.Expressions.{operator, expression_nests, expression_within, expression_mentions, mentions, condition, expression_holds, holds}
use Rattle.rulebook.specs.Expressions.{settled, skips_right, expression_visited, visited}
use Rattle.rulebook.specs.Reasons.{has_header, known_edition, counts_inside, exact_length, port_fields, expression_fields, item_fields, own_fields}
use Rattle.rulebook.specs.Reasons.{network_has, held, may_show, expression_names, list_or_none, item_names, names, item_nests, list_nests, list_within}
use Rattle.rulebook.specs.Reasons.{nesting, strangers_port, rule_owned, item_owned, owners, rule_reaches, item_reaches, list_reaches, reaches_within}
use Rattle.rulebook.specs.Reasons.{reached_by, reached, item_cost, list_cost, cost_within, bound, affordable, breaks, lowest, or_next, first_of, check}
use Rattle.rulebook.specs.State.{thing, owner_of, pack_port, pack_rule, pack_network, port_fits, rule_fits, network_fits, thing_fits, fits_at, fits, fresh_port}
use Rattle.rulebook.specs.State.{fresh_thing, fresh_at, fresh, fresh_answer, fresh_state}
use Rattle.rulebook.specs.Lists.{trace_word, set_port, set_network, effect, unread, act, stops, value_in, undefined_in, unready, result_in, visits_in, choice}
use Rattle.rulebook.specs.Lists.{choice_in, set_result, run_item, run_items, run_list, own}
use Rattle.rulebook.specs.Arbitration.{unmark_port, unmark_ports, evaluated, store_result, store_results, visits_by, rule_visits, chooses, chosen}
use Rattle.rulebook.specs.Arbitration.{of_priority, order_below, order}
use Rattle.rulebook.specs.Arbitration.{run_if, run_chosen, decide, arbitrate}
use Rattle.rulebook.specs.Events.{only, request, shown, move_network, takes, wait, off_bus, bus_off, counted_network, ticked_network, tick_network}
use Rattle.rulebook.specs.Events.{tick_timer, tick_things, marked_in, arbitrate_marked, tick, changed, happen}
use Rattle.rulebook.specs.Step.{well_formed, named, present, suited, known, sent_by_owner, good_or_failed, outcomes_known, first_fault, conclude}
use Rattle.rulebook.specs.Step.{heeded, step}
use Rattle.rulebook.specs.Marked.{same, gives}
use Rattle.stranger.specs.Outcomes.{calls, behind, met_at, met}
use Rattle.stranger.specs.Failing.{lending, after_all, eaters, eaters_fresh, eaten, both_owners, both_fresh, with_stranger, struck, both_fail}
use Rattle.stranger.specs.Nothing.{Sending, is_shared, shared, events_of, met_by_each, sending, Ran, ShareAllBut}
use Rattle.stranger.specs.Nothing as runs
use Rattle.stranger.specs.Differ.{three, tick_behind, run, answers_of, last_words, with_taken, with_refused, may_differ, platform_needed}
use Rattle.stranger.specs.Differ.{both_failing, both_failing_struck, own_and_ticks, CountsToo, PositionsToo, PlatformFree, OutcomesFree}
use Rattle.stranger.proofs.Strangers.{empty}

-- a run as Differ computes it
ran-behind : (t : List ℕ) (o : ℕ) (s es os : List ℕ) → outcomes_known os ≡ true → Ran t o s (tick_behind t s es os)
unfolding tick_behind outcomes_known all
ran-behind t o s [] os known = runs.sent (bound t) os 0 (λ k. record { enough = omega arith; known = known }) runs.none
ran-behind t o s (e ∷ es) os known =
    runs.sent (bound t) [] e (λ k. record { enough = omega arith; known = refl }) (ran-behind t o (step t s (bound t) [] e).state es os known)

pub record Computed : Type 0 where
  pub runs : (eaten && both_fail && may_differ && platform_needed) ≡ true
  -- Q-14's condition is met where calls of both owners fail, with strangers' events that differ: what was met in the three shared events agrees
  pub may_share : ShareAllBut both_owners 1 both_failing both_failing_struck
  -- the stronger statements are false, each by two runs
  pub broken : (CountsToo → ⊥) × (PositionsToo → ⊥) × (PlatformFree → ⊥) × (OutcomesFree → ⊥)

pub computed : Computed
unfolding digit first all any sum listed each until part abort a_size by_item stranger operator expression_nests expression_within expression_mentions
    mentions condition expression_holds holds settled skips_right expression_visited visited has_header known_edition counts_inside exact_length port_fields
    expression_fields item_fields own_fields
    network_has held may_show expression_names list_or_none item_names names item_nests list_nests list_within nesting strangers_port rule_owned item_owned owners
    rule_reaches item_reaches list_reaches reaches_within reached_by reached item_cost list_cost cost_within bound affordable breaks lowest or_next first_of
    check thing owner_of pack_port pack_rule pack_network port_fits rule_fits network_fits thing_fits fits_at fits fresh_port fresh_thing fresh_at fresh
    fresh_answer fresh_state trace_word set_port set_network effect unread act stops value_in undefined_in unready result_in visits_in choice choice_in set_result run_item
    run_items run_list unmark_port unmark_ports evaluated store_result store_results visits_by rule_visits chooses chosen of_priority order_below order
    run_if run_chosen decide
    arbitrate only request shown move_network takes wait off_bus bus_off counted_network ticked_network tick_network tick_timer tick_things marked_in
    arbitrate_marked tick changed happen well_formed named present suited known sent_by_owner good_or_failed outcomes_known first_fault conclude heeded
    step same gives calls behind met_at met lending after_all both_owners both_fresh with_stranger struck both_fail eaters eaters_fresh eaten
    own sending is_shared shared events_of three tick_behind run answers_of last_words with_taken with_refused may_differ platform_needed
    met_by_each both_failing both_failing_struck own_and_ticks
computed =
    record {
      runs = refl;
      may_share = record { events = refl; outcomes = λ two. (tt, (tt, ((refl, (refl, tt)), tt))) };
      broken = (counts, positions, platform, outcomes);
    }
  where
    ran : (es : List ℕ) → Ran three 1 (fresh three) (run es)
    ran es = ran-behind three 1 (fresh three) es [] refl

    taken : Ran three 1 (fresh three) with_taken
    taken = ran (0x11010500 ∷ 0x12020500 ∷ [])

    refused : Ran three 1 (fresh three) with_refused
    refused = ran (0x92000000 ∷ 0x11010500 ∷ 0x12FF0500 ∷ 0x12010700 ∷ [])

    alike : ShareAllBut three 1 with_taken with_refused
    alike = record { events = refl; outcomes = λ two. let y : ◌≡◌ {A = ℕ} 1 2 = two in absurd (omega arith) }

    counts : CountsToo → ⊥
    counts h = let two : ◌≡◌ {A = ℕ} 5 2 = (h with_taken with_refused taken refused alike).1.0 in omega arith

    positions : PositionsToo → ⊥
    positions h = let here : ◌≡◌ {A = ℕ} 0xF1010000 0 = (h with_taken with_refused taken refused alike).1.0 3 refl in omega arith

    platform : PlatformFree → ⊥
    platform h =
        let words : ◌≡◌ {A = List ℕ} (0xF1000000 ∷ 0x0100000A ∷ []) [] =
        (h (run (0x10000500 ∷ [])) (run []) (ran (0x10000500 ∷ [])) (ran []) refl).0.words.trace in
        empty (sym words)

    -- operator 2's request takes the tick's one failed outcome for its own call
    behind : List ℕ → List Sending
    behind es = tick_behind eaters (fresh eaters) es (1 ∷ [])

    ran-eaters : (es : List ℕ) → Ran eaters 1 (fresh eaters) (behind es)
    ran-eaters es = ran-behind eaters 1 (fresh eaters) es (1 ∷ []) refl

    outcomes : OutcomesFree → ⊥
    outcomes h =
        let words : ◌≡◌ {A = List ℕ} (0xF1000000 ∷ 0x0100000A ∷ 0x0100000B ∷ []) (0xF1000000 ∷ 0x0100000A ∷ []) =
        (h (behind (0x11000500 ∷ 0x12010500 ∷ [])) (behind (0x11000500 ∷ [])) (ran-eaters (0x11000500 ∷ 0x12010500 ∷ [])) (ran-eaters (0x11000500 ∷ [])) refl
        ).1.0.words.trace in
        let two : ◌≡◌ {A = ℕ} 3 2 = ap length words in omega arith
