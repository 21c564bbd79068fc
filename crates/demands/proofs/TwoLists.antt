-- The table of two lists, computed on the definitions; and that its request runs two lists. Assumes nothing.
use mathlib.Core.Path.{◌≡◌, refl}
use mathlib.Core.Bool.{true}
use mathlib.Core.Logic.{inl}
use mathlib.Core.List.{List, [], ◌∷◌}
use Prim.Native.Nat.{ℕ, zero, suc, ◌+◌, ◌<◌}
use native.Mathlib.Omega.{arith}
use borrow.Author.Tests.{ne_eqb}
use Rattle.rulebook.specs.Words.{digit, first, all, any, sum, listed, each, until}
use Rattle.rulebook.specs.Table.{part, abort, a_size, by_item, stranger, deferred}
use Rattle.rulebook.specs.Expressions.{operator, expression_nests, expression_within, expression_mentions, mentions, condition, expression_holds, holds}
use Rattle.rulebook.specs.Expressions.{settled, skips_right, expression_visited, visited}
use Rattle.rulebook.specs.Reasons.{has_header, known_edition, counts_inside, exact_length, port_fields, expression_fields, item_fields, own_fields}
use Rattle.rulebook.specs.Reasons.{network_has, held, may_show, expression_names, list_or_none, item_names, names}
use Rattle.rulebook.specs.Reasons.{item_nests, list_nests, list_within, nesting, strangers_port, rule_owned, item_owned, owners, item_cost, list_cost}
use Rattle.rulebook.specs.Reasons.{rule_reaches, item_reaches, list_reaches, reaches_within, reached_by, reached}
use Rattle.rulebook.specs.Reasons.{cost_within, bound, affordable, breaks, lowest, or_next, first_of, check}
use Rattle.rulebook.specs.State.{thing, owner_of, pack_port, pack_rule, port_fits, rule_fits, thing_fits, fits_at, fits}
use Rattle.rulebook.specs.Lists.{Run, trace_word, set_port, effect, unread, act, stops, value_in, undefined_in, unready, result_in, choice, choice_in}
use Rattle.rulebook.specs.Lists.{visits_in, set_result, run_item}
use Rattle.rulebook.specs.Lists.{run_items, run_list}
use Rattle.rulebook.specs.Arbitration.{unmark_port, unmark_ports, evaluated, store_result, store_results, chooses, chosen, of_priority, order_below, order}
use Rattle.rulebook.specs.Arbitration.{visits_by, rule_visits, run_if, run_chosen, decide, arbitrate}
use Rattle.rulebook.specs.Events.{event_kind, event_index, event_tick, only, request, happen}
use Rattle.rulebook.specs.Step.{well_formed, named, present, suited, known, sent_by_owner, good_or_failed, outcomes_known, first_fault, conclude, heeded, step}
use Rattle.rulebook.specs.Marked.{same, gives}
use Rattle.laws.specs.Sequence.{times}
use Rattle.laws.specs.Chosen.{Chosen, ListsRan, sets_port, value_set, Arbitrated, all_marked, one_port, no_port}
use Rattle.laws.proofs.Facts.{facts}
use Rattle.laws.proofs.Chosen.{happen-arbitrates}
use Rattle.demands.specs.Idle.{Several}
use Rattle.demands.proofs.Demand2.{done-step}
use Rattle.demands.proofs.Words.{small, small-words}
use Rattle.demands.proofs.Given.{Given, given}
use Rattle.demands.specs.TwoLists.{table, fresh, both_run}

pub claim : both_run ≡ true
unfolding digit by_item first all any sum listed each until part abort a_size stranger operator expression_nests expression_within expression_mentions
    mentions condition expression_holds holds settled skips_right expression_visited visited has_header known_edition counts_inside exact_length port_fields
    expression_fields item_fields own_fields network_has
    held may_show expression_names list_or_none item_names names item_nests list_nests list_within nesting strangers_port rule_owned item_owned
    owners rule_reaches item_reaches list_reaches reaches_within reached_by reached item_cost list_cost cost_within bound affordable
    breaks lowest or_next first_of check thing owner_of pack_port pack_rule port_fits
    rule_fits thing_fits fits_at fits trace_word set_port effect unread act stops value_in undefined_in unready result_in visits_in choice choice_in set_result run_item
    run_items run_list unmark_port unmark_ports evaluated store_result store_results visits_by rule_visits chooses chosen of_priority order_below order run_if
    run_chosen decide arbitrate only request happen well_formed named present suited known sent_by_owner good_or_failed outcomes_known
    first_fault conclude heeded step same gives table fresh both_run
claim = refl

-- both lists are chosen

abbrev e : ℕ
e = 0x11000500

abbrev set : List ℕ
set = set_port (event_index e) 0 (value_set e) 0 fresh

both-chosen : (l : ℕ) → l < 2 → Chosen table (only (event_index e)) (unmark_ports table (only (event_index e)) set) l
unfolding digit by_item each mentions expression_mentions condition expression_holds holds operator pack_port set_port value_in undefined_in unready
    result_in unmark_port unmark_ports only table fresh
both-chosen zero h =
    record { list = omega arith; rule = 0; there = omega arith; not_nested = refl; arbitrated = refl; ready = refl; its_list = refl; because = inl refl }
both-chosen (suc zero) h =
    record { list = omega arith; rule = 1; there = omega arith; not_nested = refl; arbitrated = refl; ready = refl; its_list = refl; because = inl refl }
both-chosen (suc (suc l)) h = absurd (omega arith)

not-a-tick : event_kind e ≡ event_tick → ⊥
unfolding digit
not-a-tick k = omega arith

sets : sets_port e ≡ true
unfolding digit
sets = refl

immediate : deferred table (event_index e) ≡ 1 → ⊥
unfolding digit table
immediate d = omega arith

-- so at least two lists ran

record Two (ls : List ℕ) : Type 0 where
  one : ℕ
  other : ℕ
  more : List ℕ
  are : ls ≡ one ∷ other ∷ more

two-of : (ls : List ℕ) → times 0 ls ≡ 1 → times 1 ls ≡ 1 → Two ls
unfolding times
two-of [] a b = absurd (omega arith)
two-of (zero ∷ []) a b = absurd (omega arith)
two-of (suc l ∷ []) a b = let z : 0 + 0 ≡ 1 = rw (ne_eqb 0 (suc l) (λ y. omega arith)) at a in absurd (omega arith)
two-of (l ∷ k ∷ ls) a b = record { one = l; other = k; more = ls; are = refl }

answered : Given (step table fresh 4 [] e) 0 (0x81400000 ∷ 0x40000000 ∷ 0x40000000 ∷ []) (0xF1010000 ∷ 0x0100000B ∷ 0xF1000000 ∷ 0x0100000A ∷ []) 2
unfolding both_run
answered = given _ _ _ _ _ claim

-- what the request arbitrates is port 0 alone
abbrev x : Run
x = happen table e (heeded table []) fresh

request-runs : ListsRan table (only (event_index e)) (heeded table []) set x.state x.words
request-runs = go (happen-arbitrates table (facts table (done-step table fresh 4 [] e answered.answer).callable.table) (heeded table []) fresh e)
  where
    go : Arbitrated table e (heeded table []) fresh x.state x.words → ListsRan table (only (event_index e)) (heeded table []) set x.state x.words
    go (all_marked k r) = absurd (not-a-tick k)
    go (one_port k d r) = r
    go (no_port n k w) = absurd (immediate (k sets))

pub several-lists : Several table fresh (0 ∷ 0 ∷ 0 ∷ 0 ∷ []) [] e
unfolding table fresh small
several-lists =
    let two = two-of request-runs.ran (request-runs.once 0 (both-chosen 0 (omega arith))) (request-runs.once 1 (both-chosen 1 (omega arith))) in
    record {
      input = record {
        table = small-words table refl;
        state = small-words fresh refl;
        trace = small-words (0 ∷ 0 ∷ 0 ∷ 0 ∷ []) refl;
        outcomes = tt;
        event = omega arith;
      };
      done = answered.answer;
      ports = only (event_index e);
      from = set;
      lists = request-runs;
      first = two.one;
      second = two.other;
      more = two.more;
      several = two.are;
    }
