-- The lists that ran: which lists the rules choose, that these ran once each and in order, and what an event arbitrates.
use Rattle.std.specs.Prelude.{◌≡◌, Bool, true, false, cond, ◌||◌, ◌⊎◌, ℕ, ◌<◌, eqb}
use mathlib.Core.List.{List, [], ◌∷◌, ◌++◌, Memᴰ}
use Rattle.rulebook.specs.Table.{rules, lists, deferred, nested_only, rule_expression, list_owner, triggered}
use Rattle.rulebook.specs.Expressions.{deepest, mentions}
use Rattle.rulebook.specs.Lists.{Run, start, trace_word, trace_list_start, set_port, unready, result_in, previous_in, list_for, run_list}
use Rattle.rulebook.specs.Arbitration.{unmark_ports, store_results}
use Rattle.rulebook.specs.Events.{event_kind, event_index, event_value, event_tick, event_mode, event_request, only, tick_things, marked_in}
use Rattle.laws.specs.Sequence.{Each, InOrder, times}

-- List l is chosen where the ports that q holds of are arbitrated in state s. "Every rule that isn't nested-only, mentions an
-- arbitrated port and mentions no undefined one is evaluated .. Its list for that result is chosen if conditional (triggered 0), or
-- if the result differs from the previous one".
pub record Chosen (t : List ℕ) (q : ℕ → Bool) (s : List ℕ) (l : ℕ) : Type 0 where
  pub list : l < lists t
  pub rule : ℕ
  pub there : rule < rules t
  pub not_nested : nested_only t rule ≡ 0
  pub arbitrated : mentions deepest t q (rule_expression t rule) ≡ true
  pub ready : unready t s rule ≡ false
  pub its_list : l ≡ list_for t rule (result_in t s rule)
  pub because : (triggered t l ≡ 0) ⊎ (result_in t s rule ≡ previous_in t s rule → ⊥)

-- the lists ls run one after the other
abbrev pub run_all : List ℕ → List ℕ → Run → Run
run_all t [] x = x
run_all t (l ∷ ls) x = run_all t ls (run_list deepest t l x)

abbrev pub start_word : List ℕ → ℕ → ℕ
start_word t l = trace_word trace_list_start (list_owner t l) l 0

-- words list by list: for each of the lists, in their order, its start word and whatever its items wrote
pub data WrittenBy (t : List ℕ) : List ℕ → List ℕ → Type 0 where
  by_none : WrittenBy t [] []
  by_first : {l : ℕ} {ls rest : List ℕ} (ws : List ℕ) → WrittenBy t ls rest → WrittenBy t (l ∷ ls) (start_word t l ∷ (ws ++ rest))

-- before any list runs: "The arbitrated ports' marks, and no others, are cleared first", the rules are evaluated, "last results are stored"
abbrev pub before_lists : List ℕ → (ℕ → Bool) → List ℕ → List ℕ → Run
before_lists t q os s = start os (store_results t q (unmark_ports t q s))

-- State s' and words ws are what the arbitration of the ports that q holds of makes of state s, with the outcome words os. "Chosen lists run once each, larger
-- priority first, then lower number."
pub record ListsRan (t : List ℕ) (q : ℕ → Bool) (os s s' ws : List ℕ) : Type 0 where
  pub ran : List ℕ
  pub ordered : InOrder t ran
  pub once : (l : ℕ) → Chosen t q (unmark_ports t q s) l → times l ran ≡ 1
  pub no_other : Each (Chosen t q (unmark_ports t q s)) ran
  pub state : s' ≡ (run_all t ran (before_lists t q os s)).state
  pub words : ws ≡ (run_all t ran (before_lists t q os s)).words
  pub trace : WrittenBy t ran ws
  pub started : (l : ℕ) → Chosen t q (unmark_ports t q s) l → Memᴰ (start_word t l) ws

-- "Kinds 1, 2 set the port's value (event: 1)"

abbrev pub sets_port : ℕ → Bool
sets_port e = eqb (event_kind e) event_mode || eqb (event_kind e) event_request

abbrev pub value_set : ℕ → ℕ
value_set e = cond (eqb (event_kind e) event_mode) (event_value e) 1

-- What event e arbitrates in state s with the outcome words os, and the state and the words that come of it. No list ran exactly where there is no word, since
-- each list that runs writes its start word.
pub data Arbitrated (t : List ℕ) (e : ℕ) (os s s' ws : List ℕ) : Type 0 where
  -- "Tick, in order: networks, sources, timers by number, then all marked ports are arbitrated."
  all_marked : event_kind e ≡ event_tick → ListsRan t (marked_in t (tick_things t s)) os (tick_things t s) s' ws → Arbitrated t e os s s' ws
  -- "an immediate one is arbitrated now, the same value included": that port alone
  one_port : sets_port e ≡ true → deferred t (event_index e) ≡ 0
      → ListsRan t (only (event_index e)) os (set_port (event_index e) 0 (value_set e) 0 s) s' ws → Arbitrated t e os s s' ws
  no_port : (event_kind e ≡ event_tick → ⊥) → (sets_port e ≡ true → deferred t (event_index e) ≡ 1) → ws ≡ [] → Arbitrated t e os s s' ws
