-- Lists: what each item does, the trace words, and a list run with the lists and rules that it names.
use Rattle.std.specs.Prelude.{ℕ, zero, suc, ◌+◌, Bool, true, false, cond, ◌&&◌, ◌||◌, not, List, [], ◌∷◌, ◌++◌, set, drop, eqb}
use Rattle.rulebook.specs.Words.{word, field, in_field, until}
use Rattle.rulebook.specs.Table.{reload, rule_expression, true_list, false_list, no_list}
use Rattle.rulebook.specs.Table.{list_owner, triggered, first_item, item_count, item_kind, abort, item_a, item_b}
use Rattle.rulebook.specs.Table.{item_call, item_clear, item_start, item_stop, item_ask, item_rule, by_item}
use Rattle.rulebook.specs.Expressions.{deepest, mentions, holds, visited}
use Rattle.rulebook.specs.State.{rule_index, network_index, defined_of, value_of, timer_stopped, timer_started}
use Rattle.rulebook.specs.State.{result_of, undefined_result, Network, network_of, pack_port, pack_rule, pack_network}

-- A run so far, x below: the state, the trace words written, the outcome words that no call has read yet, and how many expression words
-- its evaluations have visited.
pub record Run : Type 0 where
  pub state : List ℕ
  pub words : List ℕ
  pub outcomes : List ℕ
  pub visits : ℕ

abbrev pub start : List ℕ → List ℕ → Run
start os s = record { state = s; words = []; outcomes = os; visits = 0 }

abbrev pub become : List ℕ → Run → Run
become s x = record { state = s; words = x.words; outcomes = x.outcomes; visits = x.visits }

abbrev pub emit : ℕ → Run → Run
emit w x = record { state = x.state; words = x.words ++ (w ∷ []); outcomes = x.outcomes; visits = x.visits }

abbrev pub leave : List ℕ → Run → Run
leave os x = record { state = x.state; words = x.words; outcomes = os; visits = x.visits }

abbrev pub visit : ℕ → Run → Run
visit n x = record { state = x.state; words = x.words; outcomes = x.outcomes; visits = x.visits + n }

-- "Trace word: kind(4), owner(4) of the list that holds it, a(8), b(16): 15 list start, .. 0 to 4 as the item; 6 .. the rule"

unfoldable pub trace_word : ℕ → ℕ → ℕ → ℕ → ℕ
trace_word kind owner a b = in_field 0 4 kind + in_field 4 4 owner + in_field 8 8 a + in_field 16 16 b

abbrev pub trace_list_start : ℕ
trace_list_start = 15

abbrev pub trace_kind : ℕ → ℕ
trace_kind w = field 0 4 w

abbrev pub trace_owner : ℕ → ℕ
trace_owner w = field 4 4 w

abbrev pub trace_a : ℕ → ℕ
trace_a w = field 8 8 w

abbrev pub trace_b : ℕ → ℕ
trace_b w = field 16 16 w

-- one owner's own trace words, in order
unfoldable pub own : ℕ → List ℕ → List ℕ
own o [] = []
own o (w ∷ ws) = cond (eqb (trace_owner w) o) (w ∷ own o ws) (own o ws)

-- a port written anew, which defines it
unfoldable pub set_port : ℕ → ℕ → ℕ → ℕ → List ℕ → List ℕ
set_port p marked value remaining s = set s p (pack_port 1 marked value remaining)

abbrev pub network_in : List ℕ → ℕ → List ℕ → Network
network_in t n s = network_of (word s (network_index t n))

unfoldable pub set_network : List ℕ → ℕ → Network → List ℕ → List ℕ
set_network t n c s = set s (network_index t n) (pack_network c)

abbrev pub asking : ℕ → Network → Network
asking mode c = record { asked = mode; state = c.state; counter = c.counter; heard = c.heard; remaining = c.remaining }

-- What an item of kind 0 to 4 does to the state. "Start reloads and marks the timer, stop zeroes and marks it; a network request
-- only sets asked; clear sets the event to 0", and Q-2: "a clear marks the port, deferred or immediate, even if it was clear
-- already, for the next tick unless arbitrated sooner". An outside call changes nothing.
unfoldable pub effect : List ℕ → ℕ → List ℕ → List ℕ
effect t i s =
    cond (eqb (item_kind t i) item_clear) (set_port (item_a t i) 1 0 0 s)
    (cond (eqb (item_kind t i) item_start) (set_port (item_a t i) 1 timer_started (reload t (item_a t i)) s)
    (cond (eqb (item_kind t i) item_stop) (set_port (item_a t i) 1 timer_stopped 0 s)
    (cond (eqb (item_kind t i) item_ask) (set_network t (item_a t i) (asking (item_b t i) (network_in t (item_a t i) s)) s)
    s)))

-- Q-9: "outcome words, each 0 for good or 1 for failed, read in the order in which outside calls run": a call reads the next one, abort
-- or not, and no other item reads any
unfoldable pub unread : List ℕ → ℕ → List ℕ → List ℕ
unread t i os = cond (eqb (item_kind t i) item_call) (drop 1 os) os

unfoldable pub act : List ℕ → ℕ → ℕ → Run → Run
act t o i x =
    leave (unread t i x.outcomes) (become (effect t i x.state) (emit (trace_word (item_kind t i) o (item_a t i) (item_b t i)) x))

-- "A failed call with abort stops the list that holds it": whether item i does, by the outcome that it is about to read. "Past their end
-- every call is good": there the next word reads as 0.
unfoldable pub stops : List ℕ → ℕ → Run → Bool
stops t i x = eqb (item_kind t i) item_call && eqb (abort t i) 1 && eqb (word x.outcomes 0) 1

-- A rule r in a state: whether it mentions an undefined port, its result, the words that finding it visits, and the list that it then
-- starts, 255 for none: "its list for that result .. if conditional (triggered 0), or if the result differs from the previous one".

unfoldable pub value_in : List ℕ → ℕ → ℕ
value_in s p = value_of (word s p)

unfoldable pub undefined_in : List ℕ → ℕ → Bool
undefined_in s p = eqb (defined_of (word s p)) 0

unfoldable pub unready : List ℕ → List ℕ → ℕ → Bool
unready t s r = mentions deepest t (undefined_in s) (rule_expression t r)

unfoldable pub result_in : List ℕ → List ℕ → ℕ → ℕ
result_in t s r = cond (holds deepest t (value_in s) (rule_expression t r)) 1 0

unfoldable pub visits_in : List ℕ → List ℕ → ℕ → ℕ
visits_in t s r = visited deepest t (value_in s) (rule_expression t r)

abbrev pub previous_in : List ℕ → List ℕ → ℕ → ℕ
previous_in t s r = result_of (word s (rule_index t r))

abbrev pub list_for : List ℕ → ℕ → ℕ → ℕ
list_for t r result = cond (eqb result 1) (true_list t r) (false_list t r)

unfoldable pub choice : List ℕ → ℕ → ℕ → ℕ → ℕ
choice t r previous result =
    cond (eqb (triggered t (list_for t r result)) 0 || not (eqb result previous)) (list_for t r result) no_list

unfoldable pub choice_in : List ℕ → List ℕ → ℕ → ℕ
choice_in t s r = choice t r (previous_in t s r) (result_in t s r)

unfoldable pub set_result : List ℕ → ℕ → ℕ → List ℕ → List ℕ
set_result t r result s = set s (rule_index t r) (pack_rule result)

-- The cycle: o is the owner of the list that holds the item, `below` runs a list that is named.

-- "A rule item evaluates with current values, stores, and runs its list on the same test"; its word 6 stands before its list's. Q-10:
-- "Rule items count", each time that one evaluates.
unfoldable pub judge : List ℕ → ℕ → ℕ → Run → Run
judge t o r x =
    visit (visits_in t x.state r)
    (become (set_result t r (result_in t x.state r) x.state) (emit (trace_word item_rule o r (result_in t x.state r)) x))

unfoldable pub run_choice : (ℕ → Run → Run) → ℕ → Run → Run
run_choice below l x = elim (eqb l no_list) [ true ↦ x | false ↦ below l x ]

-- "if a port is undefined it stores and runs nothing", and evaluates nothing
unfoldable pub run_rule : (ℕ → Run → Run) → List ℕ → ℕ → ℕ → Run → Run
run_rule below t o r x =
    elim (unready t x.state r) [
      | true ↦ emit (trace_word item_rule o r undefined_result) x
      | false ↦ run_choice below (choice_in t x.state r) (judge t o r x)
    ]

-- "A named list always runs"; "Item 5 adds no word"
unfoldable pub run_item : (ℕ → Run → Run) → List ℕ → ℕ → ℕ → Run → Run
run_item below t o i x = by_item t i below (run_rule below t o) (act t o i) x

-- "Items take effect in order", after the word for the list's start; Q-9: a list is stopped "after its trace word; an outer list goes on"
unfoldable pub run_items : (ℕ → Run → Run) → List ℕ → ℕ → Run → Run
run_items below t l x =
    until (first_item t l) (item_count t l) (stops t) (run_item below t (list_owner t l)) (emit (trace_word trace_list_start (list_owner t l) l 0) x)

-- List l with d levels left. Q-11: "no event call on an accepted table can reach" a list with none left, for rule 7 has refused it: d only
-- lets the definition end, and cuts no run short.
unfoldable pub run_list : ℕ → List ℕ → ℕ → Run → Run
run_list zero t l x = x
run_list (suc d) t l x = run_items (run_list d t) t l x
