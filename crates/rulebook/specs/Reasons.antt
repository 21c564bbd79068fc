-- "Table reasons, in order": ten rules, and the check, which gives the first reason whose rule is broken, and the place.
-- Rules 5, 6 and 7 are judged of every word of the table, used or not. Rule 8 is judged of networks, sources, rules and lists; an
-- expression counts there through the rules that have it, an item through the lists that hold it. Rule 10 is judged of lists. Its number
-- is document 02's: it stands before rule 9.
use Rattle.std.specs.Prelude.{ℕ, zero, suc, ◌+◌, max, Bool, true, false, cond, ◌&&◌, ◌||◌, not, List, [], ◌∷◌, length, leb, ltb, eqb}
use Rattle.rulebook.specs.Words.{implies, between, first, all, any, sum}
use Rattle.rulebook.specs.Table.{edition, ports, networks, sources, expressions, rules, lists, items, table_length}
use Rattle.rulebook.specs.Table.{Part, in_header, at_port, at_network, at_waits, at_source, at_expression, at_rule, at_list, at_item, part}
use Rattle.rulebook.specs.Table.{port_kind, port_mode, port_event, port_timer, deferred, has_initial, port_owner, initial, reload}
use Rattle.rulebook.specs.Table.{network_owner, network_port, network_zero, l1, l2, e_ticks}
use Rattle.rulebook.specs.Table.{source_owner, source_port, source_zero}
use Rattle.rulebook.specs.Table.{expression_kind, condition_port, condition_value, condition_zero, left, right}
use Rattle.rulebook.specs.Table.{condition_not_equal, condition_set, condition_cleared, condition_at_or_above}
use Rattle.rulebook.specs.Table.{rule_owner, first_result, nested_only, rule_expression, true_list, false_list, no_list}
use Rattle.rulebook.specs.Table.{list_owner, first_item, item_count, item_kind, abort, item_a, item_b}
use Rattle.rulebook.specs.Table.{item_call, item_clear, item_start, item_stop, item_ask, item_list, item_rule, by_item, platform, stranger}
use Rattle.rulebook.specs.Expressions.{deepest, operator, is_not, expression_within, mentions}

-- Rule 1: there are three words at least.
unfoldable pub has_header : List ℕ → Bool
has_header t = leb 3 (length t)

-- Rule 2. Q-9: "Reason 2 now means an edition other than 1 or 2"
unfoldable pub known_edition : List ℕ → Bool
known_edition t = eqb (edition t) 1 || eqb (edition t) 2

-- Rule 3: each count is inside its limits.
unfoldable pub counts_inside : List ℕ → Bool
counts_inside t =
    between 1 64 (ports t)
    && between 0 8 (networks t)
    && between 0 32 (sources t)
    && between 1 512 (expressions t)
    && between 1 256 (rules t)
    && between 0 255 (lists t)
    && between 0 2047 (items t)

-- Rule 4: the length is exactly the header's.
unfoldable pub exact_length : List ℕ → Bool
exact_length t = eqb (length t) (table_length t)

-- Rule 5: each word keeps its own field rules.

-- "Only a mode port may have an initial value; without one that field is 0. Reload is at least 1 in a timer, else 0. A timer is
-- deferred."
unfoldable pub port_fields : List ℕ → ℕ → Bool
port_fields t p =
    leb (port_kind t p) port_timer
    && cond (eqb (has_initial t p) 1) (eqb (port_kind t p) port_mode) (eqb (initial t p) 0)
    && cond (eqb (port_kind t p) port_timer) (leb 1 (reload t p)) (eqb (reload t p) 0)
    && implies (eqb (port_kind t p) port_timer) (eqb (deferred t p) 1)

-- document 02, Q-5: "reason 5 then starts at kind 10"
unfoldable pub expression_fields : List ℕ → ℕ → Bool
expression_fields t e =
    leb (expression_kind t e) condition_at_or_above
    && implies (not (operator t e)) (eqb (condition_zero t e) 0)
    && implies (between condition_set condition_cleared (expression_kind t e)) (eqb (condition_value t e) 0)
    && implies (is_not t e) (eqb (right t e) 0)

-- Q-9: "abort only in outside calls"
unfoldable pub item_fields : List ℕ → ℕ → Bool
item_fields t i =
    leb (item_kind t i) item_rule
    && implies (not (eqb (item_kind t i) item_call)) (eqb (abort t i) 0)
    && implies (eqb (item_kind t i) item_call) (eqb (item_a t i) 0)
    && implies (between item_clear item_stop (item_kind t i)) (eqb (item_b t i) 0)
    && implies (eqb (item_kind t i) item_ask) (leb (item_b t i) 2)
    && implies (between item_list item_rule (item_kind t i)) (eqb (item_b t i) 0)

unfoldable pub own_fields : List ℕ → Part → Bool
own_fields t in_header = true
own_fields t (at_port p) = port_fields t p
own_fields t (at_network n) = eqb (network_zero t n) 0
own_fields t (at_waits n) = leb 1 (l1 t n) && leb 1 (l2 t n) && leb 1 (e_ticks t n)
own_fields t (at_source k) = eqb (source_zero t k) 0
own_fields t (at_expression e) = expression_fields t e
own_fields t (at_rule r) = leb (first_result t r) 2
own_fields t (at_list l) = leb 1 (item_count t l)
own_fields t (at_item i) = item_fields t i

-- Rule 6: each name is of a thing that is there, and of the right kind.

unfoldable pub network_has : List ℕ → ℕ → ℕ → Bool
network_has t p n = eqb (network_port t n) p

unfoldable pub source_has : List ℕ → ℕ → ℕ → Bool
source_has t p k = eqb (source_port t k) p

-- one of the first n networks or of the first k sources has port p
unfoldable pub held : List ℕ → ℕ → ℕ → ℕ → Bool
held t p n k = any 0 n (network_has t p) || any 0 k (source_has t p)

-- what the port of a network or source is: "a deferred mode port without initial value"
unfoldable pub may_show : List ℕ → ℕ → Bool
may_show t p =
    ltb p (ports t)
    && eqb (port_kind t p) port_mode
    && eqb (deferred t p) 1
    && eqb (has_initial t p) 0

unfoldable pub port_of_kind : List ℕ → ℕ → ℕ → Bool
port_of_kind t kind p = ltb p (ports t) && eqb (port_kind t p) kind

-- "conditions 0, 1 want mode or timer ports, 2, 3 event ports"; document 02, Q-5: kind 9 is "for mode ports only"
unfoldable pub expression_names : List ℕ → ℕ → Bool
expression_names t e =
    implies (operator t e) (ltb (left t e) (expressions t))
    && implies (operator t e && not (is_not t e)) (ltb (right t e) (expressions t))
    && implies (not (operator t e)) (ltb (condition_port t e) (ports t))
    && implies (leb (expression_kind t e) condition_not_equal) (not (eqb (port_kind t (condition_port t e)) port_event))
    && implies (between condition_set condition_cleared (expression_kind t e)) (eqb (port_kind t (condition_port t e)) port_event)
    && implies (eqb (expression_kind t e) condition_at_or_above) (eqb (port_kind t (condition_port t e)) port_mode)

unfoldable pub list_or_none : List ℕ → ℕ → Bool
list_or_none t l = eqb l no_list || ltb l (lists t)

-- "item 1 an event port, 2 and 3 a timer"
unfoldable pub item_names : List ℕ → ℕ → Bool
item_names t i =
    implies (eqb (item_kind t i) item_clear) (port_of_kind t port_event (item_a t i))
    && implies (between item_start item_stop (item_kind t i)) (port_of_kind t port_timer (item_a t i))
    && implies (eqb (item_kind t i) item_ask) (ltb (item_a t i) (networks t))
    && implies (eqb (item_kind t i) item_list) (ltb (item_a t i) (lists t))
    && implies (eqb (item_kind t i) item_rule) (ltb (item_a t i) (rules t))

unfoldable pub names : List ℕ → Part → Bool
names t in_header = true
names t (at_port p) = true
names t (at_network n) = may_show t (network_port t n) && not (held t (network_port t n) n 0)
names t (at_waits n) = true
names t (at_source k) = may_show t (source_port t k) && not (held t (source_port t k) (networks t) k)
names t (at_expression e) = expression_names t e
names t (at_rule r) =
    ltb (rule_expression t r) (expressions t) && list_or_none t (true_list t r) && list_or_none t (false_list t r)
names t (at_list l) = leb (first_item t l + item_count t l) (items t)
names t (at_item i) = item_names t i

-- Rule 7: no expression and no list nests deeper than 7, or without end. "A list's depth is 1 plus the deepest list it names,
-- directly or by a rule item's lists." A list that is not there has no depth and, below, no cost; rule 6 stands before, so no
-- accepted table names one.

unfoldable pub rule_nests : List ℕ → (ℕ → Bool) → ℕ → Bool
rule_nests t below r =
    (eqb (true_list t r) no_list || below (true_list t r)) && (eqb (false_list t r) no_list || below (false_list t r))

unfoldable pub item_nests : List ℕ → (ℕ → Bool) → ℕ → Bool
item_nests t below i = by_item t i below (rule_nests t below) true

unfoldable pub list_nests : List ℕ → (ℕ → Bool) → ℕ → Bool
list_nests t below l = ltb l (lists t) && all (first_item t l) (item_count t l) (item_nests t below)

-- list l is at most d deep
unfoldable pub list_within : ℕ → List ℕ → ℕ → Bool
list_within zero t l = false
list_within (suc d) t l = list_nests t (list_within d t) l

unfoldable pub nesting : List ℕ → Part → Bool
nesting t in_header = true
nesting t (at_port p) = true
nesting t (at_network n) = true
nesting t (at_waits n) = true
nesting t (at_source k) = true
nesting t (at_expression e) = expression_within deepest t e
nesting t (at_rule r) = true
nesting t (at_list l) = list_within deepest t l
nesting t (at_item i) = true

-- Rule 8: owners do not clash. "A network or source has its port's owner. A rule mentions only ports of its own owner or owner 0,
-- and its lists have its owner. A list names only lists and rules of its owner; unless its owner is 0, the ports and networks its
-- items name have its owner too."

unfoldable pub strangers_port : List ℕ → ℕ → ℕ → Bool
strangers_port t o p = stranger o (port_owner t p)

unfoldable pub rule_owned : List ℕ → ℕ → Bool
rule_owned t r =
    not (mentions deepest t (strangers_port t (rule_owner t r)) (rule_expression t r))
    && (eqb (true_list t r) no_list || eqb (list_owner t (true_list t r)) (rule_owner t r))
    && (eqb (false_list t r) no_list || eqb (list_owner t (false_list t r)) (rule_owner t r))

-- item i may stand in a list of owner o
unfoldable pub item_owned : List ℕ → ℕ → ℕ → Bool
item_owned t o i =
    implies (eqb (item_kind t i) item_list) (eqb (list_owner t (item_a t i)) o)
    && implies (eqb (item_kind t i) item_rule) (eqb (rule_owner t (item_a t i)) o)
    && (eqb o platform || implies (between item_clear item_stop (item_kind t i)) (eqb (port_owner t (item_a t i)) o))
    && (eqb o platform || implies (eqb (item_kind t i) item_ask) (eqb (network_owner t (item_a t i)) o))

unfoldable pub owners : List ℕ → Part → Bool
owners t in_header = true
owners t (at_port p) = true
owners t (at_network n) = eqb (network_owner t n) (port_owner t (network_port t n))
owners t (at_waits n) = true
owners t (at_source k) = eqb (source_owner t k) (port_owner t (source_port t k))
owners t (at_expression e) = true
owners t (at_rule r) = rule_owned t r
owners t (at_list l) = all (first_item t l) (item_count t l) (item_owned t (list_owner t l))
owners t (at_item i) = true

-- Rule 10: no list is there that nothing starts. Document 02, Q-6: "Refuse a table in which a list is reached by no rule that isn't
-- nested-only, whether directly, by a named list, or by a rule item. It is reason 10, placed at the lowest such list word. It stands
-- after owner clashes and before the sum of costs." A rule reaches both of its lists, whatever it can give.

-- rule r has a list of which `below` holds
unfoldable pub rule_reaches : List ℕ → (ℕ → Bool) → ℕ → Bool
rule_reaches t below r =
    not (eqb (true_list t r) no_list) && below (true_list t r) || not (eqb (false_list t r) no_list) && below (false_list t r)

unfoldable pub item_reaches : List ℕ → (ℕ → Bool) → ℕ → Bool
item_reaches t below i = by_item t i below (rule_reaches t below) false

unfoldable pub list_reaches : List ℕ → ℕ → (ℕ → Bool) → ℕ → Bool
list_reaches t x below l = eqb l x || any (first_item t l) (item_count t l) (item_reaches t below)

-- list l is list x or reaches it, in d levels with its own
unfoldable pub reaches_within : ℕ → List ℕ → ℕ → ℕ → Bool
reaches_within zero t x l = false
reaches_within (suc d) t x l = list_reaches t x (reaches_within d t x) l

-- list x is reached by rule r, which isn't nested-only
unfoldable pub reached_by : List ℕ → ℕ → ℕ → Bool
reached_by t x r = eqb (nested_only t r) 0 && rule_reaches t (reaches_within deepest t x) r

unfoldable pub reached : List ℕ → Part → Bool
reached t in_header = true
reached t (at_port p) = true
reached t (at_network n) = true
reached t (at_waits n) = true
reached t (at_source k) = true
reached t (at_expression e) = true
reached t (at_rule r) = true
reached t (at_list l) = any 0 (rules t) (reached_by t l)
reached t (at_item i) = true

-- Rule 9: B, the sum over all lists of their cost, is at most 4,096. "A list costs 1 plus its items. Items 0 to 4 cost 1, item 5
-- its list's cost, item 6 costs 1 plus the dearer of that rule's lists (none: 0)."

unfoldable pub rule_cost : List ℕ → (ℕ → ℕ) → ℕ → ℕ
rule_cost t below r =
    1 + max (cond (eqb (true_list t r) no_list) 0 (below (true_list t r))) (cond (eqb (false_list t r) no_list) 0 (below (false_list t r)))

unfoldable pub item_cost : List ℕ → (ℕ → ℕ) → ℕ → ℕ
item_cost t below i = by_item t i below (rule_cost t below) 1

unfoldable pub list_cost : List ℕ → (ℕ → ℕ) → ℕ → ℕ
list_cost t below l = cond (ltb l (lists t)) (1 + sum (first_item t l) (item_count t l) (item_cost t below)) 0

-- the cost of list l, down to d levels
unfoldable pub cost_within : ℕ → List ℕ → ℕ → ℕ
cost_within zero t l = 0
cost_within (suc d) t l = list_cost t (cost_within d t) l

-- B
unfoldable pub bound : List ℕ → ℕ
bound t = sum 0 (lists t) (cost_within deepest t)

unfoldable pub affordable : List ℕ → Bool
affordable t = leb (bound t) 4096

-- The check: "0, or the first reason that holds. Within a reason, the place is the lowest word that breaks the rule (0 for reasons
-- 0 to 4 and 9)."

pub record Verdict : Type 0 where
  pub reason : ℕ
  pub place : ℕ

abbrev pub verdict : ℕ → ℕ → Verdict
verdict k i = record { reason = k; place = i }

unfoldable pub breaks : (List ℕ → Part → Bool) → List ℕ → ℕ → Bool
breaks rule t i = not (rule t (part t i))

-- the lowest word that breaks a rule; the length where none does
unfoldable pub lowest : (List ℕ → Part → Bool) → List ℕ → ℕ
lowest rule t = first 0 (length t) (breaks rule t)

-- a rule with its reason: of the whole table, or of each of its words
pub data Link : Type 0 where
  of_table : ℕ → (List ℕ → Bool) → Link
  of_words : ℕ → (List ℕ → Part → Bool) → Link

abbrev pub reason_of : Link → ℕ
reason_of (of_table k rule) = k
reason_of (of_words k rule) = k

-- "Table reasons, in order"; document 02, Q-6: 10 stands "after owner clashes and before the sum of costs"
abbrev pub reasons : List Link
reasons =
    of_table 1 has_header
    ∷ of_table 2 known_edition
    ∷ of_table 3 counts_inside
    ∷ of_table 4 exact_length
    ∷ of_words 5 own_fields
    ∷ of_words 6 names
    ∷ of_words 7 nesting
    ∷ of_words 8 owners
    ∷ of_words 10 reached
    ∷ of_table 9 affordable
    ∷ []

-- a link's reason, or what comes next
unfoldable pub or_next : List ℕ → Link → Verdict → Verdict
or_next t (of_table k rule) next = cond (rule t) next (verdict k 0)
or_next t (of_words k rule) next = cond (ltb (lowest rule t) (length t)) (verdict k (lowest rule t)) next

unfoldable pub first_of : List ℕ → List Link → Verdict
first_of t [] = verdict 0 0
first_of t (link ∷ links) = or_next t link (first_of t links)

unfoldable pub check : List ℕ → Verdict
check t = first_of t reasons

abbrev pub accepted : List ℕ → Bool
accepted t = eqb (check t).reason 0
