-- "The table": the header, the sections and the named words with their fields.
use Rattle.std.specs.Prelude.{ℕ, ◌+◌, ◌-◌, ◌*◌, ◌/◌, ◌%◌, ◌^◌, Bool, true, false, cond, ◌&&◌, not, List, ltb, eqb}
use Rattle.rulebook.specs.Words.{word, digit, field}

-- The header, three words.

abbrev pub edition : List ℕ → ℕ
edition t = field 0 8 (word t 0)

abbrev pub ports : List ℕ → ℕ
ports t = field 8 8 (word t 0)

abbrev pub networks : List ℕ → ℕ
networks t = field 16 8 (word t 0)

abbrev pub sources : List ℕ → ℕ
sources t = field 24 8 (word t 0)

abbrev pub expressions : List ℕ → ℕ
expressions t = field 0 16 (word t 1)

abbrev pub rules : List ℕ → ℕ
rules t = field 16 16 (word t 1)

abbrev pub lists : List ℕ → ℕ
lists t = field 0 16 (word t 2)

abbrev pub items : List ℕ → ℕ
items t = field 16 16 (word t 2)

-- The places at which the sections start, in this order.

abbrev pub ports_from : ℕ
ports_from = 3

abbrev pub networks_from : List ℕ → ℕ
networks_from t = ports_from + ports t

abbrev pub sources_from : List ℕ → ℕ
sources_from t = networks_from t + 2 * networks t

abbrev pub expressions_from : List ℕ → ℕ
expressions_from t = sources_from t + sources t

abbrev pub rules_from : List ℕ → ℕ
rules_from t = expressions_from t + expressions t

abbrev pub lists_from : List ℕ → ℕ
lists_from t = rules_from t + rules t

abbrev pub items_from : List ℕ → ℕ
items_from t = lists_from t + lists t

abbrev pub table_length : List ℕ → ℕ
table_length t = items_from t + items t

-- Which word of the table the one at a place is, with its number in its section. A network has two.
pub data Part : Type 0 where
  in_header : Part
  at_port at_network at_waits at_source at_expression at_rule at_list at_item : ℕ → Part

abbrev pub of_pair : ℕ → Part
of_pair i = cond (eqb (i % 2) 0) (at_network (i / 2)) (at_waits (i / 2))

unfoldable pub part : List ℕ → ℕ → Part
part t i =
    cond (ltb i ports_from) in_header
    (cond (ltb i (networks_from t)) (at_port (i - ports_from))
    (cond (ltb i (sources_from t)) (of_pair (i - networks_from t))
    (cond (ltb i (expressions_from t)) (at_source (i - sources_from t))
    (cond (ltb i (rules_from t)) (at_expression (i - expressions_from t))
    (cond (ltb i (lists_from t)) (at_rule (i - rules_from t))
    (cond (ltb i (items_from t)) (at_list (i - lists_from t))
    (at_item (i - items_from t))))))))

-- Port p.

abbrev pub port_word : List ℕ → ℕ → ℕ
port_word t p = word t (ports_from + p)

abbrev pub port_kind : List ℕ → ℕ → ℕ
port_kind t p = field 0 2 (port_word t p)

abbrev pub port_mode : ℕ
port_mode = 0

abbrev pub port_event : ℕ
port_event = 1

abbrev pub port_timer : ℕ
port_timer = 2

abbrev pub deferred : List ℕ → ℕ → ℕ
deferred t p = field 2 1 (port_word t p)

abbrev pub has_initial : List ℕ → ℕ → ℕ
has_initial t p = field 3 1 (port_word t p)

abbrev pub port_owner : List ℕ → ℕ → ℕ
port_owner t p = field 4 4 (port_word t p)

abbrev pub initial : List ℕ → ℕ → ℕ
initial t p = field 8 8 (port_word t p)

abbrev pub reload : List ℕ → ℕ → ℕ
reload t p = field 16 16 (port_word t p)

-- Network n: its first word, then its waits L1 and L2 and its E-ticks.

abbrev pub network_word : List ℕ → ℕ → ℕ
network_word t n = word t (networks_from t + 2 * n)

abbrev pub waits_word : List ℕ → ℕ → ℕ
waits_word t n = word t (networks_from t + 2 * n + 1)

abbrev pub network_owner : List ℕ → ℕ → ℕ
network_owner t n = field 0 4 (network_word t n)

abbrev pub network_port : List ℕ → ℕ → ℕ
network_port t n = field 4 8 (network_word t n)

abbrev pub threshold : List ℕ → ℕ → ℕ
threshold t n = field 12 8 (network_word t n)

-- the field that must be zero; so below
abbrev pub network_zero : List ℕ → ℕ → ℕ
network_zero t n = field 20 12 (network_word t n)

abbrev pub l1 : List ℕ → ℕ → ℕ
l1 t n = field 0 8 (waits_word t n)

abbrev pub l2 : List ℕ → ℕ → ℕ
l2 t n = field 8 8 (waits_word t n)

abbrev pub e_ticks : List ℕ → ℕ → ℕ
e_ticks t n = field 16 16 (waits_word t n)

-- Source k.

abbrev pub source_word : List ℕ → ℕ → ℕ
source_word t k = word t (sources_from t + k)

abbrev pub source_owner : List ℕ → ℕ → ℕ
source_owner t k = field 0 4 (source_word t k)

abbrev pub source_port : List ℕ → ℕ → ℕ
source_port t k = field 4 8 (source_word t k)

abbrev pub timeout : List ℕ → ℕ → ℕ
timeout t k = field 12 16 (source_word t k)

abbrev pub source_zero : List ℕ → ℕ → ℕ
source_zero t k = field 28 4 (source_word t k)

-- Expression e: a condition has a port and a value, an operator a left and a right argument.

abbrev pub expression_word : List ℕ → ℕ → ℕ
expression_word t e = word t (expressions_from t + e)

abbrev pub expression_kind : List ℕ → ℕ → ℕ
expression_kind t e = field 0 4 (expression_word t e)

abbrev pub condition_port : List ℕ → ℕ → ℕ
condition_port t e = field 4 8 (expression_word t e)

abbrev pub condition_value : List ℕ → ℕ → ℕ
condition_value t e = field 12 8 (expression_word t e)

abbrev pub condition_zero : List ℕ → ℕ → ℕ
condition_zero t e = field 20 12 (expression_word t e)

abbrev pub left : List ℕ → ℕ → ℕ
left t e = field 4 14 (expression_word t e)

abbrev pub right : List ℕ → ℕ → ℕ
right t e = field 18 14 (expression_word t e)

abbrev pub condition_equal : ℕ
condition_equal = 0

abbrev pub condition_not_equal : ℕ
condition_not_equal = 1

abbrev pub condition_set : ℕ
condition_set = 2

abbrev pub condition_cleared : ℕ
condition_cleared = 3

abbrev pub operator_and : ℕ
operator_and = 4

abbrev pub operator_or : ℕ
operator_or = 5

abbrev pub operator_xor : ℕ
operator_xor = 6

abbrev pub operator_nand : ℕ
operator_nand = 7

abbrev pub operator_not : ℕ
operator_not = 8

-- document 02, Q-5: "condition kind 9, 'at or above'"
abbrev pub condition_at_or_above : ℕ
condition_at_or_above = 9

-- Rule r.

abbrev pub rule_word : List ℕ → ℕ → ℕ
rule_word t r = word t (rules_from t + r)

abbrev pub rule_owner : List ℕ → ℕ → ℕ
rule_owner t r = field 0 4 (rule_word t r)

abbrev pub first_result : List ℕ → ℕ → ℕ
first_result t r = field 4 2 (rule_word t r)

abbrev pub nested_only : List ℕ → ℕ → ℕ
nested_only t r = field 6 1 (rule_word t r)

abbrev pub rule_expression : List ℕ → ℕ → ℕ
rule_expression t r = field 7 9 (rule_word t r)

abbrev pub true_list : List ℕ → ℕ → ℕ
true_list t r = field 16 8 (rule_word t r)

abbrev pub false_list : List ℕ → ℕ → ℕ
false_list t r = field 24 8 (rule_word t r)

-- the number by which a rule says that it has no list
abbrev pub no_list : ℕ
no_list = 255

-- List l.

abbrev pub list_word : List ℕ → ℕ → ℕ
list_word t l = word t (lists_from t + l)

abbrev pub list_owner : List ℕ → ℕ → ℕ
list_owner t l = field 0 4 (list_word t l)

abbrev pub triggered : List ℕ → ℕ → ℕ
triggered t l = field 4 1 (list_word t l)

abbrev pub priority : List ℕ → ℕ → ℕ
priority t l = field 5 8 (list_word t l)

abbrev pub first_item : List ℕ → ℕ → ℕ
first_item t l = field 13 11 (list_word t l)

abbrev pub item_count : List ℕ → ℕ → ℕ
item_count t l = field 24 8 (list_word t l)

-- Item i, always read by table and number. Q-9: "Make edition 2 of the table: an item's a field becomes abort(1), a(11), each listed as a
-- field". Edition 1 has a(12) and no abort: as if each were 0.

abbrev pub item_word : List ℕ → ℕ → ℕ
item_word t i = word t (items_from t + i)

abbrev pub item_kind : List ℕ → ℕ → ℕ
item_kind t i = field 0 4 (item_word t i)

unfoldable pub abort : List ℕ → ℕ → ℕ
abort t i = cond (eqb (edition t) 2) (field 4 1 (item_word t i)) 0

-- how many values a has
unfoldable pub a_size : List ℕ → ℕ
a_size t = cond (eqb (edition t) 2) (2 ^ 11) (2 ^ 12)

-- a ends before b, the lower half of the word
abbrev pub item_a : List ℕ → ℕ → ℕ
item_a t i = digit (2 ^ 16) (a_size t) (item_word t i)

abbrev pub item_b : List ℕ → ℕ → ℕ
item_b t i = field 16 16 (item_word t i)

abbrev pub item_call : ℕ
item_call = 0

abbrev pub item_clear : ℕ
item_clear = 1

abbrev pub item_start : ℕ
item_start = 2

abbrev pub item_stop : ℕ
item_stop = 3

abbrev pub item_ask : ℕ
item_ask = 4

abbrev pub item_list : ℕ
item_list = 5

abbrev pub item_rule : ℕ
item_rule = 6

-- item i by what it names: a list, a rule, or neither
unfoldable pub by_item : {A : Type 0} → List ℕ → ℕ → (ℕ → A) → (ℕ → A) → A → A
by_item t i list rule other =
    elim (eqb (item_kind t i) item_list) [
      | true ↦ list (item_a t i)
      | false ↦ elim (eqb (item_kind t i) item_rule) [ true ↦ rule (item_a t i) | false ↦ other ]
    ]

-- Owner 0 is the platform. A stranger to o is an operator other than o and other than the platform.

abbrev pub platform : ℕ
platform = 0

unfoldable pub stranger : ℕ → ℕ → Bool
stranger o x = not (eqb x o) && not (eqb x platform)
