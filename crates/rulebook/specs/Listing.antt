-- Document 02, Q-4: "one line per word: a section name, then all fields in decimal in document 01's order, zero fields too". Here stand the
-- names and the fields: which form the line of a word has, and what it shows. How a line is spelt stands in the crate `listing`.
use Rattle.std.specs.Prelude.{ℕ, ◌+◌, cond, ◌&&◌, List, [], ◌∷◌, get_or, eqb}
use Rattle.rulebook.specs.Words.{field}
use Rattle.rulebook.specs.Table.{edition}
use Rattle.rulebook.specs.Table.{Part, in_header, at_port, at_network, at_waits, at_source, at_expression, at_rule, at_list, at_item, part}
use Rattle.rulebook.specs.Expressions.{operator_kind}
use Rattle.rulebook.specs.Reasons.{has_header, known_edition, counts_inside, exact_length, Link, of_table, first_of}

-- "header, port, network, source, expression, rule, list, item", each with the space behind it

abbrev pub header : List ℕ
header = 104 ∷ 101 ∷ 97 ∷ 100 ∷ 101 ∷ 114 ∷ 32 ∷ []

abbrev pub port : List ℕ
port = 112 ∷ 111 ∷ 114 ∷ 116 ∷ 32 ∷ []

abbrev pub network : List ℕ
network = 110 ∷ 101 ∷ 116 ∷ 119 ∷ 111 ∷ 114 ∷ 107 ∷ 32 ∷ []

abbrev pub source : List ℕ
source = 115 ∷ 111 ∷ 117 ∷ 114 ∷ 99 ∷ 101 ∷ 32 ∷ []

abbrev pub expression : List ℕ
expression = 101 ∷ 120 ∷ 112 ∷ 114 ∷ 101 ∷ 115 ∷ 115 ∷ 105 ∷ 111 ∷ 110 ∷ 32 ∷ []

abbrev pub rule : List ℕ
rule = 114 ∷ 117 ∷ 108 ∷ 101 ∷ 32 ∷ []

abbrev pub list : List ℕ
list = 108 ∷ 105 ∷ 115 ∷ 116 ∷ 32 ∷ []

abbrev pub item : List ℕ
item = 105 ∷ 116 ∷ 101 ∷ 109 ∷ 32 ∷ []

-- A form: a section's name and the widths of a word's fields. This one description serves writing and reading.
pub record Form : Type 0 where
  pub name : List ℕ
  pub widths : List ℕ

abbrev pub of : List ℕ → List ℕ → Form
of name widths = record { name = name; widths = widths }

-- the forms, by number: the header's three; a network's two; an expression's as a condition and as an operator; an item's of edition 1 and
-- of edition 2
unfoldable pub forms : List Form
forms =
    of header (8 ∷ 8 ∷ 8 ∷ 8 ∷ [])
    ∷ of header (16 ∷ 16 ∷ [])
    ∷ of header (16 ∷ 16 ∷ [])
    ∷ of port (2 ∷ 1 ∷ 1 ∷ 4 ∷ 8 ∷ 16 ∷ [])
    ∷ of network (4 ∷ 8 ∷ 8 ∷ 12 ∷ [])
    ∷ of network (8 ∷ 8 ∷ 16 ∷ [])
    ∷ of source (4 ∷ 8 ∷ 16 ∷ 4 ∷ [])
    ∷ of expression (4 ∷ 8 ∷ 8 ∷ 12 ∷ [])
    ∷ of expression (4 ∷ 14 ∷ 14 ∷ [])
    ∷ of rule (4 ∷ 2 ∷ 1 ∷ 9 ∷ 8 ∷ 8 ∷ [])
    ∷ of list (4 ∷ 1 ∷ 8 ∷ 11 ∷ 8 ∷ [])
    ∷ of item (4 ∷ 12 ∷ 16 ∷ [])
    ∷ of item (4 ∷ 1 ∷ 11 ∷ 16 ∷ [])
    ∷ []

unfoldable pub form : ℕ → Form
form f = get_or forms f (of [] [])

abbrev pub as_condition : ℕ
as_condition = 7

abbrev pub as_operator : ℕ
as_operator = 8

-- the form at a place, by the part of the table that it is in. The edition is asked for here and nowhere else.
unfoldable pub place_form : List ℕ → ℕ → Part → ℕ
place_form t i in_header = i
place_form t i (at_port p) = 3
place_form t i (at_network n) = 4
place_form t i (at_waits n) = 5
place_form t i (at_source k) = 6
place_form t i (at_expression e) = as_condition
place_form t i (at_rule r) = 9
place_form t i (at_list l) = 10
place_form t i (at_item a) = cond (eqb (edition t) 2) 12 11

-- "Kinds above 8 list as conditions": an expression of kind 4 to 8 lists as an operator
unfoldable pub kind_form : ℕ → ℕ → ℕ
kind_form f kind = cond (eqb f as_condition && operator_kind kind) as_operator f

-- the form of a word's line, by the form at its place: only an expression's kind is looked at
abbrev pub by_kind : ℕ → ℕ → ℕ
by_kind f w = kind_form f (field 0 4 w)

unfoldable pub form_at : List ℕ → ℕ → ℕ
form_at t i = place_form t i (part t i)

-- "all fields .. in document 01's order, zero fields too": those of the given widths, `from` bits standing before them
unfoldable pub fields_from : ℕ → List ℕ → ℕ → List ℕ
fields_from from [] w = []
fields_from from (width ∷ widths) w = field from width w ∷ fields_from (from + width) widths w

unfoldable pub fields_of : ℕ → ℕ → List ℕ
fields_of f w = fields_from 0 (form f).widths w

-- "Writing is refused with reason 1 to 4 where one holds": those of the header and the length. Tables with a later reason list.
abbrev pub shape_reasons : List Link
shape_reasons = of_table 1 has_header ∷ of_table 2 known_edition ∷ of_table 3 counts_inside ∷ of_table 4 exact_length ∷ []

unfoldable pub shape_reason : List ℕ → ℕ
shape_reason t = (first_of t shape_reasons).reason
