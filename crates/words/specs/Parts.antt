-- The code's parts as the rulebook's.
use Rattle.rulebook.specs.Table as table
use Rattle.words.specs.declared.parts.Part.{Part}
use Rattle.words.specs.declared.parts.Part.TheVariants.{Header, Port, Network, Waits, Source, Expression, Rule, List, Item}

abbrev pub part_of : Part → table.Part
part_of Header = table.in_header
part_of (Port p) = table.at_port p
part_of (Network n) = table.at_network n
part_of (Waits n) = table.at_waits n
part_of (Source k) = table.at_source k
part_of (Expression e) = table.at_expression e
part_of (Rule r) = table.at_rule r
part_of (List l) = table.at_list l
part_of (Item i) = table.at_item i
