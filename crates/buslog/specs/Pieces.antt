-- The rulebook's pieces of a line, by their case.
use Rattle.rulebook.specs.BusLog as rulebook
use Rattle.buslog.specs.declared.pieces.Piece.{Piece}
use Rattle.buslog.specs.declared.pieces.Piece.TheVariants.{Opening, Seconds, Micros, Gap, Name, Identifier, Pairs, ListedName}

abbrev pub piece_of : Piece → rulebook.Piece
piece_of Opening = rulebook.opening
piece_of Seconds = rulebook.seconds
piece_of Micros = rulebook.micros
piece_of Gap = rulebook.gap
piece_of Name = rulebook.name
piece_of Identifier = rulebook.identifier
piece_of Pairs = rulebook.pairs
piece_of ListedName = rulebook.listed_name
