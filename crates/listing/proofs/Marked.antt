-- The marked table's listing, computed on the definitions. Assumes nothing.
use mathlib.Core.Path.{◌≡◌, refl}
use mathlib.Core.Bool.{true}
use Rattle.rulebook.specs.Words.{digit}
use Rattle.rulebook.specs.Table.{part}
use Rattle.rulebook.specs.Reasons.{has_header, known_edition, counts_inside, exact_length, or_next, first_of}
use Rattle.rulebook.specs.Listing.{forms, form, place_form, kind_form, form_at, fields_from, fields_of, shape_reason}
use Rattle.rulebook.specs.Marked.{table, same}
use Rattle.text.specs.Lines.{hex_digit, digits, places_in, places, decimal}
use Rattle.listing.specs.Lines.{ending, spelt, line, first_lines, listing}
use Rattle.listing.specs.Promises.{list_answer}
use Rattle.listing.specs.Marked.{twelve_lines, marked_listing}

pub claim : marked_listing ≡ true
unfolding digit part has_header known_edition counts_inside exact_length or_next first_of forms form place_form kind_form form_at fields_from fields_of shape_reason table same hex_digit digits places_in places decimal ending spelt line first_lines listing list_answer twelve_lines marked_listing
claim = refl
