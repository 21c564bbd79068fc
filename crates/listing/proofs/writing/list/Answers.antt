-- `listing::writing::list` meets its promise: what refuses it, one after the other, or the listing. Assumes nothing.
use mathlib.Core.Path.{◌≡◌, sym, ◌∙◌}
use native.Mathlib.Omega.{arith}
use borrow.Author.Tests.{eqb-true}
use lib.ListN.{length}
use Rattle.rulebook.specs.Reasons.{exact_length}
use Rattle.rulebook.specs.Table.{table_length}
use Rattle.tables.proofs.Shapes.{kept_of, some_of}
use Rattle.listing.proofs.Lists.{no-shape, no_room, done}
use Rattle.listing.proofs.writing.list.Goals as goal
use Rattle.listing.proofs.writing.list.Goals.{In-Ok}

-- a table that is accepted so far has the length that its header asks for
whole : (c : In-Ok) → table_length c.in-Ok.t.words ≡ length c.in-Ok.t.words
unfolding exact_length
whole c =
    let told = c.in-Ok.ensures in
    rw told.table (sym (eqb-true _ _ (kept_of _ (sym told.reason)).exact))

pub returns-in_default : goal.returns-in_default
returns-in_default c =
    let n = c.not_shaped.ensures in
    rw n.1
    (no-shape _ _ _ (n.0 ∙ c.shaped-shape.ensures.reason) (λ z. some_of c.in_default.field-0 (sym (rw c.in_default.is at n.0) ∙ z)))

pub listing_room-requires : goal.listing_room-requires
listing_room-requires c = whole (goal.at.listing_room-requires c).In-Ok

pub returns-in_default-listing_room : goal.returns-in_default-listing_room
returns-in_default-listing_room c =
    let told = c.in-Ok.ensures in
    no_room _ _ (sym told.reason) (rw told.table at c.in_default-listing_room.ensures)

pub lay_listing-requires : goal.lay_listing-requires
lay_listing-requires c = (whole (goal.at.lay_listing-requires c).In-Ok, omega (arith, c.in-Some.ensures))

pub returns : goal.returns
returns c =
    let told = c.in-Ok.ensures in
    done _ _ (sym told.reason) (omega (arith, rw told.table at c.in-Some.ensures)) (rw told.table at c.lay_listing.ensures)
