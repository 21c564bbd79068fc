-- `listing::reading::read_line` meets its contract: the name, and the fields behind it. Assumes nothing.
use mathlib.Core.Path.{ap}
use lib.ListN.{length}
use Rattle.listing.specs.Forms.{form_number}
use Rattle.listing.proofs.OneLine.{no_name, stands-so, stands-not, line-behind}
use Rattle.listing.proofs.reading.read_line.Goals as goal

pub returns-then-not-starts_with : goal.returns-then-not-starts_with
returns-then-not-starts_with c =
    let a = c.args in
    no_name a.text.now a.at (form_number a.f)
    (stands-not a.text.now a.at (form_number a.f) _ c.name-name.ensures.0 _ c.starts_with.ensures.value c.if-not-starts_with.true)

pub returns : goal.returns
returns c =
    let a = c.args in
    line-behind a.text.now a.at (form_number a.f) _ (ap length c.name-name.ensures.0)
    (stands-so a.text.now a.at (form_number a.f) _ c.name-name.ensures.0 _ c.starts_with.ensures.value c.if-not-starts_with.false)
    (form_number c.form_of.result) c.form_of.ensures c.read_fields.result c.read_fields.ensures
