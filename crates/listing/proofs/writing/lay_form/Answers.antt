-- `listing::writing::lay_form` meets its contract: the name, and the fields behind it. Assumes nothing.
use Rattle.listing.proofs.Lists.{name_fits, name_put}
use Rattle.listing.proofs.writing.lay_form.Goals as goal

pub lay_fields-requires : goal.lay_fields-requires
lay_fields-requires c = name_fits _ _ c.requires c.name.ensures.0 c.put_label-next.ensures

pub returns : goal.returns
returns c = name_put _ _ c.requires c.name.ensures.0 c.put_label-next.ensures c.lay_fields.ensures
