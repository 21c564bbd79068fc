-- `text::output::places` meets its contract: the largest power of ten within a number says how many digits it has. Assumes nothing.
use Rattle.std.proofs.Common.{sym, arith}
use Rattle.text.proofs.Decimal.{places-one, places-between}
use Rattle.text.proofs.output.places.Goals as goal

pub returns-in-Some : goal.returns-in-Some
returns-in-Some c =
    let e = c.in-Some.ensures in
    places-between c.in-Some.tens c.args.n e.power_le e.next_power_gt

pub returns-in-None : goal.returns-in-None
returns-in-None c = sym (places-one c.args.n (omega (arith, c.in-None.ensures.none)))
