-- `tables::check_words` meets its promise: at each test, what is left of the rules is what comes from that one on. Assumes nothing.
use Rattle.std.proofs.Common.{arith}
use Rattle.nesting.proofs.Levels.{no-round}
use Rattle.tables.proofs.Stages.{whole, few-lists, nested, judged, misfit, misnamed, too-deep, clashes, unreached, too-dear, affords}
use Rattle.tables.proofs.check_words.Goals as goal

pub first_misfit-misfit-requires : goal.first_misfit-misfit-requires
first_misfit-misfit-requires c = whole _ c.requires

pub first_misnamed-misnamed-requires : goal.first_misnamed-misnamed-requires
first_misnamed-misnamed-requires c = whole _ c.requires

pub find_depths-requires : goal.find_depths-requires
find_depths-requires c = record { few = omega (arith, few-lists _ c.requires); found = no-round _ }

pub first_deep-deep-requires : goal.first_deep-deep-requires
first_deep-deep-requires c = record { whole = whole _ c.requires; found = c.find_depths.ensures }

pub first_clash-clash-requires : goal.first_clash-clash-requires
first_clash-clash-requires c = whole _ c.requires

pub first_unreached-unreached-requires : goal.first_unreached-unreached-requires
first_unreached-unreached-requires c =
    judged _ c.requires c.length-end.ensures c.first_misfit-misfit.ensures c.if-misfit-end.false c.first_misnamed-misnamed.ensures c.if-misnamed-end.false c.first_deep-deep.ensures c.if-deep-end.false c.find_depths.ensures

pub bound-b-requires : goal.bound-b-requires
bound-b-requires c =
    record {
      searched = record { few = omega (arith, few-lists _ c.requires); found = c.find_depths.ensures };
      nested = nested _ c.requires c.length-end.ensures c.first_misfit-misfit.ensures c.if-misfit-end.false c.first_misnamed-misnamed.ensures c.if-misnamed-end.false c.first_deep-deep.ensures c.if-deep-end.false;
    }

pub returns-then-misfit-end : goal.returns-then-misfit-end
returns-then-misfit-end c =
    misfit _ c.requires c.length-end.ensures c.first_misfit-misfit.ensures c.if-misfit-end.true

pub returns-then-misnamed-end : goal.returns-then-misnamed-end
returns-then-misnamed-end c =
    misnamed _ c.requires c.length-end.ensures c.first_misfit-misfit.ensures c.if-misfit-end.false c.first_misnamed-misnamed.ensures c.if-misnamed-end.true

pub returns-then-deep-end : goal.returns-then-deep-end
returns-then-deep-end c =
    too-deep _ c.requires c.length-end.ensures c.first_misfit-misfit.ensures c.if-misfit-end.false c.first_misnamed-misnamed.ensures c.if-misnamed-end.false c.first_deep-deep.ensures c.if-deep-end.true

pub returns-then-clash-end : goal.returns-then-clash-end
returns-then-clash-end c =
    clashes _ c.requires c.length-end.ensures c.first_misfit-misfit.ensures c.if-misfit-end.false c.first_misnamed-misnamed.ensures c.if-misnamed-end.false c.first_deep-deep.ensures c.if-deep-end.false c.first_clash-clash.ensures c.if-clash-end.true

pub returns-then-unreached-end : goal.returns-then-unreached-end
returns-then-unreached-end c =
    unreached _ c.requires c.length-end.ensures c.first_misfit-misfit.ensures c.if-misfit-end.false c.first_misnamed-misnamed.ensures c.if-misnamed-end.false c.first_deep-deep.ensures c.if-deep-end.false c.first_clash-clash.ensures c.if-clash-end.false c.first_unreached-unreached.ensures c.if-unreached-end.true

pub returns-then-b-gt4096 : goal.returns-then-b-gt4096
returns-then-b-gt4096 c =
    too-dear _ c.requires c.length-end.ensures c.first_misfit-misfit.ensures c.if-misfit-end.false c.first_misnamed-misnamed.ensures c.if-misnamed-end.false c.first_deep-deep.ensures c.if-deep-end.false c.first_clash-clash.ensures c.if-clash-end.false c.first_unreached-unreached.ensures c.if-unreached-end.false c.bound-b.ensures c.if-b-gt4096.true

pub returns : goal.returns
returns c =
    affords _ c.requires c.length-end.ensures c.first_misfit-misfit.ensures c.if-misfit-end.false c.first_misnamed-misnamed.ensures c.if-misnamed-end.false c.first_deep-deep.ensures c.if-deep-end.false c.first_clash-clash.ensures c.if-clash-end.false c.first_unreached-unreached.ensures c.if-unreached-end.false c.bound-b.ensures c.if-b-gt4096.false
