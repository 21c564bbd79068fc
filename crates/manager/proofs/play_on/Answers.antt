-- `manager::play_on` meets its promise. Assumes nothing.
use Rattle.std.proofs.Common.{◌≡◌, length, refl, ap, arith}
use Rattle.events.specs.Answers.{number_of, count_of, visits_of}
use Rattle.manager.proofs.Playing.{along-end, along-ends, along-next, not_eight, not_done}
use Rattle.manager.proofs.play_on.Goals as goal

pub end_of-requires : goal.end_of-requires
end_of-requires c = not_eight c.loop-taken.invariant _ c.loop-taken-test.true refl _ _ c.take_next-answer.result _ refl c.take_next-answer.ensures

pub returns-in_default : goal.returns-in_default
returns-in_default c =
    rw c.end_of.ensures
    (along-ends c.loop-taken.invariant _ c.loop-taken-test.true refl _ _ c.take_next-answer.result _ refl c.take_next-answer.ensures
    (not_done c.take_next-answer.result c.in_default.not-Ok))

pub loop-taken-preserved : goal.loop-taken-preserved
loop-taken-preserved c =
    let done = c.in-Ok.is in
    along-next c.loop-taken.invariant _ c.loop-taken-test.true refl _ _ c.take_next-answer.result _ refl c.take_next-answer.ensures _ _ (ap number_of done)
    (ap count_of done) (ap visits_of done) _
    (let same : c.from-visits.result ≡ c.in-Ok.report.visits = omega arith in rw same)

pub returns : goal.returns
returns c =
    let all : c.loop-taken.taken ≡ length c.args.es.now = omega (arith, c.loop-taken-test.false, c.loop-taken.invariant.within) in
    rw all at (along-end c.loop-taken.invariant c.loop-taken-test.false)
