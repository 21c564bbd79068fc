-- `names::held` meets its contract: each walk by its test of one network or source. Assumes nothing.
use Rattle.std.proofs.Common.{refl, arith, rules}
use borrow.Author.Tests.{tests}
use Rattle.rulebook.specs.Reasons.{network_has, source_has, held}
use Rattle.walks.proofs.Ranges.{any-of_range}
use Rattle.names.proofs.held.Goals as goal

pub returns : goal.returns
unfolding held network_has source_has
returns c =
    let t = c.args.t.now.words in
    rw (
      any-of_range (network_has t c.args.p) 0 c.args.n c.any.ensures.ran refl (omega arith) (λ x y h k. search (rules, tests)),
      any-of_range (source_has t c.args.p) 0 c.args.k c.any-2.ensures.ran refl (omega arith) (λ x y h k. search (rules, tests)),
    )
