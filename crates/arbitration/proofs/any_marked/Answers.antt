-- `arbitration::any_marked` meets its contract: the chain asks for each port in turn. Assumes nothing.
use Rattle.std.proofs.Common.{rules, arith, refl, tests}
use Rattle.rulebook.specs.Table.{ports}
use Rattle.rulebook.specs.Events.{marked_in}
use Rattle.walks.proofs.Ranges.{any-of_range}
use Rattle.arbitration.proofs.any_marked.Goals as goal

pub returns : goal.returns
returns c =
    let t = c.args.t.now.words in
    any-of_range (marked_in t c.args.s.now) 0 (ports t) c.any.ensures.ran refl (omega (arith, c.ports.ensures.value)) (λ x y h k. search (rules, tests))
