-- `evaluation::any_undefined` meets its contract: the chain asks for each port in turn. Assumes nothing.
use Rattle.std.proofs.Common.{rules, arith, refl, tests}
use Rattle.rulebook.specs.Lists.{undefined_in}
use Rattle.walks.proofs.Ranges.{any-of_range}
use Rattle.evaluation.proofs.any_undefined.Goals as goal

pub returns : goal.returns
returns c = any-of_range (undefined_in c.args.s.now) 0 c.args.ports c.any.ensures.ran refl (omega arith) (λ x y h k. search (rules, tests))
