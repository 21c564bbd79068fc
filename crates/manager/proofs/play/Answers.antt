-- `manager::play` meets its promise: table and state do not stand, or the events are played behind their check. Assumes nothing.
use Rattle.std.proofs.Common.{◌∙◌, arith}
use Rattle.laws.proofs.Play.{state-small, stood-table}
use Rattle.states.proofs.Admitting.{not-standing, standing}
use Rattle.manager.proofs.Playing.{plays-unadmitted}
use Rattle.manager.proofs.play.Goals as goal

pub returns-in_default : goal.returns-in_default
returns-in_default c =
    plays-unadmitted _ _ _ _ _
    (λ z. not-standing c.admit-admission.result c.in_default.not-Ok (c.admit-admission.ensures.number ∙ z))
    (c.end_of.ensures ∙ c.not_admitted.ensures.0 ∙ c.admit-admission.ensures.number)

pub end_of-requires : goal.end_of-requires
end_of-requires c z =
    let small = state-small c.args.t.now c.args.s.now in
    let is = c.not_admitted.ensures.0 ∙ c.admit-admission.ensures.number in
    omega (arith, small, is, z)

pub accepted-table-requires : goal.accepted-table-requires
accepted-table-requires c = stood-table _ _ (standing c.in-Ok.is c.admit-admission.ensures)
