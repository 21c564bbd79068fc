-- `manager::take_event` meets its promise: table and state do not stand, or the event is taken behind their check. Assumes nothing.
use Rattle.std.proofs.Common.{◌∙◌}
use Rattle.laws.proofs.Play.{stood-table}
use Rattle.states.proofs.Admitting.{not-standing, standing}
use Rattle.manager.proofs.Steps.{reports-unadmitted}
use Rattle.manager.proofs.take_event.Goals as goal

pub returns-in_default : goal.returns-in_default
returns-in_default c =
    reports-unadmitted _ _ _ _ _ c.not_admitted.result
    (λ z. not-standing c.admit-admission.result c.in_default.not-Ok (c.admit-admission.ensures.number ∙ z))
    (c.not_admitted.ensures.0 ∙ c.admit-admission.ensures.number) c.not_admitted.ensures.1 c.not_admitted.ensures.2

pub accepted-table-requires : goal.accepted-table-requires
accepted-table-requires c = stood-table _ _ (standing c.in-Ok.is c.admit-admission.ensures)
