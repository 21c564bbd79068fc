-- `panel::View::room_left` meets its contract, part behind part. Assumes nothing.
use Rattle.std.proofs.Common.{refl, arith}
use Rattle.panel.proofs.Along.{left-none, left-more, left-last, no-more}
use Rattle.panel.proofs.View.room_left.Goals as goal

pub returns-in_err-behind_ports : goal.returns-in_err-behind_ports
returns-in_err-behind_ports c =
    rw c.from_residual.ensures (no-more _ _ _ _ c.args.room _ 0 refl (left-none _ _ _ _ _) (omega arith) c.in_err-behind_ports.ensures)

pub returns-in_err-behind_networks : goal.returns-in_err-behind_networks
returns-in_err-behind_networks c =
    let ports = left-more _ _ _ _ c.args.room _ 0 refl (left-none _ _ _ _ _) _ c.in_ok-behind_ports.ensures in
    rw c.from_residual-in_err-behind_networks.ensures (no-more _ _ _ _ _ _ 1 refl ports (omega arith) c.in_err-behind_networks.ensures)

pub returns-in_err-behind_sources : goal.returns-in_err-behind_sources
returns-in_err-behind_sources c =
    let ports = left-more _ _ _ _ c.args.room _ 0 refl (left-none _ _ _ _ _) _ c.in_ok-behind_ports.ensures in
    let networks = left-more _ _ _ _ _ _ 1 refl ports _ c.in_ok-behind_networks.ensures in
    rw c.from_residual-in_err-behind_sources.ensures (no-more _ _ _ _ _ _ 2 refl networks (omega arith) c.in_err-behind_sources.ensures)

pub returns : goal.returns
returns c =
    let ports = left-more _ _ _ _ c.args.room _ 0 refl (left-none _ _ _ _ _) _ c.in_ok-behind_ports.ensures in
    let networks = left-more _ _ _ _ _ _ 1 refl ports _ c.in_ok-behind_networks.ensures in
    let sources = left-more _ _ _ _ _ _ 2 refl networks _ c.in_ok-behind_sources.ensures in
    left-last _ _ _ _ _ _ sources c.part_room-4.result c.part_room-4.ensures
