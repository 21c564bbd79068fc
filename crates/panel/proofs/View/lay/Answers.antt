-- `panel::View::lay` meets its contract, part behind part. Assumes nothing.
use Rattle.std.proofs.Common.{refl, ◌∙◌, arith}
use Rattle.panel.proofs.Along.{laid-none, room-more, laid-more, laid-all}
use Rattle.panel.proofs.View.lay.Goals as goal

pub lay_part-behind_ports-requires : goal.lay_part-behind_ports-requires
lay_part-behind_ports-requires c = room-more _ _ _ _ c.args.out.now c.requires 0 (omega arith) refl (laid-none _ _ _ _ _) refl

pub lay_part-behind_networks-requires : goal.lay_part-behind_networks-requires
lay_part-behind_networks-requires c =
    let ports = laid-more _ _ _ _ c.args.out.now c.requires 0 (omega arith) refl (laid-none _ _ _ _ _) c.lay_part-behind_ports.ensures in
    room-more _ _ _ _ c.args.out.now c.requires 1 (omega arith) refl ports c.lay_part-behind_ports.auto.out

pub lay_part-behind_sources-requires : goal.lay_part-behind_sources-requires
lay_part-behind_sources-requires c =
    let ports = laid-more _ _ _ _ c.args.out.now c.requires 0 (omega arith) refl (laid-none _ _ _ _ _) c.lay_part-behind_ports.ensures in
    let networks = laid-more _ _ _ _ c.args.out.now c.requires 1 (omega arith) refl ports c.lay_part-behind_networks.ensures in
    room-more _ _ _ _ c.args.out.now c.requires 2 (omega arith) refl networks (c.lay_part-behind_networks.auto.out ∙ c.lay_part-behind_ports.auto.out)

pub lay_part-requires : goal.lay_part-requires
lay_part-requires c =
    let ports = laid-more _ _ _ _ c.args.out.now c.requires 0 (omega arith) refl (laid-none _ _ _ _ _) c.lay_part-behind_ports.ensures in
    let networks = laid-more _ _ _ _ c.args.out.now c.requires 1 (omega arith) refl ports c.lay_part-behind_networks.ensures in
    let sources = laid-more _ _ _ _ c.args.out.now c.requires 2 (omega arith) refl networks c.lay_part-behind_sources.ensures in
    let long = c.lay_part-behind_sources.auto.out ∙ c.lay_part-behind_networks.auto.out ∙ c.lay_part-behind_ports.auto.out in
    room-more _ _ _ _ c.args.out.now c.requires 3 (omega arith) refl sources long

pub returns : goal.returns
returns c =
    let ports = laid-more _ _ _ _ c.args.out.now c.requires 0 (omega arith) refl (laid-none _ _ _ _ _) c.lay_part-behind_ports.ensures in
    let networks = laid-more _ _ _ _ c.args.out.now c.requires 1 (omega arith) refl ports c.lay_part-behind_networks.ensures in
    let sources = laid-more _ _ _ _ c.args.out.now c.requires 2 (omega arith) refl networks c.lay_part-behind_sources.ensures in
    let trace = laid-more _ _ _ _ c.args.out.now c.requires 3 (omega arith) refl sources c.lay_part.ensures in
    laid-all _ _ _ _ c.args.out.now 4 refl trace
