-- `day::lay_name` meets its contract, thing by thing. Assumes nothing.
use native.Mathlib.Omega.{arith}
use borrow.Author.Rules.{rules}
use Rattle.day.specs.Printed.{label, number, named}
use Rattle.day.proofs.lay_name.Goals as goal

pub lay_numbered-requires : goal.lay_numbered-requires
unfolding number
lay_numbered-requires c =
    let asked = c.requires in (rw c.in-Port.is at asked.0, omega arith)

pub lay_numbered-requires-in-Rule : goal.lay_numbered-requires-in-Rule
unfolding number
lay_numbered-requires-in-Rule c =
    let asked = c.requires in (rw c.in-Rule.is at asked.0, omega arith)

pub lay_numbered-requires-in-Network : goal.lay_numbered-requires-in-Network
unfolding number
lay_numbered-requires-in-Network c =
    let asked = c.requires in (rw c.in-Network.is at asked.0, omega arith)

pub lay_numbered-requires-in-Source : goal.lay_numbered-requires-in-Source
unfolding number
lay_numbered-requires-in-Source c =
    let asked = c.requires in (rw c.in-Source.is at asked.0, omega arith)

pub returns-in-Port : goal.returns-in-Port
unfolding label number named
returns-in-Port c =
    rw c.in-Port.is c.lay_numbered.ensures

pub returns-in-Rule : goal.returns-in-Rule
unfolding label number named
returns-in-Rule c =
    rw c.in-Rule.is c.lay_numbered-in-Rule.ensures

pub returns-in-Network : goal.returns-in-Network
unfolding label number named
returns-in-Network c =
    rw c.in-Network.is c.lay_numbered-in-Network.ensures

pub returns-in-Source : goal.returns-in-Source
unfolding label number named
returns-in-Source c =
    rw c.in-Source.is c.lay_numbered-in-Source.ensures
