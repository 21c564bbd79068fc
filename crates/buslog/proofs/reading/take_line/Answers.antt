-- `buslog::reading::take_line` meets its contract: what refuses the line, in the document's order, or what it gives. Assumes nothing.
use mathlib.Core.Path.{refl, sym, ◌∙◌}
use native.Mathlib.Omega.{arith}
use Rattle.std.specs.Prelude.{Err}
use Rattle.buslog.specs.declared.reading.Halt.TheVariants.{Misspelt, GoesBack, Unlisted}
use Rattle.buslog.proofs.Taking.{fault-spelt, fault-back, fault-name, no-fault, stops, gave, back_as, same-network}
use Rattle.buslog.proofs.reading.take_line.Goals as goal

pub returns-in_default : goal.returns-in_default
returns-in_default c =
    stops _ _ _ _ _ _ _ c.requires.0 c.requires.1 12 (Err Misspelt) (fault-spelt _ _ _ _ c.in_default.ensures) (λ z. omega arith) refl _
    c.stopped.ensures

pub returns-then-goes_back : goal.returns-then-goes_back
returns-then-goes_back c =
    let says = c.in-Some.ensures in
    stops _ _ _ _ _ _ _ c.requires.0 c.requires.1 14 (Err GoesBack)
    (fault-back _ _ _ _ says.spelt (back_as _ _ _ _ _ says c.goes_back.ensures ∙ c.if-goes_back.true)) (λ z. omega arith) refl _
    c.stopped-then-goes_back.ensures

pub returns-in_default-number_of : goal.returns-in_default-number_of
returns-in_default-number_of c =
    let says = c.in-Some.ensures in
    let count = c.networks.ensures.value in
    stops _ _ _ _ _ _ _ c.requires.0 c.requires.1 15 (Err Unlisted)
    (fault-name _ _ _ _ says.spelt (back_as _ _ _ _ _ says c.goes_back.ensures ∙ c.if-goes_back.false)
    (sym (same-network _ _ _ _ _ _ _ says count (sym c.in_default-number_of.ensures)) ∙ count)) (λ z. omega arith) refl _
    c.stopped-in_default-number_of.ensures

pub give-requires : goal.give-requires
give-requires c =
    let told = c.in-Some-number_of.ensures in
    (omega (arith, told.1, c.networks.ensures.small), c.requires.1)

pub returns : goal.returns
returns c =
    let says = c.in-Some.ensures in
    let count = c.networks.ensures.value in
    let told = c.in-Some-number_of.ensures in
    let network = same-network _ _ _ _ _ _ _ says count told.0 in
    gave _ _ _ _ _ _ _ c.requires.0 c.requires.1 _ _ says network
    (no-fault _ _ _ _ says.spelt (back_as _ _ _ _ _ says c.goes_back.ensures ∙ c.if-goes_back.false)
    (λ e. omega (arith, network, e, count, told.1))) says.inside _ _ c.give.ensures
