-- `listing::reading::read_number` meets its contract. The loop's invariant: `Begun`. The measure is what is left of the text. Assumes nothing.
use mathlib.Core.Path.{refl, sym, ◌∙◌}
use native.Mathlib.Omega.{arith}
use Rattle.listing.proofs.Numbers.{begin, step, too_large, nothing-told, wrong-end, number-ends, zero-alone, zero-spoilt, digit-inside}
use Rattle.listing.proofs.reading.read_number.Goals as goal

pub returns-then-byte-end : goal.returns-then-byte-end
returns-then-byte-end c =
    zero-alone _ _ _ _ c.requires (sym c.byte.ensures ∙ c.if-byte-eq48.true) (sym c.byte-then-byte-eq48.ensures ∙ c.if-byte-end.true)

pub returns-then-byte-eq48 : goal.returns-then-byte-eq48
returns-then-byte-eq48 c =
    zero-spoilt _ _ _ _ c.requires (sym c.byte.ensures ∙ c.if-byte-eq48.true) (λ e. c.if-byte-end.false (c.byte-then-byte-eq48.ensures ∙ e))

pub loop-d-init : goal.loop-d-init
loop-d-init c = begin _ _ _ _ c.requires

pub returns-then-size-value : goal.returns-then-size-value
returns-then-size-value c =
    too_large _ _ _ _ c.requires (λ e. c.if-byte-eq48.false (c.byte.ensures ∙ e)) _ _ _ c.loop-d.invariant c.in-Some.ensures.0 c.in-Some.ensures.1
    c.if-size-value.true

pub loop-d-smaller : goal.loop-d-smaller
loop-d-smaller c = omega (arith, digit-inside c.args.text.now c.loop-d.p (omega (arith, c.in-Some.ensures)))

pub loop-d-preserved : goal.loop-d-preserved
loop-d-preserved c =
    step _ _ _ _ c.requires (λ e. c.if-byte-eq48.false (c.byte.ensures ∙ e)) _ _ _ c.loop-d.invariant c.in-Some.ensures.0 c.in-Some.ensures.1
    c.if-size-value.false

pub returns-then-value-eq0 : goal.returns-then-value-eq0
returns-then-value-eq0 c =
    nothing-told _ _ _ _ c.requires (λ e. c.if-byte-eq48.false (c.byte.ensures ∙ e)) _ _ _ c.loop-d.invariant refl c.in_default.ensures
    c.if-value-eq0.true

pub returns-then-byte-end-2 : goal.returns-then-byte-end-2
returns-then-byte-end-2 c =
    wrong-end _ _ _ _ c.requires (λ e. c.if-byte-eq48.false (c.byte.ensures ∙ e)) _ _ _ c.loop-d.invariant refl c.in_default.ensures
    c.if-value-eq0.false (λ e. c.if-byte-end-2.true (c.byte-2.ensures ∙ e))

pub returns : goal.returns
returns c =
    number-ends _ _ _ _ c.requires (λ e. c.if-byte-eq48.false (c.byte.ensures ∙ e)) _ _ _ c.loop-d.invariant refl c.in_default.ensures
    c.if-value-eq0.false (sym c.byte-2.ensures ∙ c.if-byte-end-2.false)
