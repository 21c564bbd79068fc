-- `session::take_events` meets its promise. The loop's invariant: what `Along` says of the first i events. The measure is how many are
-- left. Assumes nothing.
use mathlib.Core.Path.{◌≡◌, refl, sym, ◌∙◌}
use native.Mathlib.Omega.{arith}
use Rattle.session.proofs.Steps.{ready-from}
use Rattle.session.proofs.Along.{begin, next, end, none-offered, offered-long, offered-at}
use Rattle.session.proofs.take_events.Goals as goal

pub returns-then-not-ready : goal.returns-then-not-ready
returns-then-not-ready c = none-offered _ _ _ _ _ _ (sym c.ready.ensures ∙ c.if-not-ready.true)

pub accepted-table-requires : goal.accepted-table-requires
accepted-table-requires c = (ready-from _ _ _ (sym c.ready.ensures ∙ c.if-not-ready.false)).table

pub loop-i-init : goal.loop-i-init
loop-i-init c = begin _ _ _ _ _ (ready-from _ _ _ (sym c.ready.ensures ∙ c.if-not-ready.false))

pub take_one-at-requires : goal.take_one-at-requires
take_one-at-requires c =
    let l = c.loop-i in
    let free = c.if-saturating_sub-lt-MOST.false in
    (rw c.accepted-table.ensures.0 l.invariant.ready, omega (arith, c.saturating_sub.ensures))

pub loop-i-preserved : goal.loop-i-preserved
loop-i-preserved c =
    let a = c.args in
    let l = c.loop-i in
    let ok = sym c.ready.ensures ∙ c.if-not-ready.false in
    let long = offered-long a.t.now a.s.now a.trace.now a.bytes.now a.from ok in
    let free = c.if-saturating_sub-lt-MOST.false in
    next _ _ _ _ _ _ _ _ _ _ l.invariant _ _ _ _ _ (omega (arith, c.saturating_sub-total.ensures, c.word_count.ensures))
    (omega (arith, c.saturating_sub.ensures, l.invariant.out_long))
    (offered-at a.t.now a.s.now a.trace.now a.bytes.now a.from ok l.i _
    c.read_word-e.ensures)
    (rw c.accepted-table.ensures.0 at c.take_one-at.ensures)

pub returns-then-saturating_sub-lt-MOST : goal.returns-then-saturating_sub-lt-MOST
returns-then-saturating_sub-lt-MOST c =
    let l = c.loop-i in
    let full = c.if-saturating_sub-lt-MOST.true in
    end _ _ _ _ _ _ _ _ _ _ l.invariant _ refl refl (λ h. omega (arith, c.saturating_sub.ensures, l.invariant.out_long))

pub returns : goal.returns
returns c =
    let a = c.args in
    let ok = sym c.ready.ensures ∙ c.if-not-ready.false in
    let long = offered-long a.t.now a.s.now a.trace.now a.bytes.now a.from ok in
    let all : c.saturating_sub-total.result ≡ c.loop-i.i = omega arith in
    rw all
    (end _ _ _ _ _ _ _ _ _ _ c.loop-i.invariant _ refl refl
    (λ h. absurd (omega (arith, c.saturating_sub-total.ensures, c.word_count.ensures))))
