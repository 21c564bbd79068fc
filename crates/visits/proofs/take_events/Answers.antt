-- `visits::take_events` meets its promise. The loop's invariant: what `Along` says of the first i events. The measure is how many are
-- left. Assumes nothing.
use borrow.Author.Rules.{rules}
use Prim.Native.Nat.{◌-◌}
use mathlib.Core.Path.{◌≡◌, refl, sym, ◌∙◌}
use native.Mathlib.Omega.{arith}
use lib.ListN.{length}
use borrow.Author.Tests.{not-true, not-false, leb-true, leb-false}
use Rattle.session.specs.Promises.{offered}
use Rattle.session.proofs.Steps.{ready-from}
use Rattle.session.proofs.Along.{offered-long, offered-at}
use Rattle.visits.proofs.Along.{Along, begin, next, end, none-taken}
use Rattle.visits.proofs.take_events.Goals as goal

pub returns-then-not-ready : goal.returns-then-not-ready
returns-then-not-ready c = none-taken _ _ _ _ _ _ _ (sym c.ready.ensures ∙ c.if-not-ready.true)

pub accepted-table-requires : goal.accepted-table-requires
accepted-table-requires c = (ready-from _ _ _ (sym c.ready.ensures ∙ c.if-not-ready.false)).table

pub loop-i-init : goal.loop-i-init
loop-i-init c = begin _ _ _ _ _ _ (ready-from _ _ _ (sym c.ready.ensures ∙ c.if-not-ready.false))

pub take_one-cost-requires : goal.take_one-cost-requires
take_one-cost-requires c =
    let l = c.loop-i in
    let free = c.if-saturating_sub-lt-MOST_LINE.false in (
      rw c.accepted-table.ensures.0 l.invariant.ready,
      omega (arith, c.saturating_sub.ensures),
    )

pub counted-so_far-requires : goal.counted-so_far-requires
counted-so_far-requires c =
    let l = c.loop-i in
    let inside = c.loop-i-test.true in
    omega (
      arith,
      l.invariant.number,
      c.saturating_sub-total.ensures,
      c.word_count.ensures,
      c.requires.fits,
    )

pub loop-i-preserved : goal.loop-i-preserved
loop-i-preserved c =
    let a = c.args in
    let l = c.loop-i in
    let ok = sym c.ready.ensures ∙ c.if-not-ready.false in
    let long = offered-long a.t.now a.s.now a.trace.now a.bytes.now a.from ok in
    let free = c.if-saturating_sub-lt-MOST_LINE.false in
    next _ _ _ _ _ _ _ _ _ _ _ _ l.invariant _ _ _ _ _ _
    (omega (arith, c.saturating_sub-total.ensures, c.word_count.ensures))
    (omega (arith, c.saturating_sub.ensures, l.invariant.out_long))
    (offered-at a.t.now a.s.now a.trace.now a.bytes.now a.from ok l.i _
    c.read_word-e.ensures)
    (rw c.accepted-table.ensures.0 at c.take_one-cost.ensures) c.counted-so_far.ensures

pub returns-then-saturating_sub-lt-MOST_LINE : goal.returns-then-saturating_sub-lt-MOST_LINE
returns-then-saturating_sub-lt-MOST_LINE c =
    let l = c.loop-i in
    let full = c.if-saturating_sub-lt-MOST_LINE.true in
    end _ _ _ _ _ _ _ _ _ _ _ _ l.invariant _ refl refl refl (λ h. omega (arith, c.saturating_sub.ensures, l.invariant.out_long))

pub returns : goal.returns
returns c =
    let a = c.args in
    let ok = sym c.ready.ensures ∙ c.if-not-ready.false in
    let long = offered-long a.t.now a.s.now a.trace.now a.bytes.now a.from ok in
    let all : c.saturating_sub-total.result ≡ c.loop-i.i = omega arith in
    rw all
    (end _ _ _ _ _ _ _ _ _ _ _ _ c.loop-i.invariant _ refl refl refl
    (λ h. absurd (omega (arith, c.saturating_sub-total.ensures, c.word_count.ensures))))
