-- `day::lay_state` meets its promise. The loop's invariant: what `Along` says of the lines of the first i words. The measure is how many
-- are left. Assumes nothing.
use Prim.Native.Nat.{◌-◌, ◌≤◌}
use mathlib.Core.Path.{◌≡◌, sym, ◌∙◌}
use native.Mathlib.Omega.{arith}
use borrow.Author.Rules.{rules}
use lib.ListN.{length}
use Rattle.session.proofs.Lines.{unlaid}
use Rattle.day.specs.Promises.{most_state}
use Rattle.day.proofs.State.{Along, begin, next, end, nothing-shown, other_length, too_many}
use Rattle.day.proofs.lay_state.Goals as goal

pub returns-then-out-lt-MOST_STATE : goal.returns-then-out-lt-MOST_STATE
returns-then-out-lt-MOST_STATE c = unlaid most_state _ _ c.if-out-lt-MOST_STATE.true

pub returns-then-s-words : goal.returns-then-s-words
returns-then-s-words c =
    let a = c.args in
    let words = rw c.read-table.ensures.0 at c.state_length-words.ensures in
    nothing-shown _ _ _ (other_length a.t.now a.s.now a.out.now (λ e. c.if-s-words.true (e ∙ sym words))) c.if-out-lt-MOST_STATE.false

pub returns-then-words-gt-MOST_WORDS : goal.returns-then-words-gt-MOST_WORDS
returns-then-words-gt-MOST_WORDS c =
    let a = c.args in
    let same = c.if-s-words.false in
    nothing-shown _ _ _ (too_many a.t.now a.s.now a.out.now (omega (arith, c.if-words-gt-MOST_WORDS.true))) c.if-out-lt-MOST_STATE.false

pub loop-i-init : goal.loop-i-init
loop-i-init c = (omega arith, begin _ _ _)

pub lay_state_word-at-requires : goal.lay_state_word-at-requires
lay_state_word-at-requires c =
    let l = c.loop-i in
    let few = l.invariant.1.few in
    let long = l.invariant.1.long in
    (omega (arith, c.state_length-words.ensures), omega arith, omega arith)

pub loop-i-preserved : goal.loop-i-preserved
loop-i-preserved c =
    let l = c.loop-i in
    let long = (c.if-s-words.false) in
    let put = rw c.read-table.ensures.0 at c.lay_state_word-at.ensures in
    (omega arith, next _ _ _ _ _ _ l.invariant.1 (omega arith) (omega arith) c.if-out-lt-MOST_STATE.false _ _ put)

pub returns : goal.returns
returns c =
    let l = c.loop-i in
    let long = (c.if-s-words.false) in
    end _ _ _ _ _ _ l.invariant.1 (omega arith) (omega arith) (long ∙ rw c.read-table.ensures.0 at c.state_length-words.ensures) (omega arith) c.if-out-lt-MOST_STATE.false
