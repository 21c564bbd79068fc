-- `show::Watch::watch_block` meets its contract. Assumes nothing.
use Rattle.std.proofs.Common.{◌+◌, ◌<◌, length, refl, ◌∙◌, arith, take_all}
use mathlib.Core.Bool.{false≢true}
use Rattle.std.proofs.lemmas.Result.{err_from_is_err_and}
use Rattle.text.specs.Words.{words_of}
use Rattle.show.proofs.Kept.{took-first, leaves_none, block-next}
use Rattle.show.proofs.Watch.watch_block.Goals as goal

pub loop-i-init : goal.loop-i-init
loop-i-init c =
    record {
      state_long = refl;
      trace_long = refl;
      found_long = refl;
      out_long = refl;
      going = c.requires;
      so_far = leaves_none _ _ _ _ _ refl;
    }

pub returns-in_err-seen : goal.returns-in_err-seen
returns-in_err-seen c =
    let l = c.loop-i in
    let p = err_from_is_err_and c.from_residual.result c.from_residual.ensures.1 in
    let took = c.in_err-seen.ensures in
    let inside : l.i < length (words_of c.args.block.now) = omega (arith, c.word_count-i-end.ensures) in
    let more = block-next (words_of c.args.block.now) l.i l.invariant.so_far inside c.read_word-e.ensures took in
    rw (p.1, p.2) (record { all = λ ok. absurd (false≢true ok); some = took-first _ (l.i + 1) more.state; next = took.going })

pub loop-i-preserved : goal.loop-i-preserved
loop-i-preserved c =
    let l = c.loop-i in
    let i = l.invariant in
    let k = c.watch_one.auto in
    let took = c.in_ok-seen.ensures in
    record {
      state_long = k.s ∙ i.state_long;
      trace_long = k.trace ∙ i.trace_long;
      found_long = k.found ∙ i.found_long;
      out_long = k.out ∙ i.out_long;
      going = took.going;
      so_far = block-next (words_of c.args.block.now) l.i i.so_far (omega (arith, c.word_count-i-end.ensures)) c.read_word-e.ensures took;
    }

pub returns : goal.returns
returns c =
    let l = c.loop-i in
    let i = l.invariant in
    let whole = take_all l.i (words_of c.args.block.now) (omega (arith, c.word_count-i-end.ensures)) in
    record { all = λ ok. rw whole at i.so_far; some = took-first _ l.i i.so_far.state; next = i.going }
