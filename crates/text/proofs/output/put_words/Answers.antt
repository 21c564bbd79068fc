-- `text::output::put_words` meets its contract. Assumes nothing.
use Rattle.std.proofs.Common.{◌≡◌, ◌+◌, ◌-◌, min, ◌*◌, ◌≤◌, [], length, take, arith, length-take, ap, ◌∙◌}
use Rattle.std.proofs.lemmas.List.{take_all}
use Rattle.text.proofs.Runs.{length_run, none-laid, next-laid, one-laid}
use Rattle.text.proofs.output.put_words.Goals as goal

pub loop-word-init : goal.loop-word-init
loop-word-init c = record { place = omega arith; bytes = none-laid c.args.out.now c.args.at [] }

pub loop-word-preserved : goal.loop-word-preserved
loop-word-preserved c =
    let a = c.args in
    let l = c.loop-word in
    let p = c.put_hex_line-next in
    let ws = take c.min-n.result c.run-words.result.now in
    let few : length ws ≤ c.min-n.result = simp length-take (omega arith) in
    let room : a.at + 9 * (l.word-index + 1) ≤ length a.out.now = omega arith in
    let put = rw l.invariant.place at p.ensures in record {
      place = next-laid a.out.now a.at ws l.word-index c.loop-word-test.true room l.out l.auto.out p.result p.new.out put;
      bytes = one-laid a.out.now a.at ws l.word-index c.loop-word-test.true room l.out l.auto.out p.result p.new.out put l.invariant.bytes;
    }

pub returns : goal.returns
returns c =
    let a = c.args in
    let l = c.loop-word in
    let run = c.run-words in
    let n = c.min-n.result in
    let many : length run.result.now ≡ min a.to (length a.words.now) - a.from = ap length run.ensures ∙ length_run a.words.now a.from a.to in
    let whole = take_all l.word-index (take n run.result.now) c.loop-word-test.false in
    let all : l.word-index ≡ n = omega (arith, length-take n run.result.now) in
    record { count = omega arith; place = omega arith; bytes = rw (whole, run.ensures) at l.invariant.bytes }
