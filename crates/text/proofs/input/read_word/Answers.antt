-- `text::input::read_word` meets its contract: the i-th four bytes make the word. Assumes nothing.
use Rattle.std.proofs.Common.{sym, [], ◌∙◌, ◌≡◌, ap, get_or, refl, arith}
use Rattle.std.specs.Int.{w32, from_be_bytes}
use Rattle.text.proofs.Words.{chunk-word, none-past}
use Rattle.text.proofs.input.read_word.Goals as goal

pub returns-in-Some : goal.returns-in-Some
returns-in-Some c =
    let a = c.args in
    let e = c.as_chunks.ensures in
    let h = c.in-Some.ensures.lookup in
    let is : c.in-Some.word.now ≡ get_or c.as_chunks.result.0.now a.i [] = h.3.1 [] in
    c.from_be_bytes.ensures ∙ ap (from_be_bytes w32) is ∙ rw e.front (sym (chunk-word _ a.i a.bytes.now refl (omega arith)))

pub returns-in-None : goal.returns-in-None
returns-in-None c =
    let h = c.in-None.ensures.lookup in
    sym (none-past c.args.bytes.now c.args.i (omega arith))
