-- `recording::read_recording` meets its contract, by what stands at the place and behind the words. Assumes nothing.
use Rattle.std.proofs.Common.{◌≡◌, ◌-◌, ℕ, refl, sym, ap, ◌∙◌, arith}
use Rattle.recording.proofs.Spelling.{answer-inside, answer-digit}
use Rattle.recording.specs.Log.{byte}
use Rattle.recording.proofs.Placed.{missing-read, no-answer-read, words-inside, read}
use Rattle.recording.proofs.read_recording.Goals as goal

pub returns-then-bytes-at : goal.returns-then-bytes-at
returns-then-bytes-at c = missing-read _ _ _ c.if-bytes-at.true

pub returns-then-not-is_answer : goal.returns-then-not-is_answer
returns-then-not-is_answer c = no-answer-read _ _ _ (omega arith) (sym c.if-not-is_answer.ensures)

pub overflow_sub-byte : goal.overflow_sub-byte
overflow_sub-byte c = rw c.byte.ensures (answer-digit _ _ (sym c.if-not-is_answer.ensures))

pub read_words-count-requires : goal.read_words-count-requires
read_words-count-requires c = answer-inside _ _ (sym c.if-not-is_answer.ensures)

pub overflow_mul-next : goal.overflow_mul-next
overflow_mul-next c =
    let a = c.args in
    omega (arith, words-inside a.bytes.now a.at a.words.now _ _ (sym c.if-not-is_answer.ensures) c.read_words-count.ensures)

pub overflow_add-next-2 : goal.overflow_add-next-2
overflow_add-next-2 c =
    let a = c.args in
    omega (arith, words-inside a.bytes.now a.at a.words.now _ _ (sym c.if-not-is_answer.ensures) c.read_words-count.ensures)

pub found_behind-found-requires : goal.found_behind-found-requires
found_behind-found-requires c =
    let a = c.args in
    words-inside a.bytes.now a.at a.words.now _ _ (sym c.if-not-is_answer.ensures) c.read_words-count.ensures

pub returns : goal.returns
returns c =
    let s = c.args in
    let r = c.read_words-count in
    let digit : c.from-answer.result ≡ byte s.bytes.now s.at - 48 = c.from-answer.ensures ∙ ap (λ (b : ℕ). b - 48) c.byte.ensures in
    read s.bytes.now s.at s.words.now (omega arith) (sym c.if-not-is_answer.ensures) _ _ r.result _ r.new.words r.ensures refl
    c.found_behind-found.ensures digit
