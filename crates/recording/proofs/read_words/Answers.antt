-- `recording::read_words` meets its contract. Assumes nothing.
use Rattle.std.proofs.lemmas.List.{set-get_or}
use Rattle.std.proofs.Common.{arith, ◌≡◌, ◌∙◌, ◌+◌, ◌*◌, length}
use Rattle.recording.proofs.Spelling.{word-inside}
use Rattle.recording.proofs.Words.{count-begin, count-more, count-stop, count-full, words-begin, words_more}
use Rattle.recording.proofs.read_words.Goals as goal

pub loop-n-init : goal.loop-n-init
loop-n-init c =
    let s = c.args in record {
      inside = omega arith;
      count = count-begin s.bytes.now s.at (length s.words.now);
      words = words-begin s.bytes.now s.at s.words.now;
    }

pub returns-in_default : goal.returns-in_default
returns-in_default c =
    let l = c.loop-n in
    let s = c.args in
    record { count = count-stop s.bytes.now s.at (length s.words.now) l.n c.in_default.ensures l.invariant.count; words = set-get_or l.words l.n 0 ∙ l.invariant.words }

pub loop-n-preserved : goal.loop-n-preserved
loop-n-preserved c =
    let l = c.loop-n in
    let s = c.args in
    let told = c.in-Some.ensures in record {
      inside = omega (arith, word-inside s.bytes.now (s.at + 9 * l.n) told.0);
      count = count-more s.bytes.now s.at (length s.words.now) l.n (omega arith) told.0 l.invariant.count;
      words = rw l.invariant.words (words_more s.bytes.now s.at s.words.now l.n (omega arith) _ told.1);
    }

pub returns : goal.returns
returns c =
    let l = c.loop-n in
    let all : l.n ≡ length c.args.words.now = omega arith in
    let long : length l.words ≡ l.n = omega arith in
    record { count = long ∙ count-full _ _ _ l.n (omega arith) l.invariant.count; words = rw long l.invariant.words }
