-- What the functions that tell of an event promise.
use Rattle.std.specs.Prelude.{ℕ, ◌≤◌, min, ◌≡◌, Bool, ◌&&◌, cond, List, ◌++◌, length, take, drop, eqb, leb}
use Rattle.rulebook.specs.Step.{Result, refused_state}
use Rattle.text.specs.Puts.{PutAt}
use Rattle.session.specs.Printed.{taken}
use Rattle.session.specs.Promises.{traced_by}
use Rattle.hold.specs.Promises.{number_of, given_by}
use Rattle.telling.specs.declared.Judgement.{Judgement}
use Rattle.telling.specs.declared.Judgement.TheVariants.{AnswersPart, Words}
use Rattle.telling.specs.declared.Judged.{Judged}
use Rattle.telling.specs.Told.{answers_part, held_event, event_line, verdict_line, ours, supplier, side, told_lines}

-- `session::take` of table t, event e, state s and the lent trace: the answer k, the count n, state and trace afterwards
pub record Took (t : List ℕ) (e : ℕ) (s trace : List ℕ) (k n : ℕ) (s' trace' : List ℕ) : Type 0 where
  pub answer : k ≡ (taken t s e).answer
  pub count : n ≡ length (taken t s e).words
  pub state : s' ≡ (taken t s e).state
  pub words : trace' ≡ traced_by t s e trace

-- our answer, words and state as one result; its visits are told nowhere
abbrev pub result : ℕ → List ℕ → List ℕ → Result
result answer ws state = record { answer = answer; state = state; words = ws; visits = 0 }

-- a judgement's verdict in numbers, and the number of the word that it gives

abbrev pub verdict_in : Judgement → ℕ
verdict_in AnswersPart = answers_part
verdict_in (Words v) = number_of v

abbrev pub word_in : Judgement → ℕ
word_in AnswersPart = 0
word_in (Words v) = given_by v

-- `judge` of our answer, words and state and the supplier's answer and words
pub record Judges (answer : ℕ) (ws state : List ℕ) (said : ℕ) (theirs : List ℕ) (r : Judged) : Type 0 where
  pub verdict : verdict_in r.judgement ≡ (held_event (result answer ws state) said theirs).verdict
  pub number : word_in r.judgement ≡ (held_event (result answer ws state) said theirs).number
  pub cut : r.cut ≡ min (length state) (length theirs)

-- the lines of what was judged: the first two, and both sides

abbrev pub head : ℕ → ℕ → Judgement → List ℕ
head n e j = event_line n e ++ verdict_line (verdict_in j) (word_in j)

abbrev pub both : Judgement → ℕ → List ℕ → ℕ → List ℕ → List ℕ
both j answer a said b = side ours (verdict_in j) answer (drop (word_in j) a) ++ side supplier (verdict_in j) said (drop (word_in j) b)

-- as many words as an event of ours and a recording have at most, and room for their lines
pub record Room (ws state theirs out : List ℕ) : Type 0 where
  pub few : length ws ≤ 4096
  pub small : length state ≤ 360
  pub read : length theirs ≤ 8192
  pub bytes : 262144 ≤ length out

-- `tell` of the n-th event e: the lines stand at the front
pub record Tells (n e answer : ℕ) (ws state : List ℕ) (said : ℕ) (theirs out : List ℕ) (bytes : ℕ) (out' : List ℕ) : Type 0 where
  pub lines : PutAt (told_lines n e (result answer ws state) said theirs) out 0 bytes out'
  -- follows; here for a caller that writes them
  pub inside : bytes ≤ length out

-- `adopt` of table t, state s and the words of a recording
pub record Adopts (t s ws : List ℕ) (r : Bool) (s' : List ℕ) : Type 0 where
  pub fits : r ≡ (leb (length s) (length ws) && eqb (refused_state t (take (length s) ws)) 0)
  pub state : s' ≡ cond r (take (length s) ws) s
