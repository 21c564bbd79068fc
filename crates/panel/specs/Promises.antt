-- What `show` promises: its input, its answer, and every lent byte afterwards; first over the answer's number k and the bytes n, as
-- `gateway` hands them to C (..In), then over the answer that they are of.
use Rattle.std.specs.Prelude.{ℕ, ◌≤◌, ◌≡◌, cond, List, length, eqb, Result, Ok, Err}
use Rattle.text.specs.Puts.{lay}
use Rattle.panel.specs.declared.NotShown.{NotShown}
use Rattle.panel.specs.declared.NotShown.TheVariants.{NoOperator, BadTable, UnfitState, NoRoom}
use Rattle.panel.specs.Printed.{panel}
use Rattle.panel.specs.Printed as printed

-- The answers in documents 01's and 02's numbers. That too little room has 11 is Q-4's number for an output that is too short.

abbrev pub refusal_number : NotShown → ℕ
refusal_number NoOperator = 9
refusal_number BadTable = 1
refusal_number UnfitState = 2
refusal_number NoRoom = 11

abbrev pub number_of : Result ℕ NotShown → ℕ
number_of (Ok n) = 0
number_of (Err e) = refusal_number e

-- how many bytes were laid
abbrev pub bytes_of : Result ℕ NotShown → ℕ
bytes_of (Ok n) = n
bytes_of (Err e) = 0

-- `show` of operator o, table t, state s and the trace words ws in the lent bytes `out`: the lines stand at its front, the bytes behind
-- them are as they were, and a refusal changes none
pub record ShowsIn (o : ℕ) (t s ws out : List ℕ) (k n : ℕ) (out' : List ℕ) : Type 0 where
  pub answer : k ≡ printed.answer o t s ws (length out)
  pub count : n ≡ cond (eqb (printed.answer o t s ws (length out)) 0) (length (panel o t s ws)) 0
  pub bytes : out' ≡ cond (eqb (printed.answer o t s ws (length out)) 0) (lay out 0 (panel o t s ws)) out
  -- follows; here for a caller that writes them
  pub inside : n ≤ length out

abbrev pub Shows : ℕ → List ℕ → List ℕ → List ℕ → List ℕ → Result ℕ NotShown → List ℕ → Type 0
Shows o t s ws out r out' = ShowsIn o t s ws out (number_of r) (bytes_of r) out'
