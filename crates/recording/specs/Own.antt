-- What our program prints for an event is read back as it was printed: proofs/Own.
use Rattle.std.specs.Prelude.{ℕ, ◌^◌, ◌<◌, ◌≤◌, ◌≡◌, true, List, [], ◌++◌, length, get_or}
use Rattle.text.specs.Lines.{decimal_line, hex_lines}
use Rattle.session.specs.Printed.{lines}
use Rattle.recording.specs.Log.{is_answer, recording_at, whole, last}

-- each a 32-bit word
abbrev pub Words : List ℕ → Type 0
Words ws = (i : ℕ) → get_or ws i 0 < 2 ^ 32

-- what may stand behind an event's lines, and what is then found: nothing, or another event's, whose answer comes first
pub data Behind : List ℕ → ℕ → Type 0 where
  nothing : Behind [] last
  another : {rest : List ℕ} → is_answer rest 0 ≡ true → Behind rest whole

-- lines at the end of `before`, with `rest` behind them, are read as an answer and words, and what is read next is `rest`
abbrev pub ReadAs : ℕ → List ℕ → List ℕ → List ℕ → ℕ → ℕ → List ℕ → Type 0
ReadAs most before printed rest found answer ws =
    recording_at most (before ++ (printed ++ rest)) (length before)
    ≡ record { found = found; answer = answer; words = ws; next = length (before ++ printed) }

abbrev pub ReadsOwn : Type 0
ReadsOwn = (most a : ℕ) (ws before rest : List ℕ) (found : ℕ) → a < 10 → Words ws → length ws ≤ most → Behind rest found
    → ReadAs most before (decimal_line a ++ hex_lines ws) rest found a ws

-- the lines of an event: its answer, its state and its trace words
abbrev pub ReadsLines : Type 0
ReadsLines = (most a : ℕ) (state words before rest : List ℕ) (found : ℕ) → a < 10 → Words state → Words words → length (state ++ words) ≤ most
    → Behind rest found
    → ReadAs most before (lines a state words) rest found a (state ++ words)
