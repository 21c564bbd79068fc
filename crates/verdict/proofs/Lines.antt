-- The three lines of a verdict, laid one behind the other. Assumes nothing.
use Prim.Native.Nat.{ℕ, ◌^◌, ◌<◌, ◌≤◌}
use mathlib.Core.Path.{◌≡◌}
use mathlib.Core.List.{List, ◌++◌}
use native.Mathlib.Omega.{arith}
use lib.ListN.{length, length-append}
use Rattle.text.specs.Lines.{decimal_line}
use Rattle.text.specs.Puts.{Put}
use Rattle.session.specs.Promises.{PutLines}
use Rattle.session.proofs.Checks.{place-small, place_is}
use Rattle.text.proofs.Puts.{one-put, put_then}
use Rattle.session.proofs.Lines.{put-lines, decimal-long}
use Rattle.std.specs.Prelude.{Result}
use Rattle.tables.specs.declared.Fault.{Fault}
use Rattle.tables.specs.Finding.{Finding, finding, promised, Says}
use Rattle.verdict.specs.Verdict.{verdict_lines, lines_of}

laid-lines : {out o₁ o₂ o₃ : List ℕ} {n₁ n₂ n₃ : ℕ} (k i b : ℕ) → k < 2 ^ 32 → i < 2 ^ 32 → b < 2 ^ 32 → 33 ≤ length out
    → Put (decimal_line k) out 0 n₁ o₁ → Put (decimal_line i) o₁ n₁ n₂ o₂ → Put (decimal_line b) o₂ n₂ n₃ o₃
    → PutLines 33 (verdict_lines k i b) out n₃ o₃
unfolding verdict_lines
laid-lines {out} k i b hk hi hb h p q r =
    let lk = decimal-long k hk in
    let li = decimal-long i hi in
    let lb = decimal-long b hb in
    let first = one-put {line = decimal_line k} (omega arith) p in
    let long = length-append (decimal_line k) (decimal_line i) in
    let two = put_then {xs = decimal_line k} {line = decimal_line i} (omega arith) first q in
    let all = put_then {xs = decimal_line k ++ decimal_line i} {line = decimal_line b} (omega arith) two r in
    put-lines 33 h (omega (arith, length-append (decimal_line k ++ decimal_line i) (decimal_line b))) all

-- in the numbers that a check tells
pub laid : {out o₁ o₂ o₃ : List ℕ} {n₁ n₂ n₃ : ℕ} (x : Finding) (k i b : ℕ) → Says x k i b → k < 2 ^ 32 → i < 2 ^ 32 → b < 2 ^ 32
    → 33 ≤ length out → Put (decimal_line k) out 0 n₁ o₁ → Put (decimal_line i) o₁ n₁ n₂ o₂ → Put (decimal_line b) o₂ n₂ n₃ o₃
    → PutLines 33 (lines_of x) out n₃ o₃
laid x k i b says hk hi hb h p q r = rw (← says.0, ← says.1, ← says.2) (laid-lines k i b hk hi hb h p q r)

-- a reason's place is at most 3,185
pub place-fits : (t : List ℕ) (r : Result ℕ Fault) → finding r ≡ promised t → (k i : ℕ) → k ≡ (finding r).reason → i ≡ (finding r).place → i < 2 ^ 32
place-fits t r tells k i kr ir = let p = place-small t in let q = place_is t r tells kr ir in omega arith
