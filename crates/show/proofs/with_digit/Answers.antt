-- `show::with_digit` meets its contract, test by test. Assumes nothing.
use Rattle.std.proofs.Common.{◌≡◌, ◌≤◌, ◌<◌, ℕ, arith, le-ltb, lt-ltb, le-leb}
use mathlib.Core.Logic.{◌⊎◌, inl, inr}
use borrow.Author.Tests.{lt-leb}
use Rattle.show.specs.Printed.{with_digit}
use Rattle.show.proofs.with_digit.Goals as goal

no_digit : (n b : ℕ) → n ≤ 15 → (b < 48) ⊎ (57 < b) → 16 ≡ with_digit n b
unfolding with_digit
no_digit n b few (inl low) = rw (le-ltb 15 n few, lt-leb 48 b low)
no_digit n b few (inr high) = rw (le-ltb 15 n few, le-leb 48 b (omega arith), lt-leb b 57 high)

pub returns-then-n-gt15 : goal.returns-then-n-gt15
unfolding with_digit
returns-then-n-gt15 c = rw (lt-ltb 15 c.args.n (omega arith))

pub returns-then-not-is_ascii_digit : goal.returns-then-not-is_ascii_digit
returns-then-not-is_ascii_digit c = no_digit c.args.n c.args.b (omega arith) c.if-not-is_ascii_digit.ensures.cases

pub returns : goal.returns
unfolding with_digit
returns c =
    let digit = c.if-not-is_ascii_digit.ensures.cases in
    rw (le-ltb 15 c.args.n (omega arith), le-leb 48 c.args.b digit.0, le-leb c.args.b 57 digit.1, c.from.ensures)
