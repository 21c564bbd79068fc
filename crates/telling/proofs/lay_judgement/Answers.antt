-- `telling::lay_judgement` meets its contract. Assumes nothing.
use native.Mathlib.Omega.{arith}
use mathlib.Core.List.{List, [], ◌∷◌}
use Prim.Native.Nat.{ℕ}
use lib.ListN.{length-append}
use Rattle.hold.specs.Promises.{number_of, given_by}
use Rattle.text.specs.Lines.{decimal_line}
use Rattle.text.proofs.Puts.{one-put, put_then}
use Rattle.telling.specs.Told.{verdict_label, verdict_line}
use Rattle.telling.proofs.Judging.{words-line}
use Rattle.telling.proofs.lay_judgement.Goals as goal

abbrev answers : List ℕ
answers = 97 ∷ 110 ∷ 115 ∷ 119 ∷ 101 ∷ 114 ∷ 115 ∷ 32 ∷ 112 ∷ 97 ∷ 114 ∷ 116 ∷ 10 ∷ []

pub returns-in_default : goal.returns-in_default
unfolding verdict_line
returns-in_default c = rw c.in_default.is (one-put {line = answers} (rw c.in_default.is at c.requires) c.put_label.ensures)

pub lay_label-next-requires : goal.lay_label-next-requires
lay_label-next-requires c =
    let asked = rw (c.in-Words.is, words-line c.in-Words.verdict) at c.requires in
    let long = length-append (verdict_label (number_of c.in-Words.verdict)) (decimal_line (given_by c.in-Words.verdict)) in
    omega arith

pub returns : goal.returns
returns c =
    let line = words-line c.in-Words.verdict in
    let asked = rw (c.in-Words.is, line) at c.requires in
    let label = verdict_label (number_of c.in-Words.verdict) in
    let digits = decimal_line (given_by c.in-Words.verdict) in
    let long = length-append label digits in
    rw (c.in-Words.is, line)
    (put_then {xs = label} {line = digits} (omega arith) c.lay_label-next.ensures (rw c.given.ensures at c.put_decimal.ensures))
