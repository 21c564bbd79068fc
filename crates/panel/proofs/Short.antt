-- How long a panel can be: at most 21 bytes for each of the 104 things that an accepted table can have, 15 for a trace word. Assumes nothing.
use Prim.Native.Nat.{ℕ, zero, suc, ◌+◌, ◌*◌, ◌<◌, ◌≤◌}
use mathlib.Core.Bool.{Bool, true, false, cond}
use mathlib.Core.List.{List, [], ◌++◌}
use native.Mathlib.Omega.{arith}
use lib.ListN.{length, length-append}
use lib.Dec.{eqb}
use Rattle.rulebook.specs.Table.{ports, networks, sources}
use Rattle.panel.specs.Printed.{by_part, count, owner, shown_word, label, numeral, line, line_at, lines, part_lines, panel}
use Rattle.panel.specs.Printed.{the_ports, the_networks, the_sources, the_trace}
use Rattle.panel.proofs.Parts.{numeral-short, length-line}
use Rattle.panel.proofs.Along.{length-panel}

-- n lines of at most m bytes each
lines-short : (m : ℕ) (f : ℕ → List ℕ) (i n : ℕ) → ((k : ℕ) → k < i + n → length (f k) ≤ m) → length (lines i n f) ≤ n * m
unfolding lines
lines-short m f i zero h = omega arith
lines-short m f i (suc n) h =
    let first = h i (omega arith) in
    let later = lines-short m f (suc i) n (λ k low. h k (omega arith)) in
    let both = length-append (f i) (lines (suc i) n f) in
    omega arith

-- a line that is shown or not
shown-short : (b : Bool) (xs : List ℕ) (m : ℕ) → length xs ≤ m → length (cond b xs []) ≤ m
shown-short true xs m h = h
shown-short false xs m h = omega arith

module _ (o : ℕ) (t s ws : List ℕ) where
  part-short : (part m : ℕ) → ((i : ℕ) → i < count part t ws → length (label part ++ numeral part i) + 9 ≤ m)
      → length (part_lines part o t s ws) ≤ count part t ws * m
  unfolding part_lines line_at
  part-short part m h =
      lines-short m (line_at part o t s ws) 0 (count part t ws)
      (λ k low. shown-short (eqb (owner part t ws k) o) (line part k (shown_word part t s ws k)) m
      (let l = length-line part k (shown_word part t s ws k) in let n = h k (omega arith) in omega arith))

  ports-short : ports t ≤ 64 → length (part_lines the_ports o t s ws) ≤ count the_ports t ws * 21
  unfolding count label numeral by_part
  ports-short h = part-short the_ports 21 (λ i low. let n = numeral-short i (omega arith) in omega arith)

  networks-short : networks t ≤ 8 → length (part_lines the_networks o t s ws) ≤ count the_networks t ws * 21
  unfolding count label numeral by_part
  networks-short h = part-short the_networks 21 (λ i low. let n = numeral-short i (omega arith) in omega arith)

  sources-short : sources t ≤ 32 → length (part_lines the_sources o t s ws) ≤ count the_sources t ws * 21
  unfolding count label numeral by_part
  sources-short h = part-short the_sources 21 (λ i low. let n = numeral-short i (omega arith) in omega arith)

  trace-short : length (part_lines the_trace o t s ws) ≤ count the_trace t ws * 15
  unfolding label numeral by_part
  trace-short = part-short the_trace 15 (λ i low. omega arith)

  pub panel-short : ports t ≤ 64 → networks t ≤ 8 → sources t ≤ 32 → length (panel o t s ws) ≤ 2184 + 15 * length ws
  unfolding count by_part
  panel-short p n k =
      let a = ports-short p in
      let b = networks-short n in
      let c = sources-short k in
      let d = trace-short in
      let all = length-panel o t s ws in
      omega arith
