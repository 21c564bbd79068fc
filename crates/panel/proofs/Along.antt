-- The two loops over a part's words: what its lines leave of a room, and the lines laid. Both go by the lines that are still to come.
-- Assumes nothing.
use Prim.Native.Nat.{ℕ, zero, suc, ◌+◌, ◌-◌, ◌<◌, ◌≤◌}
use mathlib.Core.Path.{◌≡◌, refl, sym, ap, ◌∙◌}
use mathlib.Core.List.{List, [], ◌++◌}
use native.Mathlib.Numerals.{add-one}
use native.Mathlib.Omega.{arith}
use lib.ListN.{length, length-append}
use Rattle.std.specs.Prelude.{Option, Some, None}
use Rattle.text.specs.Puts.{lay, PutAt}
use Rattle.text.proofs.Lay.{lay-none, lay-more}
use Rattle.text.proofs.Puts.{put-more, put-length}
use Rattle.panel.specs.Printed.{count, line_at, lines, part_lines, panel, the_ports, the_networks, the_sources, the_trace}
use Rattle.panel.specs.Inside.{Leaves}
use Rattle.panel.proofs.Parts.{lines_next, lines_none}

module _ (part o : ℕ) (t s ws : List ℕ) where
  -- the lines from the i-th on
  abbrev pub rest : ℕ → List ℕ
  rest i = lines i (count part t ws - i) (line_at part o t s ws)

  rest_all : part_lines part o t s ws ≡ rest 0
  unfolding part_lines
  rest_all = let all : count part t ws - 0 ≡ count part t ws = omega arith in rw all

  module _ (i : ℕ) (there : i < count part t ws) where
    rest-next : rest i ≡ line_at part o t s ws i ++ rest (i + 1)
    rest-next = lines_next (line_at part o t s ws) i (count part t ws) there

    length-next : length (rest i) ≡ length (line_at part o t s ws i) + length (rest (i + 1))
    length-next = ap length rest-next ∙ length-append (line_at part o t s ws i) (rest (i + 1))

  rest-none : (i : ℕ) → count part t ws ≤ i → rest i ≡ []
  rest-none i h = lines_none (line_at part o t s ws) i (count part t ws) h

  -- the room: what is left of it and the part's lines are the room and the lines to come

  abbrev pub LeftOf : ℕ → ℕ → ℕ → Type 0
  LeftOf room left i = left + length (part_lines part o t s ws) ≡ room + length (rest i)

  pub left-begin : (room : ℕ) → LeftOf room room 0
  left-begin room = rw rest_all refl

  pub left-next : (room left i long : ℕ) → i < count part t ws → long ≡ length (line_at part o t s ws i) → long ≤ left → LeftOf room left i
      → LeftOf room (left - long) (i + 1)
  left-next room left i long there is fits h = omega (arith, length-next i there)

  pub left-short : (room left i long : ℕ) → i < count part t ws → long ≡ length (line_at part o t s ws i) → left < long → LeftOf room left i
      → room < length (part_lines part o t s ws)
  left-short room left i long there is short h = omega (arith, length-next i there)

  pub left_end : (room left i : ℕ) → count part t ws ≤ i → LeftOf room left i → left + length (part_lines part o t s ws) ≡ room
  left_end room left i past h = omega (arith, ap length (rest-none i past))

  -- the lines: with those to come laid behind them they are all of the part's

  pub record LaidOf (before : List ℕ) (at next : ℕ) (out : List ℕ) (i : ℕ) : Type 0 where
    pub place : next + length (rest i) ≡ at + length (part_lines part o t s ws)
    pub bytes : lay out next (rest i) ≡ lay before at (part_lines part o t s ws)
    pub long : length out ≡ length before

  module _ (before : List ℕ) (at : ℕ) where
    pub laid-begin : LaidOf before at at before 0
    laid-begin = record { place = rw rest_all refl; bytes = rw rest_all refl; long = refl }

    module _ (room : at + length (part_lines part o t s ws) ≤ length before) (next : ℕ) (out : List ℕ) (i : ℕ) where
      pub laid-room : i < count part t ws → LaidOf before at next out i → next + length (line_at part o t s ws i) ≤ length out
      laid-room there a = omega (arith, length-next i there, a.place, a.long)

      pub laid_next : (n : ℕ) (o' : List ℕ) → i < count part t ws → LaidOf before at next out i → PutAt (line_at part o t s ws i) out next n o'
          → LaidOf before at n o' (i + 1)
      laid_next n o' there a p =
          let fits = laid-room there a in
          record {
            place = omega (arith, length-next i there, a.place, p.place);
            bytes = rw (p.bytes, p.place) (lay-more out next (line_at part o t s ws i) (rest (i + 1)) fits ∙ rw (← rest-next i there) a.bytes);
            long = put-length {xs = line_at part o t s ws i} fits p ∙ a.long;
          }

      pub laid_end : count part t ws ≤ i → LaidOf before at next out i → PutAt (part_lines part o t s ws) before at next out
      laid_end past a =
          let none = rest-none i past in
          record { place = omega (arith, ap length none, a.place); bytes = sym (lay-none out next) ∙ rw none at a.bytes }

-- nothing laid
pub put-none : (out : List ℕ) (at : ℕ) → PutAt [] out at at out
put-none out at = record { place = omega arith; bytes = sym (lay-none out at) }

-- One part behind the other.

module _ (o : ℕ) (t s ws : List ℕ) where
  abbrev pub of : ℕ → List ℕ
  of part = part_lines part o t s ws

  pub length-panel : length (panel o t s ws) ≡ length (of the_ports) + (length (of the_networks) + (length (of the_sources) + length (of the_trace)))
  unfolding panel
  length-panel = simp length-append (omega arith)

  -- the lines of the first n parts
  unfoldable pub first_parts : ℕ → List ℕ
  first_parts zero = []
  first_parts (suc n) = first_parts n ++ of n

  all-parts : first_parts 4 ≡ panel o t s ws
  unfolding first_parts panel
  all-parts = refl

  length-first : (n : ℕ) → length (first_parts (suc n)) ≡ length (first_parts n) + length (of n)
  unfolding first_parts
  length-first n = length-append (first_parts n) (of n)

  -- one part more is no longer than the panel
  parts-fit : (n : ℕ) → n < 4 → length (first_parts n) + length (of n) ≤ length (panel o t s ws)
  unfolding first_parts
  parts-fit zero h = omega (arith, length-panel)
  parts-fit (suc zero) h = omega (arith, length-panel, length-first 0)
  parts-fit (suc (suc zero)) h = omega (arith, length-panel, length-first 0, length-first 1)
  parts-fit (suc (suc (suc zero))) h = omega (arith, length-panel, length-first 0, length-first 1, length-first 2)
  parts-fit (suc (suc (suc (suc n)))) h = absurd (omega arith)

  -- a part behind those before it: what its lines leave of a room, and its lines laid

  module _ (room : ℕ) where
    pub left-none : room + length (first_parts 0) ≡ room
    unfolding first_parts
    left-none = omega arith

    module _ (left n : ℕ) {part : ℕ} (is : part ≡ n) (all : left + length (first_parts n) ≡ room) where
      pub left-more : (left' : ℕ) → left' + length (of part) ≡ left → left' + length (first_parts (n + 1)) ≡ room
      left-more left' this = rw add-one (omega (arith, length-first n, rw is at this))

      pub no-more : n < 4 → left < length (of part) → room < length (panel o t s ws)
      no-more h short = omega (arith, parts-fit n h, rw is at short)

    pub left-all : (left n : ℕ) → n ≡ 4 → left + length (first_parts n) ≡ room → left + length (panel o t s ws) ≡ room
    left-all left n e all = rw (← all-parts, ← e) all

    -- the trace stands last
    pub left-last : (left : ℕ) → left + length (first_parts 3) ≡ room → (r : Option ℕ) → Leaves (of the_trace) left r → Leaves (panel o t s ws) room r
    left-last left all (Some n) h = left-all n 4 refl (left-more left 3 refl all n h)
    left-last left all None h = no-more left 3 refl all (omega arith) h

  module _ (out : List ℕ) where
    pub laid-none : PutAt (first_parts 0) out 0 0 out
    unfolding first_parts
    laid-none = put-none out 0

    module _ (room : length (panel o t s ws) ≤ length out) (n : ℕ) (h : n < 4) {part : ℕ} (is : part ≡ n) {next : ℕ} {out' : List ℕ}
        (all : PutAt (first_parts n) out 0 next out') where
      pub room-more : length out' ≡ length out → next + length (of part) ≤ length out'
      room-more long = rw is (omega (arith, parts-fit n h, all.place))

      pub laid-more : {next' : ℕ} {out'' : List ℕ} → PutAt (of part) out' next next' out'' → PutAt (first_parts (n + 1)) out 0 next' out''
      unfolding first_parts
      laid-more this = rw add-one (put-more {xs = first_parts n} {ys = of n} (omega (arith, parts-fit n h)) all (rw is at this))

    pub laid-all : (n : ℕ) → n ≡ 4 → {next : ℕ} {out' : List ℕ} → PutAt (first_parts n) out 0 next out' → PutAt (panel o t s ws) out 0 next out'
    laid-all n e all = rw (← all-parts, ← e) all
