-- What is laid: an event's number, a panel, and a change. Assumes nothing.
use Rattle.std.proofs.Common.{◌≡◌, ℕ, ◌%◌, ◌^◌, ◌<◌, ◌≤◌, true, false, List, [], ◌∷◌, ◌++◌, length, take, sym, ap, ◌∙◌, mod-eq_of_lt, zero-add, arith, length-append, length-take-le}
use Rattle.rulebook.specs.Marked.{same}
use Rattle.laws.proofs.Facts.{facts}
use Rattle.laws.proofs.Play.{stood-table}
use Rattle.text.specs.Lines.{decimal}
use Rattle.text.specs.Puts.{Put, PutAt}
use Rattle.text.proofs.Decimal.{decimal-within}
use Rattle.text.proofs.Lay.{front-laid}
use Rattle.text.proofs.Puts.{put-length, one-put, put_then}
use Rattle.panel.specs.Printed.{panel}
use Rattle.panel.proofs.Short.{panel-short}
use Rattle.show.specs.Printed.{event_line}
use Rattle.show.specs.Promises.{most_panel, Shown, Watched, LaysChange}
use Rattle.show.proofs.Same.{same-is}

-- `event ` and 20 digits hold a number of 64 bits
pub number-laid : {out o₁ o₂ : List ℕ} {n₁ n₂ : ℕ} (i : ℕ) → i < 2 ^ 64 → 27 ≤ length out
    → Put (101 ∷ 118 ∷ 101 ∷ 110 ∷ 116 ∷ 32 ∷ []) out 0 n₁ o₁ → Put (decimal i ++ 10 ∷ []) o₁ n₁ n₂ o₂
    → PutAt (event_line i) out 0 n₂ o₂ × (n₂ ≤ 27)
unfolding event_line
number-laid {out} i h room p q =
    let b = decimal-within 19 i (omega arith) in
    let l = length-append (decimal i) (10 ∷ []) in
    let first = one-put {line = 101 ∷ 118 ∷ 101 ∷ 110 ∷ 116 ∷ 32 ∷ []} (omega arith) p in
    let all = put_then {xs = 101 ∷ 118 ∷ 101 ∷ 110 ∷ 116 ∷ 32 ∷ []} {line = decimal i ++ 10 ∷ []} (omega arith) first q in
    let small : i ≡ i % 18446744073709551616 = sym (mod-eq_of_lt (omega arith)) in
    (rw (← small) all, omega (arith, all.place))

-- a panel is never longer than the most
pub panel-few : {o : ℕ} {t s ws out : List ℕ} → Shown o t s ws out → length (panel o t s ws) ≤ most_panel
panel-few {o} {t} {s} {ws} h =
    let counts = (facts t (stood-table t s h.stands)).counts in
    let short = panel-short o t s ws counts.ports counts.networks counts.sources in
    let few = h.few in
    omega arith

-- what was laid at the front stands there
pub at_front : {xs out : List ℕ} {n : ℕ} {o : List ℕ} → PutAt xs out 0 n o → take n o ≡ xs
at_front {xs} {out} p = let n = p.place ∙ zero-add (length xs) in rw (n, p.bytes) (front-laid out xs)

-- Of two panels: no line has changed, or the one left takes the place of the one found.

module _ {o : ℕ} {t s ws found : List ℕ} {kept : ℕ} {out : List ℕ} (h : Watched o t s ws found kept out) {n : ℕ} {out' : List ℕ}
    (p : PutAt (panel o t s ws) out 0 n out') where
  laid-room : length out' ≡ length out
  laid-room = let few = panel-few h.shown in let room = h.shown.room in put-length {xs = panel o t s ws} (omega arith) p

  pub no_change : same (take kept found) (take n out') ≡ true → LaysChange o t s ws found kept (record { changed = false; kept = kept }) found out'
  no_change e =
      let is : take kept found ≡ panel o t s ws = same-is _ _ e ∙ at_front p in
      let long : kept ≡ n =
      sym (length-take-le kept found h.bytes) ∙ ap length is ∙ sym (p.place ∙ zero-add (length (panel o t s ws))) in
      let room = laid-room in
      let few = panel-few h.shown in
      let enough = h.shown.room in
      record {
        changed = rw (rw (at_front p) at e);
        left = is;
        laid = rw long (at_front p);
        kept_inside = h.bytes;
        inside = omega (arith, long, p.place);
      }

  pub a-change : {next : ℕ} {found' : List ℕ} → same (take kept found) (take n out') ≡ false → Put (take n out') found 0 next found'
      → LaysChange o t s ws found kept (record { changed = true; kept = next }) found' out'
  a-change {next} {found'} e q =
      let room = laid-room in
      let few = panel-few h.shown in
      let enough = h.shown.room in
      let other = h.room in
      let whole : Put (panel o t s ws) found 0 next found' = rw (at_front p) at q in
      let put = one-put {line = panel o t s ws} (omega arith) whole in
      let long : next ≡ n = put.place ∙ sym p.place in
      record {
        changed = rw (rw (at_front p) at e);
        left = at_front put;
        laid = rw long (at_front p);
        kept_inside = omega (arith, put-length {xs = panel o t s ws} (omega arith) put, put.place);
        inside = omega (arith, long, p.place);
      }
