-- A log read in one output after the other, and a window read on. Assumes nothing.
use Prim.Native.Nat.{ℕ}
use mathlib.Core.Path.{◌≡◌, sym, ap, ◌∙◌}
use mathlib.Core.Bool.{Bool}
use mathlib.Core.List.{List}
use lib.ListN.{length, take, drop}
use lib.Seq.{take-take}
use Rattle.std.specs.Prelude.{Option, Some, None}
use Rattle.rulebook.specs.BusLog as rulebook
use Rattle.buslog.specs.declared.reading.Cursor.{Cursor}
use Rattle.buslog.specs.declared.reading.Step.{Step}
use Rattle.buslog.specs.Promises.{ReadsLogIn, cursor_as, end_number}
use Rattle.files.specs.Holds.{Fills}
use Rattle.text.specs.Window.{Slid}
use Rattle.canlog.specs.Kept.{Ends, ReadOn, ReadsOn, ReadBehind}
use Rattle.canlog.specs.Kept as kept

module _ {t names log out out' : List ℕ} {c c₁ : rulebook.Cursor} {k l n m : ℕ} (r : ReadsLogIn t names log c out k l n m c₁ out') where
  -- an output that is full: what reading on from there comes to, reading comes to
  pub read-full : {c' : rulebook.Cursor} → k ≡ 11 → ReadOn t names (drop m log) c₁ c' → ReadOn t names log c c'
  read-full e h = kept.full (length out) (sym r.answer ∙ e) (rw (r.rest, r.cursor) at h)

  pub read_whole : k ≡ 0 → ReadOn t names log c c₁
  read_whole e = rw r.cursor (kept.read (length out) (sym r.answer ∙ e))

-- the end of a part, whose cursor is told where all of it is read
pub ends-whole : (t names log : List ℕ) (c : rulebook.Cursor) (step : Step) (r : Option Cursor) → Ends step r
    → (end_number step.end ≡ 0 → ReadOn t names log c (cursor_as step.cursor)) → ReadsOn t names log c r
ends-whole t names log c step (Some c') e h = rw e.1 (h e.0)
ends-whole t names log c step None e h = tt

-- what reading on from somewhere comes to
pub reads-from : (t names xs ys : List ℕ) (c₁ c : rulebook.Cursor) (r : Option Cursor)
    → ((c' : rulebook.Cursor) → ReadOn t names xs c₁ c' → ReadOn t names ys c c') → ReadsOn t names xs c₁ r → ReadsOn t names ys c r
reads-from t names xs ys c₁ c (Some c') on read = on (cursor_as c') read
reads-from t names xs ys c₁ c None on read = tt

-- what was moved to the front stays while the log is read on behind it
pub more : {at end : ℕ} {window w₁ w₂ : List ℕ} {moved n : ℕ} (ended : Bool) → Slid at end window moved w₁ → Fills moved n w₁ w₂
    → ReadBehind at end window (record { ended = ended; end = n }) w₂
more {at} {end} {w₂ = w₂} {moved} {n} ended slid filled =
    let least = filled.least slid.inside in
    record {
      inside = filled.bytes.0;
      first =
          ap (λ (k : ℕ). take k (take n w₂)) (sym slid.count)
          ∙ take-take moved n w₂ least
          ∙ filled.stay
          ∙ slid.front;
    }
