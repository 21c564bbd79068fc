-- The chosen lists along a lent trace and lent outcomes: the start, the next one, and the end. Assumes nothing.
use Prim.Native.Nat.{ℕ, ◌<◌, ◌≤◌}
use mathlib.Core.Path.{◌≡◌, refl}
use mathlib.Core.List.{List}
use native.Mathlib.Nat.{zero-add}
use native.Mathlib.Omega.{arith}
use lib.ListN.{set}
use Rattle.rulebook.specs.Table.{lists}
use Rattle.rulebook.specs.Expressions.{deepest}
use Rattle.rulebook.specs.Lists.{Run, start, visit, run_list}
use Rattle.rulebook.specs.Arbitration.{order, run_chosen}
use Rattle.words.specs.Flags.{flagged}
use Rattle.laws.proofs.Frame.{list-framed, chosen-framed}
use Rattle.lists.specs.declared.Written.{Written}
use Rattle.lists.specs.Runs.{Safe, Ran}
use Rattle.lists.proofs.Along.{unread, unread-is, joined, Along, along-as, along-end, next-safe, next}
use Rattle.lists.proofs.Cycle.{behind, anew}
use Rattle.arbitration.specs.Picking.{Best}
use Rattle.arbitration.proofs.Picking.{chosen-turn, chosen-end}

-- before the first one nothing is written, and the rules' visits are made
pub chosen-start : (t flags os : List ℕ) (visits : ℕ) (s T : List ℕ)
    → Along os (run_chosen t (flagged flags) (order t) (visit visits (start os s))) (run_chosen t (flagged flags) (order t)) T s T
    (record { count = 0; read = 0; visits = visits })
chosen-start t flags os visits s T = record { run = rw zero-add; kept = refl; inside = omega arith; read = omega arith; long = refl }

module _ (t flags : List ℕ) (l : ℕ) (b : Best t flags (lists t) l) (os : List ℕ) (whole : Run) (before s T : List ℕ) (w : Written)
    (a : Along os whole (run_chosen t (flagged flags) (order t)) before s T w) where
  pub chosen-ran : lists t ≤ l → Ran os whole s before T w
  chosen-ran h = along-end os whole _ before s T w (chosen-end t flags l b h) a

  module _ (flags' : List ℕ) (lowered : flags' ≡ set flags l 0) (h : l < lists t) (safe : Safe whole before) where
    turned : Along os whole (λ x. run_chosen t (flagged flags') (order t) (run_list deepest t l x)) before s T w
    turned = along-as os whole _ _ before s T w (rw lowered (chosen-turn t flags l b h _)) a

    pub list-safe : Safe (run_list deepest t l (start (unread os w.read) s)) (behind w T)
    list-safe = rw (unread-is os w.read) (next-safe os whole (run_list deepest t l) _ (list-framed t deepest l) (chosen-framed t (flagged flags') (order t)) before s T w turned safe)

    pub list-next : (s' part : List ℕ) (v : Written) → Ran (unread os w.read) (run_list deepest t l (start (unread os w.read) s)) s' (behind w T) part v
        → Along os whole (run_chosen t (flagged flags') (order t)) before s' (anew w T part) (joined w v)
    list-next s' part v r =
        next os whole (run_list deepest t l) _ (list-framed t deepest l) (chosen-framed t (flagged flags') (order t)) before s T w turned safe s' part v
        (rw (unread-is os w.read) at r)
