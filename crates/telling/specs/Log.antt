-- A whole log held: the recordings of events one after the other, from a state on. "The first event at which it parts is told ..; After a difference it
-- can go on from the supplier's state (`--all`), so that one slip does not hide the rest."
use Rattle.std.specs.Prelude.{ℕ, suc, ◌≡◌, Bool, true, false, ◌&&◌, cond, List, [], ◌∷◌, ◌++◌, length, take, eqb, leb}
use Rattle.rulebook.specs.Step.{Result, refused_state}
use Rattle.rulebook.specs.Hold.{as_ordered}
use Rattle.session.specs.Printed.{taken}
use Rattle.telling.specs.Told.{held_event, told_lines}
use Rattle.telling.specs.Promises.{Took, Tells, Adopts}

-- what a supplier recorded of an event
pub record Recorded : Type 0 where
  pub answer : ℕ
  pub words : List ℕ

abbrev pub as_ours : Result → Recorded → Bool
as_ours r x = eqb (held_event r x.answer x.words).verdict as_ordered

-- whether the supplier's state, the first of its words, fits the table
abbrev pub fitting : List ℕ → List ℕ → List ℕ → Bool
fitting t s ws = leb (length s) (length ws) && eqb (refused_state t (take (length s) ws)) 0

-- `the supplier's state does not fit: on from ours`
unfoldable pub unfit_line : List ℕ
unfit_line =
    116 ∷ 104 ∷ 101 ∷ 32 ∷ 115 ∷ 117 ∷ 112 ∷ 112 ∷ 108 ∷ 105 ∷ 101 ∷ 114 ∷ 39 ∷ 115 ∷ 32 ∷ 115 ∷ 116 ∷ 97 ∷ 116 ∷ 101
    ∷ 32 ∷ 100 ∷ 111 ∷ 101 ∷ 115 ∷ 32 ∷ 110 ∷ 111 ∷ 116 ∷ 32 ∷ 102 ∷ 105 ∷ 116 ∷ 58 ∷ 32 ∷ 111 ∷ 110 ∷ 32 ∷ 102 ∷ 114 ∷ 111
    ∷ 109 ∷ 32 ∷ 111 ∷ 117 ∷ 114 ∷ 115 ∷ 10 ∷ []

-- behind a difference: from which state it goes on, and what is said of that

unfoldable pub onward : List ℕ → Result → Recorded → List ℕ
onward t r x = cond (fitting t r.state x.words) (take (length r.state) x.words) r.state

unfoldable pub onward_line : List ℕ → Result → Recorded → List ℕ
onward_line t r x = cond (fitting t r.state x.words) [] unfit_line

-- what is told of the events es and their recordings xs, the first being the i-th; `all` says whether it goes on behind a difference
unfoldable pub log_lines : Bool → ℕ → List ℕ → List ℕ → List ℕ → List Recorded → List ℕ
log_lines all i t s [] xs = []
log_lines all i t s (e ∷ es) [] = []
log_lines all i t s (e ∷ es) (x ∷ xs) =
    told_lines i e (taken t s e) x.answer x.words
    ++ cond (as_ours (taken t s e) x) (log_lines all (suc i) t (taken t s e).state es xs)
    (cond all (onward_line t (taken t s e) x ++ log_lines all (suc i) t (onward t (taken t s e) x) es xs) [])

-- what our own program records
unfoldable pub own_log : List ℕ → List ℕ → List ℕ → List Recorded
own_log t s [] = []
own_log t s (e ∷ es) =
    record { answer = (taken t s e).answer; words = (taken t s e).state ++ (taken t s e).words } ∷ own_log t (taken t s e).state es

-- nothing is told of a log exactly if it is ours, event by event
pub record OwnLog (i : ℕ) (t s es : List ℕ) : Type 0 where
  pub accepted : (all : Bool) → log_lines all i t s es (own_log t s es) ≡ []
  pub alone : (all : Bool) (xs : List Recorded) → length xs ≡ length es → log_lines all i t s es xs ≡ [] → xs ≡ own_log t s es

-- Calls of `session::take`, `tell` and, where it goes on behind a difference, `adopt`, each state passed on; what `tell` laid is printed, and
-- the line where the supplier's state does not fit. The trace and the room may be others at each call.
pub data Holding (t : List ℕ) : Bool → ℕ → List ℕ → List ℕ → List Recorded → List ℕ → Type 0 where
  ended : {all : Bool} {i : ℕ} {s : List ℕ} {xs : List Recorded} → Holding t all i s [] xs []
  missing : {all : Bool} {i e : ℕ} {s es : List ℕ} → Holding t all i s (e ∷ es) [] []
  same : {all : Bool} {i e k n : ℕ} {s trace s₁ trace₁ out out₁ es ls : List ℕ} {x : Recorded} {xs : List Recorded} → Took t e s trace k n s₁ trace₁
      → Tells i e k (take n trace₁) s₁ x.answer x.words out 0 out₁ → Holding t all (suc i) s₁ es xs ls
      → Holding t all i s (e ∷ es) (x ∷ xs) ls
  stopped : {i e k n bytes : ℕ} {s trace s₁ trace₁ out out₁ es : List ℕ} {x : Recorded} {xs : List Recorded} → Took t e s trace k n s₁ trace₁
      → Tells i e k (take n trace₁) s₁ x.answer x.words out (suc bytes) out₁
      → Holding t false i s (e ∷ es) (x ∷ xs) (take (suc bytes) out₁)
  parted : {i e k n bytes : ℕ} {s trace s₁ trace₁ out out₁ s₂ es ls : List ℕ} {x : Recorded} {xs : List Recorded} {fits : Bool}
      → Took t e s trace k n s₁ trace₁ → Tells i e k (take n trace₁) s₁ x.answer x.words out (suc bytes) out₁ → Adopts t s₁ x.words fits s₂
      → Holding t true (suc i) s₂ es xs ls
      → Holding t true i s (e ∷ es) (x ∷ xs) (take (suc bytes) out₁ ++ (cond fits [] unfit_line ++ ls))
