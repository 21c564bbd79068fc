-- Events followed one after the other, each state and each panel passed on, and what is printed of them.
use Rattle.std.specs.Prelude.{ℕ, ◌+◌, cond, List, [], ◌∷◌, ◌++◌, take}
use Rattle.show.specs.declared.follow.Changed.{Changed}
use Rattle.show.specs.Printed.{event_line}
use Rattle.show.specs.Promises.{Took, LaysChange}

-- `session::take`, then `lay_change`, and where a line has changed the event's number and the panel printed; from event i on, which finds a state
-- and a panel. The trace and the room may be others at each call.
pub data Follows (o : ℕ) (t : List ℕ) : ℕ → List ℕ → List ℕ → List ℕ → List ℕ → Type 0 where
  ended : {i : ℕ} {s found : List ℕ} → Follows o t i s found [] []
  event : {i e n : ℕ} {s trace s₁ trace₁ : List ℕ} → Took t e s trace n s₁ trace₁ → {found : List ℕ} {kept : ℕ} {r : Changed} {found₁ out₁ : List ℕ}
      → LaysChange o t s₁ (take n trace₁) found kept r found₁ out₁
      → {es ls : List ℕ} → Follows o t (i + 1) s₁ (take r.kept found₁) es ls
      → Follows o t i s (take kept found) (e ∷ es) (cond r.changed (event_line i ++ take r.kept out₁) [] ++ ls)
