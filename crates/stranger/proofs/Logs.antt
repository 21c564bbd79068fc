-- Logs: parts of a log, the state after it, and that every state of it fits. Assumes nothing.
use mathlib.Core.Path.{◌≡◌, refl}
use mathlib.Core.Bool.{true}
use mathlib.Core.List.{List, [], ◌∷◌, ◌++◌}
use Prim.Native.Nat.{ℕ}
use Rattle.rulebook.specs.Reasons.{accepted}
use Rattle.laws.proofs.Facts.{facts}
use Rattle.laws.proofs.FitKept.{Fits}
use Rattle.laws.proofs.FitEvents.{happen-fits}
use Rattle.laws.proofs.Happen.{Taken, taken-event}
use Rattle.stranger.specs.Logs.{Entry, Follows, Log, state_after}

pub taken : {t s : List ℕ} {x : Entry} → Follows t s x → Taken t x.event
taken f = taken-event _ _ _ f.taken

pub after-append : (s : List ℕ) (xs ys : List Entry) → state_after s (xs ++ ys) ≡ state_after (state_after s xs) ys
unfolding state_after
after-append s [] ys = refl
after-append s (x ∷ xs) ys = after-append x.state xs ys

pub log-parts : (t s : List ℕ) (xs ys : List Entry) → Log t s (xs ++ ys) → Log t s xs × Log t (state_after s xs) ys
unfolding state_after
log-parts t s [] ys h = (tt, h)
log-parts t s (x ∷ xs) ys h = let p = log-parts t x.state xs ys h.1 in ((h.0, p.0), p.1)

module _ (t : List ℕ) (h : accepted t ≡ true) where
  pub entry-fits : (s : List ℕ) (x : Entry) → Follows t s x → Fits t s → Fits t x.state
  entry-fits s x f fit = rw f.state (happen-fits t (facts t h) x.event _ s (taken f) fit)

  pub log-fits : (s : List ℕ) (xs : List Entry) → Log t s xs → Fits t s → Fits t (state_after s xs)
  unfolding state_after
  log-fits s [] l fit = fit
  log-fits s (x ∷ xs) l fit = log-fits x.state xs l.1 (entry-fits s x l.0 fit)
