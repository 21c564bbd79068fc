-- DEMAND 3 holds of every accepted table, from its fresh state, by the rulebook's steps; and of whatever is shown to be such a log.
-- Assumes nothing.
use mathlib.Core.Path.{◌≡◌, ◌∙◌}
use mathlib.Core.Bool.{true}
use mathlib.Core.List.{List, [], ◌∷◌, ◌++◌}
use Prim.Native.Nat.{ℕ}
use Rattle.rulebook.specs.Reasons.{accepted}
use Rattle.rulebook.specs.State.{fresh, status_pending}
use Rattle.rulebook.specs.Events.{status_in}
use Rattle.laws.proofs.FitKept.{Fits}
use Rattle.laws.proofs.Steps.{fresh-fits}
use Rattle.stranger.specs.Logs.{Entry, Follows, Log, state_after}
use Rattle.stranger.specs.Demand.{ended, end_status, shows_status, status_to_show}
use Rattle.stranger.specs.Statements.{NetworkWaits, SourceWaits, NoStranger, Demand3}
use Rattle.stranger.proofs.Logs.{log-parts, log-fits, after-append}
use Rattle.stranger.proofs.View.{same-view-refl}
use Rattle.stranger.proofs.Strangers.{strangers-unseen, seen-beside}
use Rattle.stranger.proofs.Moments.{entry-asks-own, heard-by-owner, network-moments, network-settles, source-moments}
use Rattle.stranger.proofs.Shows.{network-shows, source-shows}
use Rattle.stranger.proofs.AskedAfter.{asked-from-fresh}
use Rattle.stranger.proofs.Countdown.{network-between, network-at-tick, network-at-most, network-exactly}
use Rattle.stranger.proofs.Wakeup.{source-between, source-at-tick, ended-there, ended-by-owner, ended-status}
use Rattle.stranger.proofs.Exactly.{bus-off-exactly, heard-kept, heard-only, wakeup-exactly}

module _ (t : List ℕ) (h : accepted t ≡ true) (Went : List Entry → Type 0) (log : (xs : List Entry) → Went xs → Log t (fresh t) xs) where
  -- the last entry of a log, and the state before it
  last : (xs : List Entry) (x : Entry) → Went (xs ++ x ∷ []) → Follows t (state_after (fresh t) xs) x
  last xs x w = (log-parts t (fresh t) xs (x ∷ []) (log _ w)).1.0

  fit : (xs : List Entry) (x : Entry) → Went (xs ++ x ∷ []) → Fits t (state_after (fresh t) xs)
  fit xs x w = log-fits t h (fresh t) xs (log-parts t (fresh t) xs (x ∷ []) (log _ w)).0 (fresh-fits t h)

  pub network-waits : NetworkWaits t (fresh t) Went
  network-waits =
      record {
        recovers = λ n before x xs w falls. network-between t h n before x falls.taken falls.full xs (log _ w) falls.alone;
        at_tick = λ n before x xs d w falls tick. network-at-tick t h n before x falls.taken falls.full xs d (log _ w) falls.alone tick;
        at_most = λ n before x xs d w falls tick late. network-at-most t h n before x falls.taken falls.full xs d (log _ w) falls.alone tick late;
        exactly = λ n before x xs d w falls tick unheard. network-exactly t h n before x falls.taken falls.full xs d (log _ w) falls.alone
            tick unheard;
        heard_by_owner = λ n xs x w heard. heard-by-owner t h n (state_after (fresh t) xs) x (last xs x w) heard;
        heard = λ n b xs x w e. heard-kept t h n b (state_after (fresh t) xs) x (last xs x w) (fit xs x w) e;
        heard_only = λ n b xs x w e. heard-only t h n b (state_after (fresh t) xs) x (last xs x w) (fit xs x w) e;
        asked = λ n b xs w. asked-from-fresh t h n b xs (log _ w);
        taken = λ n b xs x w. bus-off-exactly t h n b (state_after (fresh t) xs) x (last xs x w) (fit xs x w);
        shown = λ n b xs w. network-shows t h n b xs (log _ w);
      }

  ended_so : (k : ℕ) (xs : List Entry) (x : Entry) → Went (xs ++ x ∷ []) → ended k x ≡ true → status_in t k (state_after (fresh t) xs) ≡ status_pending
      → (status_in t k x.state ≡ end_status x) × (shows_status t k x.state ≡ end_status x)
  unfolding status_to_show state_after
  ended_so k xs x w over pending =
      let f = last xs x w in
      let status = ended-status t h k (state_after (fresh t) xs) x f over (fit xs x w) pending in
      let there = ended-there t h k (state_after (fresh t) xs) x f over in
      let v : shows_status t k x.state ≡ status_in t k x.state = rw (after-append (fresh t) xs (x ∷ [])) at
      (source-shows t h k there (xs ++ x ∷ []) (log _ w)).value in
      (status, v ∙ status)

  pub source-waits : SourceWaits t (fresh t) Went
  source-waits =
      record {
        waits = λ k before x xs w woken unended early. source-between t h k before x woken xs (log _ w) unended early;
        at_tick = λ k before x xs d w woken unended early tick. source-at-tick t h k before x woken xs d (log _ w) unended early tick;
        by_owner = λ k xs x w over. ended-by-owner t h k (state_after (fresh t) xs) x (last xs x w) over;
        ends = ended_so;
        pending = λ k b xs x w. wakeup-exactly t h k b (state_after (fresh t) xs) x (last xs x w) (fit xs x w);
        shown = λ k b xs w. source-shows t h k b xs (log _ w);
      }

  pub no-stranger : NoStranger t (fresh t) Went
  no-stranger =
      record {
        network = λ n b xs ys w v e. network-moments t h n b (fresh t) (fresh t) xs ys (log _ w) (log _ v) (same-view-refl t _ (fresh t)) e 0;
        settles = λ n b before xs before' ys w v e L latest k. network-settles t h n b _ _ xs ys (log-parts t (fresh t) before xs (log _ w)).1
            (log-parts t (fresh t) before' ys (log _ v)).1 e L latest k;
        source = λ k b xs ys w v e. source-moments t h k b (fresh t) (fresh t) xs ys (log _ w) (log _ v) (same-view-refl t _ (fresh t)) e 0;
        same = λ o xs ys w v e. seen-beside t h o (fresh t) (fresh t) xs ys (log _ w) (log _ v) (same-view-refl t o (fresh t)) e;
        unseen = λ o xs x w k. strangers-unseen t h o (state_after (fresh t) xs) x (last xs x w) k;
        asks = λ xs x w. entry-asks-own t h (state_after (fresh t) xs) x (last xs x w);
      }

  pub demand-3 : Demand3 t (fresh t) Went
  demand-3 = record { network = network-waits; source = source-waits; strangers = no-stranger }
