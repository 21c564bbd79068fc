-- What makes a run of the rulebook's steps: a log of what was taken, an event that is refused, and one part behind another. Assumes nothing.
use mathlib.Core.Path.{◌≡◌, refl, sym, ◌∙◌, ap, subst}
use mathlib.Core.Bool.{true}
use mathlib.Core.List.{List, [], ◌∷◌, ◌++◌}
use Prim.Native.Nat.{ℕ}
use native.Mathlib.Omega.{arith}
use Rattle.rulebook.specs.Words.{all}
use Rattle.rulebook.specs.Reasons.{accepted, bound}
use Rattle.rulebook.specs.Events.{happen}
use Rattle.rulebook.specs.Step.{Result, outcomes_known, refused_event, step}
use Rattle.laws.proofs.Tests.{split}
use Rattle.laws.proofs.FitKept.{Fits}
use Rattle.laws.proofs.Play.{step-refused, step-done, none-heeded}
use Rattle.stranger.specs.Logs.{Entry, Follows, Log, state_after, log_from}
use Rattle.stranger.specs.Nothing.{Sending, entries, all_taken, is_shared, kept, shared, events_of, met_by_each, Lends, sending, Ran, ShareAllBut}
use Rattle.stranger.specs.Nothing as runs
use Rattle.stranger.proofs.Logs.{entry-fits}
use Rattle.stranger.proofs.Partner.{AllZeros, agree-all-zeros, met-zeros, taken-known}

-- what a step gives, in its parts
made_of : (k : ℕ) (x : Entry) (r : Result) → r.answer ≡ k → r.state ≡ x.state → r.words ≡ x.words
    → ◌≡◌ {A = Sending} (record { answer = r.answer; entry = record { event = x.event; outcomes = x.outcomes; state = r.state; words = r.words } })
    (record { answer = k; entry = x })
made_of k x r a b c j = record { answer = a j; entry = record { event = x.event; outcomes = x.outcomes; state = b j; words = c j } }

module _ (t : List ℕ) (h : accepted t ≡ true) (o : ℕ) where
  -- a step that gives the sending with answer k and entry x
  pub by-step : (s : List ℕ) (room k : ℕ) (x : Entry) {xs : List Sending} → (is_shared o x.event ≡ true → Lends t room x.outcomes)
      → (let r = step t s room x.outcomes x.event in (r.answer ≡ k) × (r.state ≡ x.state) × (r.words ≡ x.words))
      → Ran t o x.state xs → Ran t o s (record { answer = k; entry = x } ∷ xs)
  unfolding sending
  by-step s room k x {xs} lends is later =
      let run : Ran t o s (sending t s room x.outcomes x.event ∷ xs) =
      runs.sent {s = s} room x.outcomes x.event {xs = xs} lends (rw is.1 later) in
      subst (λ (y : Sending). Ran t o s (y ∷ xs)) (made_of k x (step t s room x.outcomes x.event) is.0 is.1 is.2) run

  pub sent-taken : (s : List ℕ) (x : Entry) {xs : List Sending} → Fits t s → Follows t s x → Ran t o x.state xs
      → Ran t o s (record { answer = 0; entry = x } ∷ xs)
  sent-taken s x fit f later =
      let is = step-done t s (bound t) x.outcomes x.event h fit (omega arith) f.taken in
      by-step s (bound t) 0 x (λ k. record { enough = omega arith; known = taken-known t x.outcomes x.event f.taken })
      (ap (λ (r : Result). r.answer) is, ap (λ (r : Result). r.state) is ∙ sym f.state, ap (λ (r : Result). r.words) is ∙ sym f.words) later

  -- an event that is refused, no outcomes lent
  pub sent-refused : (s : List ℕ) (e : ℕ) {xs : List Sending} → Fits t s → (refused_event t [] e ≡ 0 → ⊥) → Ran t o s xs
      → Ran t o s (record { answer = refused_event t [] e; entry = record { event = e; outcomes = []; state = s; words = [] } } ∷ xs)
  unfolding outcomes_known all
  sent-refused s e fit n later =
      let is = step-refused t s (bound t) [] e h fit (omega arith) n in
      by-step s (bound t) (refused_event t [] e) (record { event = e; outcomes = []; state = s; words = [] })
      (λ k. record { enough = omega arith; known = refl })
      (ap (λ (r : Result). r.answer) is, ap (λ (r : Result). r.state) is, ap (λ (r : Result). r.words) is) later

  -- a log, and what was sent behind it
  pub log-ran : (s : List ℕ) (xs : List Entry) {ys : List Sending} → Fits t s → Log t s xs → Ran t o (state_after s xs) ys → Ran t o s (all_taken xs ++ ys)
  unfolding state_after all_taken
  log-ran s [] fit l later = later
  log-ran s (x ∷ xs) fit l later = sent-taken s x fit l.0 (log-ran x.state xs (entry-fits t h s x l.0 fit) l.1 later)

-- What was taken, as sendings: the entries are the log's, those shared are the shared events', and calls that were lent nothing met 0.

pub entries-taken : (xs : List Entry) → entries (all_taken xs) ≡ xs
unfolding entries all_taken
entries-taken [] = refl
entries-taken (x ∷ xs) = ap (λ (ys : List Entry). x ∷ ys) (entries-taken xs)

pub entries-both : (xs ys : List Sending) → entries (xs ++ ys) ≡ entries xs ++ entries ys
unfolding entries
entries-both [] ys = refl
entries-both (x ∷ xs) ys = ap (λ (zs : List Entry). x.entry ∷ zs) (entries-both xs ys)

module _ (t : List ℕ) (o : ℕ) where
  pub shared-played : (s es : List ℕ) → events_of (shared o (all_taken (log_from t s es))) ≡ kept o es
  unfolding events_of shared all_taken log_from kept
  shared-played s [] = refl
  shared-played s (e ∷ es) =
      let later = shared-played (happen t e [] s).state es in
      split (is_shared o e) (λ a. rw (a, shared, kept) (ap (λ (l : List ℕ). e ∷ l) later)) (λ a. rw (a, shared, kept) later)

  zeros-played : (s es : List ℕ) → AllZeros (met_by_each t o (shared o (all_taken (log_from t s es))))
  unfolding met_by_each shared all_taken log_from
  zeros-played s [] = tt
  zeros-played s (e ∷ es) =
      let later = zeros-played (happen t e [] s).state es in
      let x : Entry = record { event = e; outcomes = []; state = (happen t e [] s).state; words = (happen t e [] s).words } in
      split (is_shared o e) (λ a. rw (a, shared) (met-zeros t o x (none-heeded t), later)) (λ a. rw (a, shared) later)

  -- so two files of events that agree in the shared ones make runs that do
  pub played-share : (s es fs : List ℕ) → kept o es ≡ kept o fs → ShareAllBut t o (all_taken (log_from t s es)) (all_taken (log_from t s fs))
  played-share s es fs e =
      record {
        events = shared-played s es ∙ e ∙ sym (shared-played s fs);
        outcomes = λ two. agree-all-zeros (met_by_each t o (shared o (all_taken (log_from t s es)))) (met_by_each t o (shared o (all_taken (log_from t s fs))))
            (zeros-played s es) (zeros-played s fs);
      }
