-- Q-14 holds of whatever the promises of the public entries allow: what calls sent is a run of the rulebook's steps. Assumes nothing.
use mathlib.Core.Path.{◌≡◌, refl, sym, ap, ◌∙◌}
use mathlib.Core.Bool.{true}
use mathlib.Core.List.{List, [], ◌∷◌, ◌++◌, append_assoc, append-nil}
use Prim.Native.Nat.{ℕ, ◌≤◌, ◌*◌}
use native.Mathlib.Omega.{arith}
use lib.ListN.{length, get_or, take, drop, replicate, length-replicate}
use lib.Seq.{take-length, take-append_seam}
use lib.Dec.{leb}
use borrow.Author.Tests.{leb-true}
use Rattle.rulebook.specs.Reasons.{accepted, bound}
use Rattle.rulebook.specs.State.{fresh}
use Rattle.rulebook.specs.Step.{refused_state, refused_event, step}
use Rattle.laws.proofs.Tests.{split}
use Rattle.laws.proofs.FitKept.{Fits}
use Rattle.laws.proofs.Steps.{fresh-fits, step_fits}
use Rattle.laws.proofs.Play.{stands, stood-table, stood-state, enough-room, ended}
use Rattle.stranger.specs.Logs.{Entry, Log, state_after, log_from, joined}
use Rattle.stranger.specs.Nothing.{Sending, entries, all_taken, is_shared, kept, Lends, sending, Ran, SameOwn}
use Rattle.stranger.specs.Nothing as runs
use Rattle.stranger.proofs.Logs.{after-append, log-fits}
use Rattle.stranger.proofs.Nothing.{Kept, kept-own, itself-known, after-each}
use Rattle.stranger.proofs.Struck.{nothing-of-strangers}
use Rattle.stranger.proofs.Runs.{by-step, sent-refused, log-ran, entries-taken, entries-both, played-share}
use Rattle.manager.specs.Promises.{TakesEventIn, PlaysIn}
use Rattle.panel.specs.Same.{SameThings, SameWords}
use Rattle.panel.proofs.Same.{prints-alike}
use Rattle.demands.specs.Sent.{Sent, ended_by}
use Rattle.demands.specs.Sent as sent
use Rattle.demands.specs.Plays.{Resumed}
use Rattle.demands.specs.Nothing.{SamePanels, NothingAfter, NothingOfCalls}
use Rattle.demands.proofs.Demand1.{fresh-answered}
use Rattle.demands.proofs.Calls.{log-of}
use Rattle.demands.proofs.Demand3.{accepted-when}
use Rattle.demands.proofs.Plays.{play-answered, play-log, play-state}
use Rattle.demands.proofs.Singles.{call-of}
use Rattle.demands.proofs.Resumed.{resumed-as, resumed-log}

-- The panels of two states that have the same words of o's.
module _ (t : List ℕ) (o : ℕ) where
  same-things : SameThings o t t
  same-things =
      record { ports = refl; networks = refl; sources = refl; own_ports = λ p b. refl; own_networks = λ n b. refl; own_sources = λ k b. refl }

  same-words : {s₁ ws₁ s₂ ws₂ : List ℕ} → SameOwn t o s₁ ws₁ s₂ ws₂ → SameWords o t s₁ ws₁ t s₂ ws₂
  same-words w = record { ports = w.ports; networks = w.networks; sources = w.sources; trace = w.trace }

  same-panels : {s₁ ws₁ s₂ ws₂ : List ℕ} → refused_state t s₁ ≡ 0 → refused_state t s₂ ≡ 0 → SameOwn t o s₁ ws₁ s₂ ws₂ → SamePanels t o s₁ ws₁ s₂ ws₂
  same-panels {s₂ = s₂} {ws₂ = ws₂} z₁ z₂ w out₁ k₁ n₁ out₁' out₂ k₂ n₂ out₂' p q =
      prints-alike p t s₂ ws₂ out₂ k₂ n₂ out₂' z₁ z₂ same-things (same-words w) q

module _ (t : List ℕ) (h : accepted t ≡ true) (o : ℕ) where
  -- the refused event with which a play ended, and what was sent behind it
  ended-ran : (s : List ℕ) (k e : ℕ) (xs : List Sending) → Fits t s → (4 ≤ k → k ≡ refused_event t [] e) → Ran t o s xs → Ran t o s (ended_by k e s ++ xs)
  unfolding ended_by
  ended-ran s k e xs fit is later =
      split (leb 4 k)
      (λ a. let four = leb-true 4 k a in let own = is four in
      rw (a, own) (sent-refused t h o s e fit (λ z. omega arith) later))
      (λ a. rw a later)

  -- what calls sent is a run
  sent-ran : (s : List ℕ) (xs : List Sending) → Fits t s → Sent t o s xs → Ran t o s xs
  sent-ran s xs fit sent.none = runs.none
  sent-ran s xs fit (sent.called {trace = w} {s' = u} {trace' = w'} os e {k = k} {n = n} {xs = ys} p lends later) =
      let r = step t s (length w) os e in
      let words : take n w' ≡ r.words = rw (p.words, p.count) (take-append_seam r.words _) in
      by-step t h o s (length w) k (record { event = e; outcomes = os; state = u; words = take n w' }) lends
      (sym p.answer, sym p.state, sym words)
      (sent-ran u ys (rw p.state (step_fits t s (length w) os e h fit)) later)
  sent-ran s xs fit (sent.played {trace = w} {s' = u} {trace' = w'} es {k = k} {n = n} {m = m} {v = v} {xs = ys} p later) =
      let a = play-answered t s w es k n m v u w' p in
      let log = play-log t s w es k n m v u w' p in
      let to = play-state t s w es k n m v u w' p in
      let there : Fits t u = rw to at (log-fits t h s (log_from t s (take n es)) log fit) in
      log-ran t h o s (log_from t s (take n es)) fit log
      (rw to
      (ended-ran u k (get_or es n 0) ys there (λ four. (a.refused (stands t s h fit) (λ z. omega arith) (λ z. omega arith)).1) (sent-ran u ys there later)))

  -- and a run is what calls sent, each with as many words lent
  ran-sent : (s : List ℕ) (xs : List Sending) → Ran t o s xs → Sent t o s xs
  unfolding sending
  ran-sent s xs runs.none = sent.none
  ran-sent s xs (runs.sent room os e {xs = later} lends r) =
      let lent = replicate {A = ℕ} room 0 in
      let long : length lent ≡ room = length-replicate {A = ℕ} room 0 in
      let x = step t s room os e in
      let call = call-of t s lent os e x (ap (λ (n : ℕ). step t s n os e) long) in
      let words : take (length x.words) (x.words ++ drop (length x.words) lent) ≡ x.words = take-append_seam x.words _ in
      rw words at (sent.called os e {xs = later} call (λ k. rw long (lends k)) (ran-sent x.state later r))

-- What was sent, and then more, from the state that it left.

module _ (t : List ℕ) (o : ℕ) where
  ended-leaves : (k e : ℕ) (s : List ℕ) (xs : List Sending) → state_after s (entries (ended_by k e s ++ xs)) ≡ state_after s (entries xs)
  unfolding ended_by entries state_after
  ended-leaves k e s xs = split (leb 4 k) (λ a. rw a) (λ a. rw a)

  pub sent-appended : {s : List ℕ} {xs ys : List Sending} (u : List ℕ) → Sent t o s xs → state_after s (entries xs) ≡ u → Sent t o u ys → Sent t o s (xs ++ ys)
  unfolding state_after entries
  sent-appended u sent.none is more = rw is more
  sent-appended u (sent.called os e p lends rest) is more = sent.called os e p lends (sent-appended u rest is more)
  sent-appended {s} {ys = ys} u (sent.played {trace = w} {s' = v} es {k = k} {n = n} {xs = xs} p rest) is more =
      let log = log_from t s (take n es) in
      let tail = ended_by k (get_or es n 0) v in
      let after : state_after v (entries xs) ≡ u =
      sym (ended-leaves k (get_or es n 0) v xs)
      ∙ ap (λ (a : List ℕ). state_after a (entries (tail ++ xs))) (sym (play-state t s w es k n _ _ v _ p))
      ∙ sym (after-append s log (entries (tail ++ xs)))
      ∙ ap (λ (a : List Entry). state_after s (a ++ entries (tail ++ xs))) (sym (entries-taken log))
      ∙ ap (state_after s) (sym (entries-both (all_taken log) (tail ++ xs)))
      ∙ is in
      rw (append_assoc (all_taken log) (tail ++ xs) ys, append_assoc tail xs ys) (sent.played es p (sent-appended u rest after more))

  -- by one call, or by one play
  pub one-call : {s trace s' trace' : List ℕ} (os : List ℕ) (e : ℕ) {k n v : ℕ} → TakesEventIn t s trace os e k n v s' trace'
      → (is_shared o e ≡ true → Lends t (length trace) os)
      → Sent t o s (record { answer = k; entry = record { event = e; outcomes = os; state = s'; words = take n trace' } } ∷ [])
  one-call os e p lends = sent.called os e p lends sent.none

  pub one-play : {s trace s' trace' : List ℕ} (es : List ℕ) {k n m v : ℕ} → PlaysIn t s trace es k n m v s' trace'
      → Sent t o s (all_taken (log_from t s (take n es)) ++ ended_by k (get_or es n 0) s')
  one-play {s} {s' = s'} es {k} {n} p =
      let sends : Sent t o s (all_taken (log_from t s (take n es)) ++ (ended_by k (get_or es n 0) s' ++ [])) = sent.played es p sent.none in
      rw append-nil at sends

-- The statement.

-- a file that was played to the end was taken whole
taken-whole : {t s es : List ℕ} {n v : ℕ} {s' ws : List ℕ} → Resumed t s es 0 n v s' ws → refused_state t s ≡ 0 → n ≡ length es
taken-whole {t} {s} {es} r z =
    let ok = stood-table t s z in
    let fit = stood-state t s z in
    let room = length es * bound t in
    let tells = resumed-as r z room (enough-room t ok es s room fit (omega arith)) in
    sym tells.taken ∙ (ended t ok es s room fit).done tells.answer

module _ (t : List ℕ) (h : accepted t ≡ true) where
  stood : refused_state t (fresh t) ≡ 0
  stood = stands t (fresh t) h (fresh-fits t h)

  abbrev Went : ℕ → List Sending → Type 0
  Went o xs = Sent t o (fresh t) xs

  ran : (o : ℕ) (xs : List Sending) → Went o xs → Ran t o (fresh t) xs
  ran o xs w = sent-ran t h o (fresh t) xs (fresh-fits t h) w

  panels-kept : (o : ℕ) (x y : Sending) → Kept t o x y → SamePanels t o x.entry.state x.entry.words y.entry.state y.entry.words
  panels-kept o x y k = same-panels t o (stands t _ h k.left) (stands t _ h k.right) (kept-own t o o (itself-known o) k).words

  -- what a file left that was played to the end
  module _ (es : List ℕ) {n v : ℕ} {s' ws : List ℕ} (r : Resumed t (fresh t) es 0 n v s' ws) where
    whole : Log t (fresh t) (log_from t (fresh t) es) × (state_after (fresh t) (log_from t (fresh t) es) ≡ s') × (joined (log_from t (fresh t) es) ≡ ws)
    whole =
        let l = rw (taken-whole r stood, take-length es) at (resumed-log r) in
        (log-of t (fresh t) _ l.0, l.1, l.2)

    file-ran : (o : ℕ) → Ran t o (fresh t) (all_taken (log_from t (fresh t) es))
    file-ran o = rw append-nil at (log-ran t h o (fresh t) (log_from t (fresh t) es) (fresh-fits t h) whole.0 runs.none)

    file-stands : refused_state t s' ≡ 0
    file-stands =
        let log = log_from t (fresh t) es in
        rw whole.1 at (stands t (state_after (fresh t) log) h (log-fits t h (fresh t) log whole.0 (fresh-fits t h)))

  files-same : (o : ℕ) (es fs : List ℕ) → kept o es ≡ kept o fs → {n v m u : ℕ} {s₁ ws₁ s₂ ws₂ : List ℕ} → Resumed t (fresh t) es 0 n v s₁ ws₁
      → Resumed t (fresh t) fs 0 m u s₂ ws₂ → SameOwn t o s₁ ws₁ s₂ ws₂
  files-same o es fs e r q =
      let runs_same = nothing-of-strangers t h (λ w xs. Ran t w (fresh t) xs) (λ w xs x. x) (λ w xs x. x) in
      let ends = runs_same.ends o _ _ (file-ran es r o) (file-ran fs q o) (played-share t o (fresh t) es fs e) in
      rw (entries-taken (log_from t (fresh t) es), entries-taken (log_from t (fresh t) fs), (whole es r).1, (whole es r).2, (whole fs q).1, (whole fs q).2) at ends

  nothing-after : NothingAfter t (fresh t)
  nothing-after =
      record {
        nothing = nothing-of-strangers t h Went ran (λ o xs r. ran-sent t h o (fresh t) xs r);
        panels = λ o. after-each t h Went ran o (panels-kept o);
        plays = λ o es fs e r q. let same = files-same o es fs e r q in (same, same-panels t o (file-stands es r) (file-stands fs q) same);
      }

pub nothing : NothingOfCalls
nothing t s₀ k s p z = rw ((fresh-answered t s₀ k s p).made z) (nothing-after t (accepted-when t s₀ k s p z))
