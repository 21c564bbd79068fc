-- Q-1 holds of whatever the promise of a play allows. Assumes nothing.
use mathlib.Core.Path.{◌≡◌, refl, sym, ap, ◌∙◌}
use mathlib.Core.Bool.{true}
use mathlib.Core.List.{List, [], ◌++◌}
use Prim.Native.Nat.{ℕ, ◌*◌, ◌≤◌}
use native.Mathlib.Omega.{arith}
use lib.ListN.{length, get_or, take, drop}
use lib.Seq.{take-append_seam, drop-append_seam}
use Rattle.rulebook.specs.Reasons.{accepted}
use Rattle.rulebook.specs.State.{fits}
use Rattle.rulebook.specs.Step.{refused_state, refused_event}
use Rattle.rulebook.specs.Play.{Play, ending, play_on, play}
use Rattle.laws.proofs.Play.{by-standing, state-small, stood-table, stood-state, play-stands, play-unadmitted, Kept, kept, Ended, ended, taken-alone}
use Rattle.laws.proofs.Visits.{play-most}
use Rattle.stranger.specs.Logs.{Log, state_after, log_from, joined}
use Rattle.stranger.proofs.Played.{LogOf, log-of-play}
use Rattle.manager.specs.Promises.{TellsPlay, PlaysIn}
use Rattle.demands.specs.Plays.{PlayAnswered}

-- What the numbers of a play tell, whatever play it is.

module _ {p : Play} {trace : List ℕ} {k n m v : ℕ} {s' trace' : List ℕ} (told : TellsPlay p trace k n m v s' trace') where
  pub front : take m trace' ≡ p.words
  front = rw (told.words, told.count) (take-append_seam p.words _)

  behind : drop m trace' ≡ drop m trace
  behind = rw (told.words, told.count) (drop-append_seam p.words _)

  no_words : p.words ≡ [] → trace' ≡ trace
  no_words e = told.words ∙ ap (λ (ws : List ℕ). ws ++ drop (length ws) trace) e

-- The answer.

module _ (t s trace es : List ℕ) (k n m v : ℕ) (s' trace' : List ℕ) (p : PlaysIn t s trace es k n m v s' trace') where
  module _ (z : refused_state t s ≡ 0) where
    abbrev P : Play
    P = play_on t es s (length trace)

    pub told : TellsPlay P trace k n m v s' trace'
    told = rw (play-stands t s z (length trace) es) at p

    ok : accepted t ≡ true
    ok = stood-table t s z

    fit : fits t s ≡ true
    fit = stood-state t s z

    K : Kept t ok es (length trace) P
    K = kept t ok es s (length trace) fit

    E : Ended t ok es (length trace) P
    E = ended t ok es s (length trace) fit

    L : LogOf t es s P
    L = log-of-play t ok es s (length trace) fit

    nothing_written : n ≡ 0 → P.words ≡ []
    unfolding log_from joined
    nothing_written e = sym L.words ∙ rw (sym told.taken ∙ e)

    nothing-changed : n ≡ 0 → P.state ≡ s
    unfolding log_from state_after
    nothing-changed e = sym L.state ∙ rw (sym told.taken ∙ e)

    nothing-visited : n ≡ 0 → v ≡ 0
    nothing-visited e =
        let a = play-most t ok es s (length trace) fit in
        let b = told.taken in
        let c = told.visits in
        omega arith

    -- the play of the events taken
    alone-is : play_on t (take n es) s (length trace) ≡ record { answer = 0; taken = P.taken; state = P.state; words = P.words; visits = P.visits }
    alone-is = ap (λ (i : ℕ). play_on t (take i es) s (length trace)) told.taken ∙ taken-alone t ok es s (length trace) fit

    alone : PlaysIn t s trace (take n es) 0 n m v s' trace'
    alone =
        rw (play-stands t s z (length trace) (take n es), alone-is)
        (record { answer = refl; taken = told.taken; count = told.count; visits = told.visits; state = told.state; words = told.words })

    pub answered-stood : PlayAnswered t s trace es k n m v s' trace'
    answered-stood =
        let a = told.answer in let b = told.taken in let c = told.count in
        record {
          unstood = λ un. absurd (un z);
          done = λ y. (λ e. b ∙ E.done (sym a ∙ e), λ e. a ∙ E.done_only (sym b ∙ e));
          full = (
            (λ e. let f = E.full (sym a ∙ e) in (z, omega (arith, f.0), omega (arith, f.1))),
            (λ f. a ∙ E.full_only (omega (arith, f.1)) (omega (arith, f.2))),
          );
          refused = λ y nz nf. (
            (let w = K.within in let g : P.taken ≡ length es → ⊥ = (λ e. nz (a ∙ E.done_only e)) in omega arith),
            a ∙ sym (E.refused (λ e. nz (a ∙ e)) (λ e. nf (a ∙ e))) ∙ ap (λ (i : ℕ). refused_event t [] (get_or es i 0)) (sym b),
          );
          numbers = let w = K.small in omega arith;
          within = let w = K.within in omega arith;
          room = let w = K.words in omega arith;
          alone = λ y. alone;
          none = λ e. (c ∙ ap length (nothing_written e), nothing-visited e, told.state ∙ nothing-changed e, no_words told (nothing_written e));
          unchanged = behind told;
        }

  module _ (un : refused_state t s ≡ 0 → ⊥) where
    pub untold : TellsPlay (ending (refused_state t s) s) trace k n m v s' trace'
    untold = rw (play-unadmitted t s un (length trace) es) at p

    log-none : log_from t s (take n es) ≡ []
    unfolding log_from
    log-none = rw untold.taken

    pub answered-unstood : PlayAnswered t s trace es k n m v s' trace'
    answered-unstood =
        record {
          unstood = λ x. (untold.answer, untold.taken);
          done = λ y. absurd (un y);
          full = ((λ e. let a = untold.answer in let b = state-small t s in absurd (omega arith)), λ f. absurd (un f.0));
          refused = λ y. absurd (un y);
          numbers = let a = untold.answer in let b = state-small t s in omega arith;
          within = let e = untold.taken in omega arith;
          room = let e = untold.count in omega arith;
          alone = λ y. absurd (un y);
          none = λ e. (untold.count, untold.visits, untold.state, no_words untold refl);
          unchanged = behind untold;
        }

  pub play-answered : PlayAnswered t s trace es k n m v s' trace'
  play-answered = by-standing t s answered-stood answered-unstood

  -- The log.

  pub play-log : Log t s (log_from t s (take n es))
  play-log = by-standing t s (λ z. rw (told z).taken (L z).log) (λ un. rw (log-none un) tt)

  pub play-state : state_after s (log_from t s (take n es)) ≡ s'
  unfolding state_after
  play-state = by-standing t s (λ z. rw ((told z).taken, (told z).state) (L z).state) (λ un. rw (log-none un) (sym (untold un).state))

  pub play-words : joined (log_from t s (take n es)) ≡ take m trace'
  unfolding joined
  play-words = by-standing t s (λ z. rw (front (told z), (told z).taken) (L z).words) (λ un. rw (log-none un) (sym (front (untold un))))

  -- Q-10: the sum, and the most that it can be

  pub most-visits : v ≤ 552704 * n
  most-visits =
      by-standing t s
      (λ z. let a = play-most t (ok z) es s (length trace) (fit z) in let b = (told z).taken in let c = (told z).visits in omega arith)
      (λ un. let c = (untold un).visits in omega arith)

  pub sum-visits : n ≤ 33375448836465 → v ≡ (play t s (length trace) es).visits
  sum-visits few =
      by-standing t s
      (λ z. rw (play-stands t s z (length trace) es)
      (let a = play-most t (ok z) es s (length trace) (fit z) in let b = (told z).taken in let c = (told z).visits in omega arith))
      (λ un. rw (play-unadmitted t s un (length trace) es) (untold un).visits)
