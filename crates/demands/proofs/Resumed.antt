-- However a play is resumed at "trace full", it ends as one play that was not full; and it ends. Assumes nothing.
use mathlib.Core.Path.{◌≡◌, sym, ap, ◌∙◌}
use mathlib.Core.List.{List, [], ◌++◌, append-nil}
use Prim.Native.Nat.{ℕ, ◌+◌, ◌-◌, ◌*◌, ◌%◌, ◌≤◌, ◌<◌}
use native.Mathlib.Nat.{add_comm}
use native.Mathlib.Omega.{arith}
use lib.ListN.{length, take, drop, length-drop}
use lib.Seq.{take-add}
use Rattle.rulebook.specs.Reasons.{bound}
use Rattle.rulebook.specs.Step.{refused_state, refused_event}
use Rattle.rulebook.specs.Play.{Play, onto, play_on}
use Rattle.laws.specs.Sequence.{Each}
use Rattle.laws.proofs.Play.{by-standing, state-small, stands, stood-table, stood-state, kept, ended}
use Rattle.laws.proofs.Play.{roomier, alike, resumed, enough-room, some-taken, none-refused}
use Rattle.stranger.specs.Logs.{state_after, log_from, joined}
use Rattle.stranger.proofs.Logs.{after-append}
use Rattle.stranger.proofs.Played.{log-append, joined-append}
use Rattle.manager.specs.Promises.{PlaysIn}
use Rattle.demands.specs.Calls.{Played}
use Rattle.demands.specs.Calls as calls
use Rattle.demands.specs.Plays.{PlayAnswered, added, Resumed, Stops, PlayGoes}
use Rattle.demands.specs.Plays as plays
use Rattle.demands.proofs.Plays.{front, told, untold, play-answered, play-state, play-words, sum-visits, most-visits}
use Rattle.demands.proofs.Singles.{one-result, play-calls}

-- what plays resumed told is what play p tells
pub record TellsAll (p : Play) (k n v : ℕ) (s' ws : List ℕ) : Type 0 where
  pub answer : p.answer ≡ k
  pub taken : p.taken ≡ n
  pub visits : p.visits % 18446744073709551616 ≡ v
  pub state : p.state ≡ s'
  pub words : p.words ≡ ws

-- n events with ws words, of whose visits v were told, and then a play that tells the rest
onto-tells : (n : ℕ) (ws : List ℕ) (u v : ℕ) (p : Play) {k m w : ℕ} {s' vs : List ℕ} → v ≡ u % 18446744073709551616 → TellsAll p k m w s' vs
    → TellsAll (onto n ws u p) k (n + m) (added v w) s' (ws ++ vs)
onto-tells n ws u v p is a =
    record {
      answer = a.answer;
      taken = ap (λ (i : ℕ). n + i) a.taken;
      visits = rw (is, ← a.visits) (added_twice u p.visits);
      state = a.state;
      words = ap (λ (us : List ℕ). ws ++ us) a.words;
    }
  where
    added_twice : (x y : ℕ) → (x + y) % 18446744073709551616 ≡ added (x % 18446744073709551616) (y % 18446744073709551616)
    added_twice x y = omega arith

-- plays resumed are the play in any room in which it is not full
pub resumed-as : {t s es : List ℕ} {k n v : ℕ} {s' ws : List ℕ} → Resumed t s es k n v s' ws → refused_state t s ≡ 0 → (room : ℕ)
    → ((play_on t es s room).answer ≡ 3 → ⊥) → TellsAll (play_on t es s room) k n v s' ws
resumed-as {t} {s} {es} (plays.ended {trace = w} p n) z room not =
    let x = told t s w es _ _ _ _ _ _ p z in
    rw (alike t (stood-table t s z) es s room (length w) (stood-state t s z) not (λ f. n (x.answer ∙ f)))
    (record { answer = sym x.answer; taken = sym x.taken; visits = sym x.visits; state = sym x.state; words = sym (front x) })
resumed-as {t} {s} {es} (plays.resumed {trace = w} {n₁ = n₁} {m₁ = m₁} {v₁ = v₁} {s₁ = s₁} {trace₁ = w₁} p f rest) z room not =
    let x = told t s w es _ _ _ _ _ _ p z in
    let ok = stood-table t s z in
    let fit = stood-state t s z in
    let full = sym x.answer ∙ f in
    -- both rooms together hold the play of either
    let both = sym (roomier t ok (length w) es s room fit not) ∙ ap (play_on t es s) (add_comm room (length w)) ∙ resumed t ok room es s (length w) fit full in
    let on = rw (← x.taken, ← x.state, ← front x) at both in
    let next = rw (← x.state) at (stands t _ ok (kept t ok es s (length w) fit).state) in
    rw on
    (onto-tells n₁ (take m₁ w₁) _ v₁ _ x.visits
    (resumed-as rest next (length w + room - length (take m₁ w₁)) (λ g. not (ap (λ (q : Play). q.answer) on ∙ g))))

-- "Trace full" with B words lent: an event was taken; so it ends.

module _ (t s trace es : List ℕ) (k n m v : ℕ) (s' trace' : List ℕ) (p : PlaysIn t s trace es k n m v s' trace') where
  a : PlayAnswered t s trace es k n m v s' trace'
  a = play-answered t s trace es k n m v s' trace' p

  pub progress : bound t ≤ length trace → k ≡ 3 → 1 ≤ n
  progress b f =
      let z = (a.full.0 f).0 in let x = told t s trace es k n m v s' trace' p z in
      rw x.taken (some-taken t (stood-table t s z) es s (length trace) (stood-state t s z) b (sym x.answer ∙ f))

  pub left : k ≡ 3 → n < length es
  left f = (a.full.0 f).1

  pub enough : length es * bound t ≤ length trace → k ≡ 3 → ⊥
  enough b f =
      let z = (a.full.0 f).0 in
      enough-room t (stood-table t s z) es s (length trace) (stood-state t s z) b (sym (told t s trace es k n m v s' trace' p z).answer ∙ f)

pub stops_end : {t s es : List ℕ} {j : ℕ} → Stops t s es j → j ≤ length es
stops_end plays.none = omega arith
stops_end {t} {s} {es} (plays.more {trace = w} {n = n} b p f rest) =
    let one = progress t s w es _ n _ _ _ _ p b f in
    let l = left t s w es _ n _ _ _ _ p f in
    let i = stops_end rest in
    let d = length-drop n es in
    omega arith

-- Of any result of a play.

module _ (t s trace es : List ℕ) (k n m v : ℕ) (s' trace' : List ℕ) (p : PlaysIn t s trace es k n m v s' trace') where
  one_stood : refused_state t s ≡ 0 → (k ≡ 3 → ⊥) → {k₁ n₁ v₁ : ℕ} {s₁ ws : List ℕ} → Resumed t s es k₁ n₁ v₁ s₁ ws
      → (k₁ ≡ k) × (n₁ ≡ n) × (v₁ ≡ v) × (s₁ ≡ s') × (ws ≡ take m trace')
  one_stood z not r =
      let x = told t s trace es k n m v s' trace' p z in
      let e = resumed-as r z (length trace) (λ f. not (x.answer ∙ f)) in (
        sym e.answer ∙ sym x.answer,
        sym e.taken ∙ sym x.taken,
        sym e.visits ∙ sym x.visits,
        sym e.state ∙ sym x.state,
        sym e.words ∙ sym (front x),
      )

  one-unstood : (refused_state t s ≡ 0 → ⊥) → {k₁ n₁ v₁ : ℕ} {s₁ ws : List ℕ} → Resumed t s es k₁ n₁ v₁ s₁ ws
      → (k₁ ≡ k) × (n₁ ≡ n) × (v₁ ≡ v) × (s₁ ≡ s') × (ws ≡ take m trace')
  one-unstood un (plays.ended {trace = w} q f) =
      let x = untold t s trace es k n m v s' trace' p un in
      let y = untold t s w es _ _ _ _ _ _ q un in
      (y.answer ∙ sym x.answer, y.taken ∙ sym x.taken, y.visits ∙ sym x.visits, y.state ∙ sym x.state, front y ∙ sym (front x))
  one-unstood un (plays.resumed {trace = w} q f rest) =
      let y = (untold t s w es _ _ _ _ _ _ q un).answer in let small = state-small t s in absurd (omega arith)

  pub play-goes : PlayGoes t s trace es k n m v s' trace'
  play-goes =
      record {
        calls = play-calls t s trace es k n m v s' trace' p;
        only_these = λ h c. one-result c (play-calls t s trace es k n m v s' trace' p h);
        as_one = λ not r. by-standing t s (λ z. one_stood z not r) (λ un. one-unstood un r);
        enough = enough t s trace es k n m v s' trace' p;
        progress = progress t s trace es k n m v s' trace' p;
        ends = stops_end;
        visits = sum-visits t s trace es k n m v s' trace' p;
        most_visits = most-visits t s trace es k n m v s' trace' p;
      }

-- The log of plays resumed.

pub resumed-log : {t s es : List ℕ} {k n v : ℕ} {s' ws : List ℕ} → Resumed t s es k n v s' ws
    → (let ys = log_from t s (take n es) in Played t s ys × (state_after s ys ≡ s') × (joined ys ≡ ws))
resumed-log {t} {s} {es} {k} {n} (plays.ended {trace = w} p f) =
    (rw append-nil at (calls.played es p calls.none), play-state t s w es _ _ _ _ _ _ p, play-words t s w es _ _ _ _ _ _ p)
resumed-log {t} {s} {es} (plays.resumed {trace = w} {n₁ = a} {n = b} p f rest) =
    let i = resumed-log rest in
    let here = play-state t s w es _ _ _ _ _ _ p in
    rw (take-add a b es, log-append t s (take a es) (take b (drop a es)), here) (
      calls.played es p i.0,
      after-append s (log_from t s (take a es)) _ ∙ rw here i.1,
      joined-append (log_from t s (take a es)) _ ∙ rw (play-words t s w es _ _ _ _ _ _ p, i.2),
    )

-- events of which none is refused are all taken
pub all-taken : {t s es : List ℕ} {k n v : ℕ} {s' ws : List ℕ} → Resumed t s es k n v s' ws → refused_state t s ≡ 0 → Each (λ e. refused_event t [] e ≡ 0) es
    → (k ≡ 0) × (n ≡ length es)
all-taken {t} {s} {es} r z each =
    let ok = stood-table t s z in
    let fit = stood-state t s z in
    let room = length es * bound t in
    let not = enough-room t ok es s room fit (omega arith) in
    let e = resumed-as r z room not in
    let zero = none-refused t ok es s room fit each not in
    (sym e.answer ∙ zero, sym e.taken ∙ (ended t ok es s room fit).done zero)
