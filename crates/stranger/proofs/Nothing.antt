-- Q-14's agreement: two runs go side by side, of the rulebook's or of whatever is shown to be such a run. A stranger's sending is unseen, taken or
-- refused, and a shared one is taken in both or refused in both. Assumes nothing.
use mathlib.Core.Path.{◌≡◌, refl, sym, ◌∙◌, ap}
use mathlib.Core.Logic.{◌⊎◌, inl, inr, ⊎_elim}
use mathlib.Core.Bool.{true, false, cond}
use mathlib.Core.List.{List, [], ◌∷◌, ◌++◌}
use Prim.Native.Nat.{ℕ}
use lib.Dec.{ltb, eqb}
use borrow.Author.Tests.{ltb-false, ltb-true, eqb-true, eqb-false, eq-eqb, ne_eqb}
use Rattle.rulebook.specs.Table.{edition, stranger}
use Rattle.rulebook.specs.Reasons.{accepted, bound}
use Rattle.rulebook.specs.State.{fresh}
use Rattle.rulebook.specs.Lists.{trace_owner, own}
use Rattle.rulebook.specs.Events.{event_owner}
use Rattle.rulebook.specs.Step.{Result, outcomes_known, refused_event, refusal, heeded, step}
use Rattle.laws.proofs.Tests.{split, clash}
use Rattle.laws.proofs.FitKept.{Fits}
use Rattle.laws.proofs.Play.{step-full, step-refused, step-done}
use Rattle.laws.proofs.Steps.{fresh-fits, step_fits, done}
use Rattle.stranger.specs.Logs.{Entry, Follows, state_after, joined, strangers_entry}
use Rattle.stranger.specs.View.{SameView, own_words, Unseen}
use Rattle.stranger.specs.Outcomes.{met_by, Agree, AgreeEach}
use Rattle.stranger.specs.Nothing.{Sending, entries, is_shared, shared, events_of, met_by_each, Lends, sending, Ran, ShareAllBut, SameOwn, SameAfter}
use Rattle.stranger.specs.Nothing.{EachPair, AfterEachShared}
use Rattle.stranger.specs.Nothing as runs
use Rattle.stranger.proofs.View.{same-view-refl, same-view-sym, same-view-trans, port-word, rule-word, network-word, source-word}
use Rattle.stranger.proofs.Alike.{own-both}
use Rattle.stranger.proofs.Strangers.{strangers-unseen, kept_same, empty}
use Rattle.stranger.proofs.Partner.{agree-zeros, met-zeros}

-- Who sent it.

strange : (o : ℕ) (x : Entry) → is_shared o x.event ≡ false → strangers_entry o x ≡ true
unfolding is_shared strangers_entry
strange o x h = split (stranger o (event_owner x.event)) (λ a. a) (λ a. clash (rw a) h)

unstrange : (o : ℕ) (x : Entry) → is_shared o x.event ≡ true → strangers_entry o x ≡ false
unfolding is_shared strangers_entry
unstrange o x h = split (stranger o (event_owner x.event)) (λ a. clash h (rw a)) (λ a. a)

-- What a word is to owner w, whom o does not take for a stranger: it is among those that o sees.

pub itself-known : (o : ℕ) → stranger o o ≡ false
unfolding stranger
itself-known o = rw (eq-eqb o o refl)

own-seen : (o w : ℕ) → stranger o w ≡ false → (ws : List ℕ) → own w ws ≡ own w (own_words o ws)
unfolding own own_words
own-seen o w h [] = refl
own-seen o w h (v ∷ ws) =
    split (stranger o (trace_owner v))
    (λ a. let other : eqb (trace_owner v) w ≡ false = ne_eqb (trace_owner v) w (λ e. clash a (rw e h)) in rw (a, other, own_words) (own-seen o w h ws))
    (λ a. rw (a, own_words) (ap (λ (l : List ℕ). cond (eqb (trace_owner v) w) (v ∷ l) l) (own-seen o w h ws)))

module _ (t : List ℕ) (o w : ℕ) (h : stranger o w ≡ false) where
  pub same-own : {s₁ ws₁ s₂ ws₂ : List ℕ} → SameView t o s₁ s₂ → own_words o ws₁ ≡ own_words o ws₂ → SameOwn t w s₁ ws₁ s₂ ws₂
  same-own {s₁} {ws₁} {s₂} {ws₂} v e =
      record {
        ports = λ p b is. v.same p (port-word t o p b ∙ rw is h);
        rules = λ r b is. v.same _ (rule-word t o r b ∙ rw is h);
        networks = λ n b is. v.same _ (network-word t o n b ∙ rw is h);
        sources = λ k b is. v.same _ (source-word t o k ∙ rw is h);
        trace = own-seen o w h ws₁ ∙ ap (own w) e ∙ sym (own-seen o w h ws₂);
      }

-- one sending beside another, as o sees them, each with a state that fits
pub record Kept (t : List ℕ) (o : ℕ) (x y : Sending) : Type 0 where
  pub left : Fits t x.entry.state
  pub right : Fits t y.entry.state
  pub event : x.entry.event ≡ y.entry.event
  pub answer : x.answer ≡ y.answer
  pub view : SameView t o x.entry.state y.entry.state
  pub words : own_words o x.entry.words ≡ own_words o y.entry.words

pub kept-own : (t : List ℕ) (o w : ℕ) → stranger o w ≡ false → {x y : Sending} → Kept t o x y → SameAfter t w x y
kept-own t o w h k = record { event = k.event; answer = k.answer; words = same-own t o w h k.view k.words }

-- no answer but 8 goes by the outcomes lent
same-refusal : (t os₁ os₂ : List ℕ) (e : ℕ) → outcomes_known os₁ ≡ true → outcomes_known os₂ ≡ true → refused_event t os₁ e ≡ refused_event t os₂ e
unfolding refused_event
same-refusal t os₁ os₂ e h k = rw (h, k)

-- in edition 1 no call reads any
unheeded : (t : List ℕ) → eqb (edition t) 2 ≡ false → (os : List ℕ) → heeded t os ≡ []
unfolding heeded
unheeded t a os = rw a

may-agree : (t : List ℕ) (o : ℕ) (x y : Entry) → (edition t ≡ 2 → Agree (met_by t o x) (met_by t o y)) → Agree (met_by t o x) (met_by t o y)
may-agree t o x y h =
    split (eqb (edition t) 2) (λ a. h (eqb-true _ _ a))
    (λ a. agree-zeros (met_by t o x) (met_by t o y) (met-zeros t o x (unheeded t a x.outcomes)) (met-zeros t o y (unheeded t a y.outcomes)))

module _ (t : List ℕ) (h : accepted t ≡ true) where
  -- One sending from a state that fits.

  follows-done : (s : List ℕ) (room : ℕ) (os : List ℕ) (e : ℕ) → refused_event t os e ≡ 0 → step t s room os e ≡ done t os e s
      → Follows t s (sending t s room os e).entry
  unfolding sending
  follows-done s room os e z is = record { taken = z; state = ap (λ (r : Result). r.state) is; words = ap (λ (r : Result). r.words) is }

  module _ (s : List ℕ) (room : ℕ) (os : List ℕ) (e : ℕ) (fit : Fits t s) where
    -- it is an entry of a log, or leaves all as it was
    taken-or-not : Follows t s (sending t s room os e).entry ⊎ ((step t s room os e).state ≡ s) × ((step t s room os e).words ≡ [])
    taken-or-not =
        split (ltb room (bound t))
        (λ a. inr (nothing (step-full t s room os e h fit (ltb-true _ _ a))))
        (λ a. split (eqb (refused_event t os e) 0)
        (λ b. inl (follows-done s room os e (eqb-true _ _ b) (step-done t s room os e h fit (ltb-false _ _ a) (eqb-true _ _ b))))
        (λ b. inr (nothing (step-refused t s room os e h fit (ltb-false _ _ a) (eqb-false _ _ b)))))
      where
        nothing : {k : ℕ} → step t s room os e ≡ refusal k s → ((step t s room os e).state ≡ s) × ((step t s room os e).words ≡ [])
        nothing is = (ap (λ (r : Result). r.state) is, ap (λ (r : Result). r.words) is)

    -- a stranger's is unseen
    sent-unseen : (o : ℕ) → is_shared o e ≡ false → Unseen t o s (sending t s room os e).entry
    unfolding sending own_words
    sent-unseen o k =
        ⊎_elim (λ f. strangers-unseen t h o s _ f (strange o _ k))
        (λ n. record { state = rw n.0 (same-view-refl t o s); words = rw n.1 })
        taken-or-not

  -- a shared one from two states that o cannot tell apart
  module _ (o : ℕ) (s₁ s₂ : List ℕ) (fit₁ : Fits t s₁) (fit₂ : Fits t s₂) (v : SameView t o s₁ s₂) where
    shared_same : (e room₁ room₂ : ℕ) (os₁ os₂ : List ℕ) → is_shared o e ≡ true → Lends t room₁ os₁ → Lends t room₂ os₂
        → (edition t ≡ 2 → Agree (met_by t o (sending t s₁ room₁ os₁ e).entry) (met_by t o (sending t s₂ room₂ os₂ e).entry))
        → Kept t o (sending t s₁ room₁ os₁ e) (sending t s₂ room₂ os₂ e)
    unfolding sending
    shared_same e room₁ room₂ os₁ os₂ k l₁ l₂ met =
        let same = same-refusal t os₁ os₂ e l₁.known l₂.known in
        split (eqb (refused_event t os₁ e) 0)
        (λ a. let z₁ : refused_event t os₁ e ≡ 0 = eqb-true _ _ a in let z₂ : refused_event t os₂ e ≡ 0 = sym same ∙ z₁ in
        let done₁ = step-done t s₁ room₁ os₁ e h fit₁ l₁.enough z₁ in
        let done₂ = step-done t s₂ room₂ os₂ e h fit₂ l₂.enough z₂ in
        let x = (sending t s₁ room₁ os₁ e).entry in let y = (sending t s₂ room₂ os₂ e).entry in
        let seen = kept_same t h o s₁ s₂ x y (follows-done s₁ room₁ os₁ e z₁ done₁) (follows-done s₂ room₂ os₂ e z₂ done₂) refl (unstrange o x k) v
        (may-agree t o x y met) in
        let answers : (step t s₁ room₁ os₁ e).answer ≡ (step t s₂ room₂ os₂ e).answer = rw (done₁, done₂) in
        record {
          left = step_fits t s₁ room₁ os₁ e h fit₁;
          right = step_fits t s₂ room₂ os₂ e h fit₂;
          event = refl;
          answer = answers;
          view = seen.state;
          words = seen.words;
        })
        (λ a. let n₁ : refused_event t os₁ e ≡ 0 → ⊥ = eqb-false _ _ a in let n₂ : refused_event t os₂ e ≡ 0 → ⊥ = (λ z. n₁ (same ∙ z)) in
        rw (step-refused t s₁ room₁ os₁ e h fit₁ l₁.enough n₁, step-refused t s₂ room₂ os₂ e h fit₂ l₂.enough n₂)
        (record { left = fit₁; right = fit₂; event = refl; answer = same; view = v; words = refl }))

-- Two runs side by side, each from a state of its own.

pub record Beside (t : List ℕ) (o : ℕ) (s₁ : List ℕ) (xs : List Sending) (s₂ : List ℕ) (ys : List Sending) : Type 0 where
  pub pairs : EachPair (Kept t o) (shared o xs) (shared o ys)
  pub view : SameView t o (state_after s₁ (entries xs)) (state_after s₂ (entries ys))
  pub words : own_words o (joined (entries xs)) ≡ own_words o (joined (entries ys))

pub shared-not : (o : ℕ) (x : Sending) (xs : List Sending) → is_shared o x.entry.event ≡ false → shared o (x ∷ xs) ≡ shared o xs
unfolding shared
shared-not o x xs k = rw (k, shared)

pub shared-too : (o : ℕ) (x : Sending) (xs : List Sending) → is_shared o x.entry.event ≡ true → shared o (x ∷ xs) ≡ x ∷ shared o xs
unfolding shared
shared-too o x xs k = rw (k, shared)

joined-first : (o : ℕ) (x : Sending) (xs : List Sending)
    → own_words o (joined (entries (x ∷ xs))) ≡ own_words o x.entry.words ++ own_words o (joined (entries xs))
unfolding joined entries
joined-first o x xs = own-both o x.entry.words (joined (entries xs))

joined-unseen : {t : List ℕ} {o : ℕ} {s : List ℕ} (x : Sending) (xs : List Sending) → Unseen t o s x.entry
    → own_words o (joined (entries (x ∷ xs))) ≡ own_words o (joined (entries xs))
joined-unseen {o = o} x xs u = joined-first o x xs ∙ rw u.words

module _ (t : List ℕ) (o : ℕ) where
  pass-left : {s₁ s₂ : List ℕ} (x : Sending) {xs ys : List Sending} → is_shared o x.entry.event ≡ false → Unseen t o s₁ x.entry
      → Beside t o x.entry.state xs s₂ ys → Beside t o s₁ (x ∷ xs) s₂ ys
  unfolding state_after entries
  pass-left x {xs} k u b = record { pairs = rw (shared-not o x xs k) b.pairs; view = b.view; words = joined-unseen x xs u ∙ b.words }

  pass-right : {s₁ s₂ : List ℕ} {xs : List Sending} (y : Sending) {ys : List Sending} → is_shared o y.entry.event ≡ false → Unseen t o s₂ y.entry
      → Beside t o s₁ xs y.entry.state ys → Beside t o s₁ xs s₂ (y ∷ ys)
  unfolding state_after entries
  pass-right y {ys} k u b = record { pairs = rw (shared-not o y ys k) b.pairs; view = b.view; words = b.words ∙ sym (joined-unseen y ys u) }

  pass-both : {s₁ s₂ : List ℕ} (x y : Sending) {xs ys : List Sending} → is_shared o x.entry.event ≡ true → is_shared o y.entry.event ≡ true
      → Kept t o x y → Beside t o x.entry.state xs y.entry.state ys → Beside t o s₁ (x ∷ xs) s₂ (y ∷ ys)
  unfolding state_after entries
  pass-both x y {xs} {ys} k j same b =
      record {
        pairs = rw (shared-too o x xs k, shared-too o y ys j) (same, b.pairs);
        view = b.view;
        words = joined-first o x xs ∙ rw (same.words, b.words) (sym (joined-first o y ys));
      }

module _ (t : List ℕ) (h : accepted t ≡ true) (o : ℕ) where
  beside : (s₁ s₂ : List ℕ) (xs ys : List Sending) → Ran t o s₁ xs → Ran t o s₂ ys → Fits t s₁ → Fits t s₂ → SameView t o s₁ s₂
      → events_of (shared o xs) ≡ events_of (shared o ys) → (edition t ≡ 2 → AgreeEach (met_by_each t o (shared o xs)) (met_by_each t o (shared o ys)))
      → Beside t o s₁ xs s₂ ys
  unfolding shared events_of met_by_each state_after entries joined own_words sending
  beside s₁ s₂ xs ys runs.none runs.none fit₁ fit₂ v e a = record { pairs = tt; view = v; words = refl }
  beside s₁ s₂ xs ys runs.none (runs.sent room os d {xs = later} l r) fit₁ fit₂ v e a =
      let y = sending t s₂ room os d in
      split (is_shared o d) (λ k. absurd (empty (rw (k, shared) at e)))
      (λ k. let u = sent-unseen t h s₂ room os d fit₂ o k in
      pass-right t o y k u
      (beside s₁ y.entry.state [] later runs.none r fit₁ (step_fits t s₂ room os d h fit₂) (same-view-trans t o v u.state)
      (rw (k, shared) at e) (λ two. tt)))
  beside s₁ s₂ xs ys (runs.sent room os d {xs = later} l r) runs.none fit₁ fit₂ v e a =
      let x = sending t s₁ room os d in
      split (is_shared o d) (λ k. absurd (empty (sym (rw (k, shared) at e))))
      (λ k. let u = sent-unseen t h s₁ room os d fit₁ o k in
      pass-left t o x k u
      (beside x.entry.state s₂ later [] r runs.none (step_fits t s₁ room os d h fit₁) fit₂ (same-view-trans t o (same-view-sym t o u.state) v)
      (rw (k, shared) at e) (λ two. rw (k, shared) at (a two))))
  beside s₁ s₂ xs ys (runs.sent room os d {xs = later} l r) (runs.sent room₂ os₂ d₂ {xs = later₂} l₂ r₂) fit₁ fit₂ v e a =
      let x = sending t s₁ room os d in let y = sending t s₂ room₂ os₂ d₂ in
      split (is_shared o d)
      (λ k. split (is_shared o d₂)
      (λ j. let heads : d ∷ events_of (shared o later) ≡ d₂ ∷ events_of (shared o later₂) = rw (k, j, shared) at e in
      let is : d ≡ d₂ = cc in
      let agree : edition t ≡ 2 → Agree (met_by t o x.entry) (met_by t o y.entry) ×
      AgreeEach (met_by_each t o (shared o later)) (met_by_each t o (shared o later₂)) =
      λ two. rw (k, j, shared) at (a two) in
      let same : Kept t o x y = rw is (shared_same t h o s₁ s₂ fit₁ fit₂ v d₂ room room₂ os os₂ j (l k) (l₂ j) (λ two. rw is at (agree two).0)) in
      pass-both t o x y k j same
      (beside x.entry.state y.entry.state later later₂ r r₂ (step_fits t s₁ room os d h fit₁) (step_fits t s₂ room₂ os₂ d₂ h fit₂) same.view
      (cc) (λ two. (agree two).1)))
      (λ j. let u = sent-unseen t h s₂ room₂ os₂ d₂ fit₂ o j in
      pass-right t o y j u
      (beside s₁ y.entry.state (x ∷ later) later₂ (runs.sent room os d l r) r₂ fit₁ (step_fits t s₂ room₂ os₂ d₂ h fit₂) (same-view-trans t o v u.state)
      (rw (j, shared) at e) (λ two. rw (j, shared) at (a two)))))
      (λ k. let u = sent-unseen t h s₁ room os d fit₁ o k in
      pass-left t o x k u
      (beside x.entry.state s₂ later (y ∷ later₂) r (runs.sent room₂ os₂ d₂ l₂ r₂) (step_fits t s₁ room os d h fit₁) fit₂
      (same-view-trans t o (same-view-sym t o u.state) v)
      (rw (k, shared) at e) (λ two. rw (k, shared) at (a two))))

pub each-pair : {P Q : Sending → Sending → Type 0} → ((x y : Sending) → P x y → Q x y) → (xs ys : List Sending) → EachPair P xs ys → EachPair Q xs ys
each-pair {P = P} {Q = Q} f [] [] h = tt
each-pair {P = P} {Q = Q} f [] (y ∷ ys) h = elim h [ ]
each-pair {P = P} {Q = Q} f (x ∷ xs) [] h = elim h [ ]
each-pair {P = P} {Q = Q} f (x ∷ xs) (y ∷ ys) h = (f x y h.0, each-pair {P = P} {Q = Q} f xs ys h.1)

-- Two runs from the fresh state, of whatever is shown to be one.
module _ (t : List ℕ) (h : accepted t ≡ true) (Went : ℕ → List Sending → Type 0) (ran : (o : ℕ) (xs : List Sending) → Went o xs → Ran t o (fresh t) xs) where
  pub two_runs : (o : ℕ) (xs ys : List Sending) → Went o xs → Went o ys → ShareAllBut t o xs ys → Beside t o (fresh t) xs (fresh t) ys
  two_runs o xs ys w u but =
      beside t h o (fresh t) (fresh t) xs ys (ran o xs w) (ran o ys u) (fresh-fits t h) (fresh-fits t h) (same-view-refl t o (fresh t)) but.events
      but.outcomes

  pub after-each : (o : ℕ) {Same : Sending → Sending → Type 0} → ((x y : Sending) → Kept t o x y → Same x y) → AfterEachShared t Went o Same
  after-each o f xs ys w u but = each-pair f (shared o xs) (shared o ys) (two_runs o xs ys w u but).pairs
