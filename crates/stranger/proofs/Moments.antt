-- No stranger brings about, alters or keeps away a moment of a network or source: a bus-off or heard taken, a request of another mode, a source
-- woken, validated or cleared, a turn of state or status. Assumes nothing.
use mathlib.Core.Path.{◌≡◌, refl, sym, ◌∙◌, ap}
use mathlib.Core.Bool.{true, false, cond, and-false}
use mathlib.Core.List.{List, [], ◌∷◌}
use Prim.Native.Nat.{ℕ, ◌+◌, ◌<◌}
use native.Mathlib.Nat.{zero-add}
use lib.Dec.{eqb}
use borrow.Author.Tests.{eqb-true, eq-eqb}
use Rattle.rulebook.specs.Words.{word}
use Rattle.rulebook.specs.Table.{networks, network_owner, network_port, sources, source_owner, source_port}
use Rattle.rulebook.specs.Reasons.{accepted}
use Rattle.rulebook.specs.State.{network_index, source_index, status_of}
use Rattle.rulebook.specs.Lists.{network_in}
use Rattle.rulebook.specs.Events.{event_kind, event_owner, event_index, event_heard, status_in}
use Rattle.laws.specs.Sequence.{Each}
use Rattle.laws.proofs.Tests.{split, clash, part_of, and_left, and_right}
use Rattle.laws.proofs.Facts.{facts}
use Rattle.laws.proofs.FitEvents.{may-show}
use Rattle.laws.proofs.Happen.{of-bus-off, of-heard, of-wakeup, of-ending}
use Rattle.stranger.specs.Logs.{Entry, Follows, Log, strangers_entry, struck_out}
use Rattle.stranger.specs.Demand.{ticks, bus_off_taken, hears, heard_taken, heard_from, settles_at, asks_other, any_word, asks_another, becomes_pending, ended}
use Rattle.stranger.specs.Demand.{network_moment, source_moment, moments}
use Rattle.stranger.specs.View.{SameView, AsksOwn}
use Rattle.stranger.specs.Outcomes.{ButStrangers}
use Rattle.stranger.proofs.Logs.{taken}
use Rattle.stranger.proofs.View.{port-word, network-word, source-word}
use Rattle.stranger.proofs.Owners.{self-known}
use Rattle.stranger.proofs.Strangers.{SameSeen, strangers-tick, strangers-unseen, moments-beside}
use Rattle.stranger.proofs.AsksOwn.{happen-asks-own, asks-in-own-words}

module _ (t : List ℕ) (h : accepted t ≡ true) where
  pub entry-asks-own : (s : List ℕ) (x : Entry) → Follows t s x → Each (AsksOwn t) x.words
  entry-asks-own s x f = rw f.words (happen-asks-own t (facts t h) x.event _ s)

  -- a heard that is taken is the owner's
  pub heard-by-owner : (n : ℕ) (s : List ℕ) (x : Entry) → Follows t s x → hears n x ≡ true → event_owner x.event ≡ network_owner t n
  unfolding hears
  heard-by-owner n s x f e =
      (of-heard t x.event (taken f) (eqb-true _ _ (and_left _ (eqb (event_index x.event) n) e))).owner
      ∙ ap (network_owner t) (eqb-true _ _ (and_right (eqb (event_kind x.event) event_heard) _ e))

  -- Network n, its owner o.
  module _ (n : ℕ) (b : n < networks t) where
    abbrev o : ℕ
    o = network_owner t n

    same-network : {s₁ s₂ : List ℕ} → SameView t o s₁ s₂ → word s₁ (network_index t n) ≡ word s₂ (network_index t n)
    same-network v = v.same (network_index t n) (network-word t o n b ∙ self-known o)

    same-shown : {s₁ s₂ : List ℕ} → SameView t o s₁ s₂ → word s₁ (network_port t n) ≡ word s₂ (network_port t n)
    same-shown v =
        let f = (facts t h).network n b in
        v.same (network_port t n) (port-word t o (network_port t n) (may-show t _ f.may).there ∙ rw (← f.owned) (self-known o))

    strangers-bus-off : (s : List ℕ) (x : Entry) → Follows t s x → strangers_entry o x ≡ true → bus_off_taken t n s x ≡ false
    unfolding bus_off_taken strangers_entry
    strangers-bus-off s x f k =
        split (bus_off_taken t n s x)
        (λ e. let own = (of-bus-off t x.event (taken f) (eqb-true _ _ (part_of _ (λ d. rw (bus_off_taken, d) at e)))).owner in
        let here : event_index x.event ≡ n = eqb-true _ _ (part_of _ (λ d. rw (bus_off_taken, d, and-false) at e)) in
        clash (rw (own ∙ ap (network_owner t) here) at k) (self-known o))
        (λ e. e)

    strangers-silent : (s : List ℕ) (x : Entry) → Follows t s x → strangers_entry o x ≡ true → hears n x ≡ false
    unfolding strangers_entry
    strangers-silent s x f k = split (hears n x) (λ e. clash (rw (heard-by-owner n s x f e) at k) (self-known o)) (λ e. e)

    strangers-heard : (s : List ℕ) (x : Entry) → Follows t s x → strangers_entry o x ≡ true → heard_taken t n s x ≡ false
    unfolding heard_taken
    strangers-heard s x f k = rw (strangers-silent s x f k)

    strangers-ask : (s : List ℕ) (x : Entry) → Follows t s x → strangers_entry o x ≡ true → asks_another n x ≡ false
    unfolding asks_another any_word
    strangers-ask s x f k = asks-in-own-words t n _ (entry-asks-own s x f) ∙ ap (any_word (asks_other n)) (strangers-unseen t h o s x f k).words

    network-quiet : (j : ℕ) (s : List ℕ) (x : Entry) → Follows t s x → strangers_entry o x ≡ true → network_moment t n j s x ≡ []
    unfolding network_moment
    network-quiet j s x f k =
        let is = same-network (strangers-unseen t h o s x f k).state in
        rw (strangers-bus-off s x f k, strangers-heard s x f k, strangers-ask s x f k, ← is, eq-eqb (network_in t n s).state (network_in t n s).state refl)

    bus-off-same : (s₁ s₂ : List ℕ) (x y : Entry) → SameView t o s₁ s₂ → SameSeen t o x y → bus_off_taken t n s₁ x ≡ bus_off_taken t n s₂ y
    unfolding bus_off_taken
    bus-off-same s₁ s₂ x y v same = rw (same.event, same-network v)

    heard-same : (s₁ s₂ : List ℕ) (x y : Entry) → SameView t o s₁ s₂ → SameSeen t o x y → heard_taken t n s₁ x ≡ heard_taken t n s₂ y
    unfolding heard_taken hears
    heard-same s₁ s₂ x y v same = rw (same.event, same-network v)

    ask-same : (s₁ s₂ : List ℕ) (x y : Entry) → Follows t s₁ x → Follows t s₂ y → SameSeen t o x y → asks_another n x ≡ asks_another n y
    unfolding asks_another
    ask-same s₁ s₂ x y f g same =
        asks-in-own-words t n _ (entry-asks-own s₁ x f) ∙ ap (any_word (asks_other n)) same.words ∙ sym (asks-in-own-words t n _ (entry-asks-own s₂ y g))

    network-alike : (j : ℕ) (s₁ s₂ : List ℕ) (x y : Entry) → Follows t s₁ x → Follows t s₂ y → SameView t o s₁ s₂ → SameSeen t o x y
        → network_moment t n j s₁ x ≡ network_moment t n j s₂ y
    unfolding network_moment
    network-alike j s₁ s₂ x y f g v same =
        rw (
          bus-off-same s₁ s₂ x y v same,
          heard-same s₁ s₂ x y v same,
          ask-same s₁ s₂ x y f g same,
          same-network v,
          same-network same.state,
          same-shown same.state,
        )

    pub network-moments : (s₁ s₂ : List ℕ) (xs ys : List Entry) → Log t s₁ xs → Log t s₂ ys → SameView t o s₁ s₂ → ButStrangers t o xs ys → (j : ℕ)
        → moments (network_moment t n) j s₁ xs ≡ moments (network_moment t n) j s₂ ys
    network-moments = moments-beside t h o (network_moment t n) network-quiet network-alike

    -- The tick at which it is settled goes by the events alone, and by none of a stranger's.

    bare : List ℕ → List Entry
    bare [] = []
    bare (e ∷ es) = record { event = e; outcomes = []; state = []; words = [] } ∷ bare es

    settles-bare : (L latest k : ℕ) (s : List ℕ) (xs : List Entry) → Log t s xs → settles_at n L latest k xs ≡ settles_at n L latest k (bare (struck_out o xs))
    unfolding settles_at heard_from hears ticks struck_out bare
    settles-bare L latest k s [] l = refl
    settles-bare L latest k s (x ∷ xs) l =
        split (strangers_entry o x)
        (λ e. rw (e, struck_out, strangers-silent s x l.0 e, strangers-tick t h o s x l.0 e, zero-add k) (settles-bare L latest k x.state xs l.1))
        (λ e. rw (e, struck_out)
        (split (heard_from n L k x) (λ d. rw d)
        (λ d. rw d (settles-bare L latest (cond (ticks x) 1 0 + k) x.state xs l.1))))

    pub network-settles : (s₁ s₂ : List ℕ) (xs ys : List Entry) → Log t s₁ xs → Log t s₂ ys → struck_out o xs ≡ struck_out o ys → (L latest k : ℕ)
        → settles_at n L latest k xs ≡ settles_at n L latest k ys
    network-settles s₁ s₂ xs ys l m e L latest k =
        settles-bare L latest k s₁ xs l ∙ ap (λ (es : List ℕ). settles_at n L latest k (bare es)) e ∙ sym (settles-bare L latest k s₂ ys m)

  -- Source k, its owner o.
  module _ (k : ℕ) (b : k < sources t) where
    abbrev p : ℕ
    p = source_owner t k

    same_source : {s₁ s₂ : List ℕ} → SameView t p s₁ s₂ → word s₁ (source_index t k) ≡ word s₂ (source_index t k)
    same_source v = v.same (source_index t k) (source-word t p k ∙ self-known p)

    same-status : {s₁ s₂ : List ℕ} → SameView t p s₁ s₂ → status_in t k s₁ ≡ status_in t k s₂
    same-status v = ap (λ (w : ℕ). status_of w) (same_source v)

    same-status-shown : {s₁ s₂ : List ℕ} → SameView t p s₁ s₂ → word s₁ (source_port t k) ≡ word s₂ (source_port t k)
    same-status-shown v =
        let f = (facts t h).source k b in
        v.same (source_port t k) (port-word t p (source_port t k) (may-show t _ f.may).there ∙ rw (← f.owned) (self-known p))

    strangers-wake : (s : List ℕ) (x : Entry) → Follows t s x → strangers_entry p x ≡ true → becomes_pending t k s x ≡ false
    unfolding becomes_pending strangers_entry
    strangers-wake s x f z =
        split (becomes_pending t k s x)
        (λ e. let own = (of-wakeup t x.event (taken f) (eqb-true _ _ (part_of _ (λ d. rw (becomes_pending, d) at e)))).owner in
        let here : event_index x.event ≡ k = eqb-true _ _ (part_of _ (λ d. rw (becomes_pending, d, and-false) at e)) in
        clash (rw (own ∙ ap (source_owner t) here) at z) (self-known p))
        (λ e. e)

    strangers-end : (s : List ℕ) (x : Entry) → Follows t s x → strangers_entry p x ≡ true → ended k x ≡ false
    unfolding ended strangers_entry
    strangers-end s x f z =
        split (ended k x)
        (λ e. let own = (of-ending t x.event (taken f) (part_of _ (λ d. rw (ended, d) at e))).owner in
        let here : event_index x.event ≡ k = eqb-true _ _ (part_of _ (λ d. rw (ended, d, and-false) at e)) in
        clash (rw (own ∙ ap (source_owner t) here) at z) (self-known p))
        (λ e. e)

    source-quiet : (j : ℕ) (s : List ℕ) (x : Entry) → Follows t s x → strangers_entry p x ≡ true → source_moment t k j s x ≡ []
    unfolding source_moment
    source-quiet j s x f z =
        let is = same-status (strangers-unseen t h p s x f z).state in
        rw (strangers-wake s x f z, strangers-end s x f z, ← is, eq-eqb (status_in t k s) (status_in t k s) refl)

    wake-same : (s₁ s₂ : List ℕ) (x y : Entry) → SameView t p s₁ s₂ → SameSeen t p x y → becomes_pending t k s₁ x ≡ becomes_pending t k s₂ y
    unfolding becomes_pending
    wake-same s₁ s₂ x y v same = rw (same.event, same-status v)

    end_same : (x y : Entry) → x.event ≡ y.event → ended k x ≡ ended k y
    unfolding ended
    end_same x y e = rw e

    source-alike : (j : ℕ) (s₁ s₂ : List ℕ) (x y : Entry) → Follows t s₁ x → Follows t s₂ y → SameView t p s₁ s₂ → SameSeen t p x y
        → source_moment t k j s₁ x ≡ source_moment t k j s₂ y
    unfolding source_moment
    source-alike j s₁ s₂ x y f g v same =
        rw (wake-same s₁ s₂ x y v same, end_same x y same.event, same-status v, same-status same.state, same-status-shown same.state)

    pub source-moments : (s₁ s₂ : List ℕ) (xs ys : List Entry) → Log t s₁ xs → Log t s₂ ys → SameView t p s₁ s₂ → ButStrangers t p xs ys → (j : ℕ)
        → moments (source_moment t k) j s₁ xs ≡ moments (source_moment t k) j s₂ ys
    source-moments = moments-beside t h p (source_moment t k) source-quiet source-alike
