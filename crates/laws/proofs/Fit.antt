-- Which words fit, as statements; one write of a word that fits keeps the whole state's fit. Assumes nothing.
use mathlib.Core.Path.{◌≡◌, ◌∙◌}
use mathlib.Core.Bool.{Bool, true, cond, ◌&&◌, ◌||◌, and-false}
use mathlib.Core.List.{List}
use Prim.Native.Nat.{ℕ, ◌≤◌, ◌<◌, max}
use native.Mathlib.Omega.{arith}
use native.Mathlib.Nat.{mod-eq_of_lt}
use lib.ListN.{length, set, length-set}
use lib.Seq.{get_or-set_same, get_or-set_other}
use lib.Dec.{leb, eqb}
use borrow.Author.Tests.{leb-true, le-leb, eqb-true, eqb-false, eq-eqb, ne_eqb}
use Rattle.rulebook.specs.Words.{word, implies, between, all}
use Rattle.rulebook.specs.Table.{port_kind, port_mode, port_event, port_timer, deferred, reload, l1, l2, e_ticks, timeout}
use Rattle.rulebook.specs.State.{state_length, thing, defined_of, marked_of, value_of, remaining_of, port_zero_of, network_zero_of, source_zero_of, timer_started}
use Rattle.rulebook.specs.State.{timer_expired, result_of, Network, network_of, asked_full, state_check, state_recover, status_of, status_pending, pack_port, pack_rule}
use Rattle.rulebook.specs.State.{pack_network, pack_source, port_fits, rule_fits, network_fits, source_fits, thing_fits, fits_at, fits}
use Rattle.laws.proofs.Tests.{split, clash, part_of, and_left, and_right, and_both, implies-elim, implies-intro, cond_yes, cond_no, cond-intro}
use Rattle.laws.proofs.Tests.{or-intro, or_elim, and-one-false}
use Rattle.laws.proofs.Walks.{all-at, all_from}
use Rattle.laws.proofs.Fields.{digit-small, port-defined, port-marked, port-value, port-zero, port-remaining, rule-result, rule-zero, network-asked}
use Rattle.laws.proofs.Fields.{network-state, network-counter, network-heard, network-zero, network-remaining}
use Rattle.laws.proofs.Fields.{source-status, source-zero, source-remaining}

between-parts : (low high n : ℕ) → between low high n ≡ true → (low ≤ n) × (n ≤ high)
between-parts low high n h = (leb-true _ _ (and_left _ (leb n high) h), leb-true _ _ (and_right (leb low n) _ h))

between-both : (low high n : ℕ) → (low ≤ n) × (n ≤ high) → between low high n ≡ true
between-both low high n h = and_both _ _ (le-leb _ _ h.0) (le-leb _ _ h.1)

-- A port's word, by its fields.

pub record PortOk (t : List ℕ) (p d m v r : ℕ) : Type 0 where
  pub defined₂ : d < 2
  pub marked₂ : m < 2
  pub value₈ : v < 256
  pub remaining₁₆ : r < 65536
  pub immediate : port_kind t p ≡ port_mode → deferred t p ≡ 0 → m ≡ 0
  pub undefined : d ≡ 0 → (port_kind t p ≡ port_mode) × (v ≡ 0) × (m ≡ 0)
  pub event : port_kind t p ≡ port_event → v ≤ 1
  pub timer : port_kind t p ≡ port_timer → v ≤ timer_expired
  pub started : port_kind t p ≡ port_timer → v ≡ timer_started → (1 ≤ r) × (r ≤ reload t p)
  pub rest : (port_kind t p ≡ port_timer → v ≡ timer_started → ⊥) → r ≡ 0

abbrev running : List ℕ → ℕ → ℕ → Bool
running t p w = eqb (port_kind t p) port_timer && eqb (value_of w) timer_started

pub port-ok : (t : List ℕ) (p w : ℕ) → port_fits t p w ≡ true → PortOk t p (defined_of w) (marked_of w) (value_of w) (remaining_of w)
unfolding port_fits
port-ok t p w h =
    let und : implies (eqb (defined_of w) 0) (eqb (port_kind t p) port_mode && eqb (value_of w) 0 && eqb (marked_of w) 0) ≡ true = part_of _
    (λ e. rw (port_fits, e, and-false) at h) in
    let left : cond (running t p w) (between 1 (reload t p) (remaining_of w)) (eqb (remaining_of w) 0) ≡ true = part_of _
    (λ e. rw (port_fits, e, and-false) at h) in
    record {
      defined₂ = digit-small _ 2 w (omega arith);
      marked₂ = digit-small _ 2 w (omega arith);
      value₈ = digit-small _ 256 w (omega arith);
      remaining₁₆ = digit-small _ 65536 w (omega arith);
      immediate = λ a b. eqb-true _ _
          (implies-elim (eqb (port_kind t p) port_mode && eqb (deferred t p) 0) (eqb (marked_of w) 0) (part_of _ (λ e. rw (port_fits, e, and-false) at h))
          (and_both _ _ (eq-eqb _ _ a) (eq-eqb _ _ b)));
      undefined = λ a. let z = implies-elim _ (eqb (port_kind t p) port_mode && eqb (value_of w) 0 && eqb (marked_of w) 0) und (eq-eqb _ _ a) in (
        eqb-true _ _ (part_of _ (λ e. rw e at z)),
        eqb-true _ _ (part_of _ (λ e. rw (e, and-false) at z)),
        eqb-true _ _
            (and_right (eqb (port_kind t p) port_mode && eqb (value_of w) 0) _ z),
      );
      event = λ a. leb-true _ _
          (implies-elim (eqb (port_kind t p) port_event) (leb (value_of w) 1) (part_of _ (λ e. rw (port_fits, e, and-false) at h)) (eq-eqb _ _ a));
      timer = λ a. leb-true _ _
          (implies-elim (eqb (port_kind t p) port_timer) (leb (value_of w) timer_expired) (part_of _ (λ e. rw (port_fits, e, and-false) at h)) (eq-eqb _ _ a));
      started = λ a b. between-parts _ _ _ (cond_yes (running t p w) _ _ left (and_both _ _ (eq-eqb _ _ a) (eq-eqb _ _ b)));
      rest = λ f. eqb-true _ _ (cond_no (running t p w) _ _ left (and-one-false _ _ (λ a b. f (eqb-true _ _ a) (eqb-true _ _ b))));
    }

port-fits : (t : List ℕ) (p w : ℕ) → port_zero_of w ≡ 0 → PortOk t p (defined_of w) (marked_of w) (value_of w) (remaining_of w) → port_fits t p w ≡ true
unfolding port_fits
port-fits t p w z f =
    and_both _ _ (and_both _ _ (and_both _ _ (and_both _ _ (and_both _ _
    (eq-eqb _ _ z)
    (implies-intro _ _ (λ h. eq-eqb _ _
    (f.immediate (eqb-true _ _ (and_left _ (eqb (deferred t p) 0) h)) (eqb-true _ _ (and_right (eqb (port_kind t p) port_mode) _ h))))))
    (implies-intro _ _ (λ h. let u = f.undefined (eqb-true _ _ h) in and_both _ _ (and_both _ _ (eq-eqb _ _ u.0) (eq-eqb _ _ u.1)) (eq-eqb _ _ u.2))))
    (implies-intro _ _ (λ h. le-leb _ _ (f.event (eqb-true _ _ h)))))
    (implies-intro _ _ (λ h. le-leb _ _ (f.timer (eqb-true _ _ h)))))
    (cond-intro (running t p w) _ _
    (λ h. between-both _ _ _
    (f.started (eqb-true _ _ (and_left _ (eqb (value_of w) timer_started) h)) (eqb-true _ _ (and_right (eqb (port_kind t p) port_timer) _ h))))
    (λ h. eq-eqb _ _ (f.rest (λ x y. clash (and_both _ _ (eq-eqb _ _ x) (eq-eqb _ _ y)) h))))

pub port-packed : (t : List ℕ) (p d m v r : ℕ) → PortOk t p d m v r → port_fits t p (pack_port d m v r) ≡ true
port-packed t p d m v r f =
    port-fits t p (pack_port d m v r) (port-zero d m v r)
    (rw (
      port-defined d m v r,
      port-marked d m v r,
      port-value d m v r,
      port-remaining d m v r,
      mod-eq_of_lt f.defined₂,
      mod-eq_of_lt f.marked₂,
      mod-eq_of_lt f.value₈,
      mod-eq_of_lt f.remaining₁₆,
    ) f)

-- A rule's word.

pub rule-packed : (b : ℕ) → b ≤ 2 → rule_fits (pack_rule b) ≡ true
unfolding rule_fits
rule-packed b h = and_both _ _ (eq-eqb _ _ (rule-zero b)) (le-leb (result_of (pack_rule b)) 2 (rw (rule-result b) (omega arith)))

-- A network's word, by its fields.

pub record NetworkOk (t : List ℕ) (n : ℕ) (c : Network) : Type 0 where
  pub counter₈ : c.counter < 256
  pub remaining₁₆ : c.remaining < 65536
  pub modes : c.asked ≤ asked_full
  pub states : c.state ≤ state_recover
  pub check : c.state ≡ state_check → (1 ≤ c.remaining) × (c.remaining ≤ e_ticks t n)
  pub recover : c.state ≡ state_recover → (1 ≤ c.remaining) × (c.remaining ≤ max (l1 t n) (l2 t n))
  pub rest : (c.state ≡ state_check → ⊥) → (c.state ≡ state_recover → ⊥) → (c.remaining ≡ 0) × (c.counter ≡ 0)
  pub counted : c.state ≡ state_recover → 1 ≤ c.counter
  pub heard₁ : c.heard < 2
  pub listens : c.heard ≡ 1 → c.state ≡ state_check

abbrev in_check : ℕ → Bool
in_check w = eqb (network_of w).state state_check

abbrev in_recover : ℕ → Bool
in_recover w = eqb (network_of w).state state_recover

abbrev remaining_test : List ℕ → ℕ → Network → Bool
remaining_test t n c =
    cond (eqb c.state state_check) (between 1 (e_ticks t n) c.remaining)
    (cond (eqb c.state state_recover) (between 1 (max (l1 t n) (l2 t n)) c.remaining) (eqb c.remaining 0))

abbrev counter_test : Network → Bool
counter_test c = cond (eqb c.state state_recover) (leb 1 c.counter) (eqb c.state state_check || eqb c.counter 0)

pub network-ok : (t : List ℕ) (n w : ℕ) → network_fits t n w ≡ true → NetworkOk t n (network_of w)
unfolding network_fits
network-ok t n w h =
    let left : remaining_test t n (network_of w) ≡ true = part_of _ (λ e. rw (network_fits, e, and-false) at h) in
    let calm : counter_test (network_of w) ≡ true = part_of _ (λ e. rw (network_fits, e, and-false) at h) in
    record {
      counter₈ = digit-small _ 256 w (omega arith);
      remaining₁₆ = digit-small _ 65536 w (omega arith);
      modes = leb-true _ _ (part_of _ (λ e. rw (network_fits, e, and-false) at h));
      states = leb-true _ _ (part_of _ (λ e. rw (network_fits, e, and-false) at h));
      check = λ a. between-parts _ _ _ (cond_yes (in_check w) _ _ left (eq-eqb _ _ a));
      recover = λ a. between-parts _ _ _
          (cond_yes (in_recover w) _ _ (cond_no (in_check w) _ _ left (ne_eqb (network_of w).state state_check (λ z. omega arith))) (eq-eqb _ _ a));
      rest = λ a b. (
        eqb-true _ _ (cond_no (in_recover w) _ _ (cond_no (in_check w) _ _ left (ne_eqb _ _ a)) (ne_eqb _ _ b)),
        eqb-true _ _ (or_elim (in_check w) _ (cond_no (in_recover w) _ _ calm (ne_eqb _ _ b)) (ne_eqb _ _ a)),
      );
      counted = λ a. leb-true _ _ (cond_yes (in_recover w) _ _ calm (eq-eqb _ _ a));
      heard₁ = digit-small _ 2 w (omega arith);
      listens = λ a. eqb-true _ _ (implies-elim (eqb (network_of w).heard 1) (in_check w) (part_of _ (λ e. rw (network_fits, e, and-false) at h)) (eq-eqb _ _ a));
    }

network-fits : (t : List ℕ) (n w : ℕ) → network_zero_of w ≡ 0 → NetworkOk t n (network_of w) → network_fits t n w ≡ true
unfolding network_fits
network-fits t n w z f =
    and_both _ _ (and_both _ _ (and_both _ _ (and_both _ _ (and_both _ _
    (eq-eqb _ _ z)
    (le-leb _ _ f.modes))
    (le-leb _ _ f.states))
    (cond-intro (in_check w) _ _
    (λ h. between-both _ _ _ (f.check (eqb-true _ _ h)))
    (λ h. cond-intro (in_recover w) _ _ (λ g. between-both _ _ _ (f.recover (eqb-true _ _ g)))
    (λ g. eq-eqb _ _ (f.rest (eqb-false _ _ h) (eqb-false _ _ g)).0))))
    (cond-intro (in_recover w) _ _
    (λ h. le-leb _ _ (f.counted (eqb-true _ _ h)))
    (λ h. or-intro (in_check w) _ (λ g. eq-eqb _ _ (f.rest (eqb-false _ _ g) (eqb-false _ _ h)).1))))
    (implies-intro (eqb (network_of w).heard 1) _ (λ h. eq-eqb _ _ (f.listens (eqb-true _ _ h))))

-- a network whose fields fit their widths comes back from its word
pub record NetworkSmall (c : Network) : Type 0 where
  pub asked₂ : c.asked < 4
  pub state₃ : c.state < 8
  pub counter₈ : c.counter < 256
  pub heard₁ : c.heard < 2
  pub remaining₁₆ : c.remaining < 65536

pub network-again : (c : Network) → NetworkSmall c → network_of (pack_network c) ≡ c
network-again c h i =
    record {
      asked = (network-asked c ∙ mod-eq_of_lt h.asked₂) i;
      state = (network-state c ∙ mod-eq_of_lt h.state₃) i;
      counter = (network-counter c ∙ mod-eq_of_lt h.counter₈) i;
      heard = (network-heard c ∙ mod-eq_of_lt h.heard₁) i;
      remaining = (network-remaining c ∙ mod-eq_of_lt h.remaining₁₆) i;
    }

pub network-small : (t : List ℕ) (n : ℕ) (c : Network) → NetworkOk t n c → NetworkSmall c
network-small t n c f =
    record {
      asked₂ = let h : c.asked ≤ 2 = f.modes in omega arith;
      state₃ = let h : c.state ≤ 4 = f.states in omega arith;
      counter₈ = f.counter₈;
      heard₁ = f.heard₁;
      remaining₁₆ = f.remaining₁₆;
    }

pub network-packed : (t : List ℕ) (n : ℕ) (c : Network) → NetworkOk t n c → network_fits t n (pack_network c) ≡ true
network-packed t n c f = network-fits t n (pack_network c) (network-zero c) (rw (network-again c (network-small t n c f)) f)

-- A source's word, by its fields.

pub record SourceOk (t : List ℕ) (k status r : ℕ) : Type 0 where
  pub status₂ : status < 4
  pub remaining₁₆ : r < 65536
  pub pending : status ≡ status_pending → (1 ≤ r) × (r ≤ timeout t k)
  pub rest : (status ≡ status_pending → ⊥) → r ≡ 0

pub source_ok : (t : List ℕ) (k w : ℕ) → source_fits t k w ≡ true → SourceOk t k (status_of w) (remaining_of w)
unfolding source_fits
source_ok t k w h =
    let left : cond (eqb (status_of w) status_pending) (between 1 (timeout t k) (remaining_of w)) (eqb (remaining_of w) 0) ≡ true = part_of _
    (λ e. rw (source_fits, e, and-false) at h) in
    record {
      status₂ = digit-small _ 4 w (omega arith);
      remaining₁₆ = digit-small _ 65536 w (omega arith);
      pending = λ a. between-parts _ _ _ (cond_yes (eqb (status_of w) status_pending) _ _ left (eq-eqb _ _ a));
      rest = λ f. eqb-true _ _ (cond_no (eqb (status_of w) status_pending) _ _ left (ne_eqb _ _ f));
    }

source_fits_lem : (t : List ℕ) (k w : ℕ) → source_zero_of w ≡ 0 → SourceOk t k (status_of w) (remaining_of w) → source_fits t k w ≡ true
unfolding source_fits
source_fits_lem t k w z f =
    and_both _ _
    (eq-eqb _ _ z)
    (cond-intro (eqb (status_of w) status_pending) _ _ (λ h. between-both _ _ _ (f.pending (eqb-true _ _ h))) (λ h. eq-eqb _ _ (f.rest (eqb-false _ _ h))))

pub source-packed : (t : List ℕ) (k status r : ℕ) → SourceOk t k status r → source_fits t k (pack_source status r) ≡ true
source-packed t k status r f =
    source_fits_lem t k (pack_source status r) (source-zero status r)
    (rw (source-status status r, source-remaining status r, mod-eq_of_lt f.status₂, mod-eq_of_lt f.remaining₁₆) f)

-- A whole state.

pub fits-length : (t s : List ℕ) → fits t s ≡ true → length s ≡ state_length t
unfolding fits
fits-length t s h = eqb-true _ _ (and_left _ (all 0 (state_length t) (fits_at t s)) h)

pub fits_word : (t s : List ℕ) (i : ℕ) → fits t s ≡ true → i < state_length t → thing_fits t (thing t i) (word s i) ≡ true
unfolding fits fits_at
fits_word t s i h b = all-at (fits_at t s) 0 (state_length t) i (and_right (eqb (length s) (state_length t)) _ h) (omega arith) (omega arith)

pub fits-from : (t s : List ℕ) → length s ≡ state_length t → ((i : ℕ) → i < state_length t → thing_fits t (thing t i) (word s i) ≡ true) → fits t s ≡ true
unfolding fits fits_at
fits-from t s l f = and_both _ _ (eq-eqb _ _ l) (all_from (fits_at t s) 0 (state_length t) (λ i a b. f i (omega arith)))

-- one write of a word that fits
pub fit-write : (t s : List ℕ) (i w : ℕ) → thing_fits t (thing t i) w ≡ true → fits t s ≡ true → fits t (set s i w) ≡ true
fit-write t s i w h f =
    fits-from t (set s i w) (length-set s i w ∙ fits-length t s f)
    (λ j b. split (eqb j i)
    (λ e. let d : j ≡ i = eqb-true _ _ e in let l : length s ≡ state_length t = fits-length t s f in
    rw (d, get_or-set_same s i w 0 (omega arith)) h)
    (λ e. rw (get_or-set_other s i j w 0 (eqb-false _ _ e)) (fits_word t s j f b)))
