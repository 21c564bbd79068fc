-- States stay fit: what arbitration writes keeps the fit. Assumes nothing.
use mathlib.Core.Path.{◌≡◌, refl}
use mathlib.Core.Bool.{Bool, true, and-false}
use mathlib.Core.List.{List}
use Prim.Native.Nat.{ℕ, ◌≤◌, ◌<◌}
use native.Mathlib.Omega.{arith}
use lib.ListN.{length, set}
use lib.Dec.{leb, eqb}
use borrow.Author.Tests.{leb-true, eqb-true, eq-eqb}
use Rattle.rulebook.specs.Words.{word}
use Rattle.rulebook.specs.Table.{ports, networks, sources, rules, port_kind, port_mode, port_event, port_timer, deferred, reload}
use Rattle.rulebook.specs.Reasons.{port_fields}
use Rattle.rulebook.specs.State.{rule_index, network_index, source_index, defined_of, marked_of, value_of, remaining_of, timer_stopped, timer_started, timer_expired}
use Rattle.rulebook.specs.State.{Network, status_of, pack_port, pack_source, thing_fits, fits}
use Rattle.rulebook.specs.Lists.{set_port, network_in, asking, set_network, set_result}
use Rattle.rulebook.specs.Arbitration.{arbitrate}
use Rattle.laws.specs.Facts.{Facts}
use Rattle.laws.proofs.Tests.{part_of, cond_yes, implies-elim}
use Rattle.laws.proofs.Parts.{thing-port, thing-rule, thing-network, thing-source}
use Rattle.laws.proofs.Fields.{digit-small}
use Rattle.laws.proofs.Runs.{KeptByWrites, arbitrate-keeps}
use Rattle.laws.proofs.Fit.{PortOk, port-ok, port-packed, rule-packed, NetworkOk, network-ok, network-packed, SourceOk, source_ok, source-packed}
use Rattle.laws.proofs.Fit.{fits-length, fits_word, fit-write}

abbrev pub Fits : List ℕ → List ℕ → Type 0
Fits t s = fits t s ≡ true

-- a word of the state that fits, by its fields
module _ (t s : List ℕ) (h : Fits t s) where
  pub port-in : (p : ℕ) → p < ports t → PortOk t p (defined_of (word s p)) (marked_of (word s p)) (value_of (word s p)) (remaining_of (word s p))
  unfolding thing_fits
  port-in p b = port-ok t p (word s p) (rw (thing-port t p b) at (fits_word t s p h (omega arith)))

  pub network-in : (n : ℕ) → n < networks t → NetworkOk t n (network_in t n s)
  unfolding thing_fits
  network-in n b = network-ok t n (word s (network_index t n)) (rw (thing-network t n b) at (fits_word t s (network_index t n) h (omega arith)))

  pub source_in : (k : ℕ) → k < sources t → SourceOk t k (status_of (word s (source_index t k))) (remaining_of (word s (source_index t k)))
  unfolding thing_fits
  source_in k b = source_ok t k (word s (source_index t k)) (rw (thing-source t k) at (fits_word t s (source_index t k) h (omega arith)))

  pub port-long : (p : ℕ) → p < ports t → p < length s
  port-long p b = let l = fits-length t s h in omega arith

  -- writes that fit
  pub port-put : (p d m v r : ℕ) → p < ports t → PortOk t p d m v r → Fits t (set s p (pack_port d m v r))
  unfolding thing_fits
  port-put p d m v r b f = fit-write t s p _ (rw (thing-port t p b) (port-packed t p d m v r f)) h

  pub rule-put : (r b : ℕ) → r < rules t → b ≤ 2 → Fits t (set_result t r b s)
  unfolding thing_fits set_result
  rule-put r b c d = fit-write t s (rule_index t r) _ (rw (thing-rule t r c) (rule-packed b d)) h

  pub network-put : (n : ℕ) (c : Network) → n < networks t → NetworkOk t n c → Fits t (set_network t n c s)
  unfolding thing_fits set_network
  network-put n c b f = fit-write t s (network_index t n) _ (rw (thing-network t n b) (network-packed t n c f)) h

  pub source-put : (k status r : ℕ) → SourceOk t k status r → Fits t (set s (source_index t k) (pack_source status r))
  unfolding thing_fits
  source-put k status r f = fit-write t s (source_index t k) _ (rw (thing-source t k) (source-packed t k status r f)) h

-- Port words of each kind.

pub timer-deferred : (t : List ℕ) (p : ℕ) → port_fields t p ≡ true → port_kind t p ≡ port_timer → deferred t p ≡ 1
unfolding port_fields
timer-deferred t p h k =
    eqb-true _ _ (implies-elim (eqb (port_kind t p) port_timer) (eqb (deferred t p) 1) (part_of _ (λ e. rw (port_fields, e, and-false) at h)) (eq-eqb _ _ k))

pub timer-reload : (t : List ℕ) (p : ℕ) → port_fields t p ≡ true → port_kind t p ≡ port_timer → 1 ≤ reload t p
unfolding port_fields
timer-reload t p h k =
    leb-true _ _
    (cond_yes (eqb (port_kind t p) port_timer) (leb 1 (reload t p)) (eqb (reload t p) 0) (part_of _ (λ e. rw (port_fields, e, and-false) at h)) (eq-eqb _ _ k))

-- a defined mode or event port
pub plain_ok : (t : List ℕ) (p m v : ℕ) → (port_kind t p ≡ port_timer → ⊥) → m < 2 → (port_kind t p ≡ port_mode → deferred t p ≡ 0 → m ≡ 0) → v < 256
    → (port_kind t p ≡ port_event → v ≤ 1) → PortOk t p 1 m v 0
plain_ok t p m v no-timer small imm v₈ ev =
    record {
      defined₂ = omega arith;
      marked₂ = small;
      value₈ = v₈;
      remaining₁₆ = omega arith;
      immediate = imm;
      undefined = λ e. absurd (omega arith);
      event = ev;
      timer = λ e. absurd (no-timer e);
      started = λ e a. absurd (no-timer e);
      rest = λ e. refl;
    }

pub timer-ok : (t : List ℕ) (p m v r : ℕ) → port_kind t p ≡ port_timer → deferred t p ≡ 1 → m < 2 → v ≤ timer_expired → r ≤ reload t p
    → (v ≡ timer_started → 1 ≤ r) → ((v ≡ timer_started → ⊥) → r ≡ 0) → PortOk t p 1 m v r
timer-ok t p m v r k d small v₂ r₁ on off =
    let cap : reload t p < 65536 = digit-small _ 65536 _ (omega arith) in
    record {
      defined₂ = omega arith;
      marked₂ = small;
      value₈ = omega arith;
      remaining₁₆ = omega arith;
      immediate = λ e a. absurd (omega arith);
      undefined = λ e. absurd (omega arith);
      event = λ e. absurd (omega arith);
      timer = λ e. v₂;
      started = λ e a. (on a, r₁);
      rest = λ e. off (λ a. e k a);
    }

-- Arbitration's writes.

pub fit-kept : (t : List ℕ) → Facts t → KeptByWrites t (Fits t)
unfolding set_port
fit-kept t f =
    record {
      clear = λ p s b k h.
          port-put t s h p 1 1 0 0 b (plain_ok t p 1 0 (λ e. omega arith) (omega arith) (λ e a. absurd (omega arith)) (omega arith) (λ e. omega arith));
      timer_start = λ p s b k h. port-put t s h p 1 1 timer_started (reload t p) b
          (timer-ok t p 1 timer_started (reload t p) k (timer-deferred t p (f.port p b) k) (omega arith) (omega arith) (omega arith)
          (λ e. timer-reload t p (f.port p b) k) (λ e. absurd (e refl)));
      stop = λ p s b k h. port-put t s h p 1 1 timer_stopped 0 b
          (timer-ok t p 1 timer_stopped 0 k (timer-deferred t p (f.port p b) k) (omega arith) (omega arith) (omega arith) (λ e. absurd (omega arith))
          (λ e. refl));
      ask = λ n mode s b m h. let o = network-in t s h n b in
          network-put t s h n (asking mode (network_in t n s)) b
          (record {
            counter₈ = o.counter₈;
            remaining₁₆ = o.remaining₁₆;
            modes = m;
            states = o.states;
            check = o.check;
            recover = o.recover;
            rest = o.rest;
            counted = o.counted;
            heard₁ = o.heard₁;
            listens = o.listens;
          });
      store = λ r b s c d h. rule-put t s h r b c (omega arith);
      unmark = λ p s b h. let o = port-in t s h p b in
          port-put t s h p _ 0 _ _ b
          (record {
            defined₂ = o.defined₂;
            marked₂ = omega arith;
            value₈ = o.value₈;
            remaining₁₆ = o.remaining₁₆;
            immediate = λ e a. refl;
            undefined = λ e. ((o.undefined e).0, (o.undefined e).1, refl);
            event = o.event;
            timer = o.timer;
            started = o.started;
            rest = o.rest;
          });
    }

pub arbitrate-fits : (t : List ℕ) → Facts t → (q : ℕ → Bool) (os s : List ℕ) → Fits t s → Fits t (arbitrate t q os s).state
arbitrate-fits t f q os s h = arbitrate-keeps t f (Fits t) (fit-kept t f) q os s h
