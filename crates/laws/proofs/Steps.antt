-- The step: what a refusal and a done call are, which answers it gives, the words are at most B, states stay fit. Assumes nothing.
use mathlib.Core.Path.{◌≡◌, refl, sym}
use mathlib.Core.Logic.{◌⊎◌, inl, inr}
use mathlib.Core.Bool.{true, false, cond, and-false}
use mathlib.Core.List.{List, []}
use Prim.Native.Nat.{ℕ, ◌+◌, ◌-◌, ◌≤◌, ◌<◌}
use native.Mathlib.Omega.{arith}
use native.Mathlib.Nat.{zero-add}
use lib.ListN.{length}
use lib.Dec.{ltb, eqb}
use borrow.Author.Tests.{ltb-true, ltb-false, eqb-true, eqb-false, eq-eqb, lt-ltb}
use Rattle.rulebook.specs.Words.{digit, all}
use Rattle.rulebook.specs.Table.{ports, networks, sources, rules, port_kind, port_mode, port_timer, deferred, has_initial, initial, first_result}
use Rattle.rulebook.specs.Reasons.{port_fields, bound, accepted}
use Rattle.rulebook.specs.State.{state_length, Thing, a_port, a_rule, a_network, a_source, thing, port_fits, network_fits, source_fits, thing_fits, fits, fresh_port}
use Rattle.rulebook.specs.State.{fresh_thing, fresh_at, fresh}
use Rattle.rulebook.specs.Lists.{Run}
use Rattle.rulebook.specs.Events.{request, tick, arbitrate_marked, happen}
use Rattle.rulebook.specs.Step.{refused_state, refused_call, well_formed, known, sent_by_owner, outcomes_known, present, first_fault, refused_event, Result}
use Rattle.rulebook.specs.Step.{refusal}
use Rattle.rulebook.specs.Step.{conclude, heeded, handle, step}
use Rattle.laws.specs.Facts.{Facts}
use Rattle.laws.specs.Callable.{Callable}
use Rattle.laws.proofs.Tests.{split, clash, part_of, cond_yes}
use Rattle.laws.proofs.Walks.{listed-length, listed_at}
use Rattle.laws.proofs.Facts.{facts}
use Rattle.laws.proofs.Fields.{digit-small}
use Rattle.laws.proofs.Cost.{written, arbitrate-paid}
use Rattle.laws.proofs.Fit.{port-packed, rule-packed, fits-from}
use Rattle.laws.proofs.FitKept.{Fits, plain_ok, timer-ok, timer-deferred}
use Rattle.laws.proofs.Happen.{Taken, taken-event, happen-cases}
use Rattle.laws.proofs.FitEvents.{happen-fits}

-- What answers 1 to 3 let through.

pub callable : (t s : List ℕ) (room : ℕ) → refused_call t s room ≡ 0 → Callable t s room
unfolding refused_call refused_state
callable t s room h =
    split (accepted t)
    (λ a. split (fits t s)
    (λ b. split (ltb room (bound t)) (λ c. let z : 3 ≡ 0 = rw (a, b, c) at h in absurd (omega arith))
    (λ c. record { table = a; state = b; enough = ltb-false _ _ c }))
    (λ b. let z : 2 ≡ 0 = rw (a, b) at h in absurd (omega arith)))
    (λ a. let z : 1 ≡ 0 = rw a at h in absurd (omega arith))

-- What holds of the answers 0, 4, 8, 5 and 6 holds of the one that an event gets; 8 comes only where an outcome is lent.

pub event-cases {ℓ} : (P : ℕ → Type ℓ) (t os : List ℕ) (e : ℕ) → P 0 → P 4 → (outcomes_known os ≡ false → P 8) → P 5 → P 6 → P (refused_event t os e)
unfolding refused_event
event-cases P t os e p₀ p₄ p₈ p₅ p₆ =
    split (well_formed e)
    (λ a. split (outcomes_known os)
    (λ d. split (known t e)
    (λ b. split (sent_by_owner t e) (λ c. rw (a, d, b, c) p₀) (λ c. rw (a, d, b, c) p₆))
    (λ b. rw (a, d, b) p₅))
    (λ d. rw (a, d) (p₈ d)))
    (λ a. rw a p₄)

pub event-refused : (t os : List ℕ) (e : ℕ) → (refused_event t os e ≡ 0 → ⊥) → 4 ≤ refused_event t os e
event-refused t os e =
    event-cases (λ k. (k ≡ 0 → ⊥) → 4 ≤ k) t os e (λ n. absurd (n refl)) (λ n. omega arith) (λ d n. omega arith) (λ n. omega arith) (λ n. omega arith)

pub event-small : (t : List ℕ) (e : ℕ) → refused_event t [] e ≤ 6
unfolding outcomes_known all
event-small t e = event-cases (λ k. k ≤ 6) t [] e (omega arith) (omega arith) (λ d. clash refl d) (omega arith) (omega arith)

-- an event that is taken with outcomes lent is taken with none
pub none_lent : (t os : List ℕ) (e : ℕ) → refused_event t os e ≡ 0 → refused_event t [] e ≡ 0
unfolding refused_event outcomes_known all
none_lent t os e z = let w = taken-event t os e z in rw (w.well_formed, w.known, w.owner)

-- The order in two parts, as a caller that has checked table, state and room goes by it.

pub step-in-parts : (t s : List ℕ) (room : ℕ) (os : List ℕ) (e : ℕ)
    → step t s room os e ≡ cond (eqb (refused_call t s room) 0) (handle t s os e) (refusal (refused_call t s room) s)
unfolding step handle conclude first_fault refused_call refused_event
step-in-parts t s room os e =
    split (accepted t)
    (λ a. split (fits t s)
    (λ b. split (ltb room (bound t)) (λ c. rw (a, b, c)) (λ c. rw (a, b, c)))
    (λ b. rw (a, b)))
    (λ a. rw a)

-- The answer is the first fault: 0 to 6, or 8, and 8 not where none is lent.

conclude-answer : (fault : ℕ) (s : List ℕ) (x : Run) → (conclude fault s x).answer ≡ fault
unfolding conclude
conclude-answer fault s x = split (eqb fault 0) (λ a. rw a (sym (eqb-true _ _ a))) (λ a. rw a)

pub fault-is : (t s : List ℕ) (room : ℕ) (os : List ℕ) (e : ℕ) → (step t s room os e).answer ≡ first_fault t s room os e
unfolding step
fault-is t s room os e = conclude-answer _ s _

answer-cases {ℓ} : (P : ℕ → Type ℓ) (t s : List ℕ) (room : ℕ) (os : List ℕ) (e : ℕ)
    → P (refused_event t os e) → P 1 → P 2 → P 3 → P (step t s room os e).answer
unfolding first_fault refused_event
answer-cases P t s room os e later p₁ p₂ p₃ =
    rw (fault-is t s room os e)
    (split (accepted t)
    (λ a. split (fits t s) (λ b. split (ltb room (bound t)) (λ c. rw (a, b, c) p₃) (λ c. rw (a, b, c) later)) (λ b. rw (a, b) p₂))
    (λ a. rw a p₁))

pub answer-small : (t s : List ℕ) (room : ℕ) (os : List ℕ) (e : ℕ) → ((step t s room os e).answer ≤ 6) ⊎ ((step t s room os e).answer ≡ 8)
answer-small t s room os e =
    answer-cases (λ k. (k ≤ 6) ⊎ (k ≡ 8)) t s room os e
    (event-cases (λ k. (k ≤ 6) ⊎ (k ≡ 8)) t os e (inl (omega arith)) (inl (omega arith)) (λ d. inr refl) (inl (omega arith)) (inl (omega arith)))
    (inl (omega arith)) (inl (omega arith)) (inl (omega arith))

pub small-answer : (t s : List ℕ) (room e : ℕ) → (step t s room [] e).answer ≤ 6
small-answer t s room e = answer-cases (λ k. k ≤ 6) t s room [] e (event-small t e) (omega arith) (omega arith) (omega arith)

-- A run of one event writes at most B words.

module _ (t : List ℕ) (f : Facts t) where
  request-paid : (p v : ℕ) (os s : List ℕ) → written (request t p v os s) ≤ bound t
  unfolding request
  request-paid p v os s = split (eqb (deferred t p) 1) (λ e. rw e (omega arith)) (λ e. rw e (arbitrate-paid t f _ os _))

  pub happen-paid : (e : ℕ) (os s : List ℕ) → written (happen t e os s) ≤ bound t
  unfolding tick arbitrate_marked
  happen-paid e os s =
      happen-cases (λ x. written x ≤ bound t) t e os s (λ k. arbitrate-paid t f _ os _) (λ k. request-paid _ _ os s) (λ k. request-paid _ _ os s)
      (λ k. omega arith)

-- The two ways a step can go: refused, or done.

-- what a done event gives
abbrev pub done : List ℕ → List ℕ → ℕ → List ℕ → Result
done t os e s = let x = happen t e (heeded t os) s in record { answer = 0; state = x.state; words = x.words; visits = x.visits }

pub step-cases {ℓ} : (P : Result → Type ℓ) (t s : List ℕ) (room : ℕ) (os : List ℕ) (e : ℕ)
    → ((k : ℕ) → 1 ≤ k → P (refusal k s))
    → (Callable t s room → Taken t e → P (done t os e s))
    → P (step t s room os e)
unfolding handle conclude
step-cases P t s room os e refused takes =
    split (eqb (refused_call t s room) 0)
    (λ a. split (eqb (refused_event t os e) 0)
    (λ b. rw (step-in-parts, a, b) (takes (callable t s room (eqb-true _ _ a)) (taken-event t os e (eqb-true _ _ b))))
    (λ b. rw (step-in-parts, a, b) (refused (refused_event t os e) (at_least_one _ (eqb-false _ _ b)))))
    (λ a. rw (step-in-parts, a) (refused (refused_call t s room) (at_least_one _ (eqb-false _ _ a))))
  where
    at_least_one : (k : ℕ) → (k ≡ 0 → ⊥) → 1 ≤ k
    at_least_one k n = omega arith

-- A refusal changes nothing and writes nothing; the words are at most B; states stay fit.

pub refusal-changes-nothing : (t s : List ℕ) (room : ℕ) (os : List ℕ) (e : ℕ) → ((step t s room os e).answer ≡ 0 → ⊥)
    → ((step t s room os e).state ≡ s) × ((step t s room os e).words ≡ []) × ((step t s room os e).visits ≡ 0)
refusal-changes-nothing t s room os e =
    step-cases (λ r. (r.answer ≡ 0 → ⊥) → (r.state ≡ s) × (r.words ≡ []) × (r.visits ≡ 0)) t s room os e (λ k a n. (refl, refl, refl))
    (λ c w n. absurd (n refl))

-- Q-9: "State once, over both editions, that the trace fits in B words"
pub words-within : (t s : List ℕ) (room : ℕ) (os : List ℕ) (e : ℕ) → accepted t ≡ true → length (step t s room os e).words ≤ bound t
words-within t s room os e h =
    step-cases (λ r. length r.words ≤ bound t) t s room os e (λ k a. omega arith) (λ c w. happen-paid t (facts t h) e (heeded t os) s)

pub step_fits : (t s : List ℕ) (room : ℕ) (os : List ℕ) (e : ℕ) → accepted t ≡ true → Fits t s → Fits t (step t s room os e).state
step_fits t s room os e h f =
    step-cases (λ r. Fits t r.state) t s room os e (λ k a. f) (λ c w. happen-fits t (facts t h) e (heeded t os) s w f)

-- every word of the state belongs to a thing that is there
pub thing-present : (t : List ℕ) (i : ℕ) → i < state_length t → present t (thing t i) ≡ true
unfolding thing present
thing-present t i h =
    split (ltb i (ports t)) (λ a. rw (a, present) a)
    (λ a. let x : ports t ≤ i = ltb-false _ _ a in
    split (ltb i (ports t + rules t)) (λ b. let y : i < ports t + rules t = ltb-true _ _ b in rw (a, b) (lt-ltb (i - ports t) (rules t) (omega arith)))
    (λ b. let y : ports t + rules t ≤ i = ltb-false _ _ b in
    split (ltb i (ports t + rules t + networks t))
    (λ c. let z : i < ports t + rules t + networks t = ltb-true _ _ c in rw (a, b, c) (lt-ltb (i - (ports t + rules t)) (networks t) (omega arith)))
    (λ c. let z : ports t + rules t + networks t ≤ i = ltb-false _ _ c in rw (a, b, c)
    (lt-ltb (i - (ports t + rules t + networks t)) (sources t) (omega arith)))))

initial-mode : (t : List ℕ) (p : ℕ) → port_fields t p ≡ true → has_initial t p ≡ 1 → port_kind t p ≡ port_mode
unfolding port_fields
initial-mode t p h k =
    eqb-true _ _ (cond_yes (eqb (has_initial t p) 1) (eqb (port_kind t p) port_mode) (eqb (initial t p) 0) (part_of _ (λ e. rw (port_fields, e, and-false) at h))
    (eq-eqb _ _ k))

fresh-port-fits : (t : List ℕ) (p : ℕ) → port_fields t p ≡ true → port_fits t p (fresh_port t p) ≡ true
unfolding fresh_port
fresh-port-fits t p h =
    split (eqb (has_initial t p) 1)
    (λ a. let k = initial-mode t p h (eqb-true _ _ a) in
    rw a (port-packed t p 1 0 (initial t p) 0
    (plain_ok t p 0 (initial t p) (λ z. omega arith) (omega arith) (λ z y. refl) (digit-small _ 256 _ (omega arith)) (λ z. absurd (omega arith)))))
    (λ a. split (eqb (port_kind t p) port_mode)
    (λ b. let k = eqb-true _ _ b in
    rw (a, b) (port-packed t p 0 0 0 0
    (record {
      defined₂ = omega arith;
      marked₂ = omega arith;
      value₈ = omega arith;
      remaining₁₆ = omega arith;
      immediate = λ z y. refl;
      undefined = λ z. (k, refl, refl);
      event = λ z. omega arith;
      timer = λ z. omega arith;
      started = λ z y. absurd (omega arith);
      rest = λ z. refl;
    })))
    (λ b. split (eqb (port_kind t p) port_timer)
    (λ c. let k = eqb-true _ _ c in rw (a, b)
    (port-packed t p 1 0 0 0 (timer-ok t p 0 0 0 k (timer-deferred t p h k) (omega arith) (omega arith) (omega arith) (λ z. absurd (omega arith)) (λ z. refl))))
    (λ c. rw (a, b) (port-packed t p 1 0 0 0 (plain_ok t p 0 0 (eqb-false _ _ c) (omega arith) (λ z y. refl) (omega arith) (λ z. omega arith))))))

zero-network : (t : List ℕ) (n : ℕ) → network_fits t n 0 ≡ true
unfolding network_fits digit
zero-network t n = refl

zero-source : (t : List ℕ) (k : ℕ) → source_fits t k 0 ≡ true
unfolding source_fits digit
zero-source t k = refl

fresh-thing-fits : (t : List ℕ) → Facts t → (x : Thing) → present t x ≡ true → thing_fits t x (fresh_thing t x) ≡ true
unfolding present thing_fits fresh_thing
fresh-thing-fits t f (a_port p) h = fresh-port-fits t p (f.port p (ltb-true _ _ h))
fresh-thing-fits t f (a_rule r) h = rule-packed (first_result t r) (f.rule r (ltb-true _ _ h)).result
fresh-thing-fits t f (a_network n) h = zero-network t n
fresh-thing-fits t f (a_source k) h = zero-source t k

pub fresh-fits : (t : List ℕ) → accepted t ≡ true → Fits t (fresh t)
unfolding fresh fresh_at
fresh-fits t h =
    fits-from t (fresh t) (listed-length (fresh_at t) 0 (state_length t))
    (λ i b. rw (listed_at (fresh_at t) 0 (state_length t) i b, zero-add i) (fresh-thing-fits t (facts t h) (thing t i) (thing-present t i b)))
