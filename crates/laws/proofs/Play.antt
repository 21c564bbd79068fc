-- A play from a table and a state that stand: the four ways it can go, and by them what it takes, writes and leaves, when it is full,
-- and how it goes on with more room. Assumes nothing.
use mathlib.Core.Path.{◌≡◌, refl, sym, ap, ◌∙◌}
use mathlib.Core.Bool.{true}
use mathlib.Core.List.{List, [], ◌∷◌, ◌++◌, append_assoc}
use Prim.Native.Nat.{ℕ, suc, ◌+◌, ◌-◌, ◌*◌, ◌≤◌, ◌<◌}
use native.Mathlib.Nat.{sub-zero, suc-mul, zero-add, add_assoc, add_comm}
use native.Mathlib.Numerals.{one-add}
use native.Mathlib.Omega.{arith}
use lib.ListN.{length, get_or, take, drop, length-append}
use lib.Dec.{ltb, eqb}
use borrow.Author.Tests.{ltb-true, ltb-false, eqb-true, eqb-false, eq-eqb, ne_eqb, lt-ltb, le-ltb}
use Rattle.rulebook.specs.Table.{edition}
use Rattle.rulebook.specs.Reasons.{bound, accepted}
use Rattle.rulebook.specs.State.{fits}
use Rattle.rulebook.specs.Events.{happen}
use Rattle.rulebook.specs.Step.{refused_state, refused_call, refused_event, first_fault}
use Rattle.rulebook.specs.Step.{refusal, conclude, heeded, handle, step}
use Rattle.rulebook.specs.Play.{Play, ending, onto, goes_on, play_on, play}
use Rattle.laws.specs.Sequence.{Each}
use Rattle.laws.proofs.Tests.{split}
use Rattle.laws.proofs.Facts.{facts}
use Rattle.laws.proofs.Happen.{taken-event}
use Rattle.laws.proofs.FitEvents.{happen-fits}
use Rattle.laws.proofs.Steps.{step-in-parts, event-refused, event-small, happen-paid, done}

-- What answers 1 and 2 let through, and what they end.

pub by-standing : {A : Type 0} (t s : List ℕ) → (refused_state t s ≡ 0 → A) → ((refused_state t s ≡ 0 → ⊥) → A) → A
by-standing t s f g = split (eqb (refused_state t s) 0) (λ a. f (eqb-true _ _ a)) (λ a. g (eqb-false _ _ a))

pub state-small : (t s : List ℕ) → refused_state t s ≤ 2
unfolding refused_state
state-small t s = split (accepted t) (λ a. split (fits t s) (λ b. rw (a, b) (omega arith)) (λ b. rw (a, b) (omega arith))) (λ a. rw a (omega arith))

pub stands : (t s : List ℕ) → accepted t ≡ true → fits t s ≡ true → refused_state t s ≡ 0
unfolding refused_state
stands t s ok fit = rw (ok, fit)

module _ (t s : List ℕ) (h : refused_state t s ≡ 0) where
  pub stood-table : accepted t ≡ true
  unfolding refused_state
  stood-table = split (accepted t) (λ a. a) (λ a. let z : 1 ≡ 0 = rw a at h in absurd (omega arith))

  pub stood-state : fits t s ≡ true
  unfolding refused_state
  stood-state = split (fits t s) (λ a. a) (λ a. let z : 2 ≡ 0 = rw (stood-table, a) at h in absurd (omega arith))

  pub play-stands : (room : ℕ) (es : List ℕ) → play t s room es ≡ play_on t es s room
  unfolding play
  play-stands room es = rw h

module _ (t s : List ℕ) (n : refused_state t s ≡ 0 → ⊥) where
  pub step-unadmitted : (room : ℕ) (os : List ℕ) (e : ℕ) → step t s room os e ≡ refusal (refused_state t s) s
  unfolding step conclude first_fault refused_state
  step-unadmitted room os e =
      split (accepted t)
      (λ a. split (fits t s) (λ b. absurd (n (rw (a, b)))) (λ b. rw (a, b)))
      (λ a. rw a)

  pub play-unadmitted : (room : ℕ) (es : List ℕ) → play t s room es ≡ ending (refused_state t s) s
  unfolding play
  play-unadmitted room es = rw (ne_eqb _ 0 n)

-- Nothing in front of a play, and two parts in front of it.

pub onto-none : (p : Play) → onto 0 [] 0 p ≡ p
onto-none p = rw (zero-add p.taken, zero-add p.visits)

pub onto-onto : (a b : ℕ) (xs ys : List ℕ) (v w : ℕ) (p : Play) → onto a xs v (onto b ys w p) ≡ onto (a + b) (xs ++ ys) (v + w) p
onto-onto a b xs ys v w p = rw (append_assoc, add_assoc a b p.taken, add_assoc v w p.visits)

-- A single call, with table and state in order: full, refused or done.

module _ (t s : List ℕ) (room : ℕ) (os : List ℕ) (e : ℕ) (ok : accepted t ≡ true) (fit : fits t s ≡ true) where
  pub step-full : room < bound t → step t s room os e ≡ refusal 3 s
  unfolding refused_call refused_state
  step-full h = rw (step-in-parts, ok, fit, lt-ltb room (bound t) h)

  in-room : bound t ≤ room → step t s room os e ≡ handle t s os e
  unfolding refused_call refused_state
  in-room h = rw (step-in-parts, ok, fit, le-ltb room (bound t) h)

  pub step-refused : bound t ≤ room → (refused_event t os e ≡ 0 → ⊥) → step t s room os e ≡ refusal (refused_event t os e) s
  unfolding handle conclude
  step-refused h n = in-room h ∙ rw (ne_eqb _ _ n)

  pub step-done : bound t ≤ room → refused_event t os e ≡ 0 → step t s room os e ≡ done t os e s
  unfolding handle conclude
  step-done h z = in-room h ∙ rw (eq-eqb _ _ z)

-- no outcomes are lent, none are heeded
pub none-heeded : (t : List ℕ) → heeded t [] ≡ []
unfolding heeded
none-heeded t = split (eqb (edition t) 2) (λ a. rw a) (λ a. rw a)

-- a state after done events, and the words of one
module _ (t s : List ℕ) (e : ℕ) (ok : accepted t ≡ true) where
  pub done-fits : refused_event t [] e ≡ 0 → fits t s ≡ true → fits t (happen t e [] s).state ≡ true
  done-fits z fit = happen-fits t (facts t ok) e [] s (taken-event t [] e z) fit

  pub done-paid : length (happen t e [] s).words ≤ bound t
  done-paid = happen-paid t (facts t ok) e [] s

-- The four ways a play can go. One that takes an event goes on from the state and in the room that it leaves.

module _ (t : List ℕ) (ok : accepted t ≡ true) where
  pub record Taken (e : ℕ) (s : List ℕ) (room : ℕ) : Type 0 where
    pub state : fits t s ≡ true
    pub enough : bound t ≤ room
    pub event : refused_event t [] e ≡ 0
    pub next : fits t (happen t e [] s).state ≡ true
    pub few : length (happen t e [] s).words ≤ bound t

  pub takes : (e : ℕ) (s : List ℕ) (room : ℕ) → fits t s ≡ true → bound t ≤ room → refused_event t [] e ≡ 0 → Taken e s room
  takes e s room fit h z = record { state = fit; enough = h; event = z; next = done-fits t s e ok z fit; few = done-paid t s e ok }

  -- the play behind event e
  abbrev pub later : ℕ → List ℕ → List ℕ → ℕ → Play
  later e es s room = play_on t es (happen t e [] s).state (room - length (happen t e [] s).words)

  pub plays-none : (s : List ℕ) (room : ℕ) → play_on t [] s room ≡ ending 0 s
  unfolding play_on
  plays-none s room = refl

  pub plays-full : (e : ℕ) (es s : List ℕ) (room : ℕ) → fits t s ≡ true → room < bound t → play_on t (e ∷ es) s room ≡ ending 3 s
  unfolding play_on goes_on
  plays-full e es s room fit h = rw (step-full t s room [] e ok fit h)

  pub plays-refused : (e : ℕ) (es s : List ℕ) (room : ℕ) → fits t s ≡ true → bound t ≤ room → (refused_event t [] e ≡ 0 → ⊥)
      → play_on t (e ∷ es) s room ≡ ending (refused_event t [] e) s
  unfolding play_on goes_on
  plays-refused e es s room fit h n = rw (step-refused t s room [] e ok fit h n, ne_eqb _ 0 n)

  pub plays-taken : (e : ℕ) (es s : List ℕ) (room : ℕ) → Taken e s room
      → play_on t (e ∷ es) s room ≡ onto 1 (happen t e [] s).words (happen t e [] s).visits (later e es s room)
  unfolding play_on goes_on
  plays-taken e es s room k = rw (step-done t s room [] e ok k.state k.enough k.event, none-heeded t)

  pub play-cases {ℓ} : (P : List ℕ → List ℕ → ℕ → Play → Type ℓ)
      → ((s : List ℕ) (room : ℕ) → fits t s ≡ true → P [] s room (ending 0 s))
      → ((e : ℕ) (es s : List ℕ) (room : ℕ) → fits t s ≡ true → room < bound t → P (e ∷ es) s room (ending 3 s))
      → ((e : ℕ) (es s : List ℕ) (room : ℕ) → fits t s ≡ true → bound t ≤ room → (refused_event t [] e ≡ 0 → ⊥)
      → 4 ≤ refused_event t [] e → refused_event t [] e ≤ 6
      → P (e ∷ es) s room (ending (refused_event t [] e) s))
      → ((e : ℕ) (es s : List ℕ) (room : ℕ) → Taken e s room
      → P es (happen t e [] s).state (room - length (happen t e [] s).words) (later e es s room)
      → P (e ∷ es) s room (onto 1 (happen t e [] s).words (happen t e [] s).visits (later e es s room)))
      → (es s : List ℕ) (room : ℕ) → fits t s ≡ true → P es s room (play_on t es s room)
  play-cases P none full refused taken [] s room fit = rw plays-none (none s room fit)
  play-cases P none full refused taken (e ∷ es) s room fit =
      split (ltb room (bound t))
      (λ a. let h = ltb-true _ _ a in rw (plays-full e es s room fit h) (full e es s room fit h))
      (λ a. let h = ltb-false _ _ a in
      split (eqb (refused_event t [] e) 0)
      (λ b. let k = takes e s room fit h (eqb-true _ _ b) in
      rw (plays-taken e es s room k) (taken e es s room k (play-cases P none full refused taken es (happen t e [] s).state _ k.next)))
      (λ b. let n = eqb-false _ _ b in
      rw (plays-refused e es s room fit h n) (refused e es s room fit h n (event-refused t [] e n) (event-small t e))))

  -- What a play takes and writes; its state fits, and its answer is 0, 3, 4, 5 or 6.

  pub record Kept (es : List ℕ) (room : ℕ) (p : Play) : Type 0 where
    pub within : p.taken ≤ length es
    pub words : length p.words ≤ room
    pub state : fits t p.state ≡ true
    pub small : p.answer ≤ 6
    pub answer : (p.answer ≡ 0 → ⊥) → 3 ≤ p.answer

  pub kept : (es s : List ℕ) (room : ℕ) → fits t s ≡ true → Kept es room (play_on t es s room)
  kept =
      play-cases (λ es s room p. Kept es room p)
      (λ s room f. record { within = omega arith; words = omega arith; state = f; small = omega arith; answer = λ n. absurd (n refl) })
      (λ e es s room f h. record { within = omega arith; words = omega arith; state = f; small = omega arith; answer = λ n. omega arith })
      (λ e es s room f h n a b. record { within = omega arith; words = omega arith; state = f; small = b; answer = λ m. omega arith })
      (λ e es s room k i.
      record {
        within = let w = i.within in omega arith;
        words = let w = i.words in let f = k.few in let b = k.enough in simp length-append (omega arith);
        state = i.state;
        small = i.small;
        answer = i.answer;
      })

  -- "Trace full" exactly if an event is left and fewer than B trace words are free; done exactly if none is left; else the next is refused.

  pub record Ended (es : List ℕ) (room : ℕ) (p : Play) : Type 0 where
    pub full : p.answer ≡ 3 → (p.taken < length es) × (room < length p.words + bound t)
    pub full_only : p.taken < length es → room < length p.words + bound t → p.answer ≡ 3
    pub done : p.answer ≡ 0 → p.taken ≡ length es
    pub done_only : p.taken ≡ length es → p.answer ≡ 0
    pub refused : (p.answer ≡ 0 → ⊥) → (p.answer ≡ 3 → ⊥) → refused_event t [] (get_or es p.taken 0) ≡ p.answer

  pub ended : (es s : List ℕ) (room : ℕ) → fits t s ≡ true → Ended es room (play_on t es s room)
  ended =
      play-cases (λ es s room p. Ended es room p)
      (λ s room f.
      record {
        full = λ z. absurd (omega arith);
        full_only = λ l. absurd (omega arith);
        done = λ z. refl;
        done_only = λ z. refl;
        refused = λ n m. absurd (n refl);
      })
      (λ e es s room f h.
      record {
        full = λ z. (omega arith, omega arith);
        full_only = λ l m. refl;
        done = λ z. absurd (omega arith);
        done_only = λ z. absurd (omega arith);
        refused = λ n m. absurd (m refl);
      })
      (λ e es s room f h n a b.
      record {
        full = λ z. absurd (omega arith);
        full_only = λ l m. absurd (omega arith);
        done = λ z. absurd (omega arith);
        done_only = λ z. absurd (omega arith);
        refused = λ m q. refl;
      })
      (λ e es s room k i.
      let few = k.few in let enough = k.enough in
      record {
        full = λ z. let w = i.full z in (omega (arith, w.0), simp length-append (omega (arith, w.1)));
        full_only = λ l m. i.full_only (omega arith) (let x = simp length-append at m in omega arith);
        done = λ z. let w = i.done z in omega arith;
        done_only = λ z. i.done_only (omega arith);
        refused = λ m q. rw one-add (i.refused m q);
      })

  -- More room: a play that is not full goes the same way; one that is goes on from where it stopped.

  -- the play behind an event, with more room
  later_more : (e : ℕ) (es s : List ℕ) (room more : ℕ) → Taken e s room
      → later e es s (room + more) ≡ play_on t es (happen t e [] s).state (room - length (happen t e [] s).words + more)
  later_more e es s room more k = ap (play_on t es (happen t e [] s).state) (let a = k.few in let b = k.enough in omega arith)

  plays-more : (e : ℕ) (es s : List ℕ) (room more : ℕ) → Taken e s room
      → play_on t (e ∷ es) s (room + more)
      ≡ onto 1 (happen t e [] s).words (happen t e [] s).visits
      (play_on t es (happen t e [] s).state (room - length (happen t e [] s).words + more))
  plays-more e es s room more k =
      plays-taken e es s (room + more) (takes e s (room + more) k.state (let h = k.enough in omega arith) k.event)
      ∙ ap (onto 1 (happen t e [] s).words (happen t e [] s).visits) (later_more e es s room more k)

  pub roomier : (more : ℕ) (es s : List ℕ) (room : ℕ) → fits t s ≡ true → ((play_on t es s room).answer ≡ 3 → ⊥)
      → play_on t es s (room + more) ≡ play_on t es s room
  roomier more =
      play-cases (λ es s room p. (p.answer ≡ 3 → ⊥) → play_on t es s (room + more) ≡ p)
      (λ s room f n. plays-none s (room + more))
      (λ e es s room f h n. absurd (n refl))
      (λ e es s room f h n a b m. plays-refused e es s (room + more) f (omega arith) n)
      (λ e es s room k i n. plays-more e es s room more k ∙ ap (onto 1 (happen t e [] s).words (happen t e [] s).visits) (i n))

  -- what is left of es behind play p, from its state on, in so much room
  abbrev pub rest : List ℕ → Play → ℕ → Play
  rest es p room = play_on t (drop p.taken es) p.state (room - length p.words)

  pub resumed : (more : ℕ) (es s : List ℕ) (room : ℕ) → fits t s ≡ true
      → (let p = play_on t es s room in p.answer ≡ 3 → play_on t es s (room + more) ≡ onto p.taken p.words p.visits (rest es p (room + more)))
  resumed more =
      play-cases (λ es s room p. p.answer ≡ 3 → play_on t es s (room + more) ≡ onto p.taken p.words p.visits (rest es p (room + more)))
      (λ s room f z. absurd (omega arith))
      (λ e es s room f h z. rw sub-zero (sym (onto-none _)))
      (λ e es s room f h n a b z. absurd (omega arith))
      (λ e es s room k i z.
      let ws = (happen t e [] s).words in let v = (happen t e [] s).visits in let p = later e es s room in
      plays-more e es s room more k
      ∙ ap (onto 1 ws v) (i z)
      ∙ onto-onto 1 p.taken ws p.words v p.visits _
      ∙ rw (one-add, length-append) (ap (λ (n : ℕ). onto (suc p.taken) (ws ++ p.words) (v + p.visits) (play_on t (drop p.taken es) p.state n))
      (let a = k.few in let b = k.enough in omega arith)))

  -- B trace words an event are enough
  pub enough-room : (es s : List ℕ) (room : ℕ) → fits t s ≡ true → length es * bound t ≤ room → (play_on t es s room).answer ≡ 3 → ⊥
  enough-room =
      play-cases (λ es s room p. length es * bound t ≤ room → p.answer ≡ 3 → ⊥)
      (λ s room f b z. omega arith)
      (λ e es s room f h b z. let c = suc-mul (length es) (bound t) in omega arith)
      (λ e es s room f h n a c b z. omega arith)
      (λ e es s room k i b. let c = suc-mul (length es) (bound t) in let d = k.few in i (omega arith))

  -- the events taken alone are played so too, to their end
  pub taken-alone : (es s : List ℕ) (room : ℕ) → fits t s ≡ true → (let p = play_on t es s room in
      play_on t (take p.taken es) s room ≡ record { answer = 0; taken = p.taken; state = p.state; words = p.words; visits = p.visits })
  taken-alone =
      play-cases (λ es s room p. play_on t (take p.taken es) s room
      ≡ record { answer = 0; taken = p.taken; state = p.state; words = p.words; visits = p.visits })
      (λ s room f. plays-none s room)
      (λ e es s room f h. plays-none s room)
      (λ e es s room f h n a b. plays-none s room)
      (λ e es s room k i. rw one-add (plays-taken e (take (later e es s room).taken es) s room k ∙ rw (i, one-add)))

  -- events of which none is refused are played to their end, unless the trace is full
  pub none-refused : (es s : List ℕ) (room : ℕ) → fits t s ≡ true → Each (λ e. refused_event t [] e ≡ 0) es → ((play_on t es s room).answer ≡ 3 → ⊥)
      → (play_on t es s room).answer ≡ 0
  none-refused =
      play-cases (λ es s room p. Each (λ e. refused_event t [] e ≡ 0) es → (p.answer ≡ 3 → ⊥) → p.answer ≡ 0)
      (λ s room f each n. refl)
      (λ e es s room f h each n. absurd (n refl))
      (λ e es s room f h n a b each m. absurd (n each.0))
      (λ e es s room k i each n. i each.1 n)

  -- the same play in any two rooms in which it is not full
  pub alike : (es s : List ℕ) (a b : ℕ) → fits t s ≡ true → ((play_on t es s a).answer ≡ 3 → ⊥) → ((play_on t es s b).answer ≡ 3 → ⊥)
      → play_on t es s a ≡ play_on t es s b
  alike es s a b fit na nb =
      sym (roomier b es s a fit na) ∙ ap (play_on t es s) (add_comm a b) ∙ roomier a es s b fit nb

  -- a play that is full in a room in which the first event had enough has taken an event
  pub some-taken : (es s : List ℕ) (room : ℕ) → fits t s ≡ true → bound t ≤ room → (play_on t es s room).answer ≡ 3 → 1 ≤ (play_on t es s room).taken
  some-taken =
      play-cases (λ es s room p. bound t ≤ room → p.answer ≡ 3 → 1 ≤ p.taken)
      (λ s room f b z. absurd (omega arith))
      (λ e es s room f h b z. absurd (omega arith))
      (λ e es s room f h n a c b z. absurd (omega arith))
      (λ e es s room k i b z. omega arith)

  -- Events xs and then ys: a play that does all xs goes on with ys; any other stops as if ys were not there.

  pub goes_on_lem : (ys xs s : List ℕ) (room : ℕ) → fits t s ≡ true
      → (let p = play_on t xs s room in p.answer ≡ 0
      → play_on t (xs ++ ys) s room ≡ onto p.taken p.words p.visits (play_on t ys p.state (room - length p.words)))
  goes_on_lem ys =
      play-cases
      (λ xs s room p. p.answer ≡ 0 → play_on t (xs ++ ys) s room ≡ onto p.taken p.words p.visits (play_on t ys p.state (room - length p.words)))
      (λ s room f z. rw sub-zero (sym (onto-none _)))
      (λ e xs s room f h z. absurd (omega arith))
      (λ e xs s room f h n a b z. absurd (omega arith))
      (λ e xs s room k i z.
      let ws = (happen t e [] s).words in let v = (happen t e [] s).visits in let p = later e xs s room in
      plays-taken e (xs ++ ys) s room k
      ∙ ap (onto 1 ws v) (i z)
      ∙ onto-onto 1 p.taken ws p.words v p.visits _
      ∙ ap (λ (n : ℕ). onto (1 + p.taken) (ws ++ p.words) (v + p.visits) (play_on t ys p.state n)) (rw length-append (omega arith)))

  pub stops : (ys xs s : List ℕ) (room : ℕ) → fits t s ≡ true → ((play_on t xs s room).answer ≡ 0 → ⊥) → play_on t (xs ++ ys) s room ≡ play_on t xs s room
  stops ys =
      play-cases (λ xs s room p. (p.answer ≡ 0 → ⊥) → play_on t (xs ++ ys) s room ≡ p)
      (λ s room f n. absurd (n refl))
      (λ e xs s room f h n. plays-full e (xs ++ ys) s room f h)
      (λ e xs s room f h n a b m. plays-refused e (xs ++ ys) s room f h n)
      (λ e xs s room k i n. plays-taken e (xs ++ ys) s room k ∙ ap (onto 1 (happen t e [] s).words (happen t e [] s).visits) (i n))
