-- No idle program meets the promise of the event call: those of the marked run by one or two of its cases, the first list alone and the
-- invented count wherever they occur. And a program that meets it exists. Assumes nothing.
use mathlib.Core.Path.{◌≡◌, refl, sym, ◌∙◌, ap}
use mathlib.Core.Bool.{and-false}
use mathlib.Core.Logic.{◌⊎◌, ⊎_elim}
use mathlib.Core.List.{List, [], ◌∷◌, ◌++◌}
use Prim.Native.Nat.{ℕ, zero, suc, ◌+◌, ◌≤◌, ◌<◌, ◌^◌}
use native.Mathlib.Omega.{arith}
use lib.ListN.{length, drop, get_or, length-append, length-drop, get_or-append}
use lib.Seq.{drop-cons, get_or-append_seam}
use lib.Dec.{ltb}
use borrow.Author.Tests.{ltb-true, ltb-false, eqb-true}
use Rattle.rulebook.specs.Words.{word, listed}
use Rattle.rulebook.specs.Step as rulebook
use Rattle.rulebook.specs.Step.{heeded, step}
use Rattle.rulebook.specs.Marked.{table, marked, after, same, refuses, at_fresh, after_request, after_tick, after_bus_off, after_three, after_five, marked_run}
use Rattle.rulebook.proofs.Marked.{claim}
use Rattle.laws.specs.Chosen.{run_all, before_lists, WrittenBy, by_none, by_first}
use Rattle.laws.proofs.Tests.{split, part_of}
use Rattle.laws.proofs.Walks.{listed-length, listed_at}
use Rattle.laws.proofs.Facts.{facts}
use Rattle.laws.proofs.Order.{each_both}
use Rattle.laws.proofs.Chosen.{behind}
use Rattle.laws.proofs.Steps.{step-cases, answer-small, happen-paid}
use Rattle.std.specs.Prelude.{Ok, Err}
use Rattle.events.specs.declared.Refusal.TheVariants.{BadTable, UnfitState, ShortTrace, Malformed, NoSuchThing, NotItsOwner, BadOutcome}
use Rattle.events.specs.Answers.{Answered, number_of, count_of, visits_of, Reports}
use Rattle.demands.specs.Idle.{Gave, Program, Words, Input, Meets, LeavesWords}
use Rattle.demands.specs.Idle.{RefusesAll, AnswersAlike, DoesNothing, OnlyFirstTick, OnlyFirstList, InventsCount, CountsAlike, VisitsAlike}
use Rattle.demands.proofs.Demand2.{steps, done-step}
use Rattle.demands.proofs.Given.{same-eq, Given, given}
use Rattle.demands.proofs.Words.{small, small-words, step_words, drop-words}

-- What is read off the claim.

at-fresh : at_fresh ≡ 0 ∷ 0 ∷ 0 ∷ 0 ∷ []
unfolding marked_run
at-fresh = same-eq _ _ (part_of _ (λ e. rw (marked_run, e) at claim))

requested : Given (marked at_fresh 0x11000500) 0 (0x81400000 ∷ 0 ∷ 0x40000000 ∷ 0x80000000 ∷ []) (0xF1000000 ∷ 0x41000002 ∷ 0x01001234 ∷ []) 1
unfolding marked_run
requested = given _ _ _ _ _ (part_of _ (λ e. rw (marked_run, e, and-false) at claim))

ticked : Given (marked after_request 0) 0 (0x81400000 ∷ 0x80800000 ∷ 0x40000000 ∷ 0x90000005 ∷ []) [] 0
unfolding marked_run
ticked = given _ _ _ _ _ (part_of _ (λ e. rw (marked_run, e, and-false) at claim))

malformed : Given (marked at_fresh 0x21000500) 4 at_fresh [] 0
unfolding marked_run refuses
malformed = given _ _ _ _ _ (part_of _ (λ e. rw (marked_run, e, and-false) at claim))

three : word after_three 3 ≡ 0x90080005
unfolding marked_run
three = eqb-true _ _ (part_of _ (λ e. rw (marked_run, e, and-false) at claim))

five : word after_five 3 ≡ 0x98000000
unfolding marked_run
five = eqb-true _ _ (part_of _ (λ e. rw (marked_run, e, and-false) at claim))

-- Inputs of words.

-- a trace of three words is lent, as in the marked run
lent : List ℕ
lent = 0 ∷ 0 ∷ 0 ∷ []

given-words : (s : List ℕ) (e : ℕ) → Words s → e < 2 ^ 32 → Input table s lent [] e
unfolding table lent small
given-words s e h b = record { table = small-words table refl; state = h; trace = small-words lent refl; outcomes = tt; event = b }

marked-words : (s : List ℕ) (e : ℕ) → Words s → Words (marked s e).state
unfolding marked
marked-words s e h = (step_words table s 3 [] e h).0

fresh-words : Words at_fresh
unfolding small
fresh-words = rw at-fresh (small-words (0 ∷ 0 ∷ 0 ∷ 0 ∷ []) refl)

requested-words : Words after_request
unfolding after_request after
requested-words = marked-words at_fresh _ fresh-words

bus-off-words : Words after_bus_off
unfolding after_bus_off after_tick after
bus-off-words = marked-words _ _ (marked-words after_request 0 requested-words)

-- The programs that the marked run refutes.

module _ (p : Program) (meets : Meets p) where
  module _ (s : List ℕ) (e : ℕ) (h : Words s) (b : e < 2 ^ 32) where
    answers : number_of (p table s lent [] e).answer ≡ (marked s e).answer
    unfolding marked lent
    answers = (meets table s lent [] e (given-words s e h b)).answer

    states : (p table s lent [] e).state ≡ (marked s e).state
    unfolding marked lent
    states = (meets table s lent [] e (given-words s e h b)).state

    counts : count_of (p table s lent [] e).answer ≡ length (marked s e).words
    unfolding marked lent
    counts = (meets table s lent [] e (given-words s e h b)).count

    visits : visits_of (p table s lent [] e).answer ≡ (marked s e).visits
    unfolding marked lent
    visits = (meets table s lent [] e (given-words s e h b)).visits

  at-request : Input table at_fresh lent [] 0x11000500
  at-request = given-words at_fresh _ fresh-words (omega arith)

  request-done : number_of (p table at_fresh lent [] 0x11000500).answer ≡ 0
  request-done = answers at_fresh _ fresh-words (omega arith) ∙ requested.answer

  pub not-refuses-all : RefusesAll p → ⊥
  not-refuses-all idle = idle table at_fresh lent [] _ at-request request-done

  pub not-answers-alike : AnswersAlike p → ⊥
  not-answers-alike idle =
      let other = given-words at_fresh 0x21000500 fresh-words (omega arith) in
      let z : ◌≡◌ {A = ℕ} 0 4
      = sym request-done ∙ idle table at_fresh lent [] _ _ at-request other ∙ answers at_fresh _ fresh-words (omega arith) ∙ malformed.answer in
      absurd (omega arith)

  pub not-does-nothing : DoesNothing p → ⊥
  not-does-nothing idle =
      let is : ◌≡◌ {A = List ℕ} (0 ∷ 0 ∷ 0 ∷ 0 ∷ []) (0x81400000 ∷ 0 ∷ 0x40000000 ∷ 0x80000000 ∷ [])
      = sym at-fresh ∙ sym (idle table at_fresh lent [] _ at-request) ∙ states at_fresh _ fresh-words (omega arith) ∙ requested.state in
      let z : ◌≡◌ {A = ℕ} 0 0x81400000 = ap (λ (s : List ℕ). word s 0) is in
      absurd (omega arith)

  -- three ticks are one, and so are five more
  pub not-only-first-tick : OnlyFirstTick p → ⊥
  unfolding after_three after_five after
  not-only-first-tick idle =
      let on : (s : List ℕ) → Words s → Words (marked s 0).state = λ s h. marked-words s 0 h in
      let one : (s : List ℕ) → Words s → (marked (marked s 0).state 0).state ≡ (marked s 0).state
      = λ s h. rw (sym (states (marked s 0).state 0 (on s h) (omega arith)), sym (states s 0 h (omega arith)))
      (idle table s lent [] (given-words s 0 h (omega arith))) in
      let h₁ = on after_bus_off bus-off-words in
      let h₃ = on _ (on _ h₁) in
      let h₄ = on _ h₃ in
      let h₅ = on _ h₄ in
      let h₆ = on _ h₅ in
      let three-one : after_three ≡ (marked after_bus_off 0).state = one _ h₁ ∙ one _ bus-off-words in
      let five-one : after_five ≡ (marked after_three 0).state = one _ h₆ ∙ one _ h₅ ∙ one _ h₄ ∙ one _ h₃ in
      let z : after_five ≡ after_three = five-one ∙ one _ (on _ h₁) in
      let y : ◌≡◌ {A = ℕ} 0x98000000 0x90080005 = sym five ∙ ap (λ (s : List ℕ). word s 3) z ∙ three in
      absurd (omega arith)

  pub not-counts-alike : CountsAlike p → ⊥
  not-counts-alike idle =
      let at_tick = given-words after_request 0 requested-words (omega arith) in
      let tick-done = answers after_request 0 requested-words (omega arith) ∙ ticked.answer in
      let three-words = counts at_fresh _ fresh-words (omega arith) ∙ ap (λ (ws : List ℕ). length ws) requested.words in
      let no_words = counts after_request 0 requested-words (omega arith) ∙ ap (λ (ws : List ℕ). length ws) ticked.words in
      let z : ◌≡◌ {A = ℕ} 3 0 = sym three-words ∙ idle table at_fresh after_request lent [] _ 0 at-request at_tick request-done tick-done ∙ no_words in
      absurd (omega arith)

  pub not-visits-alike : VisitsAlike p → ⊥
  not-visits-alike idle =
      let at_tick = given-words after_request 0 requested-words (omega arith) in
      let tick-done = answers after_request 0 requested-words (omega arith) ∙ ticked.answer in
      let one = visits at_fresh _ fresh-words (omega arith) ∙ requested.visits in
      let none = visits after_request 0 requested-words (omega arith) ∙ ticked.visits in
      let z : ◌≡◌ {A = ℕ} 1 0 = sym one ∙ idle table at_fresh after_request lent [] _ 0 at-request at_tick request-done tick-done ∙ none in
      absurd (omega arith)

-- The first list alone. Lists that run write at least one word each, so what follows the first is not nothing.

word_each : {t ls ws : List ℕ} → WrittenBy t ls ws → length ls ≤ length ws
word_each by_none = omega arith
word_each (by_first {ls = ls} {rest = rest} ws w) = let h = word_each w in simp length-append (omega arith)

pub not-only-first-list : (p : Program) → Meets p → OnlyFirstList p → ⊥
not-only-first-list p meets idle =
    let t = idle.table in
    let c = idle.call in
    let o = p t idle.state idle.trace idle.outcomes idle.event in
    let m = meets t idle.state idle.trace idle.outcomes idle.event c.input in
    let new = (steps t idle.state idle.trace idle.outcomes idle.event _ _ _ o.state o.trace m (m.answer ∙ c.done)).new in
    let x = before_lists t c.ports (heeded t idle.outcomes) c.from in
    let first = run_all t (c.first ∷ []) x in
    let b = behind t (c.second ∷ c.more) first in
    let is : first.words ≡ first.words ++ b.more
    = sym idle.alone ∙ new ∙ c.lists.words ∙ ap (λ (ls : List ℕ). (run_all t ls x).words) c.several ∙ b.words in
    let n : length first.words ≡ length first.words + length b.more = ap (λ (ws : List ℕ). length ws) is ∙ length-append first.words b.more in
    let some : suc (length c.more) ≤ length b.more = word_each b.written in
    absurd (omega arith)

-- The invented count. What is written whatever is lent has one length: a word of it that were lent could be 0 and could be 1.

same-words : (v i n : ℕ) → v < 2 ^ 32 → Words (listed i n (λ j. v))
unfolding listed
same-words v i zero b = tt
same-words v i (suc n) b = (b, same-words v (suc i) n b)

-- the word behind ws is the one that was lent
behind-front : (ws : List ℕ) (v n : ℕ) → length ws < n → get_or (ws ++ drop (length ws) (listed 0 n (λ j. v))) (length ws) 0 ≡ v
behind-front ws v n b =
    let h : length ws < length (listed 0 n (λ j. v)) = rw listed-length b in
    rw (drop-cons (listed 0 n (λ j. v)) (length ws) 0 h) (get_or-append_seam ws _ _ 0 ∙ listed_at (λ j. v) 0 n (length ws) b)

abbrev SameTraces : ℕ → List ℕ → List ℕ → Type 0
SameTraces n ws vs = (trace : List ℕ) → Words trace → length trace ≡ n → ws ++ drop (length ws) trace ≡ vs ++ drop (length vs) trace

not-fewer : (n : ℕ) (ws vs : List ℕ) → length vs ≤ n → SameTraces n ws vs → length ws < length vs → ⊥
not-fewer n ws vs h same lt =
    let at : (v : ℕ) → v < 2 ^ 32 → v ≡ get_or vs (length ws) 0
    = λ v b. sym (behind-front ws v n (omega arith)) ∙ ap (λ (us : List ℕ). get_or us (length ws) 0) (same _ (same-words v 0 n b) (listed-length _ 0 n))
    ∙ get_or-append vs _ 0 (length ws) lt in
    let z : ◌≡◌ {A = ℕ} 0 1 = at 0 (omega arith) ∙ sym (at 1 (omega arith)) in
    absurd (omega arith)

as_many : (n : ℕ) (ws vs : List ℕ) → length ws ≤ n → length vs ≤ n → SameTraces n ws vs → length ws ≡ length vs
as_many n ws vs a b same =
    let c = not-fewer n ws vs b same in
    let d = not-fewer n vs ws a (λ trace h k. sym (same trace h k)) in
    split (ltb (length ws) (length vs)) (λ e. absurd (c (ltb-true _ _ e)))
    (λ e. split (ltb (length vs) (length ws)) (λ g. absurd (d (ltb-true _ _ g)))
    (λ g. let le = ltb-false (length ws) (length vs) e in let ge = ltb-false (length vs) (length ws) g in omega arith))

-- a trace keeps its length, so no more is written than was lent
within-lent : (ws vs trace : List ℕ) → length vs ≤ length trace → ws ++ drop (length ws) trace ≡ vs ++ drop (length vs) trace → length ws ≤ length trace
within-lent ws vs trace b is = omega (arith, simp (length-append, length-drop) at (ap (λ (us : List ℕ). length us) is))

pub not-invents-count : (p : Program) → Meets p → InventsCount p → ⊥
not-invents-count p meets idle =
    let t = idle.table in
    let s = idle.state in
    let os = idle.outcomes in
    let e = idle.event in
    let i = idle.input in
    let room = length idle.trace in
    let vs = (step t s room os e).words in
    let m = meets t s idle.trace os e i in
    let call = done-step t s room os e (sym m.answer ∙ idle.done) in
    let paid = happen-paid t (facts t call.callable.table) e (heeded t os) s in
    let enough = call.callable.enough in
    let most : length vs ≤ room = rw call.words (omega arith) in
    let same : SameTraces room idle.words vs
    = λ trace h n. sym (idle.writes trace h n) ∙ (meets t s trace os e
    (record { table = i.table; state = i.state; trace = h; outcomes = i.outcomes; event = i.event })).words
    ∙ ap (λ (k : ℕ). (step t s k os e).words ++ drop (length (step t s k os e).words) trace) n in
    let least = within-lent idle.words vs idle.trace most (same idle.trace i.trace refl) in
    idle.count (m.count ∙ sym (as_many room idle.words vs least most same))

-- A program that meets the promise: the step, in the call's answers.

answer_with : ℕ → ℕ → ℕ → Answered
answer_with zero n v = Ok (record { count = n; visits = v })
answer_with (suc zero) n v = Err BadTable
answer_with (suc (suc zero)) n v = Err UnfitState
answer_with (suc (suc (suc zero))) n v = Err ShortTrace
answer_with (suc (suc (suc (suc zero)))) n v = Err Malformed
answer_with (suc (suc (suc (suc (suc zero))))) n v = Err NoSuchThing
answer_with (suc (suc (suc (suc (suc (suc zero)))))) n v = Err NotItsOwner
answer_with (suc (suc (suc (suc (suc (suc (suc k))))))) n v = Err BadOutcome

answer-number : (k n v : ℕ) → (k ≤ 6) ⊎ (k ≡ 8) → number_of (answer_with k n v) ≡ k
unfolding answer_with
answer-number zero n v h = refl
answer-number (suc zero) n v h = refl
answer-number (suc (suc zero)) n v h = refl
answer-number (suc (suc (suc zero))) n v h = refl
answer-number (suc (suc (suc (suc zero)))) n v h = refl
answer-number (suc (suc (suc (suc (suc zero))))) n v h = refl
answer-number (suc (suc (suc (suc (suc (suc zero)))))) n v h = refl
answer-number (suc (suc (suc (suc (suc (suc (suc zero))))))) n v h = ⊎_elim (λ a. absurd (omega arith)) (λ a. absurd (omega arith)) h
answer-number (suc (suc (suc (suc (suc (suc (suc (suc k)))))))) n v h = ⊎_elim (λ a. absurd (omega arith)) (λ a. sym a) h

-- neither count nor visits
none-reported : (k : ℕ) → (count_of (answer_with k 0 0) ≡ 0) × (visits_of (answer_with k 0 0) ≡ 0)
unfolding answer_with
none-reported zero = (refl, refl)
none-reported (suc zero) = (refl, refl)
none-reported (suc (suc zero)) = (refl, refl)
none-reported (suc (suc (suc zero))) = (refl, refl)
none-reported (suc (suc (suc (suc zero)))) = (refl, refl)
none-reported (suc (suc (suc (suc (suc zero))))) = (refl, refl)
none-reported (suc (suc (suc (suc (suc (suc zero)))))) = (refl, refl)
none-reported (suc (suc (suc (suc (suc (suc (suc k))))))) = (refl, refl)

gave : List ℕ → rulebook.Result → Gave
gave trace x =
    record { answer = answer_with x.answer (length x.words) x.visits; state = x.state; trace = x.words ++ drop (length x.words) trace }

reported : (t s trace : List ℕ) (room : ℕ) (os : List ℕ) (e : ℕ)
    → (let g = gave trace (step t s room os e) in Reports (step t s room os e) trace g.answer g.state g.trace)
unfolding gave answer_with
reported t s trace room os e =
    step-cases (λ x. (x.answer ≤ 6) ⊎ (x.answer ≡ 8) → Reports x trace (gave trace x).answer (gave trace x).state (gave trace x).trace) t s room os e
    (λ k a small. record { answer = answer-number k 0 0 small; count = (none-reported k).0; visits = (none-reported k).1; state = refl; words = refl })
    (λ c w small. record { answer = refl; count = refl; visits = refl; state = refl; words = refl }) (answer-small t s room os e)

pub meets-exists : (p : Program) × Meets p × LeavesWords p
unfolding gave
meets-exists = (
  λ t s trace os e. gave trace (step t s (length trace) os e),
  λ t s trace os e i. reported t s trace (length trace) os e,
  λ t s trace os e i.
      let ws = (step t s (length trace) os e).words in
      let w = step_words t s (length trace) os e i.state in
      (w.0, each_both _ ws _ w.1 (drop-words (length ws) trace i.trace)),
)
