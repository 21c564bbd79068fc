-- Demand 2 holds of whatever the promises of the event call and the table check allow. Assumes nothing.
use mathlib.Core.Path.{◌≡◌, refl, sym, ◌∙◌, ap}
use mathlib.Core.Logic.{◌↔◌}
use mathlib.Core.List.{List, ◌++◌}
use Prim.Native.Nat.{ℕ}
use native.Mathlib.Omega.{arith}
use lib.ListN.{length, take, drop}
use lib.Seq.{take-append_seam, drop-append_seam}
use borrow.Author.Tests.{eqb-true, eq-eqb}
use Rattle.rulebook.specs.Reasons.{check}
use Rattle.rulebook.specs.Lists.{Run}
use Rattle.rulebook.specs.Events.{happen}
use Rattle.rulebook.specs.Step.{Result, heeded, step}
use Rattle.laws.specs.Acceptance.{Rules}
use Rattle.laws.specs.Chosen.{Arbitrated}
use Rattle.laws.proofs.Acceptance.{accepted-exactly}
use Rattle.laws.proofs.Facts.{facts}
use Rattle.laws.proofs.Happen.{Taken}
use Rattle.laws.specs.Callable.{Callable}
use Rattle.laws.proofs.Steps.{step-cases, happen-paid}
use Rattle.laws.specs.Visits.{evaluations, Visited}
use Rattle.laws.proofs.Chosen.{happen-arbitrates}
use Rattle.laws.proofs.Visits.{happen-visited}
use Rattle.tables.specs.Finding.{promised}
use Rattle.manager.specs.Promises.{ChecksTableIn, TakesEventIn}
use Rattle.demands.specs.Demand2.{Steps, Demand2}

-- a call answered 0 went through the checks, and the step is what the event does
pub record DoneBy (t s : List ℕ) (room : ℕ) (os : List ℕ) (e : ℕ) (r : Result) : Type 0 where
  pub callable : Callable t s room
  pub taken : Taken t e
  pub state : r.state ≡ (happen t e (heeded t os) s).state
  pub words : r.words ≡ (happen t e (heeded t os) s).words
  pub visits : r.visits ≡ (happen t e (heeded t os) s).visits

abbrev pub Done : List ℕ → List ℕ → ℕ → List ℕ → ℕ → Type 0
Done t s room os e = DoneBy t s room os e (step t s room os e)

pub done-step : (t s : List ℕ) (room : ℕ) (os : List ℕ) (e : ℕ) → (step t s room os e).answer ≡ 0 → Done t s room os e
done-step t s room os e =
    step-cases (λ r. r.answer ≡ 0 → DoneBy t s room os e r) t s room os e (λ k a z. absurd (omega arith))
    (λ c w z. record { callable = c; taken = w; state = refl; words = refl; visits = refl })

module _ (t s trace os : List ℕ) (e k n v : ℕ) (s' trace' : List ℕ) (p : TakesEventIn t s trace os e k n v s' trace') (z : k ≡ 0) where
  pub call : Done t s (length trace) os e
  call = done-step t s (length trace) os e (sym p.answer ∙ z)

  abbrev x : Run
  x = happen t e (heeded t os) s

  pub steps : Steps t s trace os e n v s' trace'
  steps =
      let is : n ≡ length x.words = p.count ∙ ap (λ (ws : List ℕ). length ws) call.words in
      let tr : trace' ≡ x.words ++ drop (length x.words) trace = p.words ∙ ap (λ (ws : List ℕ). ws ++ drop (length ws) trace) call.words in
      record {
        state = p.state ∙ call.state;
        count = is;
        within = rw is (happen-paid t (facts t call.callable.table) e (heeded t os) s);
        visits = p.visits ∙ call.visits;
        new = rw (is, tr) (take-append_seam x.words _);
        unchanged = rw (is, tr) (drop-append_seam x.words _);
      }

  pub lists : Arbitrated t e (heeded t os) s s' (take n trace')
  lists = rw (steps.state, steps.new) (happen-arbitrates t (facts t call.callable.table) (heeded t os) s e)

  pub evaluated : Visited (evaluations t e s (take n trace')) v
  evaluated = rw (steps.visits, steps.new) (happen-visited t (facts t call.callable.table) (heeded t os) s e)

pub accepts : (t : List ℕ) (reason place bound : ℕ) → ChecksTableIn t reason place bound → (reason ≡ 0) ↔ Rules t
unfolding promised
accepts t reason place bound p =
    let is : reason ≡ (check t).reason = p.0 in
    let exactly = accepted-exactly t in
    (λ z. exactly.0 (eq-eqb _ _ (sym is ∙ z)), λ rules. is ∙ eqb-true _ _ (exactly.1 rules))

pub demand-2 : Demand2
demand-2 = record { steps = steps; lists = lists; accepts = accepts }
