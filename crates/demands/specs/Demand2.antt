-- Demand 2, each statement under the sentence that it says, over what the event call and the table check promise, in numbers: k is
-- the answer, n the count.
use Rattle.std.specs.Prelude.{◌≡◌, ◌↔◌, List, ℕ, ◌≤◌, length, take, drop}
use Rattle.rulebook.specs.Reasons.{bound}
use Rattle.rulebook.specs.Events.{happen}
use Rattle.rulebook.specs.Step.{heeded}
use Rattle.laws.specs.Acceptance.{Rules}
use Rattle.laws.specs.Chosen.{Arbitrated}
use Rattle.manager.specs.Promises.{ChecksTableIn, TakesEventIn}

pub record Steps (t s trace os : List ℕ) (e n v : ℕ) (s' trace' : List ℕ) : Type 0 where
  pub state : s' ≡ (happen t e (heeded t os) s).state
  pub count : n ≡ length (happen t e (heeded t os) s).words
  pub within : n ≤ bound t
  -- Q-10: "equal to the same count over the definition"
  pub visits : v ≡ (happen t e (heeded t os) s).visits
  pub new : take n trace' ≡ (happen t e (heeded t os) s).words
  pub unchanged : drop n trace' ≡ drop n trace

-- any count n, visits v, state s' and trace' that the event call allows with answer 0 have P
abbrev pub OfEachCall : ((t s trace os : List ℕ) (e n v : ℕ) (s' trace' : List ℕ) → Type 0) → Type 0
OfEachCall P = (t s trace os : List ℕ) (e k n v : ℕ) (s' trace' : List ℕ) → TakesEventIn t s trace os e k n v s' trace' → k ≡ 0 → P t s trace os e n v s' trace'

pub record Demand2 : Type 0 where
  -- "For an accepted table, each event gives exactly the next state and ordered trace that document 01 condenses from the AUTOSAR
  -- papers: .. the reported count true."
  pub steps : OfEachCall Steps
  -- "lists by falling priority, each chosen list run once on its own account"
  pub lists : OfEachCall (λ t s trace os e n v s' trace'. Arbitrated t e (heeded t os) s s' (take n trace'))
  -- "A table is accepted exactly if document 01's rules hold of it."
  pub accepts : (t : List ℕ) (reason place bound : ℕ) → ChecksTableIn t reason place bound → (reason ≡ 0) ↔ Rules t
