-- Q-14 over calls: s is what `make_fresh` made, and any results of the event call and of plays follow, mixed as one likes, each state passed on. Its
-- sentences are those of stranger/specs/Nothing, over the runs that calls gave.
use Rattle.std.specs.Prelude.{◌≡◌, List, ℕ}
use Rattle.stranger.specs.Nothing.{kept, SameOwn, AfterEachShared, NothingOfStrangers}
use Rattle.manager.specs.Promises.{MakesFreshIn}
use Rattle.panel.specs.Promises.{ShowsIn}
use Rattle.panel.specs.Same.{SamePrint}
use Rattle.demands.specs.Sent.{Sent}
use Rattle.demands.specs.Plays.{Resumed}

-- "The panel's lines agree likewise": whatever a panel of o's gives of the one state and its newest words, and of the other. As many bytes lent, the
-- same answer; both done, the same bytes.
abbrev pub SamePanels : List ℕ → ℕ → List ℕ → List ℕ → List ℕ → List ℕ → Type 0
SamePanels t o s₁ ws₁ s₂ ws₂ =
    (out₁ : List ℕ) (k₁ n₁ : ℕ) (out₁' out₂ : List ℕ) (k₂ n₂ : ℕ) (out₂' : List ℕ) → ShowsIn o t s₁ ws₁ out₁ k₁ n₁ out₁' → ShowsIn o t s₂ ws₂ out₂ k₂ n₂ out₂'
    → SamePrint out₁ k₁ n₁ out₁' out₂ k₂ n₂ out₂'

pub record NothingAfter (t s : List ℕ) : Type 0 where
  pub nothing : NothingOfStrangers t s (λ o xs. Sent t o s xs)
  -- behind each shared event
  pub panels : (o : ℕ) → AfterEachShared t (λ w xs. Sent t w s xs) o
      (λ x y. SamePanels t o x.entry.state x.entry.words y.entry.state y.entry.words)
  -- "In play the statement covers sequences that run to the end": two files of events that agree in the shared ones, each played from s, resumed at
  -- "trace full" with whatever traces, until all of it is taken. In play all calls are good, so nothing is asked of outcomes.
  pub plays : (o : ℕ) (es fs : List ℕ) → kept o es ≡ kept o fs → {n v m u : ℕ} {s₁ ws₁ s₂ ws₂ : List ℕ}
      → Resumed t s es 0 n v s₁ ws₁
      → Resumed t s fs 0 m u s₂ ws₂
      → SameOwn t o s₁ ws₁ s₂ ws₂ × SamePanels t o s₁ ws₁ s₂ ws₂

abbrev pub NothingOfCalls : Type 0
NothingOfCalls = (t s₀ : List ℕ) (k : ℕ) (s : List ℕ) → MakesFreshIn t s₀ k s → k ≡ 0 → NothingAfter t s
