-- Q-13: "Accepted tables of equal counts that give the operator the same numbered things, with fitting states and traces agreeing in that
-- operator's words, print the same bytes."
use Rattle.std.specs.Prelude.{ℕ, ◌<◌, ◌≡◌, List, length, take, eqb}
use Rattle.rulebook.specs.Words.{word}
use Rattle.rulebook.specs.Table.{port_owner, network_owner, source_owner}
use Rattle.rulebook.specs.Table as table
use Rattle.rulebook.specs.State.{network_index, source_index}
use Rattle.rulebook.specs.Lists.{own}
use Rattle.rulebook.specs.Step.{refused_state}
use Rattle.panel.specs.Promises.{ShowsIn}

-- "of equal counts that give the operator the same numbered things": of ports, networks and sources; how many expressions, rules, lists
-- and items there are need not be equal, which is more than is asked
pub record SameThings (o : ℕ) (t₁ t₂ : List ℕ) : Type 0 where
  pub ports : table.ports t₁ ≡ table.ports t₂
  pub networks : table.networks t₁ ≡ table.networks t₂
  pub sources : table.sources t₁ ≡ table.sources t₂
  pub own_ports : (p : ℕ) → p < table.ports t₁ → eqb (port_owner t₁ p) o ≡ eqb (port_owner t₂ p) o
  pub own_networks : (n : ℕ) → n < table.networks t₁ → eqb (network_owner t₁ n) o ≡ eqb (network_owner t₂ n) o
  pub own_sources : (k : ℕ) → k < table.sources t₁ → eqb (source_owner t₁ k) o ≡ eqb (source_owner t₂ k) o

-- "states and traces agreeing in that operator's words"
pub record SameWords (o : ℕ) (t₁ s₁ ws₁ t₂ s₂ ws₂ : List ℕ) : Type 0 where
  pub ports : (p : ℕ) → p < table.ports t₁ → port_owner t₁ p ≡ o → word s₁ p ≡ word s₂ p
  pub networks : (n : ℕ) → n < table.networks t₁ → network_owner t₁ n ≡ o → word s₁ (network_index t₁ n) ≡ word s₂ (network_index t₂ n)
  pub sources : (k : ℕ) → k < table.sources t₁ → source_owner t₁ k ≡ o → word s₁ (source_index t₁ k) ≡ word s₂ (source_index t₂ k)
  pub trace : own o ws₁ ≡ own o ws₂

-- "print the same bytes", said of two calls, each lent bytes of its own: where as many are lent the answers are equal; and where both have
-- room for their lines, the bytes laid
pub record SamePrint (out₁ : List ℕ) (k₁ n₁ : ℕ) (out₁' out₂ : List ℕ) (k₂ n₂ : ℕ) (out₂' : List ℕ) : Type 0 where
  pub answer : length out₁ ≡ length out₂ → k₁ ≡ k₂
  pub bytes : k₁ ≡ 0 → k₂ ≡ 0 → take n₁ out₁' ≡ take n₂ out₂'

-- what a call of the panel has beside every other call that the promise allows
abbrev pub PrintsAlike : ℕ → List ℕ → List ℕ → List ℕ → List ℕ → ℕ → ℕ → List ℕ → Type 0
PrintsAlike o t s ws out k n out' =
    (t₂ s₂ ws₂ out₂ : List ℕ) (k₂ n₂ : ℕ) (out₂' : List ℕ) → refused_state t s ≡ 0 → refused_state t₂ s₂ ≡ 0 → SameThings o t t₂
    → SameWords o t s ws t₂ s₂ ws₂ → ShowsIn o t₂ s₂ ws₂ out₂ k₂ n₂ out₂' → SamePrint out k n out' out₂ k₂ n₂ out₂'
