-- An arbitration in two passes over the rules: the result of each is found first, all from one state, and then the lists are chosen
-- and the results stored.
use Rattle.std.specs.Prelude.{ℕ, ◌<◌, ◌≡◌, Bool, cond, ◌&&◌, not, List, length, eqb}
use Rattle.rulebook.specs.Words.{word, any}
use Rattle.rulebook.specs.Table.{rules}
use Rattle.rulebook.specs.State.{undefined_result}
use Rattle.rulebook.specs.Lists.{result_in, previous_in, choice, set_result}
use Rattle.rulebook.specs.Arbitration.{evaluated, visits_by}
use Rattle.rulebook.specs.Events.{marked_in}
use Rattle.words.specs.Flags.{flagged}
use Rattle.evaluation.specs.declared.Found.{Found}

-- what is found of rule r: its result, or 2 where it is not evaluated
unfoldable pub rule_result : List ℕ → (ℕ → Bool) → List ℕ → ℕ → ℕ
rule_result t q s r = cond (evaluated t q s r) (result_in t s r) undefined_result

-- so with the visits that finding it makes
pub record FoundBy (t : List ℕ) (q : ℕ → Bool) (s : List ℕ) (r : ℕ) (x : Found) : Type 0 where
  pub result : x.result ≡ rule_result t q s r
  pub visits : x.visits ≡ visits_by t q s r

pub record Results (t : List ℕ) (q : ℕ → Bool) (s results : List ℕ) : Type 0 where
  pub long : length results ≡ 256
  pub says : (r : ℕ) → r < rules t → word results r ≡ rule_result t q s r

-- rule r's result stored, if it has one
unfoldable pub store_by : List ℕ → List ℕ → ℕ → List ℕ → List ℕ
store_by t results r s = cond (eqb (word results r) undefined_result) s (set_result t r (word results r) s)

-- whether rule r starts list l
unfoldable pub chooses_by : List ℕ → List ℕ → List ℕ → ℕ → ℕ → Bool
chooses_by t results s l r = not (eqb (word results r) undefined_result) && eqb (choice t r (previous_in t s r) (word results r)) l

-- the list that rule r starts, 256 where it is not evaluated
unfoldable pub pick_by : List ℕ → List ℕ → List ℕ → ℕ → ℕ
pick_by t results s r = cond (eqb (word results r) undefined_result) 256 (choice t r (previous_in t s r) (word results r))

pub record Chosen (t results s flags : List ℕ) : Type 0 where
  pub long : length flags ≡ 256
  pub says : (l : ℕ) → flagged flags l ≡ any 0 (rules t) (chooses_by t results s l)

-- the flags are up of the marked ports
pub record Marked (t s flags : List ℕ) : Type 0 where
  pub long : length flags ≡ 256
  pub says : (p : ℕ) → flagged flags p ≡ marked_in t s p
