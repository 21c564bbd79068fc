-- "Arbitration" of the ports that q holds of, from a state, with the outcome words os for the outside calls of its lists.
use Rattle.std.specs.Prelude.{ℕ, zero, suc, Bool, true, false, cond, ◌&&◌, not, List, [], ◌∷◌, ◌++◌, set, eqb}
use Rattle.rulebook.specs.Words.{word, any, sum, each}
use Rattle.rulebook.specs.Table.{ports, rules, lists, nested_only, rule_expression, priority}
use Rattle.rulebook.specs.Expressions.{deepest, mentions}
use Rattle.rulebook.specs.State.{defined_of, value_of, remaining_of, pack_port}
use Rattle.rulebook.specs.Lists.{Run, start, visit, unready, result_in, visits_in, choice_in, set_result, run_list}

-- "The arbitrated ports' marks, and no others, are cleared first."

abbrev pub unmarked : ℕ → ℕ
unmarked w = pack_port (defined_of w) 0 (value_of w) (remaining_of w)

unfoldable pub unmark_port : (ℕ → Bool) → ℕ → List ℕ → List ℕ
unmark_port q p s = cond (q p) (set s p (unmarked (word s p))) s

unfoldable pub unmark_ports : List ℕ → (ℕ → Bool) → List ℕ → List ℕ
unmark_ports t q s = each 0 (ports t) (unmark_port q) s

-- "Every rule that isn't nested-only, mentions an arbitrated port and mentions no undefined one is evaluated against the values
-- before any list runs; last results are stored." Here s is the state before, and the walk only stores.

unfoldable pub evaluated : List ℕ → (ℕ → Bool) → List ℕ → ℕ → Bool
evaluated t q s r = eqb (nested_only t r) 0 && mentions deepest t q (rule_expression t r) && not (unready t s r)

unfoldable pub store_result : List ℕ → (ℕ → Bool) → List ℕ → ℕ → List ℕ → List ℕ
store_result t q s r stored = cond (evaluated t q s r) (set_result t r (result_in t s r) stored) stored

unfoldable pub store_results : List ℕ → (ℕ → Bool) → List ℕ → List ℕ
store_results t q s = each 0 (rules t) (store_result t q s) s

-- Q-10: the words that these evaluations visit, whether or not a list is chosen by them; a rule that is not evaluated visits none
unfoldable pub visits_by : List ℕ → (ℕ → Bool) → List ℕ → ℕ → ℕ
visits_by t q s r = cond (evaluated t q s r) (visits_in t s r) 0

unfoldable pub rule_visits : List ℕ → (ℕ → Bool) → List ℕ → ℕ
rule_visits t q s = sum 0 (rules t) (visits_by t q s)

unfoldable pub chooses : List ℕ → (ℕ → Bool) → List ℕ → ℕ → ℕ → Bool
chooses t q s l r = evaluated t q s r && eqb (choice_in t s r) l

unfoldable pub chosen : List ℕ → (ℕ → Bool) → List ℕ → ℕ → Bool
chosen t q s l = any 0 (rules t) (chooses t q s l)

-- "larger priority first, then lower number": the order of all lists, which depends on the table alone

unfoldable pub of_priority : List ℕ → ℕ → ℕ → ℕ → List ℕ
of_priority t k l zero = []
of_priority t k l (suc n) = elim (eqb (priority t l) k) [ true ↦ l ∷ of_priority t k (suc l) n | false ↦ of_priority t k (suc l) n ]

unfoldable pub order_below : ℕ → List ℕ → List ℕ
order_below zero t = []
order_below (suc k) t = of_priority t k 0 (lists t) ++ order_below k t

unfoldable pub order : List ℕ → List ℕ
order t = order_below 256 t

-- "Chosen lists run once each"

unfoldable pub run_if : List ℕ → (ℕ → Bool) → ℕ → Run → Run
run_if t c l x = elim (c l) [ true ↦ run_list deepest t l x | false ↦ x ]

unfoldable pub run_chosen : List ℕ → (ℕ → Bool) → List ℕ → Run → Run
run_chosen t c [] x = x
run_chosen t c (l ∷ ls) x = run_chosen t c ls (run_if t c l x)

unfoldable pub decide : List ℕ → (ℕ → Bool) → List ℕ → List ℕ → Run
decide t q os s = run_chosen t (chosen t q s) (order t) (visit (rule_visits t q s) (start os (store_results t q s)))

unfoldable pub arbitrate : List ℕ → (ℕ → Bool) → List ℕ → List ℕ → Run
arbitrate t q os s = decide t q os (unmark_ports t q s)
