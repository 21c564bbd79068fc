-- Q-10's count held against what a timing reviewer can see: the rules that an event evaluates, and the trace words of its rule items.
use Rattle.std.specs.Prelude.{Bool, cond, ◌&&◌, List, [], ◌∷◌, ℕ, ◌+◌, ◌*◌, ◌≤◌, eqb, ltb}
use Rattle.rulebook.specs.Words.{field, sum}
use Rattle.rulebook.specs.Table.{rules, deferred, item_rule}
use Rattle.rulebook.specs.State.{undefined_result}
use Rattle.rulebook.specs.Lists.{set_port}
use Rattle.rulebook.specs.Arbitration.{unmark_ports, evaluated}
use Rattle.rulebook.specs.Events.{event_kind, event_index, event_tick, only, tick_things, marked_in}
use Rattle.laws.specs.Chosen.{sets_port, value_set}

-- the word of a rule item that was evaluated: "6 with a the rule, b the result, 2 if undefined"
unfoldable pub gave_result : ℕ → Bool
gave_result w = eqb (field 0 4 w) item_rule && ltb (field 16 16 w) undefined_result

unfoldable pub results_given : List ℕ → ℕ
results_given [] = 0
results_given (w ∷ ws) = cond (gave_result w) 1 0 + results_given ws

-- a rule is evaluated once in an arbitration, or not
unfoldable pub rule_evaluated : List ℕ → (ℕ → Bool) → List ℕ → ℕ → ℕ
rule_evaluated t q s r = cond (evaluated t q s r) 1 0

unfoldable pub rules_evaluated : List ℕ → (ℕ → Bool) → List ℕ → ℕ
rules_evaluated t q s = sum 0 (rules t) (rule_evaluated t q s)

-- the evaluations of an arbitration, from state s, of the ports that q holds of, which wrote the words ws
unfoldable pub evaluations_by : List ℕ → (ℕ → Bool) → List ℕ → List ℕ → ℕ
evaluations_by t q s ws = rules_evaluated t q (unmark_ports t q s) + results_given ws

-- the evaluations of event e in state s, which wrote the words ws: a tick arbitrates the marked ports, a request an immediate port, and any
-- other event none
unfoldable pub evaluations : List ℕ → ℕ → List ℕ → List ℕ → ℕ
evaluations t e s ws =
    cond (eqb (event_kind e) event_tick) (evaluations_by t (marked_in t (tick_things t s)) (tick_things t s) ws)
    (cond (sets_port e && eqb (deferred t (event_index e)) 0)
    (evaluations_by t (only (event_index e)) (set_port (event_index e) 0 (value_set e) 0 s) ws)
    0)

-- v visits in n evaluations: each visits one word at least, and 127 at most
pub record Visited (n v : ℕ) : Type 0 where
  pub least : n ≤ v
  pub most : v ≤ 127 * n
