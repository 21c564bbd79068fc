-- Q-10: "at most 127 times the sum of R and B, so never above 552,704". An evaluation, seven deep at most, visits one word at least and 127
-- at most; each one by a rule item goes with a trace word, and each other one with a rule. Assumes nothing.
use mathlib.Core.Path.{◌≡◌, sym, ◌∙◌}
use mathlib.Core.Bool.{Bool, true, false, cond, ◌&&◌}
use mathlib.Core.List.{List, [], ◌∷◌, ◌++◌}
use Prim.Native.Nat.{ℕ, zero, suc, ◌+◌, ◌*◌, ◌%◌, ◌^◌, ◌≤◌, ◌<◌}
use native.Mathlib.Omega.{arith}
use native.Mathlib.Nat.{add_assoc, pow-suc, mul-suc, mod-eq_of_lt}
use lib.ListN.{length}
use lib.Dec.{eqb}
use borrow.Author.Tests.{eq-eqb, ne_eqb, eqb-true, eqb-false, lt-ltb}
use Rattle.rulebook.specs.Words.{sum}
use Rattle.rulebook.specs.Table.{rules, left, right, deferred, rule_expression, item_kind, item_rule}
use Rattle.rulebook.specs.Expressions.{operator, holds, skips_right, expression_visited, visited}
use Rattle.rulebook.specs.Reasons.{accepted, bound}
use Rattle.rulebook.specs.State.{fits, undefined_result}
use Rattle.rulebook.specs.Lists.{Run, trace_word, trace_list_start, act, value_in, visits_in, judge}
use Rattle.rulebook.specs.Arbitration.{unmark_ports, evaluated, visits_by, rule_visits, arbitrate}
use Rattle.rulebook.specs.Events.{event_kind, event_index, event_value, event_tick, event_mode, event_request, request}
use Rattle.rulebook.specs.Events.{arbitrate_marked, tick, happen}
use Rattle.rulebook.specs.Step.{heeded, step}
use Rattle.rulebook.specs.Play.{play_on}
use Rattle.laws.specs.Facts.{Facts}
use Rattle.laws.specs.Chosen.{sets_port, value_set}
use Rattle.laws.specs.Visits.{gave_result, results_given, rule_evaluated, rules_evaluated, evaluations_by, evaluations, Visited}
use Rattle.laws.proofs.Tests.{split}
use Rattle.laws.proofs.Fields.{digit-small, trace-kind, trace-b}
use Rattle.laws.proofs.Items.{result-small}
use Rattle.laws.proofs.Runs.{KeptByActs, decide-keeps}
use Rattle.laws.proofs.Facts.{facts}
use Rattle.laws.proofs.Happen.{happen-cases}
use Rattle.laws.proofs.Steps.{happen-paid, step-cases}
use Rattle.laws.proofs.Play.{play-cases}

-- One evaluation.

twice : (n : ℕ) → n * 2 ≡ n + n
twice n = omega arith

pub visited-most : (d : ℕ) (t : List ℕ) (v : ℕ → ℕ) (e : ℕ) → visited d t v e + 1 ≤ 2 ^ d
unfolding visited expression_visited
visited-most zero t v e = omega arith
visited-most (suc d) t v e =
    let a : visited d t v (left t e) + 1 ≤ 2 ^ d = visited-most d t v (left t e) in
    let b : visited d t v (right t e) + 1 ≤ 2 ^ d = visited-most d t v (right t e) in
    let c : 2 ^ suc d ≡ 2 ^ d + 2 ^ d = pow-suc 2 d ∙ twice (2 ^ d) in
    split (operator t e)
    (λ o. split (skips_right t e (holds d t v (left t e))) (λ s. rw (o, expression_visited, s) (omega arith)) (λ s. rw (o, expression_visited, s) (omega arith)))
    (λ o. rw (o, expression_visited) (omega arith))

visited-some : (d : ℕ) (t : List ℕ) (v : ℕ → ℕ) (e : ℕ) → 1 ≤ visited (suc d) t v e
unfolding visited expression_visited
visited-some d t v e = split (operator t e) (λ o. rw (o, expression_visited) (omega arith)) (λ o. rw (o, expression_visited) (omega arith))

pub rule-visits-most : (t s : List ℕ) (r : ℕ) → visits_in t s r ≤ 127
unfolding visits_in
rule-visits-most t s r = let a = visited-most 7 t (value_in s) (rule_expression t r) in omega arith

rule-visits-some : (t s : List ℕ) (r : ℕ) → 1 ≤ visits_in t s r
unfolding visits_in
rule-visits-some t s r = visited-some 6 t (value_in s) (rule_expression t r)

-- The rules that an arbitration evaluates.

pub sum-within : (f : ℕ → ℕ) (m i n : ℕ) → ((j : ℕ) → f j ≤ m) → sum i n f ≤ m * n
unfolding sum
sum-within f m i zero h = omega arith
sum-within f m i (suc n) h =
    let a : f i ≤ m = h i in
    let b : sum (suc i) n f ≤ m * n = sum-within f m (suc i) n h in
    let c : m * suc n ≡ m * n + m = mul-suc m n in
    omega arith

sum-visited : (f g : ℕ → ℕ) (i n : ℕ) → ((j : ℕ) → Visited (f j) (g j)) → Visited (sum i n f) (sum i n g)
unfolding sum
sum-visited f g i zero h = record { least = omega arith; most = omega arith }
sum-visited f g i (suc n) h =
    let a = h i in
    let b = sum-visited f g (suc i) n h in
    record { least = let x = a.least in let y = b.least in omega arith; most = let x = a.most in let y = b.most in omega arith }

module _ (t : List ℕ) (q : ℕ → Bool) (s : List ℕ) where
  rules-visited : Visited (rules_evaluated t q s) (rule_visits t q s)
  unfolding rules_evaluated rule_visits rule_evaluated visits_by
  rules-visited =
      sum-visited (rule_evaluated t q s) (visits_by t q s) 0 (rules t)
      (λ r. split (evaluated t q s r) (λ e. rw e (record { least = rule-visits-some t s r; most = rule-visits-most t s r }))
      (λ e. rw e (record { least = omega arith; most = omega arith })))

  rules-within : rules_evaluated t q s ≤ rules t
  unfolding rules_evaluated rule_evaluated
  rules-within =
      let a = sum-within (rule_evaluated t q s) 1 0 (rules t) (λ r. split (evaluated t q s r) (λ e. rw e (omega arith)) (λ e. rw e (omega arith))) in
      omega arith

  pub rule_visits-most : rule_visits t q s ≤ 127 * rules t
  rule_visits-most = let a = rules-visited.most in let b = rules-within in omega arith

-- The trace words of rule items.

results-both : (xs ys : List ℕ) → results_given (xs ++ ys) ≡ results_given xs + results_given ys
unfolding results_given
results-both [] ys = omega arith
results-both (w ∷ xs) ys = rw (results-both xs ys) (sym (add_assoc (cond (gave_result w) 1 0) (results_given xs) (results_given ys)))

results-within : (ws : List ℕ) → results_given ws ≤ length ws
unfolding results_given
results-within [] = omega arith
results-within (w ∷ ws) = let a = results-within ws in split (gave_result w) (λ e. rw e (omega arith)) (λ e. rw e (omega arith))

module _ (ws : List ℕ) (w : ℕ) where
  one_more : gave_result w ≡ true → results_given (ws ++ (w ∷ [])) ≡ results_given ws + 1
  unfolding results_given
  one_more h = results-both ws (w ∷ []) ∙ rw h

  no_more : gave_result w ≡ false → results_given (ws ++ (w ∷ [])) ≡ results_given ws
  unfolding results_given
  no_more h = let a : results_given (ws ++ (w ∷ [])) ≡ results_given ws + 0 = results-both ws (w ∷ []) ∙ rw h in omega arith

other-kind : (k o a b : ℕ) → k < 16 → (k ≡ item_rule → ⊥) → gave_result (trace_word k o a b) ≡ false
unfolding gave_result
other-kind k o a b small n = rw (trace-kind k o a b, mod-eq_of_lt small, ne_eqb k item_rule n)

undefined-gives-none : (o a : ℕ) → gave_result (trace_word item_rule o a undefined_result) ≡ false
unfolding gave_result
undefined-gives-none o a = rw (trace-kind item_rule o a undefined_result, trace-b item_rule o a undefined_result)

judged-gives : (o a b : ℕ) → b ≤ 1 → gave_result (trace_word item_rule o a b) ≡ true
unfolding gave_result
judged-gives o a b h = rw (trace-kind item_rule o a b, trace-b item_rule o a b) (lt-ltb (b % 65536) 2 (omega arith))

-- A run: r evaluations before it, and its rule items'.

abbrev VisitedBy : ℕ → Run → Type 0
VisitedBy r x = Visited (r + results_given x.words) x.visits

wrote : (r w : ℕ) (x : Run) → gave_result w ≡ false → VisitedBy r x → Visited (r + results_given (x.words ++ (w ∷ []))) x.visits
wrote r w x g p = rw (no_more x.words w g) p

judged : (r w n : ℕ) (x : Run) → gave_result w ≡ true → 1 ≤ n → n ≤ 127 → VisitedBy r x
    → Visited (r + results_given (x.words ++ (w ∷ []))) (x.visits + n)
judged r w n x g a b p =
    let e = one_more x.words w g in
    record { least = let c = p.least in omega arith; most = let c = p.most in omega arith }

acts-visited : (t : List ℕ) (r : ℕ) → KeptByActs t (VisitedBy r)
unfolding act judge
acts-visited t r =
    record {
      list_start = λ l x h p. wrote r _ x (other-kind trace_list_start _ _ _ (omega arith) (λ z. omega arith)) p;
      act = λ l i x w g h p. wrote r _ x (other-kind (item_kind t i) _ _ _ (digit-small _ 16 _ (omega arith)) (eqb-false _ _ h)) p;
      undefined = λ l i x w e p. wrote r _ x (undefined-gives-none _ _) p;
      judge = λ l i x w e u p. judged r _ _ x (judged-gives _ _ _ (result-small t x.state _)) (rule-visits-some t x.state _)
          (rule-visits-most t x.state _) p;
    }

module _ (t : List ℕ) (f : Facts t) where
  arbitrate-visited : (q : ℕ → Bool) (os s : List ℕ) → Visited (evaluations_by t q s (arbitrate t q os s).words) (arbitrate t q os s).visits
  unfolding arbitrate evaluations_by results_given
  arbitrate-visited q os s =
      decide-keeps t f (VisitedBy (rules_evaluated t q (unmark_ports t q s))) (acts-visited t _) q os (unmark_ports t q s)
      (let a = rules-visited t q (unmark_ports t q s) in
      record { least = let b = a.least in omega arith; most = let b = a.most in omega arith })

  module _ (os s : List ℕ) (e : ℕ) where
    abbrev Here : Run → Type 0
    Here x = Visited (evaluations t e s x.words) x.visits

    none-visited : Visited 0 0
    none-visited = record { least = omega arith; most = omega arith }

    request-visited : (value : ℕ) → (event_kind e ≡ event_tick → ⊥) → sets_port e ≡ true → value_set e ≡ value → Here (request t (event_index e) value os s)
    unfolding request evaluations
    request-visited value n sets is =
        split (eqb (deferred t (event_index e)) 1)
        (λ d. let one : deferred t (event_index e) ≡ 1 = eqb-true _ _ d in
        rw (d, ne_eqb _ _ n, sets, ne_eqb (deferred t (event_index e)) 0 (λ z. omega arith)) none-visited)
        (λ d. let other : (deferred t (event_index e) ≡ 1 → ⊥) = eqb-false _ _ d in
        let small : deferred t (event_index e) < 2 = digit-small _ 2 _ (omega arith) in
        rw (d, ne_eqb _ _ n, sets, eq-eqb (deferred t (event_index e)) 0 (omega arith), is) (arbitrate-visited _ os _))

    pub happen-visited : Here (happen t e os s)
    unfolding tick arbitrate_marked evaluations
    happen-visited =
        happen-cases Here t e os s
        (λ k. rw k (arbitrate-visited _ os _))
        (λ k. request-visited (event_value e) (λ z. omega arith) (rw k) (rw k))
        (λ k. request-visited 1 (λ z. omega arith) (rw k) (rw k))
        (λ k. rw (
          ne_eqb (event_kind e) event_tick (λ z. omega arith),
          ne_eqb (event_kind e) event_mode (λ z. omega arith),
          ne_eqb (event_kind e) event_request (λ z. omega arith),
        ) none-visited)

-- The bounds.

evaluations_by-within : (t : List ℕ) (q : ℕ → Bool) (s ws : List ℕ) → evaluations_by t q s ws ≤ rules t + length ws
unfolding evaluations_by
evaluations_by-within t q s ws = let a = rules-within t q (unmark_ports t q s) in let b = results-within ws in omega arith

pub evaluations-within : (t : List ℕ) (e : ℕ) (s ws : List ℕ) → evaluations t e s ws ≤ rules t + length ws
unfolding evaluations
evaluations-within t e s ws =
    split (eqb (event_kind e) event_tick) (λ a. rw a (evaluations_by-within t _ _ ws))
    (λ a. split (sets_port e && eqb (deferred t (event_index e)) 0) (λ b. rw (a, b) (evaluations_by-within t _ _ ws)) (λ b. rw (a, b) (omega arith)))

module _ (t : List ℕ) (f : Facts t) (e : ℕ) (os s : List ℕ) where
  happen-counted : (happen t e os s).visits ≤ 127 * (rules t + length (happen t e os s).words)
  happen-counted = let a = (happen-visited t f os s e).most in let b = evaluations-within t e s (happen t e os s).words in omega arith

  happen-within : (happen t e os s).visits ≤ 127 * (rules t + bound t)
  happen-within = let a = happen-counted in let b = happen-paid t f e os s in omega arith

  -- so the count fits 32 bits
  pub happen-most : (happen t e os s).visits ≤ 552704
  happen-most = let a = happen-within in let b = f.counts.rules in let c = f.cost in omega arith

module _ (t s : List ℕ) (room : ℕ) (os : List ℕ) (e : ℕ) where
  -- of R and the words that are written
  pub step-counted : (step t s room os e).visits ≤ 127 * (rules t + length (step t s room os e).words)
  step-counted =
      step-cases (λ r. r.visits ≤ 127 * (rules t + length r.words)) t s room os e (λ k a. omega arith)
      (λ c w. happen-counted t (facts t c.table) e (heeded t os) s)

  -- "at most 127 times the sum of R and B"
  pub step-within : (step t s room os e).visits ≤ 127 * (rules t + bound t)
  step-within =
      step-cases (λ r. r.visits ≤ 127 * (rules t + bound t)) t s room os e (λ k a. omega arith)
      (λ c w. happen-within t (facts t c.table) e (heeded t os) s)

  -- "so never above 552,704", whatever is handed in
  pub step-most : (step t s room os e).visits ≤ 552704
  step-most =
      step-cases (λ r. r.visits ≤ 552704) t s room os e (λ k a. omega arith) (λ c w. happen-most t (facts t c.table) e (heeded t os) s)

-- of a play, event by event
pub play-most : (t : List ℕ) → accepted t ≡ true → (es s : List ℕ) (room : ℕ) → fits t s ≡ true
    → (play_on t es s room).visits ≤ 552704 * (play_on t es s room).taken
play-most t ok =
    play-cases t ok (λ es s room p. p.visits ≤ 552704 * p.taken) (λ s room f. omega arith) (λ e es s room f h. omega arith)
    (λ e es s room f h n a b. omega arith)
    (λ e es s room k i. let a = happen-most t (facts t ok) e [] s in omega arith)
