-- What a network is asked after an arbitration is what the last trace word that asks it asks for. Assumes nothing.
use mathlib.Core.Path.{◌≡◌, refl, sym, ◌∙◌, ap}
use mathlib.Core.Bool.{Bool, false, cond, and-false}
use mathlib.Core.List.{List, [], ◌∷◌, ◌++◌}
use Prim.Native.Nat.{ℕ, ◌%◌, ◌≤◌, ◌<◌}
use native.Mathlib.Omega.{arith}
use native.Mathlib.Nat.{mod-eq_of_lt}
use lib.ListN.{set}
use lib.Seq.{get_or-set_other}
use lib.Dec.{eqb}
use borrow.Author.Tests.{eqb-true, eqb-false, eq-eqb, ne_eqb, not-false}
use Rattle.rulebook.specs.Table.{ports, networks, rules, items, port_event, port_timer, list_owner, item_kind, item_a, item_b, item_ask, item_rule}
use Rattle.rulebook.specs.State.{rule_index, network_index, undefined_result, asked_full, Network, network_of}
use Rattle.rulebook.specs.Lists.{Run, trace_list_start, trace_word, set_port, network_in, set_network, effect, act, set_result, judge, trace_kind, trace_a, trace_b}
use Rattle.rulebook.specs.Arbitration.{unmark_port, unmark_ports, store_result, store_results, evaluated, arbitrate}
use Rattle.laws.specs.Facts.{Facts}
use Rattle.laws.proofs.Tests.{split, or-none}
use Rattle.laws.proofs.Walks.{each_keeps}
use Rattle.laws.proofs.Fields.{digit-small, trace-kind, trace-a, trace-b}
use Rattle.laws.proofs.Items.{clear-there, start-there, stop-there, ask-there, rule-there, mode_small, port-there, result-small}
use Rattle.laws.proofs.Cases.{effect-cases}
use Rattle.laws.proofs.Runs.{item-there, KeptByActs, decide-keeps, effect-keeps, unmark-keeps, store_keeps}
use Rattle.laws.proofs.FitKept.{Fits, fit-kept}
use Rattle.stranger.specs.Demand.{asks, asks_other, any_word, last_asked}
use Rattle.stranger.proofs.Arbitrated.{asked-word}

-- the last word decides
last_more : (n m : ℕ) (ws : List ℕ) (w : ℕ) → last_asked n m (ws ++ (w ∷ [])) ≡ cond (asks n w) (trace_b w) (last_asked n m ws)
unfolding last_asked
last_more n m [] w = refl
last_more n m (x ∷ xs) w = last_more n (cond (asks n x) (trace_b x) m) xs w

-- a word of another kind, or for another network, asks n for nothing
other-kind : (n kind o a b : ℕ) → (kind % 16 ≡ item_ask → ⊥) → asks n (trace_word kind o a b) ≡ false
unfolding asks
other-kind n kind o a b d = rw (trace-kind kind o a b, ne_eqb (kind % 16) item_ask d)

other-network : (n kind o a b : ℕ) → a < 256 → (n ≡ a → ⊥) → asks n (trace_word kind o a b) ≡ false
unfolding asks
other-network n kind o a b a₈ d = rw (trace-a kind o a b, mod-eq_of_lt a₈, ne_eqb a n (λ z. d (sym z)), and-false)

module _ (t : List ℕ) (f : Facts t) (n : ℕ) (b : n < networks t) (m : ℕ) where
  -- asked for what the words last asked for, m before any of them
  abbrev AskedLast : Run → Type 0
  AskedLast x = Fits t x.state × ((network_in t n x.state).asked ≡ last_asked n m x.words)

  other_word : (s : List ℕ) (j w : ℕ) → (network_index t n ≡ j → ⊥) → network_in t n (set s j w) ≡ network_in t n s
  other_word s j w d = ap network_of (get_or-set_other s j (network_index t n) w 0 d)

  -- one word more that asks n for nothing
  one_more : (x : Run) (w : ℕ) → asks n w ≡ false → (network_in t n x.state).asked ≡ last_asked n m x.words
      → (network_in t n x.state).asked ≡ last_asked n m (x.words ++ (w ∷ []))
  one_more x w quiet q = q ∙ sym (last_more n m x.words w ∙ rw quiet)

  effect-asked : (o i : ℕ) (x : Run) → i < items t → Fits t x.state → (network_in t n x.state).asked ≡ last_asked n m x.words
      → (network_in t n (effect t i x.state)).asked ≡ last_asked n m (x.words ++ (trace_word (item_kind t i) o (item_a t i) (item_b t i) ∷ []))
  unfolding set_port
  effect-asked o i x h fit q =
      let named = (f.item i h).1 in
      let w = trace_word (item_kind t i) o (item_a t i) (item_b t i) in
      let small : item_kind t i % 16 ≡ item_kind t i = mod-eq_of_lt (digit-small _ 16 _ (omega arith)) in
      let kind : (k : ℕ) → item_kind t i ≡ k → (k ≡ item_ask → ⊥) → asks n w ≡ false = λ k e d. other-kind n (item_kind t i) o (item_a t i) (item_b t i)
      (λ z. d (sym e ∙ sym small ∙ z)) in
      effect-cases (λ y. (network_in t n y).asked ≡ last_asked n m (x.words ++ (w ∷ []))) t i x.state
      (λ e. let there = port-there t port_event (item_a t i) (clear-there t i named e) in ap (λ (c : Network). c.asked)
      (other_word x.state (item_a t i) _ (λ z. omega arith)) ∙ one_more x w (kind _ e (λ z. omega arith)) q)
      (λ e. let there = port-there t port_timer (item_a t i) (start-there t i named e) in ap (λ (c : Network). c.asked)
      (other_word x.state (item_a t i) _ (λ z. omega arith)) ∙ one_more x w (kind _ e (λ z. omega arith)) q)
      (λ e. let there = port-there t port_timer (item_a t i) (stop-there t i named e) in ap (λ (c : Network). c.asked)
      (other_word x.state (item_a t i) _ (λ z. omega arith)) ∙ one_more x w (kind _ e (λ z. omega arith)) q)
      (λ e. let there = ask-there t i named e in let few = f.counts.networks in let two = mode_small t i (f.item i h).0 e in
      split (eqb n (item_a t i))
      (λ z. let same : n ≡ item_a t i = eqb-true _ _ z in
      rw (← same) (ap (λ (c : Network). c.asked) (asked-word t x.state n (item_b t i) b two fit) ∙ sym
      (last_more n m x.words _ ∙ asked-so o i e two same)))
      (λ z. ap (λ (c : Network). c.asked) (ask-elsewhere x.state (item_a t i) _ (eqb-false _ _ z)) ∙ one_more x w
      (other-network n (item_kind t i) o (item_a t i) (item_b t i) (omega arith) (eqb-false _ _ z)) q))
      (λ e. one_more x w (other-kind n (item_kind t i) o (item_a t i) (item_b t i) (λ z. e (sym small ∙ z))) q)
    where
      ask-elsewhere : (s : List ℕ) (k : ℕ) (c : Network) → (n ≡ k → ⊥) → network_in t n (set_network t k c s) ≡ network_in t n s
      ask-elsewhere s k c d = unfold set_network in other_word s (network_index t k) _ (λ u. d (omega arith))

      asked-so : (o i : ℕ) → item_kind t i ≡ item_ask → item_b t i ≤ 2 → n ≡ item_a t i
          → cond (asks n (trace_word (item_kind t i) o n (item_b t i))) (trace_b (trace_word (item_kind t i) o n (item_b t i))) (last_asked n m x.words) ≡ item_b t i
      asked-so o i e two same =
          unfold asks in
          let few = f.counts.networks in
          let is : trace_b (trace_word (item_kind t i) o n (item_b t i)) ≡ item_b t i = trace-b (item_kind t i) o n (item_b t i) ∙ mod-eq_of_lt (omega arith) in
          let for : trace_a (trace_word (item_kind t i) o n (item_b t i)) ≡ n = trace-a (item_kind t i) o n (item_b t i) ∙ mod-eq_of_lt (omega arith) in
          let what : trace_kind (trace_word (item_kind t i) o n (item_b t i)) ≡ item_ask = trace-kind (item_kind t i) o n (item_b t i) ∙ rw e in
          rw (what, for, is, eq-eqb n n refl)

  asked-acts : KeptByActs t AskedLast
  unfolding act judge set_result
  asked-acts =
      record {
        list_start = λ l x h q. (q.0, one_more x _ (other-kind n trace_list_start (list_owner t l) l 0 (λ z. omega arith)) q.1);
        act = λ l i x w g h q. (
          effect-keeps t f (Fits t) (fit-kept t f) i x.state (item-there t f l i w) q.0,
          effect-asked (list_owner t l) i x (item-there t f l i w) q.0 q.1,
        );
        undefined = λ l i x w e q. (q.0, one_more x _ (other-kind n item_rule (list_owner t l) (item_a t i) undefined_result (λ z. omega arith)) q.1);
        judge = λ l i x w e u q. let there = rule-there t i (f.item i (item-there t f l i w)).1 e in (
          (fit-kept t f).store (item_a t i) _ x.state there (result-small t x.state (item_a t i)) q.0,
          ap (λ (c : Network). c.asked) (other_word x.state (rule_index t (item_a t i)) _ (λ z. omega arith)) ∙ one_more x _
              (other-kind n item_rule (list_owner t l) (item_a t i) _ (λ z. omega arith)) q.1,
        );
      }

  before-lists : (q : ℕ → Bool) (s : List ℕ) → network_in t n (store_results t q (unmark_ports t q s)) ≡ network_in t n s
  unfolding store_results store_result unmark_ports unmark_port set_result
  before-lists q s =
      each_keeps (λ x. network_in t n x ≡ network_in t n s) (store_result t q (unmark_ports t q s)) 0 (rules t) _
      (λ r x a c h. split (evaluated t q (unmark_ports t q s) r) (λ e. rw e (other_word x (rule_index t r) _ (λ z. omega arith) ∙ h)) (λ e. rw e h))
      (each_keeps (λ x. network_in t n x ≡ network_in t n s) (unmark_port q) 0 (ports t) s
      (λ p x a c h. split (q p) (λ e. rw e (other_word x p _ (λ z. omega arith) ∙ h)) (λ e. rw e h)) refl)

  pub asked-last : (q : ℕ → Bool) (os s : List ℕ) → Fits t s → (network_in t n s).asked ≡ m
      → (network_in t n (arbitrate t q os s).state).asked ≡ last_asked n m (arbitrate t q os s).words
  unfolding arbitrate last_asked
  asked-last q os s fit is =
      (decide-keeps t f AskedLast asked-acts q os (unmark_ports t q s) (
        store_keeps t f (Fits t) (fit-kept t f) q _ (unmark-keeps t f (Fits t) (fit-kept t f) q s fit),
        ap (λ (c : Network). c.asked)
            (before-lists q s) ∙ is,
      )).1

-- full, if that was asked before and no word asks for another mode
pub full-last : (n : ℕ) (ws : List ℕ) → any_word (asks_other n) ws ≡ false → last_asked n asked_full ws ≡ asked_full
unfolding last_asked any_word
full-last n [] h = refl
full-last n (w ∷ ws) h =
    let o = or-none (asks_other n w) (any_word (asks_other n) ws) h in
    rw (asks-full n w o.0) (full-last n ws o.1)
  where
    asks-full : (n w : ℕ) → asks_other n w ≡ false → cond (asks n w) (trace_b w) asked_full ≡ asked_full
    asks-full n w fulls =
        unfold asks_other in
        split (asks n w)
        (λ e. rw e (eqb-true (trace_b w) asked_full (not-false (eqb (trace_b w) asked_full) (rw e at fulls))))
        (λ e. rw e)
