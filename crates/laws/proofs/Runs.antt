-- What every single act of a run keeps, a whole run keeps: once for statements of runs, and once for statements of states, kind of
-- write by kind of write. Assumes nothing.
use mathlib.Core.Path.{◌≡◌}
use mathlib.Core.Bool.{Bool, false}
use mathlib.Core.List.{List, [], ◌∷◌}
use Prim.Native.Nat.{ℕ, zero, suc, ◌+◌, ◌≤◌, ◌<◌}
use native.Mathlib.Omega.{arith}
use lib.ListN.{set}
use lib.Dec.{eqb}
use Rattle.rulebook.specs.Words.{word}
use Rattle.rulebook.specs.Table.{ports, networks, rules, lists, items, port_kind, port_event, port_timer, reload, no_list, list_owner, first_item, item_count}
use Rattle.rulebook.specs.Table.{item_kind, item_a, item_b, item_list, item_rule}
use Rattle.rulebook.specs.State.{timer_stopped, timer_started, undefined_result}
use Rattle.rulebook.specs.Lists.{Run, start, visit, emit, trace_word, trace_list_start, set_port, network_in, asking, set_network, effect, act, stops}
use Rattle.rulebook.specs.Lists.{unready, choice_in}
use Rattle.rulebook.specs.Lists.{choice, set_result, judge, run_choice, run_rule, run_item, run_items, run_list}
use Rattle.rulebook.specs.Arbitration.{unmarked, unmark_port, unmark_ports, evaluated, store_result, store_results, rule_visits, chosen, order}
use Rattle.rulebook.specs.Arbitration.{run_if, run_chosen, decide, arbitrate}
use Rattle.laws.specs.Facts.{Facts}
use Rattle.laws.proofs.Tests.{split}
use Rattle.laws.proofs.Walks.{each_keeps, until-keeps}
use Rattle.laws.proofs.Items.{clear-there, start-there, stop-there, ask-there, list-there, rule-there, mode_small, port-there, kind-is, result-small}
use Rattle.laws.proofs.Items.{choice-there}
use Rattle.laws.proofs.Cases.{item-list, item-rule, item-act, item-cases, rule-unready, rule-ready, choice-none, choice-some, if-chosen, if-not}
use Rattle.laws.proofs.Cases.{effect-cases}
use Rattle.laws.specs.Sequence.{Each}
use Rattle.laws.proofs.Order.{order-there}

-- item i stands in list l
pub record Within (t : List ℕ) (l i : ℕ) : Type 0 where
  pub list : l < lists t
  pub from : first_item t l ≤ i
  pub below : i < first_item t l + item_count t l

pub item-there : (t : List ℕ) → Facts t → (l i : ℕ) → Within t l i → i < items t
item-there t f l i w =
    let r : first_item t l + item_count t l ≤ items t = (f.list l w.list).range in
    let b : i < first_item t l + item_count t l = w.below in
    omega arith

pub record KeptByActs (t : List ℕ) (Q : Run → Type 0) : Type 0 where
  pub list_start : (l : ℕ) (x : Run) → l < lists t → Q x → Q (emit (trace_word trace_list_start (list_owner t l) l 0) x)
  pub act : (l i : ℕ) (x : Run) → Within t l i → eqb (item_kind t i) item_list ≡ false → eqb (item_kind t i) item_rule ≡ false → Q x → Q (act t (list_owner t l) i x)
  pub undefined : (l i : ℕ) (x : Run) → Within t l i → item_kind t i ≡ item_rule → Q x
      → Q (emit (trace_word item_rule (list_owner t l) (item_a t i) undefined_result) x)
  pub judge : (l i : ℕ) (x : Run) → Within t l i → item_kind t i ≡ item_rule → unready t x.state (item_a t i) ≡ false → Q x
      → Q (judge t (list_owner t l) (item_a t i) x)

module _ (t : List ℕ) (f : Facts t) (Q : Run → Type 0) (k : KeptByActs t Q) where
  -- what a list that is named keeps
  abbrev pub Keeps : (ℕ → Run → Run) → Type 0
  Keeps below = (l : ℕ) (x : Run) → l < lists t → Q x → Q (below l x)

  pub choice-keeps : (below : ℕ → Run → Run) → Keeps below → (r previous result : ℕ) (x : Run) → r < rules t → Q x
      → Q (run_choice below (choice t r previous result) x)
  choice-keeps below b r previous result x h q =
      split (eqb (choice t r previous result) no_list) (λ e. rw (choice-none below _ x e) q)
      (λ e. rw (choice-some below _ x e) (b _ x (choice-there t r previous result (f.rule r h) e) q))

  pub rule-keeps : (below : ℕ → Run → Run) → Keeps below → (l i : ℕ) (x : Run) → Within t l i → item_kind t i ≡ item_rule → Q x
      → Q (run_rule below t (list_owner t l) (item_a t i) x)
  unfolding choice_in
  rule-keeps below b l i x w e q =
      split (unready t x.state (item_a t i))
      (λ u. rw (rule-unready below t (list_owner t l) (item_a t i) x u) (k.undefined l i x w e q))
      (λ u. rw (rule-ready below t (list_owner t l) (item_a t i) x u)
      (choice-keeps below b (item_a t i) _ _ _ (rule-there t i (f.item i (item-there t f l i w)).1 e) (k.judge l i x w e u q)))

  pub item-keeps : (below : ℕ → Run → Run) → Keeps below → (l i : ℕ) (x : Run) → Within t l i → Q x → Q (run_item below t (list_owner t l) i x)
  item-keeps below b l i x w q =
      item-cases below t (list_owner t l) i
      (λ e g. rw (item-list below t (list_owner t l) i x g) (b (item_a t i) x (list-there t i (f.item i (item-there t f l i w)).1 e) q))
      (λ e g h. rw (item-rule below t (list_owner t l) i x g h) (rule-keeps below b l i x w e q))
      (λ g h. rw (item-act below t (list_owner t l) i x g h) (k.act l i x w g h q))

  pub list-keeps : (d : ℕ) → Keeps (run_list d t)
  unfolding run_list run_items
  list-keeps zero l x h q = q
  list-keeps (suc d) l x h q =
      until-keeps Q (stops t) (run_item (run_list d t) t (list_owner t l)) (first_item t l) (item_count t l) _
      (λ i y a b c. item-keeps (run_list d t) (list-keeps d) l i y (record { list = h; from = a; below = b }) c) (k.list_start l x h q)

  pub chosen-keep : (c : ℕ → Bool) (ls : List ℕ) (x : Run) → Each (λ l. l < lists t) ls → Q x → Q (run_chosen t c ls x)
  unfolding run_chosen
  chosen-keep c [] x e q = q
  chosen-keep c (l ∷ ls) x e q =
      chosen-keep c ls (run_if t c l x) e.1
      (split (c l) (λ h. rw (if-chosen t c l x h) (list-keeps _ l x e.0 q)) (λ h. rw (if-not t c l x h) q))

  pub decide-keeps : (q : ℕ → Bool) (os s : List ℕ) → Q (visit (rule_visits t q s) (start os (store_results t q s))) → Q (decide t q os s)
  unfolding decide
  decide-keeps q os s h = chosen-keep (chosen t q s) (order t) _ (order-there t) h

-- Statements of the state: what each kind of write keeps, an arbitration keeps.

pub record KeptByWrites (t : List ℕ) (P : List ℕ → Type 0) : Type 0 where
  pub clear : (p : ℕ) (s : List ℕ) → p < ports t → port_kind t p ≡ port_event → P s → P (set_port p 1 0 0 s)
  pub timer_start : (p : ℕ) (s : List ℕ) → p < ports t → port_kind t p ≡ port_timer → P s → P (set_port p 1 timer_started (reload t p) s)
  pub stop : (p : ℕ) (s : List ℕ) → p < ports t → port_kind t p ≡ port_timer → P s → P (set_port p 1 timer_stopped 0 s)
  pub ask : (n mode : ℕ) (s : List ℕ) → n < networks t → mode ≤ 2 → P s → P (set_network t n (asking mode (network_in t n s)) s)
  pub store : (r result : ℕ) (s : List ℕ) → r < rules t → result ≤ 1 → P s → P (set_result t r result s)
  pub unmark : (p : ℕ) (s : List ℕ) → p < ports t → P s → P (set s p (unmarked (word s p)))

module _ (t : List ℕ) (f : Facts t) (P : List ℕ → Type 0) (k : KeptByWrites t P) where
  pub effect-keeps : (i : ℕ) (s : List ℕ) → i < items t → P s → P (effect t i s)
  effect-keeps i s h q =
      let named = (f.item i h).1 in
      effect-cases P t i s
      (λ e. let there = clear-there t i named e in k.clear (item_a t i) s (port-there t port_event (item_a t i) there) (kind-is t port_event (item_a t i) there) q)
      (λ e. let there = start-there t i named e in k.timer_start (item_a t i) s (port-there t port_timer (item_a t i) there)
      (kind-is t port_timer (item_a t i) there) q)
      (λ e. let there = stop-there t i named e in k.stop (item_a t i) s (port-there t port_timer (item_a t i) there) (kind-is t port_timer (item_a t i) there) q)
      (λ e. k.ask (item_a t i) (item_b t i) s (ask-there t i named e) (mode_small t i (f.item i h).0 e) q)
      (λ e. q)

  acts-keep : KeptByActs t (λ x. P x.state)
  unfolding act judge
  acts-keep =
      record {
        list_start = λ l x h q. q;
        act = λ l i x w g h q. effect-keeps i x.state (item-there t f l i w) q;
        undefined = λ l i x w e q. q;
        judge = λ l i x w e u q. k.store (item_a t i) _ x.state (rule-there t i (f.item i (item-there t f l i w)).1 e)
            (result-small t x.state (item_a t i)) q;
      }

  pub unmark-keeps : (q : ℕ → Bool) (s : List ℕ) → P s → P (unmark_ports t q s)
  unfolding unmark_ports unmark_port
  unmark-keeps q s h =
      each_keeps P (unmark_port q) 0 (ports t) s
      (λ p x a b c. split (q p) (λ e. rw e (k.unmark p x (omega arith) c)) (λ e. rw e c)) h

  pub store_keeps : (q : ℕ → Bool) (s : List ℕ) → P s → P (store_results t q s)
  unfolding store_results store_result
  store_keeps q s h =
      each_keeps P (store_result t q s) 0 (rules t) s
      (λ r x a b c. split (evaluated t q s r) (λ e. rw e (k.store r _ x (omega arith) (result-small t s r) c)) (λ e. rw e c)) h

  pub arbitrate-keeps : (q : ℕ → Bool) (os s : List ℕ) → P s → P (arbitrate t q os s).state
  unfolding arbitrate
  arbitrate-keeps q os s h =
      decide-keeps t f (λ x. P x.state) acts-keep q os (unmark_ports t q s) (store_keeps q (unmark_ports t q s) (unmark-keeps q s h))
