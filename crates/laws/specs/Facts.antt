-- What an accepted table gives, number by number: names, kinds, nesting, owners, cost. Theorems and the code's proofs use this
-- record, never the check.
use Rattle.std.specs.Prelude.{◌≡◌, true, false, List, ℕ, ◌+◌, ◌≤◌, ◌<◌, length}
use Rattle.rulebook.specs.Table.{ports, networks, sources, expressions, rules, lists, items, table_length}
use Rattle.rulebook.specs.Table.{port_owner, network_owner, network_port, l1, l2, e_ticks, source_owner, source_port}
use Rattle.rulebook.specs.Table.{first_result, rule_expression, true_list, false_list, list_owner, first_item, item_count}
use Rattle.rulebook.specs.Expressions.{deepest, expression_within}
use Rattle.rulebook.specs.Reasons.{port_fields, item_fields, held, may_show, expression_names, list_or_none, item_names, list_within, rule_owned, item_owned, bound}

pub record Counts (t : List ℕ) : Type 0 where
  pub someports : 1 ≤ ports t
  pub ports : ports t ≤ 64
  pub networks : networks t ≤ 8
  pub sources : sources t ≤ 32
  pub expressions : expressions t ≤ 512
  pub rules : rules t ≤ 256
  pub lists : lists t ≤ 255
  pub items : items t ≤ 2047

pub record Waits (t : List ℕ) (n : ℕ) : Type 0 where
  pub l1 : 1 ≤ l1 t n
  pub l2 : 1 ≤ l2 t n
  pub eticks : 1 ≤ e_ticks t n

-- the port that network n, or source n, has: it may be shown on, no earlier one has it, it has the same owner
pub record Shows (t : List ℕ) (p owner n k : ℕ) : Type 0 where
  pub may : may_show t p ≡ true
  pub alone : held t p n k ≡ false
  pub owned : owner ≡ port_owner t p

pub record RuleFacts (t : List ℕ) (r : ℕ) : Type 0 where
  pub result : first_result t r ≤ 2
  pub expression : rule_expression t r < expressions t
  pub when_true : list_or_none t (true_list t r) ≡ true
  pub when_false : list_or_none t (false_list t r) ≡ true
  pub owned : rule_owned t r ≡ true

pub record ListFacts (t : List ℕ) (l : ℕ) : Type 0 where
  pub some : 1 ≤ item_count t l
  pub range : first_item t l + item_count t l ≤ items t
  pub nested : list_within deepest t l ≡ true
  pub owned : (i : ℕ) → first_item t l ≤ i → i < first_item t l + item_count t l → item_owned t (list_owner t l) i ≡ true

-- every list keeps rule 7
abbrev pub Nested : List ℕ → Type 0
Nested t = (l : ℕ) → l < lists t → list_within deepest t l ≡ true

pub record Facts (t : List ℕ) : Type 0 where
  pub counts : Counts t
  pub exact : length t ≡ table_length t
  pub port : (p : ℕ) → p < ports t → port_fields t p ≡ true
  pub network : (n : ℕ) → n < networks t → Shows t (network_port t n) (network_owner t n) n 0
  pub waits : (n : ℕ) → n < networks t → Waits t n
  pub source : (k : ℕ) → k < sources t → Shows t (source_port t k) (source_owner t k) (networks t) k
  pub expression : (e : ℕ) → e < expressions t → (expression_names t e ≡ true) × (expression_within deepest t e ≡ true)
  pub rule : (r : ℕ) → r < rules t → RuleFacts t r
  pub list : (l : ℕ) → l < lists t → ListFacts t l
  pub item : (i : ℕ) → i < items t → (item_fields t i ≡ true) × (item_names t i ≡ true)
  pub cost : bound t ≤ 4096
