-- What a layout says of a table: its counts, with the bounds that their widths give, the places of its sections, and that it is
-- accepted, where that is known.
use Rattle.std.specs.Prelude.{ℕ, ◌≡◌, Bool, true, List, eqb}
use Rattle.rulebook.specs.Table
use Rattle.rulebook.specs.Reasons.{accepted}
use Rattle.words.specs.Field.{Field}
use Rattle.words.specs.declared.sections.Layout.{Layout}
use Rattle.words.specs.declared.sections.Port.{Port}
use Rattle.words.specs.declared.sections.Network.{Network}
use Rattle.words.specs.declared.sections.Waits.{Waits}
use Rattle.words.specs.declared.sections.Source.{Source}
use Rattle.words.specs.declared.sections.Expression.{Expression}
use Rattle.words.specs.declared.sections.Rule.{Rule}
use Rattle.words.specs.declared.sections.List.{List as ListRead}
use Rattle.words.specs.declared.sections.Item.{Item}

pub record Laid (t : List ℕ) (h : Layout) : Type 0 where
  pub ports : Field (Table.ports t) 256 h.ports
  pub networks : Field (Table.networks t) 256 h.networks
  pub sources : Field (Table.sources t) 256 h.sources
  pub expressions : Field (Table.expressions t) 65536 h.expressions
  pub rules : Field (Table.rules t) 65536 h.rules
  pub lists : Field (Table.lists t) 65536 h.lists
  pub items : Field (Table.items t) 65536 h.items
  pub second : h.second ≡ eqb (Table.edition t) 2
  pub network0 : h.network0 ≡ Table.networks_from t
  pub source0 : h.source0 ≡ Table.sources_from t
  pub expression0 : h.expression0 ≡ Table.expressions_from t
  pub rule0 : h.rule0 ≡ Table.rules_from t
  pub list0 : h.list0 ≡ Table.lists_from t
  pub item0 : h.item0 ≡ Table.items_from t
  pub length : h.length ≡ Table.table_length t
  pub accepted : h.accepted ≡ true → accepted t ≡ true

-- What contracts see of a table that was read: its words, and whether it is known to be accepted.
pub record Read : Type 0 where
  pub words : List ℕ
  pub accepted : Bool

-- What is read of a thing by its number: every field of its word, with the bound that its width gives.

pub record PortAt (t : List ℕ) (p : ℕ) (x : Port) : Type 0 where
  pub kind : Field (Table.port_kind t p) 4 x.kind
  pub deferred : Field (Table.deferred t p) 2 x.deferred
  pub has-initial : Field (Table.has_initial t p) 2 x.has_initial
  pub owner : Field (Table.port_owner t p) 16 x.owner
  pub initial : Field (Table.initial t p) 256 x.initial
  pub reload : Field (Table.reload t p) 65536 x.reload

pub record NetworkAt (t : List ℕ) (n : ℕ) (x : Network) : Type 0 where
  pub owner : Field (Table.network_owner t n) 16 x.owner
  pub port : Field (Table.network_port t n) 256 x.port
  pub threshold : Field (Table.threshold t n) 256 x.threshold
  pub zero : Field (Table.network_zero t n) 4096 x.zero

pub record WaitsAt (t : List ℕ) (n : ℕ) (x : Waits) : Type 0 where
  pub l1 : Field (Table.l1 t n) 256 x.l1
  pub l2 : Field (Table.l2 t n) 256 x.l2
  pub e-ticks : Field (Table.e_ticks t n) 65536 x.e_ticks

pub record SourceAt (t : List ℕ) (k : ℕ) (x : Source) : Type 0 where
  pub owner : Field (Table.source_owner t k) 16 x.owner
  pub port : Field (Table.source_port t k) 256 x.port
  pub timeout : Field (Table.timeout t k) 65536 x.timeout
  pub zero : Field (Table.source_zero t k) 16 x.zero

pub record ExpressionAt (t : List ℕ) (e : ℕ) (x : Expression) : Type 0 where
  pub kind : Field (Table.expression_kind t e) 16 x.kind
  pub port : Field (Table.condition_port t e) 256 x.port
  pub value : Field (Table.condition_value t e) 256 x.value
  pub zero : Field (Table.condition_zero t e) 4096 x.zero
  pub left : Field (Table.left t e) 16384 x.left
  pub right : Field (Table.right t e) 16384 x.right

pub record RuleAt (t : List ℕ) (r : ℕ) (x : Rule) : Type 0 where
  pub owner : Field (Table.rule_owner t r) 16 x.owner
  pub first-result : Field (Table.first_result t r) 4 x.first_result
  pub nested-only : Field (Table.nested_only t r) 2 x.nested_only
  pub expression : Field (Table.rule_expression t r) 512 x.expression
  pub true-list : Field (Table.true_list t r) 256 x.true_list
  pub false-list : Field (Table.false_list t r) 256 x.false_list

pub record ListAt (t : List ℕ) (l : ℕ) (x : ListRead) : Type 0 where
  pub owner : Field (Table.list_owner t l) 16 x.owner
  pub triggered : Field (Table.triggered t l) 2 x.triggered
  pub priority : Field (Table.priority t l) 256 x.priority
  pub first-item : Field (Table.first_item t l) 2048 x.first_item
  pub item_count : Field (Table.item_count t l) 256 x.item_count

pub record ItemAt (t : List ℕ) (i : ℕ) (x : Item) : Type 0 where
  pub kind : Field (Table.item_kind t i) 16 x.kind
  pub abort : Field (Table.abort t i) 2 x.abort
  pub a : Field (Table.item_a t i) 4096 x.a
  pub b : Field (Table.item_b t i) 65536 x.b
