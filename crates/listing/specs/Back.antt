-- There and back, each said of calls: of every result that the promises of `list` and `read` allow. Proved in proofs/Back, proofs/Window and proofs/Named.
use Rattle.std.specs.Prelude.{ℕ, ◌*◌, ◌≤◌, ◌<◌, ◌≡◌, cond, List, [], ◌∷◌, ◌++◌, ◌↔◌, length, take, drop, eqb, Result, Ok, Err}
use Rattle.rulebook.specs.Words.{word, between}
use Rattle.rulebook.specs.Table
use Rattle.rulebook.specs.Table.{Part, in_header, at_port, at_network, at_waits, at_source, at_expression, at_rule, at_list, at_item, part}
use Rattle.rulebook.specs.Reasons.{check}
use Rattle.rulebook.specs.Expressions.{operator}
use Rattle.rulebook.specs.Listing.{by_kind, form_at, fields_of, shape_reason}
use Rattle.listing.specs.declared.reading.Unread.{Unread}
use Rattle.listing.specs.declared.reading.Unread.TheVariants as unread
use Rattle.listing.specs.Lines.{listing, Listable, ListingOf, BadLine}
use Rattle.listing.specs.Promises.{ListsIn, Reads}

-- "Reading a listing gives the same words", for every table that lists
abbrev pub ReadsBack : Type 0
ReadsBack = (t lent : List ℕ) (r : Result ℕ Unread) (lent' : List ℕ) → Listable t → length t ≤ length lent → Reads (listing t) lent r lent'
    → (r ≡ Ok (length t)) × (lent' ≡ t ++ drop (length t) lent)

-- "listing what was read gives the same bytes", for every text that reads
pub record SameBytes (text : List ℕ) (k m : ℕ) (out' : List ℕ) : Type 0 where
  pub answer : k ≡ 0
  pub count : m ≡ length text
  pub bytes : take m out' ≡ text

abbrev pub ListsBack : Type 0
ListsBack = (text lent : List ℕ) (n : ℕ) (lent' out : List ℕ) (k m : ℕ) (out' : List ℕ) → Reads text lent (Ok n) lent'
    → ListsIn (take n lent') out k m out' → length text ≤ length out
    → SameBytes text k m out'

-- "The reader accepts exactly the listings": a text is refused with a line exactly if it is no listing
abbrev pub AcceptsExactly : Type 0
AcceptsExactly = (text lent : List ℕ) (r : Result ℕ Unread) (lent' : List ℕ) → Reads text lent r lent'
    → ((k : ℕ) → r ≡ Err (unread.Line k) → ⊥) ↔ ((t : List ℕ) × ListingOf text t)

-- two results that a promise allows are equal

abbrev pub OneReading : Type 0
OneReading = (text lent : List ℕ) (r s : Result ℕ Unread) (a b : List ℕ) → Reads text lent r a → Reads text lent s b → (r ≡ s) × (a ≡ b)

abbrev pub OneListing : Type 0
OneListing = (t out : List ℕ) (k n l m : ℕ) (a b : List ℕ) → ListsIn t out k n a → ListsIn t out l m b → (k ≡ l) × (n ≡ m) × (a ≡ b)

-- "Writing is refused with reason 1 to 4 where one holds": the reason that the table check gives, where it is one of these
abbrev pub CheckReason : Type 0
CheckReason = (t : List ℕ) → shape_reason t ≡ cond (between 1 4 (check t).reason) (check t).reason 0

-- No listing is longer than this, so a text may be read through a window that is longer: what stands behind it changes no bad line, and a text that
-- goes on behind it is no listing.

abbrev pub longest : ℕ
longest = 47 * 3185

abbrev pub Window : Type 0
Window = (text : List ℕ) (window : ℕ) → longest < window → window ≤ length text
    → ((k : ℕ) → BadLine (take window text) k → BadLine text k) × ((t : List ℕ) → ListingOf (take window text) t → ⊥)

-- "all fields .. in document 01's order": the fields of each word by document 01's names

abbrev pub header_fields : List ℕ → ℕ → List ℕ
header_fields t i =
    cond (between 0 0 i) (Table.edition t ∷ Table.ports t ∷ Table.networks t ∷ Table.sources t ∷ [])
    (cond (between 1 1 i) (Table.expressions t ∷ Table.rules t ∷ []) (Table.lists t ∷ Table.items t ∷ []))

unfoldable pub named : List ℕ → ℕ → Part → List ℕ
named t i in_header = header_fields t i
named t i (at_port p) =
    Table.port_kind t p ∷ Table.deferred t p ∷ Table.has_initial t p ∷ Table.port_owner t p ∷ Table.initial t p ∷ Table.reload t p ∷ []
named t i (at_network n) = Table.network_owner t n ∷ Table.network_port t n ∷ Table.threshold t n ∷ Table.network_zero t n ∷ []
named t i (at_waits n) = Table.l1 t n ∷ Table.l2 t n ∷ Table.e_ticks t n ∷ []
named t i (at_source k) = Table.source_owner t k ∷ Table.source_port t k ∷ Table.timeout t k ∷ Table.source_zero t k ∷ []
named t i (at_expression e) =
    cond (operator t e) (Table.expression_kind t e ∷ Table.left t e ∷ Table.right t e ∷ [])
    (Table.expression_kind t e ∷ Table.condition_port t e ∷ Table.condition_value t e ∷ Table.condition_zero t e ∷ [])
named t i (at_rule r) =
    Table.rule_owner t r ∷ Table.first_result t r ∷ Table.nested_only t r ∷ Table.rule_expression t r ∷ Table.true_list t r ∷ Table.false_list t r ∷ []
named t i (at_list l) = Table.list_owner t l ∷ Table.triggered t l ∷ Table.priority t l ∷ Table.first_item t l ∷ Table.item_count t l ∷ []
named t i (at_item a) =
    cond (eqb (Table.edition t) 2) (Table.item_kind t a ∷ Table.abort t a ∷ Table.item_a t a ∷ Table.item_b t a ∷ [])
    (Table.item_kind t a ∷ Table.item_a t a ∷ Table.item_b t a ∷ [])

abbrev pub FieldsNamed : Type 0
FieldsNamed = (t : List ℕ) (i : ℕ) → fields_of (by_kind (form_at t i) (word t i)) (word t i) ≡ named t i (part t i)
