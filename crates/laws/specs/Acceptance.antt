-- "A table is accepted exactly if document 01's rules hold of it": the ten rules as statements, in the order of their reasons (10 before
-- 9), and what it is for reason k to be given at place p.
use Rattle.std.specs.Prelude.{◌≡◌, Bool, true, false, ◌&&◌, not, List, ◌∷◌, ℕ, ◌<◌, length, ltb, eqb}
use Rattle.rulebook.specs.Table.{Part, part}
use Rattle.rulebook.specs.Reasons.{has_header, known_edition, counts_inside, exact_length, own_fields, names, nesting, owners, reached, affordable}
use Rattle.rulebook.specs.Reasons.{breaks}
use Rattle.rulebook.specs.Reasons.{Link, of_table, of_words, reason_of, reasons}

-- every word of the table keeps a rule
abbrev pub Everywhere : (List ℕ → Part → Bool) → List ℕ → Type 0
Everywhere rule t = (i : ℕ) → i < length t → rule t (part t i) ≡ true

pub record Rules (t : List ℕ) : Type 0 where
  pub header : has_header t ≡ true
  pub edition : known_edition t ≡ true
  pub counts : counts_inside t ≡ true
  pub exact : exact_length t ≡ true
  pub fields : Everywhere own_fields t
  pub named : Everywhere names t
  pub nested : Everywhere nesting t
  pub owned : Everywhere owners t
  pub reached : Everywhere reached t
  pub cost : affordable t ≡ true

-- Word i breaks a rule. A rule of the whole table is broken, if at all, at place 0.
unfoldable pub broken : Link → List ℕ → ℕ → Bool
broken (of_table k rule) t i = not (rule t) && eqb i 0
broken (of_words k rule) t i = ltb i (length t) && breaks rule t i

-- reason k at place p, of rules in their order: no earlier rule is broken anywhere, and p is the lowest word that breaks rule k
pub data GivenBy (t : List ℕ) (k p : ℕ) : List Link → Type 0 where
  here : {link : Link} {links : List Link} → reason_of link ≡ k → broken link t p ≡ true → ((j : ℕ) → j < p → broken link t j ≡ false)
      → GivenBy t k p (link ∷ links)
  later : {link : Link} {links : List Link} → ((i : ℕ) → broken link t i ≡ false) → GivenBy t k p links → GivenBy t k p (link ∷ links)

abbrev pub Given : List ℕ → ℕ → ℕ → Type 0
Given t k p = GivenBy t k p reasons
