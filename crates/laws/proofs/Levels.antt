-- Q-5's sentence holds of every table that keeps the rules. Assumes nothing.
use mathlib.Core.Path.{◌≡◌, sym, ◌∙◌}
use mathlib.Core.Bool.{true}
use mathlib.Core.List.{List}
use Prim.Native.Nat.{ℕ, ◌≤◌, ◌<◌}
use lib.Dec.{ltb, eqb}
use borrow.Author.Tests.{leb-true, ltb-true, eqb-true}
use Rattle.rulebook.specs.Table.{ports, expressions, port_kind, port_mode, expression_kind, condition_port, condition_at_or_above}
use Rattle.rulebook.specs.Lists.{result_in}
use Rattle.rulebook.specs.Reasons.{own_fields, expression_fields, port_of_kind}
use Rattle.rulebook.proofs.AtOrAbove.{at-or-above}
use Rattle.laws.specs.Acceptance.{Rules}
use Rattle.laws.specs.Levels.{Levels}
use Rattle.laws.proofs.Tests.{part_of, and_left, and_right}
use Rattle.laws.proofs.Facts.{at-expression, facts-of}

module _ (t : List ℕ) (kept : Rules t) where
  known : (e : ℕ) → e < expressions t → expression_kind t e ≤ condition_at_or_above
  unfolding own_fields expression_fields
  known e b =
      leb-true (expression_kind t e) condition_at_or_above
      (part_of _ (λ d. rw (expression_fields, d) at (at-expression t (facts-of t kept).exact own_fields kept.fields e b)))

  of-modes : (e : ℕ) → e < expressions t → expression_kind t e ≡ condition_at_or_above
      → (condition_port t e < ports t) × (port_kind t (condition_port t e) ≡ port_mode)
  unfolding port_of_kind
  of-modes e b k =
      let port = condition_port t e in
      let there : port_of_kind t port_mode port ≡ true = sym (at-or-above t e k).names ∙ ((facts-of t kept).expression e b).0 in (
        ltb-true port (ports t) (and_left _ (eqb (port_kind t port) port_mode) there),
        eqb-true (port_kind t port) port_mode (and_right (ltb port (ports t)) _ there),
      )

  pub levels : Levels t
  unfolding result_in
  levels = record { known = known; of_modes = of-modes; gives = λ r s k. rw ((at-or-above t _ k).holds 6 _) }
