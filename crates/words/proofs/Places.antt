-- Which part stands at a place, by the places of the sections in a layout. Assumes nothing.
use Prim.Native.Nat.{ℕ, ◌-◌, ◌/◌, ◌%◌, ◌<◌, ◌≤◌}
use mathlib.Core.Path.{◌≡◌, sym}
use mathlib.Core.List.{List}
use native.Mathlib.Omega.{arith}
use borrow.Author.Tests.{eq-eqb, ne_eqb}
use Rattle.rulebook.specs.Table.{expressions_from}
use Rattle.rulebook.specs.Table.{in_header, at_port, at_network, at_waits, at_source, at_expression, at_rule, at_list, at_item, part}
use Rattle.rulebook.specs.Words.{digit}
use Rattle.laws.proofs.Parts.{in-header, in-ports, in-networks, in-sources, in-expressions, in-rules, in-lists, in-items, no-list-before}
use Rattle.words.specs.declared.sections.Layout.{Layout}
use Rattle.words.specs.Sections.{Laid}

module _ (t : List ℕ) (h : Layout) (laid : Laid t h) (i : ℕ) where
  pub header-part : i < 3 → in_header ≡ part t i
  header-part b = sym (in-header t i b)

  pub port-part : 3 ≤ i → i < h.network0 → at_port (i - 3) ≡ part t i
  port-part a b = sym (in-ports t i a (omega arith))

  pub network-part : h.network0 ≤ i → i < h.source0 → (i - h.network0) % 2 ≡ 0 → at_network ((i - h.network0) / 2) ≡ part t i
  network-part a b e = let n = laid.network0 in rw (n, in-networks t i (omega arith) (omega arith)) (rw (eq-eqb _ 0 (rw n at e)))

  pub waits-part : h.network0 ≤ i → i < h.source0 → ((i - h.network0) % 2 ≡ 0 → ⊥) → at_waits ((i - h.network0) / 2) ≡ part t i
  waits-part a b e = let n = laid.network0 in rw (n, in-networks t i (omega arith) (omega arith)) (rw (ne_eqb _ 0 (rw n at e)))

  pub source-part : h.source0 ≤ i → i < h.expression0 → at_source (i - h.source0) ≡ part t i
  source-part a b = rw laid.source0 (sym (in-sources t i (omega arith) (omega arith)))

  pub expression-part : h.expression0 ≤ i → i < h.rule0 → at_expression (i - h.expression0) ≡ part t i
  expression-part a b = rw laid.expression0 (sym (in-expressions t i (omega arith) (omega arith)))

  pub rule-part : h.rule0 ≤ i → i < h.list0 → at_rule (i - h.rule0) ≡ part t i
  rule-part a b = rw laid.rule0 (sym (in-rules t i (omega arith) (omega arith)))

  pub list-part : h.list0 ≤ i → i < h.item0 → at_list (i - h.list0) ≡ part t i
  list-part a b = rw laid.list0 (sym (in-lists t i (omega arith) (omega arith)))

  -- no list stands before the lists
  pub before-lists : (l : ℕ) → i < h.list0 → part t i ≡ at_list l → ⊥
  before-lists l b = no-list-before t i l (omega arith)

  pub item-part : h.item0 ≤ i → at_item (i - h.item0) ≡ part t i
  item-part a = rw laid.item0 (sym (in-items t i (omega arith)))

-- the expressions start within the first 1,024 words, by the widths of the counts before them
pub expressions-near : (t : List ℕ) → expressions_from t < 1024
unfolding digit
expressions-near t = omega arith
