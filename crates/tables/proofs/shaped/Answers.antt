-- `tables::shaped` meets its promise: the first of the four rules that is broken, or the table. Assumes nothing.
use mathlib.Core.Path.{sym, ◌∙◌}
use borrow.Author.Tests.{le-leb, lt-leb, eq-eqb, ne_eqb}
use Rattle.rulebook.specs.Reasons.{has_header, exact_length}
use Rattle.tables.proofs.Shapes.{short, unknown, outside, inexact, reason-none, reason-first}
use Rattle.tables.proofs.shaped.Goals as goal

pub returns-then-t-lt3 : goal.returns-then-t-lt3
unfolding has_header
returns-then-t-lt3 c = record { reason = sym (reason-first _ 1 (short _ (lt-leb 3 _ c.if-t-lt3.true))); table = tt }

pub returns-then-not-known_edition : goal.returns-then-not-known_edition
unfolding has_header
returns-then-not-known_edition c =
    let header = le-leb 3 _ c.if-t-lt3.false in
    let unlike = sym (rw c.read-table.ensures.0 at c.known_edition.ensures) ∙ c.if-not-known_edition.true in
    record { reason = sym (reason-first _ 2 (unknown _ header unlike)); table = tt }

pub returns-then-not-counts_inside : goal.returns-then-not-counts_inside
unfolding has_header
returns-then-not-counts_inside c =
    let header = le-leb 3 _ c.if-t-lt3.false in
    let edition = sym (rw c.read-table.ensures.0 at c.known_edition.ensures) ∙ c.if-not-known_edition.false in
    let beyond = sym (rw c.read-table.ensures.0 at c.counts_inside.ensures) ∙ c.if-not-counts_inside.true in
    record { reason = sym (reason-first _ 3 (outside _ header edition beyond)); table = tt }

pub returns-then-t-length : goal.returns-then-t-length
unfolding exact_length has_header
returns-then-t-length c =
    let header = le-leb 3 _ c.if-t-lt3.false in
    let edition = sym (rw c.read-table.ensures.0 at c.known_edition.ensures) ∙ c.if-not-known_edition.false in
    let counts = sym (rw c.read-table.ensures.0 at c.counts_inside.ensures) ∙ c.if-not-counts_inside.false in
    let length = rw c.read-table.ensures.0 at c.length.ensures in
    record { reason = sym (reason-first _ 4 (inexact _ header edition counts (ne_eqb _ _ (λ e. c.if-t-length.true (e ∙ sym length))))); table = tt }

pub returns : goal.returns
unfolding exact_length has_header
returns c =
    let length = rw c.read-table.ensures.0 at c.length.ensures in
    record {
      reason = sym
          (reason-none _
          (record {
            header = le-leb 3 _ c.if-t-lt3.false;
            edition = sym (rw c.read-table.ensures.0 at c.known_edition.ensures) ∙ c.if-not-known_edition.false;
            counts = sym (rw c.read-table.ensures.0 at c.counts_inside.ensures) ∙ c.if-not-counts_inside.false;
            exact = eq-eqb _ _ (c.if-t-length.false ∙ length);
          }));
      table = c.read-table.ensures.0;
    }
