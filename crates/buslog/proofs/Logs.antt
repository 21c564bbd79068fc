-- A whole log: what refuses its table or its list, or its lines read; and that two results allowed are the same. Assumes nothing.
use Prim.Native.Nat.{ℕ, ◌≤◌}
use mathlib.Core.Path.{◌≡◌, sym, ap, ◌∙◌}
use mathlib.Core.Bool.{Bool, true, false}
use mathlib.Core.List.{List, ◌++◌}
use native.Mathlib.Omega.{arith}
use Rattle.std.specs.Prelude.{Err}
use lib.ListN.{length, take, drop, length-drop, take-append-drop}
use lib.Seq.{length-take-le}
use Rattle.rulebook.specs.Table.{networks}
use Rattle.rulebook.specs.Reasons.{accepted}
use Rattle.rulebook.specs.BusLog as rulebook
use Rattle.rulebook.specs.BusLog.{Reading, unread, names_stand, read_lines, read_log, refused_line}
use Rattle.buslog.specs.declared.reading.Cursor.{Cursor}
use Rattle.buslog.specs.declared.reading.Halt.TheVariants.{BadTable, BadNames}
use Rattle.buslog.specs.declared.reading.Step.{Step}
use Rattle.buslog.specs.Promises.{cursor_as, ReadsLogIn, ReadsLog}
use Rattle.buslog.specs.Inside.{Stops, ReadsTo, reading_of}

-- the list was judged for as many names as the table has networks
pub stand-as : (t names : List ℕ) (count : ℕ) (b : Bool) → count ≡ networks t → b ≡ names_stand count names → names_stand (networks t) names ≡ b
stand-as t names count b n e = sym (e ∙ rw n)

module _ (t names log : List ℕ) (c : Cursor) (out : List ℕ) where
  pub no_table : accepted t ≡ false → (r : Step) → Stops (Err BadTable) c 0 0 r → ReadsLog t names log c out r out
  unfolding read_log refused_line
  no_table e r s =
      record {
        answer = rw (e, s.end);
        line = rw (e, s.end);
        cursor = rw (e, s.cursor);
        count = rw (e, s.events);
        words = rw (e, s.events);
        rest = rw (e, s.bytes);
        bytes = omega (arith, s.bytes);
        inside = omega (arith, s.events);
      }

  module _ (a : accepted t ≡ true) where
    pub no_names : names_stand (networks t) names ≡ false → (r : Step) → Stops (Err BadNames) c 0 0 r → ReadsLog t names log c out r out
    unfolding read_log refused_line
    no_names e r s =
        record {
          answer = rw (a, e, s.end);
          line = rw (a, e, s.end);
          cursor = rw (a, e, s.cursor);
          count = rw (a, e, s.events);
          words = rw (a, e, s.events);
          rest = rw (a, e, s.bytes);
          bytes = omega (arith, s.bytes);
          inside = omega (arith, s.events);
        }

    module _ (e : names_stand (networks t) names ≡ true) (r : Step) (out' : List ℕ)
        (so : ReadsTo (read_lines (length log) t names (length out) (unread (cursor_as c) log)) log out 0 r out') where
      told : read_log t names log (cursor_as c) (length out) ≡ reading_of r out' log
      unfolding read_log
      told = rw (a, e) (sym so.reading)

      pub read : ReadsLog t names log c out r out'
      unfolding refused_line
      read =
          record {
            answer = rw told;
            line = rw told;
            cursor = rw told;
            count = rw (told, length-take-le r.events out' (omega (arith, so.words, so.long)));
            words = rw told (sym (take-append-drop r.events out') ∙ ap (λ (xs : List ℕ). take r.events out' ++ xs) so.kept);
            rest = rw told;
            bytes = so.inside;
            inside = so.words;
          }

-- Two results allowed are the same: answer, line, cursor, counts and every lent word.

pub same_rest : (log : List ℕ) (m m' : ℕ) → m ≤ length log → m' ≤ length log → drop m log ≡ drop m' log → m ≡ m'
same_rest log m m' h h' e = omega (arith, sym (length-drop m log) ∙ ap length e ∙ length-drop m' log)

module _ {t names log : List ℕ} {c : rulebook.Cursor} {out : List ℕ} {k l n m k' l' n' m' : ℕ} {d d' : rulebook.Cursor} {out' out'' : List ℕ}
    (a : ReadsLogIn t names log c out k l n m d out') (b : ReadsLogIn t names log c out k' l' n' m' d' out'') where
  pub one-reading : (k ≡ k') × (l ≡ l') × (n ≡ n') × (m ≡ m') × (d ≡ d') × (out' ≡ out'')
  one-reading =
      let count = a.count ∙ sym b.count in (
        a.answer ∙ sym b.answer,
        a.line ∙ sym b.line,
        count,
        same_rest log m m' a.bytes b.bytes (a.rest ∙ sym b.rest),
        a.cursor ∙ sym b.cursor,
        a.words ∙ rw count (sym b.words),
      )
