-- The part of a table that starts with its expressions: what is read of it, and that every list of words is one, so that two results are
-- equal. Assumes nothing.
use Prim.Native.Nat.{ℕ}
use mathlib.Core.Path.{◌≡◌, refl, ap, sym, ◌∙◌}
use mathlib.Core.Bool.{Bool}
use mathlib.Core.List.{List, ◌∷◌}
use lib.Seq.{get_or-drop}
use Rattle.rulebook.specs.Words.{word, digit}
use Rattle.rulebook.specs.Table.{expressions_from, expression_word}
use Rattle.expression.specs.Section.{Section, MentionsIn}

-- what is read of a table's section is the expression's word
pub section-word : (t x : List ℕ) (e w : ℕ) → Section t x → w ≡ word x e → w ≡ expression_word t e
section-word t x e w h hw = hw ∙ ap (λ (ws : List ℕ). word ws e) h ∙ get_or-drop (expressions_from t) t e 0

-- Every list of words is the section of some table, so two results of a part of a table are equal.

abbrev pub under : List ℕ → List ℕ
under x = 0 ∷ 0 ∷ 0 ∷ x

pub section-of : (x : List ℕ) → Section (under x) x
unfolding digit
section-of x = refl

pub one-mentioned : (x : List ℕ) (q : ℕ → Bool) (e d : ℕ) (b c : Bool) → MentionsIn x q e d b → MentionsIn x q e d c → b ≡ c
one-mentioned x q e d b c h k = h (under x) (section-of x) ∙ sym (k (under x) (section-of x))
