-- Runs that are alike to o: states that o cannot tell apart, the same trace words of o and of the platform, whose calls met the same. os₁
-- and os₂ are the outcomes with which the two runs started. Assumes nothing.
use mathlib.Core.Path.{◌≡◌, refl, sym, ◌∙◌, ap}
use mathlib.Core.Bool.{true}
use mathlib.Core.List.{List, [], ◌∷◌, ◌++◌, append-nil}
use Prim.Native.Nat.{ℕ}
use native.Mathlib.Nat.{mod-eq_of_lt}
use native.Mathlib.Omega.{arith}
use Rattle.rulebook.specs.Table.{stranger, list_owner}
use Rattle.rulebook.specs.Lists.{Run, start, become, emit, leave, visit, trace_word, trace_owner}
use Rattle.laws.proofs.Tests.{split}
use Rattle.laws.proofs.Fields.{digit-small, trace-owner}
use Rattle.laws.proofs.Frame.{Framed, framed-words}
use Rattle.stranger.specs.View.{SameView, own_words}
use Rattle.stranger.specs.Outcomes.{met_at, met, Agree}
use Rattle.stranger.proofs.View.{same-view-refl, same-view-sym, same-view-trans}
use Rattle.stranger.proofs.Outcomes.{agree-front, left_by, met-both, met-one, met-hidden, met_next}

pub record Alike (t : List ℕ) (o : ℕ) (os₁ os₂ : List ℕ) (x y : Run) : Type 0 where
  pub view : SameView t o x.state y.state
  pub own : own_words o x.words ≡ own_words o y.words
  pub met : met o os₁ x.words ≡ met o os₂ y.words

-- a trace word has the owner of the list that holds it
pub word-owner : (t : List ℕ) (l kind a b : ℕ) → trace_owner (trace_word kind (list_owner t l) a b) ≡ list_owner t l
word-owner t l kind a b = trace-owner kind (list_owner t l) a b ∙ mod-eq_of_lt (digit-small _ 16 _ (omega arith))

pub own-one : (o w : ℕ) → stranger o (trace_owner w) ≡ true → own_words o (w ∷ []) ≡ []
unfolding own_words
own-one o w h = rw (h, own_words)

pub own-both : (o : ℕ) (xs ys : List ℕ) → own_words o (xs ++ ys) ≡ own_words o xs ++ own_words o ys
unfolding own_words
own-both o [] ys = refl
own-both o (w ∷ xs) ys =
    split (stranger o (trace_owner w)) (λ e. rw (e, own_words) (own-both o xs ys)) (λ e. rw (e, own_words) (ap (λ (l : List ℕ). w ∷ l) (own-both o xs ys)))

module _ (t : List ℕ) (o : ℕ) where
  pub alike_refl : (os : List ℕ) (x : Run) → Alike t o os os x x
  alike_refl os x = record { view = same-view-refl t o x.state; own = refl; met = refl }

  pub alike-sym : {os₁ os₂ : List ℕ} {x y : Run} → Alike t o os₁ os₂ x y → Alike t o os₂ os₁ y x
  alike-sym a = record { view = same-view-sym t o a.view; own = sym a.own; met = sym a.met }

  pub alike-trans : {os₁ os₂ os₃ : List ℕ} {x y z : Run} → Alike t o os₁ os₂ x y → Alike t o os₂ os₃ y z → Alike t o os₁ os₃ x z
  alike-trans a b = record { view = same-view-trans t o a.view b.view; own = a.own ∙ b.own; met = a.met ∙ b.met }

  pub start-alike : {os₁ os₂ s₁ s₂ : List ℕ} → SameView t o s₁ s₂ → Alike t o os₁ os₂ (start os₁ s₁) (start os₂ s₂)
  unfolding met
  start-alike v = record { view = v; own = refl; met = refl }

  -- visits are nobody's: runs that differ in them alone are alike
  pub visits-alike : {os₁ os₂ : List ℕ} {x y : Run} (m n : ℕ) → Alike t o os₁ os₂ x y → Alike t o os₁ os₂ (visit m x) (visit n y)
  visits-alike m n a = record { view = a.view; own = a.own; met = a.met }

  -- a stranger's word
  pub emit-hidden : (os : List ℕ) (x : Run) (w : ℕ) → stranger o (trace_owner w) ≡ true → Alike t o os os x (emit w x)
  emit-hidden os x w h =
      record {
        view = same-view-refl t o x.state;
        own = sym (own-both o x.words (w ∷ []) ∙ rw (own-one o w h) (append-nil _));
        met = sym (met-both o os x.words (w ∷ []) ∙ rw (met-one o (left_by os x.words) w, met-hidden o (left_by os x.words) w h) (append-nil _));
      }

  -- Alike, if what was met agrees: this is what a run of o's or of the platform's lists keeps.
  abbrev pub AlikeIf : List ℕ → List ℕ → Run → Run → Type 0
  AlikeIf os₁ os₂ x y = Agree (met o os₁ x.words) (met o os₂ y.words) → Alike t o os₁ os₂ x y

  module _ (os₁ os₂ : List ℕ) (x y : Run) where
    -- what agrees in the end agreed before
    pub earlier : (xs ys : List ℕ) → Agree (met o os₁ (x.words ++ xs)) (met o os₂ (y.words ++ ys)) → Agree (met o os₁ x.words) (met o os₂ y.words)
    earlier xs ys h = agree-front (met o os₁ x.words) (met o os₂ y.words) _ _ (rw (met-both o os₁ x.words xs, met-both o os₂ y.words ys) at h)

    pub framed-earlier : {f g : Run → Run} → Framed f → Framed g → Agree (met o os₁ (f x).words) (met o os₂ (g y).words)
        → Agree (met o os₁ x.words) (met o os₂ y.words)
    framed-earlier a b h = earlier _ _ (rw (framed-words a x, framed-words b y) at h)

    -- strangers' lists on either side
    pub if-around : {x' y' : Run} → AlikeIf os₁ os₂ x y → Alike t o os₁ os₁ x x' → Alike t o os₂ os₂ y y' → AlikeIf os₁ os₂ x' y'
    if-around a b c h = alike-trans (alike-trans (alike-sym b) (a (rw (b.met, c.met) h))) c

    -- the same word on both sides
    same_met : (w : ℕ) → Alike t o os₁ os₂ x y → Agree (met o os₁ (x.words ++ (w ∷ []))) (met o os₂ (y.words ++ (w ∷ [])))
        → met_at o (left_by os₁ x.words) w ≡ met_at o (left_by os₂ y.words) w
    same_met w a h =
        met_next o (met o os₂ y.words) _ _ w
        (rw (met-both o os₁ x.words (w ∷ []), met-both o os₂ y.words (w ∷ []), met-one, met-one, a.met) at h)

    pub put-alike : (w : ℕ) {s₁ s₂ us vs : List ℕ} → (Alike t o os₁ os₂ x y → SameView t o s₁ s₂) → AlikeIf os₁ os₂ x y
        → AlikeIf os₁ os₂ (leave us (become s₁ (emit w x))) (leave vs (become s₂ (emit w y)))
    put-alike w v k h =
        let a = k (earlier (w ∷ []) (w ∷ []) h) in
        record {
          view = v a;
          own = own-both o x.words (w ∷ []) ∙ ap (λ (l : List ℕ). l ++ own_words o (w ∷ [])) a.own ∙ sym (own-both o y.words (w ∷ []));
          met = met-both o os₁ x.words (w ∷ []) ∙ (rw (met-one, met-one, a.met, same_met w a h)) ∙ sym (met-both o os₂ y.words (w ∷ []));
        }
