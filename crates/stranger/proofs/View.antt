-- The view relation is reflexive, symmetric and transitive; one write of a stranger's word, or of any word on both sides, keeps it;
-- the list of visible words says the same. Assumes nothing.
use mathlib.Core.Path.{◌≡◌, refl, sym, ◌∙◌, ap₂}
use mathlib.Core.Bool.{true, false}
use mathlib.Core.List.{List, ◌∷◌}
use Prim.Native.Nat.{ℕ, zero, suc, ◌≤◌, ◌<◌}
use lib.ListN.{length, set, length-set}
use lib.Seq.{get_or-set_same, get_or-set_other, set_out}
use lib.Dec.{ltb, eqb}
use borrow.Author.Tests.{ltb-true, ltb-false, eqb-true, eqb-false}
use Rattle.rulebook.specs.Table.{ports, networks, rules, port_owner, network_owner, source_owner, rule_owner, stranger}
use Rattle.rulebook.specs.State.{rule_index, network_index, source_index, state_length, owner_of}
use Rattle.laws.proofs.Tests.{split, clash}
use Rattle.laws.proofs.Parts.{thing-port, thing-rule, thing-network, thing-source}
use Rattle.stranger.specs.View.{strangers_word, SameView, visible_from, visible_words}

module _ (t : List ℕ) (o : ℕ) where
  pub same-view-refl : (s : List ℕ) → SameView t o s s
  same-view-refl s = record { long = refl; same = λ i h. refl }

  pub same-view-sym : {s₁ s₂ : List ℕ} → SameView t o s₁ s₂ → SameView t o s₂ s₁
  same-view-sym v = record { long = sym v.long; same = λ i h. sym (v.same i h) }

  pub same-view-trans : {s₁ s₂ s₃ : List ℕ} → SameView t o s₁ s₂ → SameView t o s₂ s₃ → SameView t o s₁ s₃
  same-view-trans v w = record { long = v.long ∙ w.long; same = λ i h. v.same i h ∙ w.same i h }

  -- each side goes on for itself, unseen
  pub view-around : {s₁ s₂ x₁ x₂ : List ℕ} → SameView t o s₁ s₂ → SameView t o s₁ x₁ → SameView t o s₂ x₂ → SameView t o x₁ x₂
  view-around v a b = same-view-trans (same-view-trans (same-view-sym a) v) b

  -- One write: a stranger's word on one side, or any word on both, the same where it is seen.

  pub write-hidden : (s : List ℕ) (i v : ℕ) → strangers_word t o i ≡ true → SameView t o s (set s i v)
  write-hidden s i v h =
      record {
        long = sym (length-set s i v);
        same = λ j k. sym (get_or-set_other s i j v 0 (λ e. clash h (rw e at k)));
      }

  pub write-alike : {s₁ s₂ : List ℕ} (i v₁ v₂ : ℕ) → (strangers_word t o i ≡ false → v₁ ≡ v₂) → SameView t o s₁ s₂ → SameView t o (set s₁ i v₁) (set s₂ i v₂)
  write-alike {s₁} {s₂} i v₁ v₂ e v =
      record {
        long = length-set s₁ i v₁ ∙ v.long ∙ sym (length-set s₂ i v₂);
        same = λ j k. split (eqb j i)
            (λ d. let j=i : j ≡ i = eqb-true _ _ d in let seen : strangers_word t o i ≡ false = rw j=i at k in
            rw j=i (split (ltb i (length s₁))
            (λ b. let here : i < length s₁ = ltb-true _ _ b in let there : i < length s₂ = rw v.long at here in
            get_or-set_same s₁ i v₁ 0 here ∙ e seen ∙ sym (get_or-set_same s₂ i v₂ 0 there))
            (λ b. let past : length s₁ ≤ i = ltb-false _ _ b in let past₂ : length s₂ ≤ i = rw v.long at past in
            rw (set_out s₁ i v₁ past, set_out s₂ i v₂ past₂) (v.same i seen))))
            (λ d. get_or-set_other s₁ i j v₁ 0 (eqb-false _ _ d) ∙ v.same j k ∙ sym (get_or-set_other s₂ i j v₂ 0 (eqb-false _ _ d)));
      }

  -- The list of visible words says what the relation says.

  from-same : {s₁ s₂ : List ℕ} (i n : ℕ) → SameView t o s₁ s₂ → visible_from t o s₁ i n ≡ visible_from t o s₂ i n
  unfolding visible_from
  from-same i zero v = refl
  from-same i (suc n) v =
      split (strangers_word t o i) (λ e. rw (e, visible_from) (from-same (suc i) n v))
      (λ e. rw (e, visible_from) (ap₂ ◌∷◌ (v.same i e) (from-same (suc i) n v)))

  pub same-visible : {s₁ s₂ : List ℕ} → SameView t o s₁ s₂ → visible_words t o s₁ ≡ visible_words t o s₂
  unfolding visible_words
  same-visible v = from-same 0 (state_length t) v

  -- Whose a thing's word is.

  pub port-word : (p : ℕ) → p < ports t → strangers_word t o p ≡ stranger o (port_owner t p)
  unfolding strangers_word owner_of
  port-word p h = rw (thing-port t p h)

  pub rule-word : (r : ℕ) → r < rules t → strangers_word t o (rule_index t r) ≡ stranger o (rule_owner t r)
  unfolding strangers_word owner_of
  rule-word r h = rw (thing-rule t r h)

  pub network-word : (n : ℕ) → n < networks t → strangers_word t o (network_index t n) ≡ stranger o (network_owner t n)
  unfolding strangers_word owner_of
  network-word n h = rw (thing-network t n h)

  pub source-word : (k : ℕ) → strangers_word t o (source_index t k) ≡ stranger o (source_owner t k)
  unfolding strangers_word owner_of
  source-word k = rw (thing-source t k)
