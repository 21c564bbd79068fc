-- The words of a fresh state, the exits of making one, and that two answers allowed are the same. Assumes nothing.
use Prim.Native.Nat.{ℕ, ◌<◌}
use mathlib.Core.Path.{◌≡◌, refl, sym, ap, ◌∙◌}
use mathlib.Core.Bool.{true, false, cond}
use mathlib.Core.List.{List}
use native.Mathlib.Nat.{zero-add}
use native.Mathlib.Omega.{arith}
use lib.Dec.{eqb}
use lib.ListN.{length, get_or}
use lib.Seq.{ext_get_or}
use borrow.Author.Tests.{eq-eqb, ne_eqb}
use Rattle.rulebook.specs.Reasons.{accepted}
use Rattle.rulebook.specs.State.{Thing, thing, fresh_thing, fresh_at, fresh, fresh_answer, fresh_state, state_length}
use Rattle.laws.proofs.Walks.{listed-length, listed_at}
use Rattle.std.specs.Prelude.{Result, Ok, Err}
use Rattle.states.specs.declared.NotMade.{NotMade}
use Rattle.states.specs.declared.NotMade.TheVariants.{BadTable, WrongLength}
use Rattle.states.specs.Made.{number_of, Fresh}

pub fresh-here : (t : List ℕ) (i w : ℕ) (x : Thing) → w ≡ fresh_thing t x → x ≡ thing t i → w ≡ fresh_at t i
unfolding fresh_at
fresh-here t i w x hw hx = rw (← hx) hw

-- words that are the fresh state's, each and in number
pub all-fresh : (t s : List ℕ) (n : ℕ) → length s ≡ n → n ≡ state_length t → ((k : ℕ) → k < n → get_or s k 0 ≡ fresh_at t k) → s ≡ fresh t
unfolding fresh
all-fresh t s n long asked words =
    ext_get_or 0 s _ (long ∙ asked ∙ sym (listed-length (fresh_at t) 0 (state_length t)))
    (λ k h. words k (omega arith) ∙ sym (listed_at (fresh_at t) 0 (state_length t) k (omega arith) ∙ ap (fresh_at t) (zero-add k)))

-- The exits.

module _ (t s : List ℕ) where
  pub bad-table : accepted t ≡ false → Fresh t s (Err BadTable) s
  unfolding fresh_answer fresh_state
  bad-table h = record { answer = rw h; state = rw h }

  module _ (good : accepted t ≡ true) (n : ℕ) (asked : n ≡ state_length t) where
    pub wrong-length : (length s ≡ n → ⊥) → Fresh t s (Err WrongLength) s
    unfolding fresh_answer fresh_state
    wrong-length h =
        let other = ne_eqb (length s) (state_length t) (rw asked at h) in
        record { answer = rw (good, other); state = rw (good, other) }

    pub done : (after : List ℕ) → length s ≡ n → after ≡ fresh t → Fresh t s (Ok tt) after
    unfolding fresh_answer fresh_state
    done after h e =
        let same = eq-eqb (length s) (state_length t) (h ∙ asked) in
        record { answer = rw (good, same); state = rw (good, same) e }

-- Two answers, with the states that they leave, are the same.

answering : ℕ → Result (Unit {0}) NotMade
answering k = cond (eqb k 0) (Ok tt) (cond (eqb k 1) (Err BadTable) (Err WrongLength))

back : (r : Result (Unit {0}) NotMade) → answering (number_of r) ≡ r
unfolding answering
back (Ok u) = refl
back (Err BadTable) = refl
back (Err WrongLength) = refl

pub one_answer : (t s : List ℕ) (r q : Result (Unit {0}) NotMade) (a b : List ℕ) → Fresh t s r a → Fresh t s q b → (r ≡ q) × (a ≡ b)
one_answer t s r q a b x y =
    (sym (back r) ∙ ap answering (x.answer ∙ sym y.answer) ∙ back q, x.state ∙ sym y.state)
