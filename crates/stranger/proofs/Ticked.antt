-- What a tick makes of a network: it moves, into recover only from there, or stays as it is, which it never does in check. Assumes
-- nothing.
use mathlib.Core.Path.{◌≡◌}
use mathlib.Core.Bool.{◌&&◌, ◌||◌, not}
use mathlib.Core.List.{List}
use Prim.Native.Nat.{ℕ, ◌-◌}
use native.Mathlib.Omega.{arith}
use lib.Dec.{leb, eqb}
use borrow.Author.Tests.{eqb-true, eqb-false}
use Rattle.rulebook.specs.Table.{e_ticks}
use Rattle.rulebook.specs.State.{Network, asked_none, asked_silent, asked_full, state_none, state_silent, state_check, state_full, state_recover}
use Rattle.rulebook.specs.Events.{moved, counted_network, ticked_network}
use Rattle.laws.proofs.Tests.{split}

module _ (t : List ℕ) (n : ℕ) (c : Network) (P : Network → Type 0)
    (moves : (st k r : ℕ) → (st ≡ state_recover → c.state ≡ state_recover) → P (moved st k r c))
    (stays : (c.state ≡ state_check → ⊥) → P c) where
  counted-cases : P (counted_network t n c)
  unfolding counted_network
  counted-cases =
      split (eqb c.state state_recover)
      (λ e. split (leb c.remaining 1) (λ g. rw (e, g) (moves state_check c.counter (e_ticks t n) (λ z. absurd (omega arith))))
      (λ g. rw (e, g) (moves state_recover c.counter (c.remaining - 1) (λ z. eqb-true _ _ e))))
      (λ e. split (eqb c.state state_check)
      (λ g. split (eqb c.heard 1 || leb c.remaining 1) (λ i. rw (e, g, i) (moves state_full 0 0 (λ z. absurd (omega arith))))
      (λ i. rw (e, g, i) (moves state_check c.counter (c.remaining - 1) (λ z. absurd (omega arith)))))
      (λ g. rw (e, g) (stays (eqb-false _ _ g))))

  pub ticked-cases : P (ticked_network t n c)
  unfolding ticked_network
  ticked-cases =
      split (eqb c.asked asked_none) (λ x. rw x (moves state_none 0 0 (λ z. absurd (omega arith))))
      (λ x. split (eqb c.asked asked_silent && not (eqb c.state state_none)) (λ y. rw (x, y) (moves state_silent 0 0 (λ z. absurd (omega arith))))
      (λ y. split (eqb c.asked asked_full && (eqb c.state state_none || eqb c.state state_silent))
      (λ z. rw (x, y, z) (moves state_check 0 (e_ticks t n) (λ w. absurd (omega arith))))
      (λ z. rw (x, y, z) counted-cases)))
