-- Q-8 holds of every event that an accepted table takes. Assumes nothing.
use mathlib.Core.Path.{◌≡◌, refl, ◌∙◌, ap}
use mathlib.Core.Bool.{false, ◌&&◌}
use mathlib.Core.List.{List, []}
use Prim.Native.Nat.{ℕ, ◌<◌}
use native.Mathlib.Omega.{arith}
use lib.Dec.{eqb}
use borrow.Author.Tests.{eqb-true, ne_eqb}
use Rattle.rulebook.specs.Table.{networks}
use Rattle.rulebook.specs.State.{Network, asked_full, state_none, state_silent, state_check, state_full}
use Rattle.rulebook.specs.Lists.{network_in}
use Rattle.rulebook.specs.Events.{event_kind, event_index, event_tick, event_bus_off, event_heard, moved, hear, counted_network, ticked_network, changed, happen}
use Rattle.rulebook.proofs.OneStep.{heard-elsewhere, heard-in-check, none-before-heard, silent-before-heard}
use Rattle.laws.specs.Facts.{Facts}
use Rattle.laws.proofs.Tests.{and-one-false}
use Rattle.laws.proofs.FitKept.{Fits, network-in}
use Rattle.laws.proofs.FitEvents.{happen-fits}
use Rattle.laws.proofs.Happen.{Taken, of-heard}
use Rattle.stranger.specs.Heard.{AtRest, HeardCounts}
use Rattle.stranger.proofs.Moves.{next_network, network-moves}
use Rattle.stranger.proofs.Ticked.{ticked-cases}

at_rest : (state : ℕ) (c x : Network) → c.state ≡ x.state → c.counter ≡ x.counter → c.heard ≡ x.heard → c.remaining ≡ x.remaining
    → AtRest state x → AtRest state c
at_rest state c x a b d e r = record { state = a ∙ r.state; counter = b ∙ r.counter; remaining = e ∙ r.remaining; heard = d ∙ r.heard }

moved-rests : (state : ℕ) (c : Network) → AtRest state (moved state 0 0 c)
moved-rests state c = record { state = refl; counter = refl; remaining = refl; heard = refl }

heard-full : (t : List ℕ) (n : ℕ) (c : Network) → c.state ≡ state_check → c.asked ≡ asked_full → c.heard ≡ 1 → ticked_network t n c ≡ moved state_full 0 0 c
unfolding ticked_network counted_network
heard-full t n c e a h = rw (a, e, h)

module _ (t : List ℕ) (f : Facts t) (e : ℕ) (os s : List ℕ) (w : Taken t e) (fit : Fits t s) where
  abbrev after : List ℕ
  after = (happen t e os s).state

  -- a heard does what `hear` does, and writes no word
  state-is : event_kind e ≡ event_heard → (happen t e os s).state ≡ hear t (event_index e) s
  unfolding happen changed
  state-is k = rw k

  words_are : event_kind e ≡ event_heard → (happen t e os s).words ≡ []
  unfolding happen
  words_are k = rw k

  -- what a tick makes of network n
  ticked : (n : ℕ) → n < networks t → event_kind e ≡ event_tick → (state : ℕ) → ticked_network t n (network_in t n s) ≡ moved state 0 0 (network_in t n s)
      → AtRest state (network_in t n after)
  unfolding next_network
  ticked n b k state is =
      let own = (network-moves t f n b e os s w fit).own in
      let next : next_network t f n b e s ≡ moved state 0 0 (network_in t n s) = rw k is in
      at_rest state _ (moved state 0 0 (network_in t n s)) (ap (λ (x : Network). x.state) own ∙ ap (λ (x : Network). x.state) next)
      (ap (λ (x : Network). x.counter) own ∙ ap (λ (x : Network). x.counter) next) (ap (λ (x : Network). x.heard) own ∙ ap (λ (x : Network). x.heard) next)
      (ap (λ (x : Network). x.remaining) own ∙ ap (λ (x : Network). x.remaining) next) (moved-rests state (network_in t n s))

  gone : (n : ℕ) (b : n < networks t) → event_kind e ≡ event_tick → (network_in t n after).heard ≡ 0
  unfolding next_network
  gone n b k =
      let o = network-in t s fit n b in let small = o.heard₁ in
      let next : next_network t f n b e s ≡ ticked_network t n (network_in t n s) = rw k in
      ap (λ (x : Network). x.heard) (network-moves t f n b e os s w fit).own ∙ ap (λ (x : Network). x.heard) next
      ∙ ticked-cases t n (network_in t n s) (λ x. x.heard ≡ 0) (λ st j r from. refl)
      (λ other. let not-one : ((network_in t n s).heard ≡ 1 → ⊥) = λ z. other (o.listens z) in omega arith)

  keeps : (n : ℕ) (b : n < networks t) → (event_kind e ≡ event_tick → ⊥) → (event_kind e ≡ event_bus_off → event_index e ≡ n → ⊥)
      → (event_kind e ≡ event_heard → event_index e ≡ n → ⊥) → (network_in t n after).heard ≡ (network_in t n s).heard
  unfolding next_network
  keeps n b no-tick no-bus-off no-heard =
      let other : (kind : ℕ) → (event_kind e ≡ kind → event_index e ≡ n → ⊥) → (eqb (event_kind e) kind && eqb (event_index e) n) ≡ false =
      λ kind d. and-one-false _ _ (λ x y. d (eqb-true _ _ x) (eqb-true _ _ y)) in
      let same : next_network t f n b e s ≡ network_in t n s =
      rw (ne_eqb (event_kind e) event_tick no-tick, other event_bus_off no-bus-off, other event_heard no-heard) in
      ap (λ (x : Network). x.heard) (network-moves t f n b e os s w fit).own ∙ ap (λ (x : Network). x.heard) same

  pub heard-counts : HeardCounts t e s after (happen t e os s).words
  heard-counts =
      record {
        own = λ k. ((of-heard t e w k).there, (of-heard t e w k).owner);
        kept = λ k c. (state-is k ∙ heard-in-check t (event_index e) s c, words_are k);
        elsewhere = λ k c. (state-is k ∙ heard-elsewhere t (event_index e) s c, words_are k);
        taken = λ n b k c a h. ticked n b k state_full (heard-full t n _ c a h);
        none = λ n b k a. ticked n b k state_none (none-before-heard t n _ a);
        silent = λ n b k c a. ticked n b k state_silent (silent-before-heard t n _ a c);
        gone = gone;
        only = λ n b h. (network-in t after (happen-fits t f e os s w fit) n b).listens h;
        keeps = keeps;
      }
