-- Whose the state word at an index is, by a layout's counts; and that equal networks have equal fields. Assumes nothing.
use Prim.Native.Nat.{ℕ, ◌+◌, ◌-◌, ◌<◌, ◌≤◌}
use mathlib.Core.Path.{◌≡◌, ap}
use mathlib.Core.List.{List}
use native.Mathlib.Omega.{arith}
use borrow.Author.Tests.{lt-ltb, le-ltb}
use Rattle.rulebook.specs.Table.{ports, rules, networks}
use Rattle.rulebook.specs.State.{a_port, a_rule, a_network, a_source, Network, thing}
use Rattle.words.specs.declared.sections.Layout.{Layout}
use Rattle.words.specs.Sections.{Laid}

module _ (t : List ℕ) (h : Layout) (laid : Laid t h) (i : ℕ) where
  pub port-thing : i < h.ports → a_port i ≡ thing t i
  unfolding thing
  port-thing b = simp (lt-ltb i (ports t) (omega arith))

  pub rule-thing : h.ports ≤ i → i < h.ports + h.rules → a_rule (i - h.ports) ≡ thing t i
  unfolding thing
  rule-thing a b =
      rw laid.ports.value
      (simp (le-ltb i (ports t) (omega arith), lt-ltb i (ports t + rules t) (omega arith)))

  pub network-thing : h.ports + h.rules ≤ i → i < h.ports + h.rules + h.networks → a_network (i - (h.ports + h.rules)) ≡ thing t i
  unfolding thing
  network-thing a b =
      rw (laid.ports.value, laid.rules.value)
      (simp (le-ltb i (ports t) (omega arith), le-ltb i (ports t + rules t) (omega arith), lt-ltb i (ports t + rules t + networks t) (omega arith)))

  pub source-thing : h.ports + h.rules + h.networks ≤ i → a_source (i - (h.ports + h.rules + h.networks)) ≡ thing t i
  unfolding thing
  source-thing a =
      rw (laid.ports.value, laid.rules.value, laid.networks.value)
      (simp (le-ltb i (ports t) (omega arith), le-ltb i (ports t + rules t) (omega arith), le-ltb i (ports t + rules t + networks t) (omega arith)))

module _ {a b : Network} (same : a ≡ b) where
  pub same_asked : a.asked ≡ b.asked
  same_asked = ap (λ (c : Network). c.asked) same

  pub same-state : a.state ≡ b.state
  same-state = ap (λ (c : Network). c.state) same

  pub same-counter : a.counter ≡ b.counter
  same-counter = ap (λ (c : Network). c.counter) same

  pub same-heard : a.heard ≡ b.heard
  same-heard = ap (λ (c : Network). c.heard) same

  pub same-remaining : a.remaining ≡ b.remaining
  same-remaining = ap (λ (c : Network). c.remaining) same
