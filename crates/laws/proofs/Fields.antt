-- A field is below its size; each field of a packed word is what was laid there, cut to its width. Assumes nothing.
use mathlib.Core.Path.{◌≡◌}
use Prim.Native.Nat.{ℕ, ◌/◌, ◌%◌, ◌<◌}
use native.Mathlib.Nat.{mod-lt}
use native.Mathlib.Omega.{arith}
use Rattle.rulebook.specs.Words.{digit, field}
use Rattle.rulebook.specs.State.{defined_of, marked_of, value_of, remaining_of, result_of, status_of, Network, network_of, pack_port, pack_rule, pack_network, pack_source}
use Rattle.rulebook.specs.Lists.{trace_word}

pub digit-small : (unit size w : ℕ) → 0 < size → digit unit size w < size
unfolding digit
digit-small unit size w h = mod-lt (w / unit) h

-- a port's word
module _ (d m v r : ℕ) where
  pub port-defined : defined_of (pack_port d m v r) ≡ d % 2
  unfolding digit pack_port
  port-defined = omega arith

  pub port-marked : marked_of (pack_port d m v r) ≡ m % 2
  unfolding digit pack_port
  port-marked = omega arith

  pub port-value : value_of (pack_port d m v r) ≡ v % 256
  unfolding digit pack_port
  port-value = omega arith

  pub port-zero : field 10 6 (pack_port d m v r) ≡ 0
  unfolding digit pack_port
  port-zero = omega arith

  pub port-remaining : remaining_of (pack_port d m v r) ≡ r % 65536
  unfolding digit pack_port
  port-remaining = omega arith

-- a rule's word
pub rule-result : (b : ℕ) → result_of (pack_rule b) ≡ b % 4
unfolding digit pack_rule
rule-result b = omega arith

pub rule-zero : (b : ℕ) → field 2 30 (pack_rule b) ≡ 0
unfolding digit pack_rule
rule-zero b = omega arith

-- a network's word
module _ (c : Network) where
  pub network-asked : (network_of (pack_network c)).asked ≡ c.asked % 4
  unfolding digit pack_network
  network-asked = omega arith

  pub network-state : (network_of (pack_network c)).state ≡ c.state % 8
  unfolding digit pack_network
  network-state = omega arith

  pub network-counter : (network_of (pack_network c)).counter ≡ c.counter % 256
  unfolding digit pack_network
  network-counter = omega arith

  pub network-heard : (network_of (pack_network c)).heard ≡ c.heard % 2
  unfolding digit pack_network
  network-heard = omega arith

  pub network-zero : field 14 2 (pack_network c) ≡ 0
  unfolding digit pack_network
  network-zero = omega arith

  pub network-remaining : (network_of (pack_network c)).remaining ≡ c.remaining % 65536
  unfolding digit pack_network
  network-remaining = omega arith

-- a source's word
pub source-status : (st r : ℕ) → status_of (pack_source st r) ≡ st % 4
unfolding digit pack_source
source-status st r = omega arith

pub source-zero : (st r : ℕ) → field 2 14 (pack_source st r) ≡ 0
unfolding digit pack_source
source-zero st r = omega arith

pub source-remaining : (st r : ℕ) → remaining_of (pack_source st r) ≡ r % 65536
unfolding digit pack_source
source-remaining st r = omega arith

-- a trace word
module _ (k o a b : ℕ) where
  pub trace-kind : field 0 4 (trace_word k o a b) ≡ k % 16
  unfolding digit trace_word
  trace-kind = omega arith

  pub trace-owner : field 4 4 (trace_word k o a b) ≡ o % 16
  unfolding digit trace_word
  trace-owner = omega arith

  pub trace-a : field 8 8 (trace_word k o a b) ≡ a % 256
  unfolding digit trace_word
  trace-a = omega arith

  pub trace-b : field 16 16 (trace_word k o a b) ≡ b % 65536
  unfolding digit trace_word
  trace-b = omega arith
