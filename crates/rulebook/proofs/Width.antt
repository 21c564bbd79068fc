-- Every packed word fits 32 bits, whatever is packed. Assumes nothing.
use Prim.Native.Nat.{ℕ, ◌<◌, ◌^◌}
use native.Mathlib.Omega.{arith}
use Rattle.rulebook.specs.State.{Network, pack_port, pack_rule, pack_network, pack_source}
use Rattle.rulebook.specs.Lists.{trace_word}

pub port-word : (d m v r : ℕ) → pack_port d m v r < 2 ^ 32
unfolding pack_port
port-word d m v r = omega arith

pub rule-word : (b : ℕ) → pack_rule b < 2 ^ 32
unfolding pack_rule
rule-word b = omega arith

pub network-word : (c : Network) → pack_network c < 2 ^ 32
unfolding pack_network
network-word c = omega arith

pub source-word : (st r : ℕ) → pack_source st r < 2 ^ 32
unfolding pack_source
source-word st r = omega arith

pub trace-word : (k o a b : ℕ) → trace_word k o a b < 2 ^ 32
unfolding trace_word
trace-word k o a b = omega arith
