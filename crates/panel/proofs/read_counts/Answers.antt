-- `panel::read_counts` meets its contract: each count is its byte of the header. Assumes nothing.
use Rattle.std.proofs.Common.{List, arith, get_or, ◌∙◌, ap, ℕ}
use Rattle.std.proofs.Math.Nat.{mod-lt, div-one}
use Rattle.rulebook.specs.Words.{digit}
use Rattle.panel.proofs.read_counts.Goals as goal

pub returns : goal.returns
unfolding digit
returns c =
    let bytes = rw c.word.ensures at c.to_be_bytes.ensures in
    let ports = c.from.ensures ∙ ap (λ (b : List ℕ). get_or b 1 0) bytes in
    let networks = c.from-2.ensures ∙ ap (λ (b : List ℕ). get_or b 2 0) bytes in
    let sources = c.from-3.ensures ∙ ap (λ (b : List ℕ). get_or b 3 0) bytes in
    record {
      ports = ports;
      networks = networks;
      sources = rw div-one sources;
      rules = rw (c.word-2.ensures, div-one);
      few_ports = rw ports (mod-lt _ (omega arith));
      few_networks = rw networks (mod-lt _ (omega arith));
      few_sources = rw sources (mod-lt _ (omega arith));
      few_rules = mod-lt _ (omega arith);
    }
