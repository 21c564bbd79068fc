-- `scan::first_broken` meets its contract: each turn by the laws of `Scan`. Assumes nothing.
use Rattle.std.proofs.Common.{◌≡◌, ap, sym, ◌∙◌, arith}
use Rattle.walks.proofs.Walks.{first-end}
use Rattle.scan.proofs.Scan.{scan-here, scan-turn, scan-start}
use Rattle.scan.proofs.first_broken.Goals as goal
use Rattle.scan.proofs.first_broken.Goals.{then-loop-i-test+then-not-keeps, else-loop-i-test}

pub loop-i-init : goal.loop-i-init
loop-i-init g c = λ rule j. scan-start rule _ _ (omega arith)

pub loop-i-preserved : goal.loop-i-preserved
loop-i-preserved g c =
    λ rule j.
    c.loop-i.invariant rule j
    ∙ scan-turn rule _ _ _ _ c.loop-i-test.true (j.says _ _ c.keeps.ensures ∙ ap (rule c.args.t.now.words) c.part.ensures) c.if-not-keeps.false

-- the scan's value is where it was broken off, or the end
pub returns : goal.returns
returns g c =
    λ rule j.
    elim c.loop-i-test.branch [
      | then-loop-i-test+then-not-keeps w ↦ w.result-is
          ∙ sym (c.loop-i.invariant rule j
          ∙ scan-here rule _ _ _ _ w.loop-i-test.true (j.says _ _ w.keeps.ensures ∙ ap (rule c.args.t.now.words) w.part.ensures) w.if-not-keeps.true)
      | else-loop-i-test w ↦
          let same : c.length-end.result ≡ c.loop-i.i = omega (arith, w.loop-i-test.false) in
          w.result-is ∙ sym (c.loop-i.invariant rule j ∙ first-end _ _ _ w.loop-i-test.false ∙ sym same)
    ]
