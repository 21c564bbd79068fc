-- What is in order at the beginning. Assumes nothing.
use Rattle.std.proofs.Common.{◌≡◌, ℕ, List, length, arith}
use Rattle.states.specs.Made.{Makes}
use Rattle.session.proofs.Whole.{made-fresh, fresh-ready}
use Rattle.audit.specs.Kept.{Lent, Going}

-- the state that is made of the lent words is ready
pub fresh-going : {t s₀ trace : List ℕ} → Lent t s₀ trace → {k : ℕ} {s : List ℕ} → Makes t s₀ k s → length s ≡ length s₀ → Going t s trace
fresh-going l made long =
    let small = l.small in
    record {
      ready = fresh-ready l.table (made-fresh l.table l.state made) l.room;
      small = omega arith;
      few = l.few;
    }
