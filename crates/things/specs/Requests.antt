-- The write of a request, and whether it is arbitrated now: "A deferred port is marked; an immediate one is arbitrated now".
use Rattle.std.specs.Prelude.{ℕ, ◌≡◌, Bool, cond, not, List, eqb}
use Rattle.rulebook.specs.Table.{deferred}
use Rattle.rulebook.specs.Lists.{set_port}

-- s and after are the state before and after the write
pub record Requested (t : List ℕ) (p value : ℕ) (s after : List ℕ) (immediate : Bool) : Type 0 where
  pub written : after ≡ cond (eqb (deferred t p) 1) (set_port p 1 value 0 s) (set_port p 0 value 0 s)
  pub answered : immediate ≡ not (eqb (deferred t p) 1)
