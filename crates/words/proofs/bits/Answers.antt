-- `words::bits` meets its contract: shifts are a division and a power, and both names of the unit are one number. Assumes nothing.
use Rattle.std.proofs.Common.{◌≡◌, ◌+◌, ◌-◌, ◌*◌, ◌^◌, ◌%◌, ◌<◌, arith, refl}
use Rattle.std.proofs.Math.Pow.{pow-lt}
use Rattle.std.proofs.Math.Nat.{mod-lt, mod-eq_of_lt}
use Rattle.std.proofs.lemmas.Nat.{pow_pos}
use Rattle.rulebook.specs.Words.{digit}
use Rattle.words.proofs.bits.Goals as goal

pub returns : goal.returns
unfolding digit
returns g c =
    let start = g.row.START in
    let width = g.row.WIDTH in
    let unit : 32 - start - width ≡ 32 - (start + width) = omega arith in
    let small : 2 ^ width < 4294967296 = pow-lt c.requires.1 in
    let size : 1 * 2 ^ width % 4294967296 ≡ 2 ^ width = grind (arith, mod-eq_of_lt small) in
    rw (unit, size) (record { value = refl; small = mod-lt _ (pow_pos width) })
