use Rattle.std.proofs.Common.{◌-◌, ◌*◌, cond, sym, ap, ◌∙◌, le-ltb, lt-ltb}
use lib.Bits.{bit_xor}
use Rattle.gf256.proofs.Sums.{twice_is}
use Rattle.gf256.proofs.slices.double.Goals as goal

pub returns-then-a-lt128 : goal.returns-then-a-lt128
returns-then-a-lt128 c =
    let a = c.args.a in
    sym (ap (λ t. cond t (a * 2) (bit_xor ((a - 128) * 2) 0x1d)) (lt-ltb a 128 c.if-a-lt128.true)) ∙ twice_is a c.ranges.a.fits

pub returns-else-a-lt128 : goal.returns-else-a-lt128
returns-else-a-lt128 c =
    let a = c.args.a in
    sym (ap (λ t. cond t (a * 2) (bit_xor ((a - 128) * 2) 0x1d)) (le-ltb a 128 c.if-a-lt128.false)) ∙ twice_is a c.ranges.a.fits
