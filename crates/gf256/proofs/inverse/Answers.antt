use Rattle.std.proofs.Common.{◌≤◌, sym, ap, ◌∙◌, arith, lit<}
use Rattle.algebra.specs.Fields.{inverse}
use Rattle.binary.specs.Binary.{product}
use Rattle.binary.proofs.Field.{no_inverse}
use Rattle.gf256.specs.Laws256.{undoing, passed}
use Rattle.gf256.proofs.Rules.{power-inverse}
use Rattle.gf256.proofs.inverse.Goals as goal

pub returns-then-a-eq0 : goal.returns-then-a-eq0
returns-then-a-eq0 c = sym (ap (inverse 256 (product 8 0x11d)) c.if-a-eq0.true ∙ no_inverse 8 0x11d undoing (lit< tt) passed)

pub returns : goal.returns
returns c =
    let e = c.exponent.ensures in
    let low : c.exponent.result ≤ 255 = omega (arith, e.small) in
    c.power_of_two.ensures ∙ power-inverse c.args.a c.exponent.result c.ranges.a.fits low e.value
