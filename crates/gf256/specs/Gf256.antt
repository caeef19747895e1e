-- GF(256): polynomials over bits modulo hex 11D, that is x^8 + x^4 + x^3 + x^2 + 1. Assumes nothing.
use Rattle.algebra.specs.Fields.{Ops}
use Rattle.binary.specs.Binary.{binary_field}

abbrev pub gf256 : Ops
gf256 = binary_field 8 0x11d
