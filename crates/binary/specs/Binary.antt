-- Fields of 2^n codes: polynomials over bits, modulo one of degree n. Bit i of a number is the coefficient of x^i.
-- Assumes nothing.
use Rattle.std.specs.Prelude.{cond, ℕ, zero, suc, ◌+◌, ◌*◌, ◌/◌, ◌%◌, ◌^◌, eqb}
use Rattle.std.specs.Int.Bits.{bit_xor}
use Rattle.algebra.specs.Fields.{Ops, reading, inverse}

-- v where the bit is 1, else 0
abbrev pub sel : ℕ → ℕ → ℕ
sel bit v = cond (eqb bit 0) 0 v

-- the product of a and the lowest m bits of b
unfoldable pub carryless : ℕ → ℕ → ℕ → ℕ
carryless zero a b = 0
carryless (suc m) a b = bit_xor (sel (b % 2) a) (carryless m (a * 2) (b / 2))

-- the remainder of a, of fewer than n + m bits: from the top bit down, modulus × x^j is taken away where bit n + j is 1
unfoldable pub remainder : ℕ → ℕ → ℕ → ℕ → ℕ
remainder n modulus zero a = a
remainder n modulus (suc j) a = remainder n modulus j (bit_xor a (sel (a / 2 ^ (n + j) % 2) (modulus * 2 ^ j)))

unfoldable pub product : ℕ → ℕ → ℕ → ℕ → ℕ
product n modulus a b = remainder n modulus n (carryless n a b)

-- the field: codes of n bits are added and subtracted by exclusive or
abbrev pub on_codes : ℕ → ℕ → Ops
on_codes n modulus = record {
  size = 2 ^ n;
  add = bit_xor;
  sub = bit_xor;
  mul = product n modulus;
  inv = inverse (2 ^ n) (product n modulus);
}

abbrev pub binary_field : ℕ → ℕ → Ops
binary_field n modulus = reading (on_codes n modulus)
