-- GF(65537): whole numbers modulo 65,537. Assumes nothing.
use Rattle.std.specs.Prelude.{ℕ, ◌+◌, ◌-◌, ◌*◌, ◌%◌}
use Rattle.algebra.specs.Fields.{Ops, reading, inverse}

-- the product of two codes
abbrev pub times : ℕ → ℕ → ℕ
times a b = a * b % 65537

abbrev pub modulo_65537 : Ops
modulo_65537 = record {
  size = 65537;
  add = λ a b. (a + b) % 65537;
  sub = λ a b. (a + (65537 - b)) % 65537;
  mul = times;
  inv = inverse 65537 times;
}

abbrev pub gf65537 : Ops
gf65537 = reading modulo_65537
