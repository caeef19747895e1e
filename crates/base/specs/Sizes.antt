-- The lengths that packages have. Assumes nothing.
use Rattle.std.specs.Prelude.{ℕ, ◌%◌, Bool, not, ◌||◌, ◌==◌, nat_lt}

-- no package is so long
abbrev pub misfit : ℕ → Bool
misfit n = not (n % 16 == 0) || nat_lt n 48 || nat_lt 4128 n
