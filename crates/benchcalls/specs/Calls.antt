-- What the calls of the benchmark answer: a length, or 0 on a refusal. Assumes nothing.
use Rattle.std.specs.Prelude.{ℕ, Ok, Err, Result}

abbrev pub length_of : {Fault : Type 0} → Result ℕ Fault → ℕ
length_of (Ok n) = n
length_of (Err fault) = 0
