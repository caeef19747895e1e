-- What the code reads in slices: words of private contracts, which nobody has to believe. Assumes nothing.
use Rattle.std.specs.Prelude.{ℕ, ◌+◌, ◌*◌, ◌/◌, ◌%◌, ◌^◌, Bool, cond, List, nat_lt}
use Rattle.std.specs.List.{range_with_len, flat_map}
use Rattle.base.specs.Bytes.{le_bytes}
use Rattle.base.specs.Tests.{every}
use Rattle.algebra.specs.Slices.{stored_at}
use Rattle.erasure.specs.Records.{Coding}

-- symbol i of column j is one of a package of so many symbols
abbrev pub column_whole : Coding → ℕ → ℕ → List ℕ → ℕ → ℕ → Bool
column_whole C symbols size slices j i = nat_lt (stored_at C.stored slices (i * size + j * C.stored)) (cond (nat_lt (j * C.needed + i) symbols) (256 ^ C.width) 1)

abbrev pub slices_whole : Coding → ℕ → ℕ → ℕ → List ℕ → Bool
slices_whole C symbols columns size slices = every columns (λ j. every C.needed (column_whole C symbols size slices j))

-- the first n symbols of the package, as bytes
abbrev pub gathered : Coding → ℕ → List ℕ → ℕ → List ℕ
gathered C size slices n = flat_map (λ t. le_bytes C.width (stored_at C.stored slices (t % C.needed * size + t / C.needed * C.stored))) (range_with_len 0 n)
