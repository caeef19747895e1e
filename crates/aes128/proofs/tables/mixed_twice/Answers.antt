use Rattle.std.proofs.Common.{◌<◌, ◌++◌, arith}
use Rattle.std.proofs.lemmas.List.FromFn.{get_or-map-range_with_len}
use Rattle.base.specs.Bytes.{le_value}
use Rattle.aes128.specs.Aes.{table, sbox, mixed}
use Rattle.aes128.proofs.tables.mixed_twice.Goals as goal

-- the table is the list of its rule's values, which antt computes
pub returns : goal.returns
unfolding table sbox
returns c =
    let x = c.args.x in
    let within : x < 256 = omega arith in
    get_or-map-range_with_len (λ x. le_value (mixed (sbox x) 0 0 0 ++ mixed (sbox x) 0 0 0)) 0 256 x x 0 within (omega arith)
