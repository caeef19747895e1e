use Rattle.std.proofs.Common.{refl}
use Rattle.aes128.specs.Aes.{table, sbox}
use Rattle.aes128.proofs.tables.substitute.Goals as goal

pub returns : goal.returns
unfolding table sbox
returns c = refl
