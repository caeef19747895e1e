use Rattle.std.proofs.Common.{◌≡◌, rules, refl}
use Rattle.cipher.proofs.Made.{made}
use Rattle.aes128.proofs.Words.{read_from, read_bytes}
use Rattle.aes128.specs.contracts.columns.fn.ColumnsFromRefArrayU816.from.from_fn as closure
use Rattle.aes128.proofs.columns.ColumnsFromRefArrayU816.from.Goals as goal

pub returns : goal.returns
returns c =
    let block = c.args.bytes.now in
    read_bytes block _ (c.told-bytes, c.fits-bytes)
    (made _ (λ p. (closure.captures p).bytes.now ≡ block) (read_from block) (λ p q i x kept call. search rules) 4 _ _ 0 refl c.from_fn.ensures.items)
