use Rattle.std.proofs.Common.{ℕ, ◌-◌, ap}
use Rattle.aont.proofs.Written.{written}
use Rattle.aont.proofs.seal_into.Goals as goal

pub returns : goal.returns
returns g c =
    written g.C.Cipher.encrypted g.C.Cipher.number c.args.key.now c.args.file.now c.args.out.now
    (c.length_of_package-end.result - 16) c.requires.wide (ap (λ (n : ℕ). n - 16) c.length_of_package-end.ensures)
    c.block_at-key.result (g.C.Cipher.key c.with_key-cipher.result) c.cipher_number.result
    c.block_at-key.ensures c.with_key-cipher.ensures c.cipher_number.ensures
    c.lay_out.new.out c.mask_blocks.new.blocks c.bind-last.result c.put.new.bytes
    c.lay_out.ensures c.mask_blocks.ensures c.bind-last.ensures c.put.ensures
