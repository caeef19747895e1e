use Rattle.std.proofs.Common.{◌+◌, ap, ◌∙◌}
use Rattle.cipher.specs.Blocks.{xor}
use Rattle.aont.specs.Package.{number_block}
use Rattle.aont.proofs.Sealed.{plain_is}
use Rattle.aont.proofs.opening.Opening.plain_block.Goals as goal

pub returns : goal.returns
returns g c =
    let mask = g.C.Cipher.encrypted (g.C.Cipher.key c.args.self.now.cipher) (number_block (c.args.i + 1)) in
    plain_is g.C.Cipher.encrypted c.args.self.now.bytes.now c.args.self.now.fit c.args.i (g.C.Cipher.key c.args.self.now.cipher) c.masked_block.result
    c.requires c.args.self.now.keyed (c.masked_block.ensures ∙ ap (λ b. xor b mask) c.block_at.ensures)
