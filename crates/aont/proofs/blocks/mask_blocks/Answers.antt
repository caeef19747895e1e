use Rattle.std.proofs.Common.{◌≡◌, ◌+◌, ◌*◌, length, ap, ◌∙◌, arith}
use Rattle.cipher.specs.Blocks.{xor}
use Rattle.aont.specs.Package.{number_block}
use Rattle.aont.proofs.Transform.{mask_all, mask_next}
use Rattle.aont.proofs.blocks.mask_blocks.Goals as goal

pub loop-i-preserved : goal.loop-i-preserved
loop-i-preserved g c =
    let mask = g.C.Cipher.encrypted (g.C.Cipher.key c.args.cipher.now) (number_block (c.loop-i.i + 1)) in
    mask_next g.C.Cipher.encrypted (g.C.Cipher.key c.args.cipher.now) c.args.blocks.now c.loop-i.blocks c.masked_block-new.result
    c.put.new.bytes c.loop-i.i c.loop-i.invariant (c.masked_block-new.ensures ∙ ap (λ b. xor b mask) c.block_at.ensures) c.put.ensures

pub returns : goal.returns
returns g c =
    let whole : length c.args.blocks.now ≡ 16 * c.loop-i.i = omega arith in
    mask_all g.C.Cipher.encrypted (g.C.Cipher.key c.args.cipher.now) c.args.blocks.now c.loop-i.blocks c.loop-i.i whole
    c.loop-i.invariant
