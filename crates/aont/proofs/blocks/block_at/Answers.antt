use Rattle.std.proofs.Common.{◌≡◌, ◌+◌, ◌-◌, ◌*◌, ap, ◌∙◌, arith}
use Rattle.base.specs.Bytes.{part}
use Rattle.aont.proofs.Steps.{block_at}
use Rattle.aont.proofs.blocks.block_at.Goals as goal

pub returns : goal.returns
returns c =
    let bytes = c.args.bytes.now in
    let i = c.args.i in
    let wide : 16 * i + 16 - 16 * i ≡ 16 = omega arith in
    c.copy_from_slice.ensures.after ∙ ap (part bytes (16 * i)) wide ∙ block_at bytes i
