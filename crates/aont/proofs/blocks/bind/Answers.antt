use Rattle.std.proofs.Common.{◌≡◌, ◌+◌, ◌*◌, ◌/◌, ◌<◌, [], length, get_or, ap, ◌∙◌, arith}
use Rattle.cipher.specs.Blocks.{xor}
use Rattle.cipher.proofs.Chunks.{chunk_at}
use Rattle.base.specs.Bytes.{part}
use Rattle.aont.specs.Package.{block, number_block}
use Rattle.aont.proofs.Steps.{block_at}
use Rattle.aont.proofs.Transform.{bind_all, bind_next}
use Rattle.aont.proofs.blocks.bind.Goals as goal

pub loop-i-preserved : goal.loop-i-preserved
loop-i-preserved g c =
    let E = g.C.Cipher.encrypted in
    let bs = c.args.blocks.now in
    let i = c.loop-i.i in
    let within : i < length bs / 16 = omega (arith, c.as_chunks.ensures.front_len, c.loop-i-test.true) in
    let place : i * 16 ≡ 16 * i = omega arith in
    let read : get_or c.as_chunks.result.0.now i [] ≡ block (i + 1) bs =
    ap (λ xs. get_or xs i []) c.as_chunks.ensures.front ∙ chunk_at 16 (length bs / 16) i bs [] within ∙ ap (λ m. part bs m 16) place ∙ block_at bs i in
    bind_next E c.args.key bs (g.C.Cipher.key c.with_key-cipher.result) c.hashed_block.result c.loop-i.sum c.xor16-sum.result i c.with_key-cipher.ensures
    c.loop-i.invariant (c.hashed_block.ensures ∙ ap (λ b. E (g.C.Cipher.key c.with_key-cipher.result) (xor b (number_block (i + 1)))) read) c.xor16-sum.ensures

pub returns : goal.returns
returns g c =
    let last : length c.args.blocks.now / 16 ≡ c.loop-i.i = omega (arith, c.as_chunks.ensures.front_len, c.loop-i-test.false, c.loop-i.auto.i-end) in
    bind_all g.C.Cipher.encrypted c.args.key c.args.blocks.now c.loop-i.sum c.loop-i.i last c.loop-i.invariant
