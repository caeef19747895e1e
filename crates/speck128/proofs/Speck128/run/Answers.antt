use Rattle.std.proofs.Common.{◌≡◌, arith}
use Rattle.speck128.specs.Speck.{rounds, start}
use Rattle.speck128.specs.Rounds.{block_more}
use Rattle.speck128.proofs.Speck128.run.Goals as goal

pub loop-k-init : goal.loop-k-init
unfolding rounds
loop-k-init c = (c.from-words.ensures.0, c.from-words.ensures.1)

pub loop-k-preserved : goal.loop-k-preserved
loop-k-preserved c =
    let block = c.args.block.now in
    let self = c.args.self.now in
    let i = c.loop-k.k-index in
    block_more i (start self.key block) _ _ _ _ _ c.loop-k.invariant.0 c.loop-k.invariant.1 (self.scheduled block i c.loop-k-test.true)
    (c.turned-words.ensures.x, c.turned-words.ensures.y)

pub returns : goal.returns
returns c =
    let last : c.loop-k.k-index ≡ 32 = omega arith in
    let done = rw last at c.loop-k.invariant in
    record { x = done.0; y = done.1 }
