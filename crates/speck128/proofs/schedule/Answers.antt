use Rattle.std.proofs.Common.{refl, arith}
use Rattle.speck128.specs.Rounds.{begun_none, begun_more}
use Rattle.speck128.proofs.schedule.Goals as goal

pub loop-i-init : goal.loop-i-init
loop-i-init c = begun_none c.args.key.now _ _ _ refl c.from-words.ensures.0 c.from-words.ensures.1

pub loop-i-preserved : goal.loop-i-preserved
loop-i-preserved c =
    begun_more c.args.key.now c.loop-i.round_key-items c.loop-i.i _ _ _ _ c.loop-i.invariant (omega arith)
    (c.turned-words.ensures.x, c.turned-words.ensures.y)

pub returns : goal.returns
returns c = λ block i less. c.loop-i.invariant.written block i (omega arith)
