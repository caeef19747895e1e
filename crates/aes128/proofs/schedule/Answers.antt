use Rattle.std.proofs.Common.{refl, ap, ◌∙◌, add-one, arith}
use Rattle.aes128.specs.Aes.{xtime, rcon, round_key}
use Rattle.aes128.proofs.Rounds.{begun_more, begun_all}
use Rattle.aes128.proofs.schedule.Goals as goal

pub loop-slot-init : goal.loop-slot-init
unfolding rcon round_key
loop-slot-init c = ((refl, λ r less. absurd (omega arith)), c.from-round_key.ensures, refl)

pub loop-slot-preserved : goal.loop-slot-preserved
unfolding rcon round_key
loop-slot-preserved c =
    let inv = c.loop-slot.invariant in (
      begun_more c.args.key.now c.loop-slot.slot-items c.loop-slot.slot-index _ c.loop-slot-test.true inv.0 inv.1,
      rw add-one (c.next_key-round_key.ensures ∙ simp (inv.1, inv.2)),
      rw add-one (c.double-constant.ensures ∙ ap xtime inv.2),
    )

pub returns : goal.returns
returns c = begun_all c.args.key.now c.loop-slot.slot-items c.loop-slot.slot-index c.loop-slot-test.false c.loop-slot.invariant.0
