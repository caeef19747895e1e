use Rattle.std.proofs.Common.{◌≡◌, ◌<◌, drop, arith}
use Rattle.std.proofs.lemmas.List.{length-take}
use Rattle.aes128.proofs.Rounds.{key_at_lem, key_between, first_state, next_state, last_state}
use Rattle.aes128.proofs.Aes128.run.Goals as goal

pub loop-key-init : goal.loop-key-init
loop-key-init c =
    let self = c.args.self.now in
    first_state self.key c.args.block.now _ _ _ c.from.ensures (key_at_lem self.key self.round_keys self.scheduled _ 0 (omega arith))
    c.with_round_key-state.ensures

pub loop-key-preserved : goal.loop-key-preserved
loop-key-preserved c =
    let self = c.args.self.now in
    let i = c.loop-key.key-index in
    let less : i < 9 = omega (arith, length-take 9 (drop 1 self.round_keys), c.loop-key-test.true) in
    next_state self.key c.args.block.now i _ _ _ c.loop-key.invariant (key_between self.key self.round_keys self.scheduled _ i less) c.after_round-state.ensures

pub returns : goal.returns
returns c =
    let self = c.args.self.now in
    let last : c.loop-key.key-index ≡ 9 = omega arith in
    last_state self.key c.args.block.now _ _ _ (rw last at c.loop-key.invariant)
    (key_at_lem self.key self.round_keys self.scheduled _ 10 (omega arith)) c.after_last_round.ensures
