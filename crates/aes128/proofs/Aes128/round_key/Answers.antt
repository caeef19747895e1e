use Rattle.std.proofs.Common.{ap, ◌∙◌, arith}
use Rattle.aes128.specs.Aes.{round_key}
use Rattle.aes128.proofs.Rounds.{key_at_lem}
use Rattle.aes128.proofs.Aes128.round_key.Goals as goal

pub returns : goal.returns
returns c =
    let self = c.args.self.now in
    c.into.ensures ∙ key_at_lem self.key self.round_keys self.scheduled _ c.min.result (omega arith) ∙ ap (round_key self.key) c.min.ensures
