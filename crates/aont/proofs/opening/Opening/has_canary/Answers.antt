use Rattle.std.proofs.Common.{◌-◌, ◌/◌, length, arith}
use Rattle.aont.proofs.Named.{canary_test}
use Rattle.base.proofs.Lengths.{fits}
use Rattle.aont.proofs.opening.Opening.has_canary.Goals as goal

pub returns : goal.returns
returns g c =
    let pkg = c.args.self.now.bytes.now in
    canary_test g.C.Cipher.encrypted pkg c.args.self.now.fit (length pkg / 16 - 2) c.plain_block.result c.is_canary.result
    (omega (arith, fits (length pkg) c.args.self.now.fit)) c.plain_block.ensures c.is_canary.ensures
