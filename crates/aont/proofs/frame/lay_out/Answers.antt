use Rattle.std.proofs.Common.{◌+◌, ◌-◌, ◌*◌, ◌/◌, length, take, replicate}
use Rattle.aont.proofs.Framing.{laid, zeros_are}
use Rattle.aont.proofs.frame.lay_out.Goals as goal

pub returns : goal.returns
returns c =
    let n = length c.args.file.now in
    laid c.args.number c.args.file.now c.args.out.now c.to_le_bytes.result c.to_le_bytes-2.result
    (take (16 * ((n + 19) / 16) - (4 + n) - 0) (replicate 16 0))
    c.put.new.bytes c.put-2.new.bytes c.put-3.new.bytes c.put-4.new.bytes c.put-5.new.bytes
    c.to_le_bytes.ensures c.to_le_bytes-2.ensures (zeros_are n)
    c.put.ensures c.put-2.ensures c.put-3.ensures c.put-4.ensures c.put-5.ensures
