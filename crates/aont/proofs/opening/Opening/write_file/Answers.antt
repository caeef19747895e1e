use Rattle.std.proofs.Common.{◌+◌, ◌-◌, ◌*◌, ◌≤◌, min, length, ap, ◌∙◌, arith}
use Rattle.aont.specs.Package.{message_in}
use Rattle.aont.specs.Seals.{unsealed}
use Rattle.base.proofs.Lengths.{fits}
use Rattle.aont.proofs.Written.{length-unsealed, piece_all, piece_next, unsealed_part}
use Rattle.aont.proofs.opening.Opening.write_file.Goals as goal

pub plain_block-plain-requires : goal.plain_block-plain-requires
plain_block-plain-requires g c =
    let pkg = c.args.self.now.bytes.now in
    let long = length-unsealed g.C.Cipher.encrypted g.C.Cipher.number pkg c.args.self.now.fit in
    let whole = fits (length pkg) c.args.self.now.fit in
    omega (arith, c.requires.whole)

pub loop-i-preserved : goal.loop-i-preserved
loop-i-preserved g c =
    let E = g.C.Cipher.encrypted in
    let number = g.C.Cipher.number in
    let pkg = c.args.self.now.bytes.now in
    let file = unsealed E number pkg in
    let i = c.loop-i.i in
    let low : 16 * i ≤ length file + 3 = omega (arith, c.requires.whole) in
    piece_next (message_in E pkg) file c.args.out.now i (unsealed_part E number pkg c.args.self.now.fit) low
    c.plain_block-plain.result c.loop-i.out c.put.new.bytes c.saturating_sub-at.result c.saturating_sub-from.result c.min-end.result
    c.plain_block-plain.ensures c.saturating_sub-at.ensures c.saturating_sub-from.ensures
    (c.min-end.ensures ∙ ap (λ n. min n (16 * i + 12)) c.requires.whole) c.loop-i.invariant c.put.ensures

pub returns : goal.returns
returns g c =
    let file = unsealed g.C.Cipher.encrypted g.C.Cipher.number c.args.self.now.bytes.now in
    let i = c.loop-i.i in
    let all : length file ≤ 16 * i - 4 = omega (arith, c.requires.whole) in
    piece_all file c.args.out.now c.loop-i.out i all c.loop-i.invariant
