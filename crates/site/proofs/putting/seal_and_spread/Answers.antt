use Rattle.std.proofs.Common.{arith}
use Rattle.erasure.specs.Records.{coding}
use Rattle.site.proofs.Puts.{records-spread}
use Rattle.site.proofs.putting.seal_and_spread.Goals as goal

pub returns : goal.returns
returns g c =
    let f = g.F.Field in
    let plan = c.args.plan.now.fits in
    records-spread g.C.Cipher.encrypted g.C.Cipher.number c.args.key.now c.args.bytes.now c.requires.few c.requires.wide
    (coding f.ops f.width f.stored f.number c.args.plan.now.k) g.met.F.Field.lawful g.met.F.Field.widths (omega (arith, plan)) (omega (arith, plan))
    c.length_of_package-size.result c.args.package.now c.seal_file.new.package c.args.slices.now c.spread.new.slices c.spread.result c.seal_file.ensures.bytes (omega arith)
    c.length_of_package-size.ensures c.seal_file.ensures.fills c.spread.ensures.answers c.spread.ensures.fills
