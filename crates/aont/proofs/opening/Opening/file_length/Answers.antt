use Rattle.std.proofs.Common.{◌≡◌, ◌+◌, ◌-◌, ◌*◌, ◌/◌, length, ◌∙◌, arith}
use Rattle.aont.proofs.Named.{its_length, no_header, no_padding}
use Rattle.base.proofs.Lengths.{fits}
use Rattle.aont.proofs.opening.Opening.file_length.Goals as goal

pub returns-then-not-header_fits : goal.returns-then-not-header_fits
returns-then-not-header_fits g c =
    no_header g.C.Cipher.encrypted c.args.self.now.bytes.now c.args.self.now.fit g.C.Cipher.number g.met.C.Cipher.lawful
    c.args.self.now.held c.plain_block-first.result c.plain_block-first.ensures
    c.cipher_number.result c.cipher_number.ensures c.header_fits.result c.header_fits.ensures c.if-not-header_fits.true

pub returns-then-not-is_padded : goal.returns-then-not-is_padded
returns-then-not-is_padded g c =
    let pkg = c.args.self.now.bytes.now in
    let i = (length pkg - 32) / 16 - 1 in
    let at : 16 * i + 16 ≡ length pkg - 32 = omega (arith, fits (length pkg) c.args.self.now.fit) in
    no_padding g.C.Cipher.encrypted pkg c.args.self.now.fit g.C.Cipher.number g.met.C.Cipher.lawful
    c.args.self.now.held c.plain_block-first.result c.plain_block-first.ensures
    c.cipher_number.result c.cipher_number.ensures c.header_fits.result c.header_fits.ensures c.if-not-header_fits.false
    i c.plain_block-last.result at c.plain_block-last.ensures c.from-size.result (c.from-size.ensures ∙ c.u16_at.ensures)
    c.is_padded.result c.is_padded.ensures c.if-not-is_padded.true

pub returns : goal.returns
returns g c =
    let pkg = c.args.self.now.bytes.now in
    let i = (length pkg - 32) / 16 - 1 in
    let at : 16 * i + 16 ≡ length pkg - 32 = omega (arith, fits (length pkg) c.args.self.now.fit) in
    its_length g.C.Cipher.encrypted pkg c.args.self.now.fit g.C.Cipher.number g.met.C.Cipher.lawful
    c.args.self.now.held c.plain_block-first.result c.plain_block-first.ensures
    c.cipher_number.result c.cipher_number.ensures c.header_fits.result c.header_fits.ensures c.if-not-header_fits.false
    i c.plain_block-last.result at c.plain_block-last.ensures c.from-size.result (c.from-size.ensures ∙ c.u16_at.ensures)
    c.is_padded.result c.is_padded.ensures c.if-not-is_padded.false
