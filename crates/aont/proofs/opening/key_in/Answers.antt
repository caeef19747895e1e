use Rattle.std.proofs.Common.{◌≡◌, ◌-◌, ◌*◌, ◌/◌, length, take, drop, ap, ◌∙◌, arith}
use Rattle.aont.specs.Package.{bound, key_in}
use Rattle.base.proofs.Lengths.{fits}
use Rattle.aont.proofs.Sealed.{last_block}
use Rattle.aont.proofs.opening.key_in.Goals as goal

pub block_at-requires : goal.block_at-requires
block_at-requires g c = omega (arith, fits (length c.args.package.now) c.requires)

pub returns : goal.returns
unfolding key_in
returns g c =
    let E = g.C.Cipher.encrypted in
    let pkg = c.args.package.now in
    let end = length pkg - 16 in
    let whole = fits (length pkg) c.requires in
    let same : end - 0 ≡ end = omega arith in
    let at : 16 * (end / 16) ≡ end = omega arith in
    c.bind.ensures ∙ ap (λ k. bound E k (take (end - 0) pkg)) (c.block_at.ensures ∙ last_block E pkg c.requires (end / 16) at)
    ∙ ap (λ n. bound E (drop end pkg) (take n pkg)) same
