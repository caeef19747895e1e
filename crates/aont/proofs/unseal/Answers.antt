use Rattle.aont.proofs.Sealed.{exact}
use Rattle.aont.proofs.unseal.Goals as goal

pub returns : goal.returns
returns g c =
    let answers = c.unseal_tested.ensures.answers in
    let fills = c.unseal_tested.ensures.fills in
    record {
      answers = answers;
      fills = fills;
      exact = exact g.C.Cipher.encrypted g.C.Cipher.number g.met.C.Cipher.lawful c.args.package.now (λ i. (c.type_inv.package i).fits)
          c.unseal_tested.result c.args.out.now c.unseal_tested.new.out answers fills;
    }
