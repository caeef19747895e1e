use Rattle.std.proofs.Common.{◌∙◌, ⊎_elim}
use Rattle.gf256.proofs.Rules.{product-power, none_product, product_none}
use Rattle.gf256.proofs.product.Goals as goal

pub returns-then-a-eq0 : goal.returns-then-a-eq0
returns-then-a-eq0 c = ⊎_elim (none_product c.args.a c.args.b) (λ w. product_none c.args.a c.args.b w.1) c.then-a-eq0.either

pub returns : goal.returns
returns c = c.power_of_two.ensures ∙ product-power c.args.a c.args.b _ _ c.exponent.ensures.value c.exponent-2.ensures.value
