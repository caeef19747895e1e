use Rattle.gf256.proofs.Rules.{exponents_at}
use Rattle.gf256.proofs.tables.exponent.Goals as goal

pub returns : goal.returns
returns c = let r = exponents_at c.args.a c.requires c.ranges.a.fits in record { small = r.0; value = r.1 }
