use Rattle.gf256.proofs.Rules.{powers_at}
use Rattle.gf256.proofs.tables.power_of_two.Goals as goal

pub returns : goal.returns
returns c = powers_at c.args.i c.requires
