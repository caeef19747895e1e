use Rattle.std.proofs.Common.{rules}
use Rattle.shelf.proofs.Changes.{reach_model}
use Rattle.shelf.proofs.Shelf.set_reach.Goals as goal

pub returns-clause-becomes : goal.returns-clause-becomes
returns-clause-becomes c = let at = c.in_ok-at.ensures.within in reach_model _ _ _ _ _ c.args.near at.is at.there (search rules)
