use Rattle.std.proofs.Common.{arith}
use Rattle.shelf.specs.declared.slot.Stored.TheVariants.{Held}
use Rattle.shelf.proofs.Changes.{stored_model}
use Rattle.shelf.proofs.ShelfRow.write.Goals as goal

pub returns-clause-becomes : goal.returns-clause-becomes
returns-clause-becomes c =
    let at = c.in_ok-at.ensures.within in
    stored_model _ _ _ _ _ _ (Held c.args.bytes) c.put.ensures at.is at.there at.file c.args.self.now.small (grind (arith, c.if-is_empty.ensures), omega arith, c.holds_bytes.ensures)
