use Rattle.std.proofs.Common.{rules}
use Rattle.std.proofs.lemmas.List.{drop-drop}
use Rattle.std.proofs.lemmas.Slice.{overwrites}
use Rattle.aont.proofs.blocks.put.Goals as goal

pub returns : goal.returns
returns c = search (rules, overwrites, drop-drop)
