use Rattle.std.proofs.Common.{◌≡◌, ◌<◌}
use Rattle.shelf.specs.Layout.{with_empty}
use Rattle.shelf.specs.Shelves.{SameShelf, row_of}
use Rattle.shelf.proofs.Emptied.{emptied}
use Rattle.shelf.proofs.ShelfRow.swap.Given as goal

abbrev pub invariant-loop-file : goal.invariant-loop-file
invariant-loop-file l = record {
  there : l.cabinet < (row_of l.self).count;
  row : row_of l.self ≡ emptied (row_of l.initial.self) l.cabinet l.file;
  memory : l.self.memory.now ≡ with_empty l.initial.self.memory.now l.self.room l.cabinet l.file;
  lender : SameShelf l.self l.initial.self;
}
