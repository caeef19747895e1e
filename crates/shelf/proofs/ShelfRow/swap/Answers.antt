use Rattle.std.proofs.Common.{sym, refl, ap, ◌∙◌, arith}
use Rattle.rows.proofs.Laws.{cabinet_told}
use Rattle.shelf.specs.Layout.{with_empty}
use Rattle.shelf.specs.Shelves.{row_of}
use Rattle.shelf.specs.Sound.{shelf_sound}
use Rattle.shelf.proofs.Emptied.{emptied_none, emptied_more, emptied_all, with_empty_more}
use Rattle.shelf.proofs.ShelfRow.swap.Goals as goal

pub loop-file-init : goal.loop-file-init
unfolding with_empty
loop-file-init c =
    let near = c.in_ok-plug.ensures in
    record {
      there = omega (arith, cabinet_told (row_of c.args.self.now) c.args.cabinet (sym near.answers), ap (λ m. m.count) near.becomes);
      row = emptied_none _ _;
      memory = refl;
      lender = (refl, refl);
    }

pub loop-file-preserved : goal.loop-file-preserved
loop-file-preserved c =
    let so_far = c.loop-file.invariant in
    let more = c.in_ok-clear.ensures in
    record {
      there = omega (arith, so_far.there, ap (λ m. m.count) more.becomes);
      row = more.becomes ∙ emptied_more _ _ _ _ so_far.row;
      memory = more.memory ∙ with_empty_more _ _ _ _ _ _ more.lender.1 so_far.memory;
      lender = (more.lender.0 ∙ so_far.lender.0, more.lender.1 ∙ so_far.lender.1);
    }

pub returns-clause-becomes : goal.returns-clause-becomes
returns-clause-becomes c =
    let s = c.args.self.now in
    emptied_all (row_of s) _ _ c.args.cabinet _ ((shelf_sound s.memory.now s.room s.small).no_file c.args.cabinet) c.in_ok-plug.ensures.becomes (omega arith) c.loop-file.invariant.row
