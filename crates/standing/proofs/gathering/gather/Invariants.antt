use Rattle.std.proofs.Common.{◌≡◌, take}
use Rattle.std.specs.List.{flat_map, AllByRecursion}
use Rattle.base.specs.Bytes.{over}
use Rattle.rows.specs.Model.{held}
use Rattle.standing.specs.Gather.{Holds}
use Rattle.standing.proofs.gathering.gather.Given as goal

abbrev pub invariant-loop-i : goal.invariant-loop-i
invariant-loop-i g l =
    let m = g.R.ReadRow.model l.row in
    AllByRecursion (Holds m l.file l.stride) l.positions → l.out ≡ over (flat_map (λ c. held (m.slot c l.file)) (take l.i l.positions)) l.initial.out
