use Rattle.std.proofs.Common.{◌≡◌, ◌*◌, ◌++◌, drop}
use Rattle.std.specs.List.{range_with_len, flat_map}
use Rattle.erasure.specs.Records.{columns}
use Rattle.erasure.specs.Whole.{coding_of}
use Rattle.recovery.specs.Formula.{worked_slice}
use Rattle.recovery.proofs.checking.Checked.slices.Given as goal

abbrev pub invariant-loop-i : goal.invariant-loop-i
invariant-loop-i g l =
    let C = coding_of g.F.Field l.self.plan.now in
    let from = l.sources in
    l.slices ≡ flat_map (worked_slice C from.positions.now from.slices.now from.stride (columns C l.self.bytes)) (range_with_len 0 l.i) ++ drop (l.i * l.size) l.initial.slices
