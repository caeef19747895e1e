use Rattle.std.proofs.Common.{◌≡◌, ◌*◌, ◌++◌, length, drop}
use Rattle.std.specs.List.{range_with_len, flat_map}
use Rattle.erasure.specs.Whole.{coding_of}
use Rattle.erasure.specs.Records.{columns}
use Rattle.erasure.specs.Formula.{slice_of}
use Rattle.erasure.proofs.slicing.spread_slices.Given as goal

abbrev pub invariant-loop-i : goal.invariant-loop-i
invariant-loop-i g l =
    let f = g.F.Field in
    let C = coding_of f l.plan in
    l.slices ≡ flat_map (slice_of C l.package (columns C (length l.package))) (range_with_len 0 l.i) ++ drop (l.i * l.size) l.initial.slices
