use Rattle.std.proofs.Common.{◌≡◌, ◌*◌, ◌++◌, drop}
use Rattle.erasure.specs.Whole.{coding_of}
use Rattle.erasure.specs.Formula.{slice_of}
use Rattle.erasure.proofs.slicing.spread_slice.Given as goal

abbrev pub invariant-loop-j : goal.invariant-loop-j
invariant-loop-j g l =
    let f = g.F.Field in
    l.out ≡ slice_of (coding_of f l.plan) l.package l.j l.i ++ drop (l.j * f.stored) l.initial.out
