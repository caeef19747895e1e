use Rattle.std.proofs.Common.{ap, ◌∙◌}
use Rattle.std.proofs.lemmas.List.{take_rest}
use Rattle.gf256.specs.Slices.{added}
use Rattle.gf256.proofs.Sums.{added-drop, added_past}
use Rattle.gf256.proofs.slices.add_from.Goals as goal

pub returns-then-begin-sources : goal.returns-then-begin-sources
returns-then-begin-sources c =
    let xs = c.args.out.now in
    let bs = c.args.sources.now in
    c.add_all.ensures ∙ ap (λ ys. added xs ys 0) (take_rest bs c.args.begin) ∙ added-drop xs bs c.args.begin

pub returns-else-begin-sources : goal.returns-else-begin-sources
returns-else-begin-sources c = added_past c.args.out.now c.args.sources.now c.args.begin c.if-begin-sources.false
