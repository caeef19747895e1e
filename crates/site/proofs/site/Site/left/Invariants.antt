use Rattle.std.proofs.Common.{◌≡◌, not, ◌&&◌, ltb}
use Rattle.standing.specs.Sets.{set_of}
use Rattle.site.specs.Model.{fitted, kept, standing}
use Rattle.site.specs.Whole.{model_of}
use Rattle.site.proofs.site.Site.left.Given as goal

abbrev pub invariant-loop-file : goal.invariant-loop-file
invariant-loop-file g l =
    let S = model_of g.R.ReadRow g.F.Field g.C.Cipher l.self in
    l.left ≡ set_of (λ f. (kept S f).current && not (ltb l.cabinet (fitted S) && standing S f l.cabinet)) l.file
