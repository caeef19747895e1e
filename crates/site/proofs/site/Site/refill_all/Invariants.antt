use Rattle.std.proofs.Common.{false}
use Rattle.site.specs.Whole.{model_of}
use Rattle.site.proofs.Refills.{Refilling}
use Rattle.site.proofs.site.Site.refill_all.Given as goal

abbrev pub invariant-loop-file : goal.invariant-loop-file
invariant-loop-file g l =
    Refilling (model_of g.R.ReadRow g.F.Field g.C.Cipher l.initial.self) l.cabinet false l.file l.written (model_of g.R.ReadRow g.F.Field g.C.Cipher l.self)
