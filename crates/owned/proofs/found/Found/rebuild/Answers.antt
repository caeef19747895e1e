use Rattle.std.proofs.Common.{sym}
use Rattle.owned.proofs.FrontsLemmas.{front_written}
use Rattle.owned.proofs.found.Found.rebuild.Goals as goal

pub returns : goal.returns
returns g c =
    rw (sym c.as_slice-positions.ensures.value) (rw (sym c.as_slice-records.ensures.value)
    (rw (front_written _ _ _ _ 6198 c.rebuild-answer.ensures.answers c.rebuild-answer.ensures.fills) at c.front.ensures))
