-- What a plan makes of a field of the program, as the definitions see it. Assumes nothing.
use Rattle.algebra.specs.declared.field.Field.{Ghosts as Field}
use Rattle.erasure.specs.declared.plan.Plan.{Plan}
use Rattle.erasure.specs.Records.{Coding, coding}

abbrev pub coding_of : {F : Type 0} → Field F → Plan → Coding
coding_of field plan = coding field.ops field.width field.stored field.number plan.k
