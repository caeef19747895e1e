-- What the code's comparison of two causes finds is whether they are the same. Assumes nothing.
use Rattle.std.proofs.Common.{◌≡◌, Bool, true, false, not, is_some, Some, None, Option, sym, refl}
use Rattle.std.proofs.lemmas.Bool.{not-true}
use Rattle.std.specs.Option.{option_eq}
use Rattle.standing.specs.contracts.cause.CausePartialEq.TheImpl as impl
use Rattle.standing.specs.declared.cause.Cause.{Cause}
use Rattle.standing.specs.declared.cause.Cause.TheVariants.{Away, Condemned, Empty, Old}
use Rattle.standing.specs.Standing.{same_cause}

pub same_none : (why : Option Cause) (b : Bool) → is_some why ≡ not b → b ≡ same_cause why None
same_none None true h = refl
same_none None false h = h
same_none (Some Away) b h = not-true b (sym h)
same_none (Some Condemned) b h = not-true b (sym h)
same_none (Some Empty) b h = not-true b (sym h)
same_none (Some Old) b h = not-true b (sym h)

pub same_some : (why : Option Cause) (x : Cause) → option_eq impl.eq-value.it why (Some x) ≡ same_cause why (Some x)
same_some None x = refl
same_some (Some Away) Away = refl
same_some (Some Away) Condemned = refl
same_some (Some Away) Empty = refl
same_some (Some Away) Old = refl
same_some (Some Condemned) Away = refl
same_some (Some Condemned) Condemned = refl
same_some (Some Condemned) Empty = refl
same_some (Some Condemned) Old = refl
same_some (Some Empty) Away = refl
same_some (Some Empty) Condemned = refl
same_some (Some Empty) Empty = refl
same_some (Some Empty) Old = refl
same_some (Some Old) Away = refl
same_some (Some Old) Condemned = refl
same_some (Some Old) Empty = refl
same_some (Some Old) Old = refl
