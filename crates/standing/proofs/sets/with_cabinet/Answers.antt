use Rattle.std.proofs.Common.{◌≡◌, ℕ, ◌+◌, ◌^◌, ◌<◌, Bool, cond, Some, None, Option, ap, ◌∙◌}
use Rattle.standing.specs.declared.cause.Cause.{Cause}
use Rattle.standing.specs.declared.cause.Cause.TheVariants.{Away, Condemned, Empty, Old}
use Rattle.standing.specs.Sets.{set_of}
use Rattle.standing.specs.Standing.{cause_of, same_cause}
use Rattle.standing.proofs.Members.{set_next}
use Rattle.standing.proofs.Same.{same_none, same_some}
use Rattle.standing.proofs.sets.with_cabinet.Goals as goal

pub returns : goal.returns
returns g c =
    let m = g.R.ReadRow.model c.args.row.now in
    let n = c.args.cabinet in
    let w = c.cause_at-cause.result in
    let has : Option Cause → ℕ → Bool = λ why x. same_cause (cause_of m c.args.due c.args.file x) why in
    let below = c.requires.below in
    let next : (why : Option Cause) (old new : ℕ) (b : Bool) → old ≡ set_of (has why) n → b ≡ same_cause w why → (n < 16 → old < 2 ^ n → new ≡ old + cond b (2 ^ n) 0) → new ≡ set_of (has why) (n + 1) =
    λ why old new b e t r. set_next (has why) n old new b c.requires.few e (t ∙ ap (λ y. same_cause y why) c.cause_at-cause.ensures) r in
    λ i. record {
      standing = next None _ _ _ (ap (λ s. s.standing) below) (same_none w c.is_none.result c.is_none.ensures) c.with_member.ensures i;
      absent = record {
        away = next (Some Away) _ _ _ (ap (λ s. s.absent.away) below) (c.eq.ensures ∙ same_some w Away) c.with_member-2.ensures i;
        condemned = next (Some Condemned) _ _ _ (ap (λ s. s.absent.condemned) below) (c.eq-2.ensures ∙ same_some w Condemned) c.with_member-3.ensures i;
        empty = next (Some Empty) _ _ _ (ap (λ s. s.absent.empty) below) (c.eq-3.ensures ∙ same_some w Empty) c.with_member-4.ensures i;
        old = next (Some Old) _ _ _ (ap (λ s. s.absent.old) below) (c.eq-4.ensures ∙ same_some w Old) c.with_member-5.ensures i;
      };
    }
