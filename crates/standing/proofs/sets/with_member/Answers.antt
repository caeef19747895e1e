use Rattle.std.proofs.Common.{◌+◌, ◌^◌, cond, sym, ap, ◌∙◌}
use Rattle.standing.proofs.Members.{one_more_bit}
use Rattle.standing.proofs.sets.with_member.Goals as goal

pub returns-then-member-lt16 : goal.returns-then-member-lt16
returns-then-member-lt16 c = λ few under.
    one_more_bit c.args.set c.args.member few under ∙ ap (λ b. c.args.set + cond b (2 ^ c.args.member) 0) (sym c.if-is_in.true)
