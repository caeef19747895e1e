use Rattle.std.proofs.Common.{◌≡◌, ℕ, zero, suc, ◌*◌, ◌%◌, ◌^◌, ◌≤◌, cond, sym, refl, ap, ◌∙◌, arith}
use Rattle.recovery.proofs.gathering.symbol_limit.Goals as goal

shifted : (w : ℕ) → 1 ≤ w → w ≤ 2 → 1 * 2 ^ (8 * w) % 4294967296 ≡ 256 ^ w
shifted zero low high = absurd (omega arith)
shifted (suc zero) low high = refl
shifted (suc (suc zero)) low high = refl
shifted (suc (suc (suc w))) low high = absurd (omega arith)

pub returns-then-within : goal.returns-then-within
returns-then-within g c =
    let W = g.met.F.Field.widths in
    ap (λ v. 1 * 2 ^ (8 * v) % 4294967296) c.data_width.ensures ∙ shifted g.F.Field.width W.least W.most ∙ sym (ap (λ b. cond b (256 ^ g.F.Field.width) 1) c.if-within.true)
