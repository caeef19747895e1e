use Rattle.std.proofs.Common.{◌≡◌, ◌%◌, ◌<◌, ◌≤◌, sym, ap, ◌∙◌, subst, mod-lt, mod-eq_of_lt, mul-one, arith}
use Rattle.algebra.specs.Fields.{inverse}
use Rattle.gf65537.specs.Gf65537.{times}
use Rattle.gf65537.specs.Prime.{p-pos, prime, step}
use Rattle.gf65537.specs.Laws65537.{inverse-zero, only_inverse}
use Rattle.gf65537.proofs.Code.inverse.Goals as goal

pub returns-then-self-eq0 : goal.returns-then-self-eq0
returns-then-self-eq0 c = c.if-self-eq0.true ∙ sym (ap (inverse 65537 times) c.if-self-eq0.true ∙ inverse-zero)

pub loop-x-init : goal.loop-x-init
loop-x-init c = (ap (λ n. n % 65537) (mul-one c.args.self.value) ∙ mod-eq_of_lt c.args.self.small, omega arith, c.args.self.small, omega arith)

pub loop-x-preserved : goal.loop-x-preserved
loop-x-preserved c =
    let a = c.args.self.value in
    let v = c.loop-x.invariant in
    let low : 2 ≤ c.loop-x.x = omega arith in
    let less : 65537 % c.loop-x.x < c.loop-x.x = mod-lt 65537 (omega arith) in (
      ap (times a) c.times-c.ensures ∙ step a c.loop-x.c.0 c.loop-x.x v.0 low v.2,
      prime c.loop-x.x low v.2,
      omega arith,
      subst (λ n. n < 65537) (sym c.times-c.ensures) (mod-lt _ p-pos),
    )

pub returns : goal.returns
returns c =
    let v = c.loop-x.invariant in
    let one : c.loop-x.x ≡ 1 = omega arith in
    sym (only_inverse c.args.self.value c.loop-x.c.0 v.3 (v.0 ∙ one))
