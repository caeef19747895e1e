use Rattle.std.proofs.Common.{◌≡◌, ℕ, ◌+◌, ◌*◌, ◌%◌, ◌≤◌, length, sym, ap, ◌∙◌, mul-le-mul_right, mul-le-mul_left, add-one, arith}
use Rattle.algebra.specs.Fields.{code}
use Rattle.algebra.specs.Polynomials.{at, sum_to}
use Rattle.algebra.specs.Slices.{stored_at, combined_at}
use Rattle.gf65537.specs.Gf65537.{gf65537}
use Rattle.gf65537.proofs.Sums.{sum_more, slice_within}
use Rattle.gf65537.proofs.slices.sum_within.Goals as goal

pub overflow_add-i : goal.overflow_add-i
overflow_add-i c = omega (arith, slice_within c.loop-i.i (length c.args.sum.now.weights.now) c.args.sum.now.stride c.args.place (length c.args.sum.now.sources.now) c.loop-i-test.true c.requires.inside)

pub code_within-code-requires : goal.code_within-code-requires
code_within-code-requires c =
    slice_within c.loop-i.i (length c.args.sum.now.weights.now) c.args.sum.now.stride c.args.place (length c.args.sum.now.sources.now) c.loop-i-test.true c.requires.inside

pub loop-i-preserved : goal.loop-i-preserved
loop-i-preserved c =
    let i = c.loop-i.i in
    let total = c.loop-i.total in
    let v = stored_at 3 c.args.sum.now.sources.now (i * c.args.sum.now.stride + c.args.place) in
    let w = at c.args.sum.now.weights.now i in
    let term : ℕ → ℕ = λ i. gf65537.mul (stored_at 3 c.args.sum.now.sources.now (i * c.args.sum.now.stride + c.args.place)) (at c.args.sum.now.weights.now i) in
    let a : c.from.result ≡ code 65537 v = c.from.ensures ∙ c.code_within-code.ensures in
    let b : c.from-in-loop-i.result ≡ code 65537 w = c.from-in-loop-i.ensures ∙ c.of.ensures in
    let low : c.from.result ≤ 65536 = omega (arith, c.from.ensures, c.code_within-code.result.small) in
    let low_too : c.from-in-loop-i.result ≤ 65536 = omega (arith, c.from-in-loop-i.ensures, c.of.result.small) in (
      ap (λ x. (total + x * c.from-in-loop-i.result) % 65537) a ∙ ap (λ x. (total + code 65537 v * x) % 65537) b ∙ sum_more total v w
          ∙ ap (λ x. gf65537.add x (gf65537.mul v w)) c.loop-i.invariant.0 ∙ ap (λ n. sum_to gf65537 n term) (sym (add-one i)),
      omega (arith, c.loop-i.invariant.1, mul-le-mul_left c.from.result low_too, mul-le-mul_right 65536 low),
    )

pub returns : goal.returns
unfolding combined_at
returns c =
    let last : c.loop-i.i ≡ length c.args.sum.now.weights.now = omega arith in
    rw last at c.loop-i.invariant.0
