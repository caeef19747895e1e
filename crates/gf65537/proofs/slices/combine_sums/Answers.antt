use Rattle.std.proofs.Common.{◌≡◌, ℕ, ◌*◌, ◌/◌, length, refl, arith}
use Rattle.base.proofs.Pieces.{stored_none, stored_next, stored-end}
use Rattle.algebra.specs.Slices.{combined_at, combined}
use Rattle.gf65537.specs.Gf65537.{gf65537}
use Rattle.gf65537.proofs.slices.combine_sums.Goals as goal

pub loop-j-init : goal.loop-j-init
unfolding combined
loop-j-init c = stored_none (λ j. combined_at gf65537 3 c.args.sum.now.weights.now c.args.sum.now.sources.now c.args.sum.now.stride (j * 3)) 3 c.args.out.now

pub loop-j-preserved : goal.loop-j-preserved
unfolding combined
loop-j-preserved c =
    let code : ℕ → ℕ = λ j. combined_at gf65537 3 c.args.sum.now.weights.now c.args.sum.now.sources.now c.args.sum.now.stride (j * 3) in
    stored_next code 3 3 refl c.args.out.now c.loop-j.out c.put_le.new.out c.loop-j.j c.sum_at.result c.loop-j.invariant c.loop-j.auto.out c.loop-j-test.true
    c.sum_at.ensures c.put_le.ensures

pub returns : goal.returns
unfolding combined
returns c =
    let code : ℕ → ℕ = λ j. combined_at gf65537 3 c.args.sum.now.weights.now c.args.sum.now.sources.now c.args.sum.now.stride (j * 3) in
    let last : c.loop-j.j ≡ length c.args.out.now / 3 = omega arith in
    stored-end code 3 3 refl c.args.out.now c.loop-j.out c.loop-j.j last c.loop-j.invariant
