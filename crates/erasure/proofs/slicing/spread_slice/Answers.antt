use Rattle.std.proofs.Common.{◌≡◌, ℕ, ◌+◌, ◌*◌, ◌/◌, length, ap, ◌∙◌, arith}
use Rattle.base.proofs.Pieces.{stored_none, stored_next, stored-end}
use Rattle.erasure.specs.Records.{column, symbol}
use Rattle.erasure.specs.Whole.{coding_of}
use Rattle.erasure.proofs.Reading.{read_symbol}
use Rattle.erasure.proofs.slicing.spread_slice.Goals as goal

pub loop-j-init : goal.loop-j-init
loop-j-init g c = stored_none (λ j. j) g.F.Field.stored c.args.out.now

pub loop-j-preserved : goal.loop-j-preserved
loop-j-preserved g c =
    let f = g.F.Field in
    let pkg = c.args.package.now in
    let C = coding_of f c.args.plan.now in
    let j = c.loop-j.j in
    stored_next (λ j. column C pkg j c.args.i) f.stored c.stored_width-stored.result c.stored_width-stored.ensures c.args.out.now c.loop-j.out c.put_le.new.out j
    c.le_at.result c.loop-j.invariant c.loop-j.auto.out c.loop-j-test.true
    (read_symbol f.ops f.width f.stored f.number g.met.F.Field.widths pkg (j * c.needed-k.result + c.args.i) c.data_width-width.result c.le_at.result
    c.data_width-width.ensures c.le_at.ensures ∙ ap (λ k. symbol C pkg (j * k + c.args.i)) c.needed-k.ensures)
    c.put_le.ensures

pub returns : goal.returns
returns g c =
    let f = g.F.Field in
    let own : ℕ → ℕ = λ j. column (coding_of f c.args.plan.now) c.args.package.now j c.args.i in
    let last : c.loop-j.j ≡ length c.args.out.now / c.stored_width-stored.result = omega arith in
    stored-end own f.stored c.stored_width-stored.result c.stored_width-stored.ensures c.args.out.now c.loop-j.out c.loop-j.j last c.loop-j.invariant
