use Rattle.std.proofs.Common.{◌+◌, ◌-◌, ◌*◌, ◌≤◌, length, arith, rules}
use Rattle.rows.specs.Model.{held}
use Rattle.standing.proofs.EndToEnd.{gather_next, gathered, piece_within}
use Rattle.standing.proofs.gathering.gather.Goals as goal

pub slice_bounds-read-end : goal.slice_bounds-read-end
slice_bounds-read-end g c =
    let end : c.loop-i.i * c.args.stride + c.args.stride ≤ length c.loop-i.out =
    piece_within c.loop-i.i (length c.args.positions.now) c.args.stride (length c.args.out.now) (length c.loop-i.out) c.fits.result c.loop-i-test.true
    c.fits.ensures c.if-not-fits.false c.loop-i.auto.out in
    search rules

pub loop-i-preserved : goal.loop-i-preserved
loop-i-preserved g c = λ all.
    let row = c.args.row.now in
    let i = c.loop-i.i in
    let v = c.args.stride in
    let end : i * v + v ≤ length c.loop-i.out =
    piece_within i (length c.args.positions.now) v (length c.args.out.now) (length c.loop-i.out) c.fits.result c.loop-i-test.true c.fits.ensures
    c.if-not-fits.false c.loop-i.auto.out in
    gather_next (g.R.ReadRow.model row) (g.R.ReadRow.sound row) c.args.file v c.args.out.now c.loop-i.out c.read.new.buffer c.args.positions.now i c.from.result
    (i * v + v - i * v) c.read.result all c.loop-i-test.true end (omega arith) c.from.ensures (c.loop-i.invariant all) c.read.ensures.answers c.read.ensures.fills

pub returns : goal.returns
returns g c = record {
  long = c.loop-i.auto.out;
  records = λ all room.
      gathered (λ x. held ((g.R.ReadRow.model c.args.row.now).slot x c.args.file)) c.args.out.now c.loop-i.out c.args.positions.now c.loop-i.i (omega arith)
      (c.loop-i.invariant all);
}
