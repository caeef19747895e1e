use Rattle.std.proofs.Common.{◌≡◌, ℕ, ◌+◌, Err, sym, ap, ◌∙◌, subst, arith}
use Rattle.std.proofs.lemmas.Result.{err_from_is_err_and}
use Rattle.erasure.specs.Records.{coding}
use Rattle.site.proofs.Rewriting.{Round, round_done, round-most, round_next, round_none, round_past, round-refused}
use Rattle.site.proofs.repairing.rewrite_lacking.Goals as goal
use Rattle.site.proofs.repairing.rewrite_lacking.Goals.{then-lacks+in_ok-rewrite, else-lacks}

pub loop-c-init : goal.loop-c-init
loop-c-init g c =
    let f = g.F.Field in
    let a = c.args in
    round_none (coding f.ops f.width f.stored f.number a.source.now.plan.now.k) a.source.now.plan.now.n a.source.now.bytes a.source.now.positions.now a.source.now.records.now a.due a.file (g.R.ReadRow.model a.row.now)

pub overflow_add-count : goal.overflow_add-count
overflow_add-count g c =
    let f = g.F.Field in
    let a = c.args in
    let model = g.R.ReadRow.model in
    omega (
      arith,
      round-most (coding f.ops f.width f.stored f.number a.source.now.plan.now.k) a.source.now.plan.now.n a.source.now.bytes a.source.now.positions.now a.source.now.records.now a.due a.file (model a.row.now)
          c.loop-c.c c.loop-c.count (model c.loop-c.row) c.loop-c.invariant,
    )

pub returns-in_err-rewrite : goal.returns-in_err-rewrite
returns-in_err-rewrite g c =
    let f = g.F.Field in
    let a = c.args in
    let l = c.loop-c in
    let model = g.R.ReadRow.model in
    let e = err_from_is_err_and c.from_residual.result c.from_residual.ensures.1 in
    let p = round-refused (coding f.ops f.width f.stored f.number a.source.now.plan.now.k) a.source.now.plan.now.n a.source.now.bytes a.source.now.positions.now a.source.now.records.now a.due a.file (model a.row.now)
    l.c l.count (model l.row) l.invariant c.lacks.result c.lacks.ensures (g.R.ReadRow.sound l.row) l.spread (omega arith) c.from-whole.result
    c.from-whole.ensures c.if-lacks.true (model c.rewrite.new.row) c.rewrite.result c.rewrite.ensures.answers c.rewrite.ensures.becomes c.in_err-rewrite.field-0.0
    c.from_residual.result (omega (arith, c.loop-c-test.true, c.fitted-c-end.ensures)) c.in_err-rewrite.was (e.1 ∙ ap Err e.2) in
    record { answers = p.answers; becomes = p.becomes }

pub loop-c-preserved : goal.loop-c-preserved
loop-c-preserved g c =
    let f = g.F.Field in
    let a = c.args in
    let l = c.loop-c in
    let C = coding f.ops f.width f.stored f.number a.source.now.plan.now.k in
    let model = g.R.ReadRow.model in
    let n = a.source.now.plan.now.n in
    let ps = a.source.now.positions.now in
    let rs = a.source.now.records.now in
    let m = model a.row.now in
    let to : (row : _) (count : ℕ) → c.if-lacks.row ≡ row → c.if-lacks.count ≡ count → Round C n a.source.now.bytes ps rs a.due a.file m (l.c + 1) count (model row)
    → Round C n a.source.now.bytes ps rs a.due a.file m (l.c + 1) c.if-lacks.count (model c.if-lacks.row) =
    λ row count e u h. subst (λ k. Round C n a.source.now.bytes ps rs a.due a.file m (l.c + 1) k (model c.if-lacks.row)) (sym u)
    (subst (λ x. Round C n a.source.now.bytes ps rs a.due a.file m (l.c + 1) count (model x)) (sym e) h) in
    elim c.if-lacks.branch [
      | then-lacks+in_ok-rewrite w ↦ to _ _ w.row-is w.count-is (round_next C n a.source.now.bytes ps rs a.due a.file m l.c l.count (model l.row) l.invariant
          c.lacks.result c.lacks.ensures (g.R.ReadRow.sound l.row) l.spread (omega arith) c.from-whole.result c.from-whole.ensures
          w.if-lacks.true (model w.rewrite.new.row) w.rewrite.result w.rewrite.ensures.answers w.rewrite.ensures.becomes w.in_ok-rewrite.was)
      | else-lacks w ↦ to _ _ w.row-is w.count-is (round_past C n a.source.now.bytes ps rs a.due a.file m l.c l.count (model l.row) l.invariant c.lacks.result c.lacks.ensures w.if-lacks.false)
    ]

pub returns : goal.returns
returns g c =
    let f = g.F.Field in
    let a = c.args in
    let l = c.loop-c in
    let model = g.R.ReadRow.model in
    let p = round_done (coding f.ops f.width f.stored f.number a.source.now.plan.now.k) a.source.now.plan.now.n a.source.now.bytes a.source.now.positions.now a.source.now.records.now a.due a.file (model a.row.now)
    l.c l.count (model l.row) l.invariant (omega (arith, c.loop-c-test.false, l.auto.c-end, c.fitted-c-end.ensures)) in
    record { answers = p.answers; becomes = p.becomes }
