use Rattle.std.proofs.Common.{◌≡◌, Bool, true, false, not, ◌&&◌, cond, ltb, ◌+◌, [], ◌∷◌, ◌++◌, length, is_some, None, Option, sym, ap, ◌∙◌, arith}
use Rattle.std.proofs.lemmas.List.{append-nil}
use Rattle.std.proofs.lemmas.Bool.{and_from, and_left, and_right, le-ltb, lt-ltb}
use Rattle.standing.specs.declared.cause.Cause.{Cause}
use Rattle.standing.specs.Sets.{lowest}
use Rattle.standing.specs.Standing.{cause_of, same_cause, stands}
use Rattle.standing.proofs.Members.{lowest_at_most, lowest_next}
use Rattle.standing.proofs.Same.{same_none}
use Rattle.standing.proofs.lowest.lowest_standing.Goals as goal
use Rattle.standing.proofs.lowest.lowest_standing.Goals.{then-positions-k+then-is_none, else-positions-k, else-positions-k-via-then-positions-k+else-is_none, else-positions-k-via-else-positions-k}

pub push-requires : goal.push-requires
push-requires g c =
    omega (arith, lowest_at_most (stands (g.R.ReadRow.model c.args.row.now) c.args.due c.args.file) c.args.k c.loop-c.c, ap length c.loop-c.invariant)

pub loop-c-preserved : goal.loop-c-preserved
loop-c-preserved g c =
    let m = g.R.ReadRow.model c.args.row.now in
    let n = c.loop-c.c in
    let was = c.loop-c.lowest in
    let test = stands m c.args.due c.args.file in
    let told : (why : Option Cause) (b : Bool) → why ≡ cause_of m c.args.due c.args.file n → is_some why ≡ not b → b ≡ test n =
    λ why b e h. same_none why b h ∙ ap (λ y. same_cause y None) e in
    let next : (b : Bool) → (ltb (length was) c.args.k && test n) ≡ b → c.if-positions-k.lowest ≡ was ++ cond b (n ∷ []) [] → c.if-positions-k.lowest ≡ lowest c.args.k test (n + 1) =
    λ b e. lowest_next test c.args.k n b was c.if-positions-k.lowest c.loop-c.invariant (sym e) in
    elim c.if-positions-k.branch [
      | then-positions-k+then-is_none w ↦ next true
          (and_from (ltb (length was) c.args.k) (test n) (lt-ltb (length was) c.args.k (omega (arith, ap length c.positions.ensures, w.if-positions-k.true)))
          (sym (told w.cause_at.result w.is_none.result w.cause_at.ensures w.is_none.ensures) ∙ w.if-is_none.true)) (w.lowest-is ∙ w.push.ensures)
      | else-positions-k w ↦ elim w.else-positions-k.branch [
        | else-positions-k-via-then-positions-k+else-is_none v ↦ next false
            (and_right (ltb (length was) c.args.k) (test n) (sym (told v.cause_at.result v.is_none.result v.cause_at.ensures v.is_none.ensures) ∙ v.if-is_none.false)) (w.lowest-is ∙ sym (append-nil was))
        | else-positions-k-via-else-positions-k v ↦ next false
            (and_left (ltb (length was) c.args.k) (test n) (le-ltb (length was) c.args.k (omega (arith, ap length c.positions.ensures, v.if-positions-k.false)))) (w.lowest-is ∙ sym (append-nil was))
      ]
    ]
