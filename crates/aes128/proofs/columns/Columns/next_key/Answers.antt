use Rattle.std.proofs.Common.{ℕ, suc, map, sym, ap, ◌∙◌, arith}
use lib.Bits.{bit_xor}
use Rattle.std.specs.List.{range_with_len}
use Rattle.base.proofs.Placed.{placed_all}
use Rattle.aes128.proofs.Keys.{before, key_words}
use Rattle.aes128.proofs.columns.Columns.next_key.Goals as goal

pub returns : goal.returns
returns c =
    let s = c.args.self.now in
    let placed = c.loop-word.invariant.words in
    let f = λ (i : ℕ). before (bit_xor c.substituted.result c.from.result) s.0 (suc i) in
    key_words c.args.constant s _ c.to_le_bytes.result c.substituted.result c.from.result (omega arith)
    c.to_le_bytes.ensures c.substituted.ensures c.from.ensures
    (placed_all s.0 c.loop-word.word-items c.loop-word.word-index f (omega (arith, placed.long)) placed
    ∙ ap (λ n. map f (range_with_len 0 n)) (sym placed.long ∙ c.loop-word-test.array_long))
