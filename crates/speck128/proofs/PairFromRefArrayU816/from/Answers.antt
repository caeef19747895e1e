use Rattle.std.proofs.Common.{◌≡◌, ℕ, ◌+◌, ◌*◌, ◌/◌, ◌<◌, ◌≤◌, [], length, get_or, ap, ◌∙◌, arith}
use Rattle.std.specs.Int.{w64, from_le_bytes}
use Rattle.base.specs.Bytes.{le_value, part}
use Rattle.base.proofs.Parts.{length_part}
use Rattle.cipher.proofs.Chunks.{chunk_at}
use Rattle.speck128.proofs.Eight.{value_of_eight}
use Rattle.speck128.proofs.PairFromRefArrayU816.from.Goals as goal

pub returns : goal.returns
returns c =
    let block = c.args.bytes.now in
    let word : (i n : ℕ) → i < 2 → n ≡ from_le_bytes w64 (get_or c.as_chunks.result.0.now i []) → n ≡ le_value (part block (i * 8) 8) =
    λ i n l e.
    let within : i < length block / 8 = omega (arith, c.told-bytes) in
    let whole : i * 8 + 8 ≤ length block = omega (arith, c.told-bytes) in
    e ∙ ap (λ bs. from_le_bytes w64 (get_or bs i [])) c.as_chunks.ensures.front ∙ ap (from_le_bytes w64) (chunk_at 8 (length block / 8) i block [] within)
    ∙ value_of_eight (part block (i * 8) 8) (length_part block (i * 8) 8 whole) in
    (word 1 c.from_le_bytes.result (omega arith) c.from_le_bytes.ensures, word 0 c.from_le_bytes-2.result (omega arith) c.from_le_bytes-2.ensures)
