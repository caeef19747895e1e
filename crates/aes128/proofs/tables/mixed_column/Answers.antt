use Rattle.std.proofs.Common.{◌≡◌, ℕ, ◌%◌, ◌^◌, sym, refl, ap, ◌∙◌, mod-eq_of_lt, arith}
use lib.Bits.{bit_xor, xor_assoc, xor_comm, xor_mod}
use Rattle.aes128.specs.Sizes.{sbox_byte}
use Rattle.aes128.proofs.Words.{mixed_rows}
use Rattle.aes128.proofs.tables.mixed_column.Goals as goal

pub returns : goal.returns
returns c =
    let k = c.args.key in
    let a = c.mixed_twice.result % 2 ^ 32 in
    let last : (x y : ℕ) → bit_xor (bit_xor x k) y ≡ bit_xor (bit_xor x y) k = λ x y. xor_assoc x k y ∙ ap (bit_xor x) (xor_comm k y) ∙ sym (xor_assoc x y k) in
    let low : c.low_word.result ≡ bit_xor a k =
    c.low_word.ensures ∙ ap (λ m. bit_xor c.mixed_twice.result m % 2 ^ 32) c.from.ensures ∙ xor_mod c.mixed_twice.result k 32 ∙ ap (bit_xor a) (mod-eq_of_lt (omega arith)) in
    let rows = mixed_rows _ _ _ _ _ _ _ _ a _ _ _ (sbox_byte _) (sbox_byte _) (sbox_byte _) (sbox_byte _)
    c.mixed_twice.ensures c.mixed_twice-2.ensures c.mixed_twice-3.ensures c.mixed_twice-4.ensures
    refl c.low_word-2.ensures c.low_word-3.ensures c.low_word-4.ensures in
    ap (λ m. bit_xor (bit_xor (bit_xor m c.low_word-2.result) c.low_word-3.result) c.low_word-4.result) low
    ∙ ap (λ m. bit_xor (bit_xor m c.low_word-3.result) c.low_word-4.result) (last a c.low_word-2.result)
    ∙ ap (λ m. bit_xor m c.low_word-4.result) (last (bit_xor a c.low_word-2.result) c.low_word-3.result)
    ∙ last (bit_xor (bit_xor a c.low_word-2.result) c.low_word-3.result) c.low_word-4.result ∙ ap (λ m. bit_xor m k) rows
