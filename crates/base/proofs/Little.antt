-- Little-endian numbers: each way undoes the other. Assumes nothing.
use Rattle.std.proofs.Common.{◌≡◌, ℕ, zero, suc, ◌+◌, ◌*◌, ◌/◌, ◌%◌, ◌^◌, ◌<◌, List, [], ◌∷◌, length, refl, ap, ◌∙◌, div-lt_iff_lt-mul, pow-suc, arith, lit<}
use Rattle.base.specs.Bytes.{Bytes, le_bytes, le_value}

pub length-le_bytes : (width n : ℕ) → length (le_bytes width n) ≡ width
length-le_bytes zero n = refl
length-le_bytes (suc width) n = ap suc (length-le_bytes width (n / 256))

pub Bytes-le_bytes : (width n : ℕ) → Bytes (le_bytes width n)
Bytes-le_bytes zero n i = omega arith
Bytes-le_bytes (suc width) n zero = omega arith
Bytes-le_bytes (suc width) n (suc i) = Bytes-le_bytes width (n / 256) i

pub le_value-le_bytes : (width n : ℕ) → n < 256 ^ width → le_value (le_bytes width n) ≡ n
le_value-le_bytes zero n h = omega arith
le_value-le_bytes (suc width) n h =
    let less : n / 256 < 256 ^ width = (div-lt_iff_lt-mul (lit< tt)).1 (rw pow-suc at h) in
    ap (λ m. n % 256 + 256 * m) (le_value-le_bytes width (n / 256) less) ∙ omega arith

pub le_bytes-le_value : (bs : List ℕ) → Bytes bs → le_bytes (length bs) (le_value bs) ≡ bs
le_bytes-le_value [] h = refl
le_bytes-le_value (b ∷ bs) h =
    let low : (b + 256 * le_value bs) % 256 ≡ b = omega (arith, h 0) in
    let high : (b + 256 * le_value bs) / 256 ≡ le_value bs = omega (arith, h 0) in
    ap (λ m. m ∷ le_bytes (length bs) ((b + 256 * le_value bs) / 256)) low
    ∙ ap (λ m. b ∷ le_bytes (length bs) m) high ∙ ap (λ xs. b ∷ xs) (le_bytes-le_value bs (λ i. h (suc i)))

pub le_value-lt : (bs : List ℕ) → Bytes bs → le_value bs < 256 ^ length bs
le_value-lt [] h = omega arith
le_value-lt (b ∷ bs) h = let p : le_value bs < 256 ^ length bs = le_value-lt bs (λ i. h (suc i)) in rw pow-suc (omega (arith, h 0))
