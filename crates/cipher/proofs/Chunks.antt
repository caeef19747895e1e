-- A list cut into chunks of n, as `as_chunks` cuts it. Assumes nothing.
use Rattle.std.proofs.Common.{◌≡◌, ℕ, zero, suc, ◌+◌, ◌*◌, ◌<◌, List, get_or, take, drop, suc-mul, ap, ◌∙◌, arith}
use Rattle.std.specs.Simd.{first_chunks}
use Rattle.std.proofs.lemmas.List.{drop-drop}
use Rattle.base.specs.Bytes.{part}

pub chunk_at : (n k c : ℕ) (xs d : List ℕ) → c < k → get_or (first_chunks n k xs) c d ≡ part xs (c * n) n
chunk_at n zero c xs d h = absurd (omega arith)
chunk_at n (suc k) zero xs d h = let e : 0 ≡ 0 * n = omega arith in ap (λ m. part xs m n) e
chunk_at n (suc k) (suc c) xs d h =
    let e : n + c * n ≡ suc c * n = omega (arith, suc-mul c n) in
    chunk_at n k c (drop n xs) d (omega arith) ∙ ap (take n) (drop-drop (c * n) n xs) ∙ ap (λ m. part xs m n) e
