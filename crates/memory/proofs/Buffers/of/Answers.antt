use Rattle.std.proofs.Common.{◌≡◌, false, ltb, length, refl}
use Rattle.std.proofs.lemmas.Bool.{le-ltb}
use Rattle.memory.proofs.Buffers.of.Goals as goal

pub returns-clause-some : goal.returns-clause-some
returns-clause-some c =
    let a : ltb (length c.args.sealed.now) 6400 ≡ false = le-ltb _ _ (c.in_ok-first_chunk_mut.ensures.variant.0 refl) in
    let b : ltb (length c.args.spread.now) 6400 ≡ false = le-ltb _ _ (c.in_ok-first_chunk_mut-2.ensures.variant.0 refl) in
    let d : ltb (length c.args.records.now) 6400 ≡ false = le-ltb _ _ (c.in_ok-first_chunk_mut-3.ensures.variant.0 refl) in
    let e : ltb (length c.args.opened.now) 6400 ≡ false = le-ltb _ _ (c.in_ok-first_chunk_mut-4.ensures.variant.0 refl) in
    rw (a, b, d, e)
