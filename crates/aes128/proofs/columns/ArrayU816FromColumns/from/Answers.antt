use Rattle.std.proofs.Common.{◌≡◌, ◌/◌, ◌%◌, get_or, rules, refl}
use Rattle.cipher.proofs.Made.{made}
use Rattle.aes128.specs.Columns.{byte_in, state_of}
use Rattle.aes128.specs.contracts.columns.fn.ArrayU816FromColumns.from.from_fn as closure
use Rattle.aes128.proofs.columns.ArrayU816FromColumns.from.Goals as goal

pub returns : goal.returns
unfolding state_of
returns c =
    let w = c.args.columns in
    made _ (λ p. (closure.captures p).columns ≡ w) (λ i. byte_in (get_or w.0 (i / 4) 0) (i % 4)) (λ p q i x kept call. search rules)
    16 _ _ 0 refl c.from_fn.ensures.items
