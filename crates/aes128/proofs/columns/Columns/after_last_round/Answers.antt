use Rattle.std.proofs.Common.{◌≡◌, rules, refl}
use Rattle.cipher.proofs.Made.{made}
use Rattle.aes128.proofs.Words.{moved_with, last_bytes}
use Rattle.aes128.specs.contracts.columns.fn.Columns.after_last_round.from_fn as closure
use Rattle.aes128.proofs.columns.Columns.after_last_round.Goals as goal

pub returns : goal.returns
returns c =
    let s = c.args.self.now in
    let k = c.args.key.now in
    last_bytes s k _
    (made _ (λ p. let l = closure.captures p in (l.self.now ≡ s) × (l.key.now ≡ k)) (moved_with s k) (λ p q i x kept call. search rules) 4 _ _ 0 (refl, refl) c.from_fn.ensures.items)
