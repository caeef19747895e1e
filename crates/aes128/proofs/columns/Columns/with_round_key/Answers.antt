use Rattle.std.proofs.Common.{◌≡◌, rules, refl}
use Rattle.cipher.proofs.Made.{made}
use Rattle.aes128.proofs.Words.{added, xor_bytes}
use Rattle.aes128.specs.contracts.columns.fn.Columns.with_round_key.from_fn as closure
use Rattle.aes128.proofs.columns.Columns.with_round_key.Goals as goal

pub returns : goal.returns
returns c =
    let s = c.args.self.now in
    let k = c.args.key.now in
    xor_bytes s k _
    (made _ (λ p. let l = closure.captures p in (l.self.now ≡ s) × (l.key.now ≡ k)) (added s k) (λ p q i x kept call. search rules) 4 _ _ 0 (refl, refl) c.from_fn.ensures.items)
