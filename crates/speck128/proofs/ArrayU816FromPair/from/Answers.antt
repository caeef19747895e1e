use Rattle.std.proofs.Common.{◌≡◌, ◌/◌, ◌%◌, [], ◌∷◌, get_or, rules, refl, sym, ◌∙◌}
use Rattle.cipher.proofs.Made.{made}
use Rattle.speck128.specs.Speck.{joined}
use Rattle.speck128.proofs.Eight.{eight_of, two_of_eight}
use Rattle.speck128.specs.contracts.fn.ArrayU816FromPair.from.from_fn as closure
use Rattle.speck128.proofs.ArrayU816FromPair.from.Goals as goal

pub returns : goal.returns
unfolding joined
returns c =
    let p = c.args.pair in
    let y = c.to_le_bytes.result in
    let x = c.to_le_bytes-2.result in
    made _ (λ f. (closure.captures f).words ≡ y ∷ x ∷ []) (λ i. get_or (get_or (y ∷ x ∷ []) (i / 8) []) (i % 8) 0)
    (λ f h i b kept call. search rules) 16 _ _ 0 refl c.from_fn.ensures.items
    ∙ two_of_eight y x p.y p.x (c.to_le_bytes.ensures ∙ sym (eight_of p.y)) (c.to_le_bytes-2.ensures ∙ sym (eight_of p.x))
