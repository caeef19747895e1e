-- What the C calls that seal and unseal answer and leave. An unknown cipher is refused first, with 13. Assumes nothing.
use Rattle.std.specs.Prelude.{ℕ, List, length, ℤ}
use Rattle.base.specs.Answers.{leaves}
use Rattle.base.specs.Bytes.{over}
use Rattle.aont.specs.Package.{sealed}
use Rattle.aont.specs.Seals.{seal_number, seal_answer, unseal_answer, unsealed, Unseals}
use Rattle.capi.specs.Calls.{negated, signed, by_cipher}

-- the answer to a key, a file and an output of so many bytes each
abbrev pub seal_call : ℕ → ℕ → ℕ → ℕ → ℤ
seal_call cipher key file out = by_cipher cipher (negated 13) (λ _ _. signed seal_number (seal_answer file key out))

-- what the output holds then
abbrev pub seal_leaves : ℕ → List ℕ → List ℕ → List ℕ → List ℕ
seal_leaves cipher key file out =
    by_cipher cipher out (λ number E. leaves (seal_answer (length file) (length key) (length out)) out (over (sealed E number key file) out))

-- the answer to a package and an output of so many bytes
abbrev pub unseal_call : ℕ → List ℕ → ℕ → ℤ
unseal_call cipher pkg out = by_cipher cipher (negated 13) (λ number E. signed seal_number (unseal_answer E number pkg out))

-- what the output holds then
abbrev pub unseal_leaves : ℕ → List ℕ → List ℕ → List ℕ
unseal_leaves cipher pkg out =
    by_cipher cipher out (λ number E. leaves (unseal_answer E number pkg (length out)) out (over (unsealed E number pkg) out))

-- the packages that unseal are those which the cipher seals, and no others
abbrev pub UnsealsExactly : ℕ → List ℕ → List ℕ → List ℕ → Type 0
UnsealsExactly cipher pkg before after =
    by_cipher cipher (Unit {0}) (λ number E. Unseals E number pkg (unseal_answer E number pkg (length before)) before after)
