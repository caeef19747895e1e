-- What every C call has in common: its answer in one signed number, and the choice of a cipher or a field by its number.
-- Assumes nothing.
use Rattle.std.specs.Prelude.{ℕ, ◌-◌, cond, not, List, ℤ, pos, negsuc, Ok, Err, Result, ◌==◌}
use Rattle.aes128.specs.Aes.{aes}
use Rattle.speck128.specs.Speck.{speck}
use Rattle.gf256.specs.Gf256.{gf256}
use Rattle.gf65537.specs.Gf65537.{gf65537}
use Rattle.erasure.specs.Records.{Coding, coding}
use Rattle.erasure.specs.Slices.{plan_fits}

-- a refusal's number negated, where negsuc n is -(n + 1)
abbrev pub negated : ℕ → ℤ
negated number = negsuc (number - 1)

-- a length, or the number of the refusal negated
abbrev pub signed : {Fault : Type 0} → (Fault → ℕ) → Result ℕ Fault → ℤ
signed number (Ok n) = pos n
signed number (Err fault) = negated (number fault)

module _ {ℓ} {X : Type ℓ} where
  -- what a call says of the cipher with that number, which is AES-128 for 11 and Speck128/128 for 12, or else what it
  -- says of an unknown one
  abbrev pub by_cipher : ℕ → X → (ℕ → (List ℕ → List ℕ → List ℕ) → X) → X
  by_cipher number unknown known = cond (number == 11) (known 11 aes) (cond (number == 12) (known 12 speck) unknown)

  -- what a call says of a plan k, n and the field with that number, which is GF(256) for 1 and GF(65537) for 2, or else what it
  -- says of an unknown field and of no plan
  abbrev pub by_field : ℕ → ℕ → ℕ → X → (Coding → X) → X
  by_field number k n unknown known =
      cond (not (plan_fits k n)) unknown
      (cond (number == 1) (known (coding gf256 1 1 1 k))
      (cond (number == 2) (known (coding gf65537 2 3 2 k)) unknown))
