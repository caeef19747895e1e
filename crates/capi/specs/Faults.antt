-- Why a C call is refused, and what its numbers of a cipher and a field name. Assumes nothing.
use Rattle.std.specs.Prelude.{ℕ, cond, Ok, Err, Result, ◌==◌}
use Rattle.aont.specs.Seals.{seal_number}
use Rattle.erasure.specs.Slices.{slice_number}
use Rattle.capi.specs.declared.answers.CallFault.{CallFault}
use Rattle.capi.specs.declared.answers.CallFault.TheVariants.{Unknown, Seal, Slice}
use Rattle.capi.specs.declared.answers.CipherKind.{CipherKind}
use Rattle.capi.specs.declared.answers.CipherKind.TheVariants.{Aes128, Speck128}
use Rattle.capi.specs.declared.answers.FieldKind.{FieldKind}
use Rattle.capi.specs.declared.answers.FieldKind.TheVariants.{Gf256, Gf65537}

-- the number of a refusal; an unknown cipher or field is refused as no plan is
abbrev pub call_number : CallFault → ℕ
call_number Unknown = 13
call_number (Seal fault) = seal_number fault
call_number (Slice fault) = slice_number fault.cause

-- the cipher with that number
abbrev pub cipher_kind : ℕ → Result CipherKind CallFault
cipher_kind number = cond (number == 11) (Ok Aes128) (cond (number == 12) (Ok Speck128) (Err Unknown))

-- the field with that number
abbrev pub field_kind : ℕ → Result FieldKind CallFault
field_kind number = cond (number == 1) (Ok Gf256) (cond (number == 2) (Ok Gf65537) (Err Unknown))
