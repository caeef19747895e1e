-- What sealing and unsealing answer, each refusal in its order, and which packages unseal. Assumes nothing.
use Rattle.std.specs.Prelude.{◌≡◌, ℕ, ◌≤◌, Bool, not, List, length, Ok, Result, ◌==◌, nat_lt}
use Rattle.std.specs.Str.{bytes_eq}
use Rattle.base.specs.Answers.{refuse}
use Rattle.base.specs.Sizes.{misfit}
use Rattle.base.specs.Bytes.{Bytes, over}
use Rattle.cipher.specs.Blocks.{Block}
use Rattle.aont.specs.declared.fault.SealFault.{SealFault}
use Rattle.aont.specs.declared.fault.SealFault.TheVariants.{FileTooLong, KeyNotSixteen, PackageMisfit, CanaryWrong, NoSuchFile, OutputShort}
use Rattle.aont.specs.Package.{frame, canary, package_length, sealed, frame_in, canary_in, file_in}

-- the number of each refusal; its layer is 3, and it tells no values
abbrev pub seal_number : SealFault → ℕ
seal_number FileTooLong = 14
seal_number KeyNotSixteen = 15
seal_number PackageMisfit = 16
seal_number CanaryWrong = 17
seal_number NoSuchFile = 18
seal_number OutputShort = 23

-- the answer to a file, a key and an output of so many bytes each
abbrev pub seal_answer : ℕ → ℕ → ℕ → Result ℕ SealFault
seal_answer file key out =
    refuse (nat_lt 4092 file) FileTooLong
    (refuse (not (key == 16)) KeyNotSixteen
    (refuse (nat_lt out (package_length file)) OutputShort
    (Ok (package_length file))))

module _ (E : List ℕ → List ℕ → List ℕ) (number : ℕ) where
  -- the file that a package names
  abbrev pub unsealed : List ℕ → List ℕ
  unsealed pkg = file_in (frame_in E pkg)

  -- whether the frame under the mask is that of the file it names
  abbrev pub framed : List ℕ → Bool
  framed pkg = bytes_eq (frame number (unsealed pkg)) (frame_in E pkg)

  -- the answer to a package and an output of so many bytes
  abbrev pub unseal_answer : List ℕ → ℕ → Result ℕ SealFault
  unseal_answer pkg out =
      refuse (misfit (length pkg)) PackageMisfit
      (refuse (not (bytes_eq (canary_in E pkg) canary)) CanaryWrong
      (refuse (not (framed pkg)) NoSuchFile
      (refuse (nat_lt out (length (unsealed pkg))) OutputShort
      (Ok (length (unsealed pkg))))))

  -- a file of at most 4,092 bytes that some key seals to the package
  pub record Seals (file pkg : List ℕ) : Type 0 where
    pub bytes : Bytes file
    pub short : length file ≤ 4092
    pub key : List ℕ
    pub block : Block key
    pub seals : sealed E number key file ≡ pkg

  -- An answered length is that of a file which some key seals to the package, and the output begins with that file;
  -- and each such file is answered, where the output is long enough for it.
  pub record Unseals (pkg : List ℕ) (answer : Result ℕ SealFault) (before after : List ℕ) : Type 0 where
    pub only : (n : ℕ) → answer ≡ Ok n → (file : List ℕ) × Seals file pkg × (n ≡ length file) × (after ≡ over file before)
    pub each : (file : List ℕ) → Seals file pkg → length file ≤ length before → (answer ≡ Ok (length file)) × (after ≡ over file before)
