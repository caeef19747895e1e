use native.Mathlib.Nat.{div-div-eq-div-mul}
use Rattle.std.proofs.Common.{◌∙◌}
use Rattle.aont.specs.Package.{number_block}
use Rattle.aont.proofs.blocks.number_block.Goals as goal

pub returns : goal.returns
unfolding number_block
returns c = c.to_le_bytes.ensures ∙ simp div-div-eq-div-mul
