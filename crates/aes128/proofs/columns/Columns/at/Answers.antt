use Rattle.std.proofs.Common.{get_or, ap, ◌∙◌}
use Rattle.aes128.proofs.Words.{four_of}
use Rattle.aes128.proofs.columns.Columns.at.Goals as goal

pub returns : goal.returns
returns c = ap (λ bs. get_or bs c.args.row 0) (c.to_le_bytes.ensures ∙ four_of (get_or c.args.self.now.0 c.args.column 0))
