use Rattle.std.proofs.Common.{rules}
use Rattle.erasure.specs.Records.{head}
use Rattle.erasure.proofs.head.Head.to_bytes.Goals as goal

pub returns : goal.returns
unfolding head
returns c = search rules
