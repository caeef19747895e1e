use Rattle.std.proofs.Common.{rules}
use Rattle.owned.proofs.counted_file.Goals as goal

pub returns : goal.returns
returns c i below = let called = c.from_fn.ensures.items.at i 0 below in search rules
