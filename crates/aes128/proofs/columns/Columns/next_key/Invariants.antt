use Rattle.std.proofs.Common.{◌≡◌, suc}
use Rattle.base.proofs.Placed.{Placed}
use Rattle.aes128.proofs.Keys.{before}
use Rattle.aes128.proofs.columns.Columns.next_key.Given as goal

abbrev pub invariant-loop-word : goal.invariant-loop-word
invariant-loop-word l = record {
  words : Placed l.self.0 l.word-items l.word-index (λ c. before l.initial.before l.self.0 (suc c));
  last : l.before ≡ before l.initial.before l.self.0 l.word-index;
}
