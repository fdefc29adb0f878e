use Rattle.std.proofs.Common.{arith}
use Rattle.vocab.proofs.Filling.{no_bytes}
use Rattle.vocab.proofs.bytes.Bytes.empty.Goals as goal

pub invariant_of-result : goal.invariant_of-result
invariant_of-result g c = (omega arith, no_bytes g.row.N)
