use Rattle.std.proofs.Common.{arith}
use Rattle.vocab.proofs.Filling.{front_kept, front_written}
use Rattle.vocab.proofs.bytes.Bytes.new.Goals as goal

pub invariant_of-result : goal.invariant_of-result
invariant_of-result g c =
    (omega arith, rw c.copy_from_slice.ensures.after (front_written g.row.N c.args.bytes.now (omega arith)))

pub returns : goal.returns
returns g c = (omega arith, rw c.copy_from_slice.ensures.after (front_kept g.row.N c.args.bytes.now (omega arith)))
