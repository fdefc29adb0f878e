use Rattle.std.proofs.Common.{rules}
use Rattle.table.proofs.Writing.{put_written}
use Rattle.table.proofs.storing.TableStore.put.Goals as goal

pub invariant_of-self : goal.invariant_of-self
invariant_of-self c = (put_written c.args.self.now _ _ c.args.contents.now c.args.stamp _ (search rules) c.in-Some.ensures.2 (search rules) (search rules)).kept

pub returns : goal.returns
returns c = (put_written c.args.self.now _ _ c.args.contents.now c.args.stamp _ (search rules) c.in-Some.ensures.2 (search rules) (search rules)).answer
