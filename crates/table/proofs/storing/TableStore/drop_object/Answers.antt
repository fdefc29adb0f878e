use Rattle.std.proofs.Common.{rules}
use Rattle.table.proofs.Writing.{drop_written}
use Rattle.table.proofs.storing.TableStore.drop_object.Goals as goal

pub invariant_of-self : goal.invariant_of-self
invariant_of-self c = (drop_written c.args.self.now _ _ (search rules) c.in-Some.ensures.place).kept

pub returns : goal.returns
returns c = (drop_written c.args.self.now _ _ (search rules) c.in-Some.ensures.place).answer
