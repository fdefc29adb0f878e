use Rattle.std.proofs.Common.{rules}
use Rattle.table.proofs.Writing.{move_written}
use Rattle.table.proofs.storing.TableStore.move_object.Goals as goal

pub invariant_of-self : goal.invariant_of-self
invariant_of-self c = (move_written c.args.self.now _ _ c.args.parent c.args.name.now _ (search rules) c.in-Some.ensures.place (search rules)).kept

pub returns : goal.returns
returns c = (move_written c.args.self.now _ _ c.args.parent c.args.name.now _ (search rules) c.in-Some.ensures.place (search rules)).answer
