use Rattle.std.proofs.Common.{rules, arith}
use Rattle.std.proofs.lemmas.Grind.{common_steps}
use Rattle.rows.proofs.Holding.{rows_full}
use Rattle.table.proofs.Writing.{add_written}
use Rattle.table.proofs.storing.TableStore.add.Goals as goal

pub returns-in_err-index : goal.returns-in_err-index
returns-in_err-index c = grind (arith, common_steps, rows_full)

pub invariant_of-self : goal.invariant_of-self
invariant_of-self c = (add_written c.args.self.now c.args.kind c.args.parent _ c.args.number c.args.stamp c.in_ok-index.index _ _ (search rules) c.in_ok-own.ensures.1 c.new-2.ensures (search rules) (search rules) (search rules)).kept

pub returns : goal.returns
returns c = (add_written c.args.self.now c.args.kind c.args.parent _ c.args.number c.args.stamp c.in_ok-index.index _ _ (search rules) c.in_ok-own.ensures.1 c.new-2.ensures (search rules) (search rules) (search rules)).answer
