use Rattle.std.proofs.Common.{rules}
use Rattle.table.specs.Tables.{rows_of}
use Rattle.table.proofs.Writing.{look_searched}
use Rattle.table.proofs.Table.find_named.Goals as goal

pub returns-clause-number : goal.returns-clause-number
returns-clause-number c = look_searched (rows_of c.args.self.now) c.args.self.now.next c.args.parent c.args.name.now c.first.result (search rules) c.args.self.now.lawful
